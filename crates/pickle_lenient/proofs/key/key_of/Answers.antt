use Rattle.std.proofs.Common.{sym, ap, ◌∙◌, arith}
use Rattle.std.proofs.lemmas.List.{at_drop_all}
use Rattle.std.specs.List.{fold}
use Rattle.pickle_lenient.specs.Key.{after_byte, key_in}
use Rattle.pickle_lenient.proofs.key.key_of.Goals as goal

pub returns : goal.returns
returns c = c.key.ensures ∙ ap key_in (sym (sym c.loop-b.invariant ∙ at_drop_all (fold after_byte c.loop-b.state) c.args.text.now c.loop-b.b-index (omega arith)))
