use Rattle.std.proofs.Common.{sym, ◌∙◌, arith}
use Rattle.std.proofs.lemmas.List.{at_drop_all}
use Rattle.std.specs.List.{fold}
use Rattle.pickle_source.specs.Value.{after_byte}
use Rattle.pickle_source.proofs.value.numeral_of.Goals as goal

pub returns : goal.returns
returns c = sym (sym c.loop-byte.invariant ∙ at_drop_all (fold after_byte c.loop-byte.read) c.args.line.now c.loop-byte.byte-index (omega arith))
