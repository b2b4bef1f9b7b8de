use Rattle.std.proofs.Common.{sym, ◌∙◌, arith}
use Rattle.std.proofs.lemmas.List.{at_drop_all}
use Rattle.std.specs.List.{fold}
use Rattle.pickle_form.specs.Escape.{quoted_after}
use Rattle.pickle_form.proofs.escape.read_quoted.Goals as goal

pub returns : goal.returns
returns c = sym (sym c.loop-byte.invariant ∙ at_drop_all (fold quoted_after c.loop-byte.state) c.args.text.now c.loop-byte.byte-index (omega arith))
