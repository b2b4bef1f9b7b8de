use Rattle.std.proofs.Common.{sym, ◌∙◌, arith}
use Rattle.std.proofs.lemmas.List.{at_drop_all}
use Rattle.std.specs.List.{fold}
use Rattle.pickle_form.specs.Name.{after_byte}
use Rattle.pickle_form.proofs.Words.{wrong_at}
use Rattle.pickle_form.proofs.name.part_of.Goals as goal

pub returns : goal.returns
returns c = sym (sym c.loop-byte.invariant ∙ at_drop_all (fold after_byte c.loop-byte.part) c.args.text.now c.loop-byte.byte-index (omega arith))

pub returns-then-is_wrong : goal.returns-then-is_wrong
returns-then-is_wrong c =
    wrong_at c.args.text.now c.args.text.now c.loop-byte.byte-index c.loop-byte.part c.loop-byte-test.true (sym c.after-part.ensures ∙ c.is_wrong.ensures c.if-is_wrong.true) c.loop-byte.invariant
