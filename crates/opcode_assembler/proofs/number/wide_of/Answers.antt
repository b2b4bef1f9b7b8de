-- A digit too many, or all digits read.
use Rattle.std.proofs.Common.{◌≢◌, length, arith, sym, ◌∙◌}
use Rattle.std.proofs.lemmas.Bool.{eqb-false}
use Rattle.std.proofs.lemmas.List.{at_drop_all}
use Rattle.std.specs.List.{fold}
use Rattle.pickle_ops.specs.Shape.{add_digit}
use Rattle.opcode_assembler.proofs.Wides.{too_large, all_read, no_wide, a_wide}
use Rattle.opcode_assembler.proofs.number.wide_of.Goals as goal

pub returns-in_default : goal.returns-in_default
returns-in_default c =
    no_wide c.args.text.now (too_large c.args.text.now c.loop-b.b-index c.loop-b.value (omega arith) c.loop-b.invariant.value (omega (arith, c.in_default.ensures)))

pub returns-in_default-checked_add : goal.returns-in_default-checked_add
returns-in_default-checked_add c =
    no_wide c.args.text.now (too_large c.args.text.now c.loop-b.b-index c.loop-b.value (omega arith) c.loop-b.invariant.value (omega (arith, c.in-Some.ensures, c.in_default-checked_add.ensures)))

pub returns : goal.returns
returns c =
    let some : length c.args.text.now ≢ 0 = eqb-false (length c.args.text.now) 0 (sym c.is_empty.ensures ∙ c.if-is_empty.false) in
    a_wide c.args.text.now c.loop-b.value
    (all_read c.args.text.now c.loop-b.b-index c.loop-b.value (omega arith) (omega arith) c.loop-b.invariant.small c.loop-b.invariant.value c.loop-b.invariant.digits)
    (sym c.loop-b.invariant.value ∙ at_drop_all (fold add_digit c.loop-b.value) c.args.text.now c.loop-b.b-index (omega arith))
