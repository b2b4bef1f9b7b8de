use Rattle.std.proofs.Common.{Option, Ok, sym, subst, ◌∙◌}
use Rattle.opcode_assembler.specs.declared.scan.Mode.{Mode}
use Rattle.opcode_assembler.specs.Quotes.{Read, Steps}
use Rattle.opcode_assembler.specs.Reading.{Fails}
use Rattle.opcode_assembler.proofs.Scans.{onward_is, over, goes_on, ended, failed}
use Rattle.opcode_assembler.proofs.text.scanned.Goals as goal

pub returns-in-Err : goal.returns-in-Err
returns-in-Err c =
    let whole = onward_is c.args.quote c.loop-byte.bytes.items c.loop-byte.rest.now c.in-Some.left.now c.loop-byte.mode c.in-Some.byte.now c.step_of.result _ c.in-Some.ensures.cases.0 c.step_of.ensures c.loop-byte.invariant in
    subst (λ (r : Read). Fails r c.in-Err.fault) whole (failed c.args.quote c.step_of.result c.loop-byte.bytes.items c.put_step.new.bytes.items c.in-Some.left.now c.in-Err.fault c.in-Err.ensures)

pub returns-in_default-stepped : goal.returns-in_default-stepped
returns-in_default-stepped c =
    let whole = onward_is c.args.quote c.loop-byte.bytes.items c.loop-byte.rest.now c.in-Some.left.now c.loop-byte.mode c.in-Some.byte.now c.step_of.result _ c.in-Some.ensures.cases.0 c.step_of.ensures c.loop-byte.invariant in
    sym whole ∙ ended c.args.quote c.step_of.result c.loop-byte.bytes.items c.put_step.new.bytes.items c.in-Some.left.now (subst (λ (r : Option Mode). Steps c.step_of.result c.loop-byte.bytes.items c.put_step.new.bytes.items (Ok r)) c.in_default-stepped.is c.in-Ok.ensures)

pub loop-byte-preserved : goal.loop-byte-preserved
loop-byte-preserved c =
    let whole = onward_is c.args.quote c.loop-byte.bytes.items c.loop-byte.rest.now c.in-Some.left.now c.loop-byte.mode c.in-Some.byte.now c.step_of.result _ c.in-Some.ensures.cases.0 c.step_of.ensures c.loop-byte.invariant in
    goes_on c.args.quote c.step_of.result c.loop-byte.bytes.items c.put_step.new.bytes.items c.in-Some-stepped.next c.in-Some.left.now (subst (λ (r : Option Mode). Steps c.step_of.result c.loop-byte.bytes.items c.put_step.new.bytes.items (Ok r)) c.in-Some-stepped.is c.in-Ok.ensures) ∙ whole

pub returns : goal.returns
returns c = over c.args.quote c.loop-byte.bytes.items c.loop-byte.rest.now c.loop-byte.mode _ c.in_default.ensures.cases c.loop-byte.invariant
