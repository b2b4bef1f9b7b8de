-- One section more, or an end.
use Rattle.std.proofs.Common.{◌<◌, length, sym, ◌∙◌, arith}
use Rattle.pickle_io.proofs.Devices.{Writes-stop}
use Rattle.object_texts.proofs.Stacks.{sections-none, from-none, sections-next, from-next, sections-stopped, mark_there, sections-all, from-all}
use Rattle.object_texts.proofs.stack.write_marked.Goals as goal

pub loop-i-init : goal.loop-i-init
loop-i-init g c = record { wrote = sections-none _ c.args.machine.now.state.marked; from = from-none c.args.machine.now.state.marked }

pub unreachable-requires : goal.unreachable-requires
unreachable-requires g c =
    mark_there c.args.machine.now.state.marked c.loop-i.i (omega (arith, c.loop-i-test.true, c.marks_len-i-end.ensures)) (sym c.mark.ensures ∙ c.in_default.is)

pub returns-in_err-write_section-clause-text : goal.returns-in_err-write_section-clause-text
returns-in_err-write_section-clause-text g c =
    let within : c.loop-i.i < length c.args.machine.now.state.marked = omega (arith, c.loop-i-test.true, c.marks_len-i-end.ensures) in
    Writes-stop _ _ c.from_residual.result c.from_residual.result _ c.from_residual.ensures.0
    (sections-stopped _ _ _ c.args.machine.now.state c.loop-i.i c.loop-i.from c.in-Some.to c.in-Some.mark within c.loop-i.invariant.from (sym c.in-Some.ensures)
    c.in_err-write_section.ensures c.loop-i.invariant.wrote)

pub loop-i-preserved : goal.loop-i-preserved
loop-i-preserved g c =
    let within : c.loop-i.i < length c.args.machine.now.state.marked = omega (arith, c.loop-i-test.true, c.marks_len-i-end.ensures) in
    record {
      wrote = sections-next _ _ _ c.args.machine.now.state c.loop-i.i c.loop-i.from c.in-Some.to c.in-Some.mark within c.loop-i.invariant.from (sym c.in-Some.ensures)
          c.in_ok-write_section.ensures c.loop-i.invariant.wrote;
      from = from-next c.args.machine.now.state c.loop-i.i c.loop-i.from c.in-Some.to c.in-Some.mark within c.loop-i.invariant.from (sym c.in-Some.ensures);
    }

pub returns-clause-text : goal.returns-clause-text
returns-clause-text g c =
    sections-all _ _ c.args.machine.now.state.marked c.loop-i.i (omega (arith, c.loop-i-test.false, c.loop-i.auto.i-end, c.marks_len-i-end.ensures)) c.loop-i.invariant.wrote

pub returns-clause-below : goal.returns-clause-below
returns-clause-below g c =
    from-all c.args.machine.now.state.marked c.loop-i.i c.loop-i.from (omega (arith, c.loop-i-test.false, c.loop-i.auto.i-end, c.marks_len-i-end.ensures)) c.loop-i.invariant.from
