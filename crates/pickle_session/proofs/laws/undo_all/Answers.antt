use Rattle.std.proofs.Common.{◌<◌, ◌∙◌, length, ap, arith}
use Rattle.pickle_session.specs.Session.{Session}
use Rattle.pickle_session.specs.declared.command.Command.TheVariants as command
use Rattle.pickle_session.proofs.Oldest.{allowed}
use Rattle.pickle_session.proofs.Reached.{to_start, undo_at_start, undo_shorter}
use Rattle.pickle_session.proofs.laws.undo_all.Goals as goal

pub loop-alloc-init : goal.loop-alloc-init
loop-alloc-init g c = record {
  start = ap (λ (s : Session). s.cursor) (to_start _ _ _ c.in-At.ensures.answers);
  same = allowed (command.Goto 0) _ _ _ c.in-At.ensures.answers;
}

pub loop-alloc-preserved : goal.loop-alloc-preserved
loop-alloc-preserved g c =
    let some : 0 < length c.loop-alloc.session.session.undos = omega (arith, c.undos.ensures, c.loop-alloc-test.true) in
    record {
      start = undo_at_start _ _ _ c.loop-alloc.invariant.start some c.obey-reply.ensures.answers;
      same = allowed command.Undo _ _ _ c.obey-reply.ensures.answers ∙ c.loop-alloc.invariant.same;
    }

pub loop-alloc-smaller : goal.loop-alloc-smaller
loop-alloc-smaller g c =
    let some : 0 < length c.loop-alloc.session.session.undos = omega (arith, c.undos.ensures, c.loop-alloc-test.true) in
    undo_shorter _ _ _ c.loop-alloc.invariant.start some c.obey-reply.ensures.answers
