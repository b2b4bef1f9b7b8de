-- All that is not seen has room.
use Rattle.std.proofs.Common.{false, replicate, ◌∙◌, ap, arith}
use Rattle.object_texts.proofs.Walks.{unseen-filled, left-first}
use Rattle.object_texts.proofs.show.write_show.Goals as goal

pub walk_from-requires-clause-room : goal.walk_from-requires-clause-room
walk_from-requires-clause-room g c =
    omega (arith, unseen-filled _ _ c.in_ok-seen.ensures.ok, c.objects.ensures.count, c.objects-2.ensures.count, c.in_ok-stack.ensures.capacity)

pub returns-clause-ok : goal.returns-clause-ok
returns-clause-ok g c =
    rw (left-first c.args.machine.now.state.heap c.args.id _ (c.in_ok-seen.ensures.ok ∙ ap (λ n. replicate n false) c.objects-2.ensures.count)) c.in_ok-walk_from.ensures

pub returns-in_err-walk_from-clause-failed : goal.returns-in_err-walk_from-clause-failed
returns-in_err-walk_from-clause-failed g c _ =
    rw (left-first c.args.machine.now.state.heap c.args.id _ (c.in_ok-seen.ensures.ok ∙ ap (λ n. replicate n false) c.objects-2.ensures.count)) c.in_err-walk_from.ensures
