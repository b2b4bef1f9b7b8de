use Rattle.std.proofs.Common.{◌≡◌, length}
use Rattle.pickle_session.specs.Undo.{oldest}
use Rattle.pickle_session.proofs.laws.undo_all.Given as goal

-- the session stays at the start, and the oldest document stays
abbrev pub invariant-loop-alloc : goal.invariant-loop-alloc
invariant-loop-alloc g l = record {
  start : l.session.session.cursor ≡ 0;
  same : oldest l.session.session ≡ oldest l.fn.session.session;
}

abbrev pub decreases-loop-alloc : goal.decreases-loop-alloc
decreases-loop-alloc g l = length l.session.session.undos
