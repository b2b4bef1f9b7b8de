use Rattle.std.proofs.Common.{◌≡◌, take}
use Rattle.pickle_session.specs.Past.{KeepsTotal}
use Rattle.pickle_session.specs.Reaching.{Reaches}
use Rattle.pickle_session.proofs.laws.obey_all.Given as goal

-- the commands so far lead to the session, and what had room has it again
abbrev pub invariant-loop-command : goal.invariant-loop-command
invariant-loop-command g l = record {
  reaches : Reaches (take l.command-index l.commands) l.initial.session l.session;
  limit : l.session.past.limit ≡ l.initial.session.past.limit;
  total : KeepsTotal l.initial.session.past l.session.past;
}
