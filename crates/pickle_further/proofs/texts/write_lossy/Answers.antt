use Rattle.pickle_io.proofs.Devices.{Wrote-none}
use Rattle.pickle_calls.specs.Manner.{manner}
use Rattle.pickle_further.specs.Parts.{wording}
use Rattle.pickle_further.proofs.Pieces.{stopped, memory_first}
use Rattle.pickle_further.proofs.Quiets.{no_lost_text}
use Rattle.pickle_further.proofs.texts.write_lossy.Goals as goal

pub returns-in_err-is_quiet : goal.returns-in_err-is_quiet
returns-in_err-is_quiet g c = stopped _ _ _ _ _ c.from_residual.ensures.1 (memory_first _ _ _ c.in_err-is_quiet.ensures.err)

pub returns-then-branch : goal.returns-then-branch
returns-then-branch g c =
    rw (no_lost_text (wording g.T.Teller.telling g.T.Worder.words) (manner c.args.detail c.args.holes.now) c.args.pickles c.args.bytes.now (c.in_ok-is_quiet.ensures.ok c.if-branch.true)) (Wrote-none _)
