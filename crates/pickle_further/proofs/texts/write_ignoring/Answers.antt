use Rattle.std.proofs.Common.{refl}
use Rattle.pickle_io.proofs.Devices.{Wrote-none}
use Rattle.pickle_further.specs.Parts.{wording, ignoring}
use Rattle.pickle_further.specs.Inside.{standing_behind}
use Rattle.pickle_further.proofs.Pieces.{stopped, memory_first}
use Rattle.pickle_further.proofs.Quiets.{no_text_from}
use Rattle.pickle_further.proofs.texts.write_ignoring.Goals as goal

pub returns-in_err-takes_nothing : goal.returns-in_err-takes_nothing
returns-in_err-takes_nothing g c = stopped _ _ _ _ _ c.from_residual.ensures.1 (memory_first _ _ _ c.in_err-takes_nothing.ensures.err)

pub returns-then-branch : goal.returns-then-branch
returns-then-branch g c =
    let none = rw c.split_at.ensures.back at (c.in_ok-takes_nothing.ensures.ok c.if-branch.true) in
    rw (no_text_from (wording g.T.Teller.telling g.T.Worder.words) c.args.holes.now (ignoring c.args.pickles) (standing_behind c.args.bytes.now c.args.slim.state c.args.ran) refl refl none) (Wrote-none _)
