use Rattle.std.proofs.Common.{◌≡◌, true, false, sym, ◌∙◌}
use Rattle.pickle_io.proofs.Devices.{Wrote-none}
use Rattle.pickle_further.specs.Parts.{wording, is_open}
use Rattle.pickle_further.proofs.Pieces.{stopped, pieces, cut_before}
use Rattle.pickle_further.proofs.Documents.{parts_open, parts_closed}
use Rattle.pickle_further.proofs.texts.write_parts.Goals as goal

pub returns-then-not-is_open : goal.returns-then-not-is_open
returns-then-not-is_open g c =
    let off : is_open c.args.ran.ending ≡ false = sym c.is_open.ensures ∙ c.if-not-is_open.true in
    λ a b w. rw (parts_closed (wording g.T.Teller.telling g.T.Worder.words) _ _ _ _ _ _ w off) (Wrote-none _)

pub returns-in_err-write_ignoring : goal.returns-in_err-write_ignoring
returns-in_err-write_ignoring g c =
    let on : is_open c.args.ran.ending ≡ true = sym c.is_open.ensures ∙ c.if-not-is_open.false in
    λ a b w. rw (parts_open (wording g.T.Teller.telling g.T.Worder.words) _ _ _ _ _ _ w on) (stopped _ _ _ _ _ c.from_residual.ensures.1 (cut_before _ _ _ _ _ c.in_err-write_ignoring.ensures))

pub returns : goal.returns
returns g c =
    let on : is_open c.args.ran.ending ≡ true = sym c.is_open.ensures ∙ c.if-not-is_open.false in
    λ a b w. rw (parts_open (wording g.T.Teller.telling g.T.Worder.words) _ _ _ _ _ _ w on) (pieces _ _ _ _ _ _ c.in_ok-write_ignoring.ensures c.write_lossy.ensures)
