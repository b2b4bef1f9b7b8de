use Rattle.std.proofs.Common.{inl, inr, refl, rules}
use Rattle.program_answers.specs.Talk.{FinishesIn}
use Rattle.program_answers.proofs.AtDevice.{cuts_below, same_below, unsaved_so}
use Rattle.program_answers.proofs.debug.converse_and_save.Goals as goal

-- what `converse` promises of the page holds of the device; nothing was saved
pub returns-in_err-status-clause-unsaved : goal.returns-in_err-status-clause-unsaved
returns-in_err-status-clause-unsaved g c =
    let h = c.in_err-status.ensures in
    unsaved_so _ _ _ c.from_residual.ensures.1
    (inl (refl, cuts_below _ _ _ _ _ _ _ _ _ _ _ refl c.requires.handed h.handed h.reading h.read h.calm h.writing (search rules) h.no_other))

-- it was held to its end, and saving failed
pub returns-in_err-save-in-Some-clause-unsaved : goal.returns-in_err-save-in-Some-clause-unsaved
returns-in_err-save-in-Some-clause-unsaved g c =
    let h = c.in_err-save-in-Some.ensures in
    unsaved_so _ _ _ c.from_residual-in_err-save-in-Some.ensures.1
    (inr (record {
      path = c.in-Some.path.now;
      asked = (search rules);
      lost = h.lost;
      others = h.others;
      status = c.in_ok-status.status;
      held = record {
        finishes = same_below (FinishesIn _ _ _ _ _ _) _ _ _ _ c.requires.handed (c.in_ok-status.ensures.handed (λ w. absurd cc)) c.in_ok-status.ensures.finishes;
        calm = (search rules);
      };
    }))
