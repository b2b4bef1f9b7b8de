-- The session that is kept, whatever records it keeps.
-- Source: own.
use Rattle.std.specs.Prelude.{ℕ, zero, suc, Option, None, Some}
use Rattle.pickle_session.specs.Allowed.{SessionState}
use Rattle.library_answers.specs.declared.conversation.Kept.{Kept}
use Rattle.library_answers.specs.declared.conversation.Kept.TheVariants as kept

abbrev pub state_of : Kept → SessionState
state_of (kept.Whole session) = session
state_of (kept.Window session) = session

-- how many steps are remembered: all, where no count is given
abbrev pub limit_of : ℕ → Option ℕ
limit_of zero = None
limit_of (suc n) = Some (suc n)
