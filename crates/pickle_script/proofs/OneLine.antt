-- A line that is answered by itself.
use Rattle.std.proofs.Common.{◌≡◌, ◌∙◌, sym, subst, ℕ, Bool, false, List, [], ◌∷◌, ◌++◌, Result, Ok, Err}
use Rattle.pickle_io.specs.Device.{Told}
use Rattle.pickle_io.specs.declared.sink.Failed.{Failed}
use Rattle.pickle_session.specs.Allowed.{SessionState}
use Rattle.pickle_script.specs.declared.conversation.line.Line.{Line}
use Rattle.pickle_script.specs.declared.conversation.line.Syntax.{Syntax}
use Rattle.pickle_script.specs.declared.conversation.outcome.Outcome.{Outcome}
use Rattle.pickle_script.specs.Transcript.{IsRead, PrintsAll}
use Rattle.pickle_script.specs.Conversation.{AnswersLine, OneByOne}
use Rattle.pickle_script.specs.Inside.Progress.{was_refused, WritesLine}
use Rattle.pickle_script.proofs.Feeding.{Runs-push, up_to_quit-none, up_to_quit-last}

pub line_answered : (s q : SessionState) (old a : Told) (line : List ℕ) (says : Result Line Syntax) (this : Outcome) (refused : Bool)
    → IsRead line says → WritesLine says s q old a (Ok this) → refused ≡ was_refused this → AnswersLine line s q old a (Ok refused)
line_answered s q old a line says this refused read w is = record {
  text = w.text;
  prints = record { says = says; is_read = read; prints = w.prints };
  writes = w.writes;
  refuses = is ∙ w.refuses;
}

pub line_unanswered : (s q : SessionState) (old a : Told) (line : List ℕ) (says : Result Line Syntax) (e f : Failed)
    → IsRead line says → WritesLine says s q old a (Err e) → AnswersLine line s q old a (Err f)
line_unanswered s q old a line says e f read w = record {
  text = w.text;
  prints = record { says = says; is_read = read; prints = w.prints };
  writes = w.writes;
  refuses = tt;
}

pub one_by_one : OneByOne
one_by_one s mid after lines texts line text t none p =
    let before = subst (λ (ls : List (List ℕ)). PrintsAll s ls texts mid) (up_to_quit-none lines none) t in
    subst (λ (ls : List (List ℕ)). PrintsAll s ls (texts ++ text ∷ []) after) (sym (up_to_quit-last lines line none))
    (Runs-push s mid after lines texts line text before p)
