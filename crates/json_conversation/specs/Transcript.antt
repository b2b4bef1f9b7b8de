-- What the lines of a script are answered, one after another.
-- Source: own. The lines are those of a transcript for people.
use Rattle.std.specs.Prelude.{◌≡◌, ℕ, List, [], ◌∷◌, Bool, false, if◌then◌else◌, map, Result, Ok, Err}
use Rattle.std.specs.List.{concat, list_any}
use Rattle.pickle_session.specs.Allowed.{SessionState}
use Rattle.pickle_script.specs.declared.conversation.line.Syntax.{Syntax}
use Rattle.pickle_script.specs.Transcript.{quits, up_to_quit}
use Rattle.debug_json.specs.declared.asked.Asked.{Asked}
use Rattle.debug_json.specs.declared.asked.Asked.TheVariants as asked
use Rattle.debug_json.specs.Answer.{Answer, refuses}
use Rattle.debug_json.specs.Says.{Says}
use Rattle.debug_json.specs.Lines.{answer_line}

-- whether nothing after a line is obeyed that asks for this
abbrev pub asks_quit : Result Asked Syntax → Bool
asks_quit (Ok (asked.Line l)) = quits (Ok l)
asks_quit (Ok (asked.Own own)) = false
asks_quit (Err f) = false

-- the answers that the lines give, and the session after the last of them
abbrev pub SaysAll : SessionState → List (List ℕ) → List Answer → SessionState → Type 0
SaysAll p [] [] q = q ≡ p
SaysAll p (bytes ∷ lines) (a ∷ answers) q = (mid : SessionState) × Says p bytes a mid × SaysAll mid lines answers q
SaysAll p [] (a ∷ answers) q = ⊥
SaysAll p (bytes ∷ lines) [] q = ⊥

-- the answers of a transcript of the lines, and the session after it: after a line that quits nothing is obeyed
abbrev pub IsTranscript : SessionState → List (List ℕ) → List Answer → SessionState → Type 0
IsTranscript p lines answers q = SaysAll p (up_to_quit lines) answers q

-- the lines of JSON of answers, one after another
abbrev pub lines_text : List Answer → List ℕ
lines_text answers = concat (map answer_line answers)

abbrev pub is_refusal : Answer → Bool
is_refusal a = refuses a.said

-- 1 where a line was refused
abbrev pub status_of : List Answer → ℕ
status_of answers = if list_any is_refusal answers then 1 else 0
