-- What a function of the library leaves in its caller's memory.
-- Source: own.
use Rattle.std.specs.Prelude.{◌≡◌, ◌≢◌, ◌≤◌, ◌<◌, ◌↔◌, ◌⊎◌, ℕ, nat_lt, if◌then◌else◌, Bool, List, [], length, take, drop, Option, Some, None, MatchBool}
use Rattle.pickle_io.specs.Device.{Told}
use Rattle.pickle_doc.specs.Document.{size_limit}
use Rattle.pickle_io.specs.declared.hole.Hole.{Hole}
use Rattle.pickle_session.specs.Opening.{IsOpenedIn}
use Rattle.pickle_session.specs.Allowed.{SessionState}
use Rattle.pickle_calls.specs.declared.naming.Detail.{Detail}
use Rattle.pickle_calls.specs.Manner.{manner}
use Rattle.pickle_further.specs.declared.way.Pickles.{Pickles}
use Rattle.pickle_script.specs.Output.{CompletesText, CompletesFile}
use Rattle.json_script.specs.Answer.{CompletesLines}
use Rattle.json_script.specs.declared.lines.Lines.{Lines}
use Rattle.json_script.specs.CallsLines as calls_lines
use Rattle.pickle_script.specs.GateText.{WroteText}
use Rattle.assembler_script.specs.AssemblyText.{IsAssemblyText}
use Rattle.same_script.specs.SameText.{IsSameText}
use Rattle.same_script.specs.SameFields.{IsSameLine}
use Rattle.archive_script.specs.GateText.{IsGateText}
use Rattle.gate_json.specs.GateLine.{IsGateLine}
use Rattle.archive_script.specs.MembersText.{IsMembersText}
use Rattle.gate_json.specs.MembersFields.{IsMembersLines}
use Rattle.pickle_script.specs.Conversation.{Finishes}
use Rattle.pickle_script.specs.declared.texts.written.Text.{Text}
use Rattle.library_answers.specs.declared.fill.Written.{Written}
use Rattle.library_answers.specs.Asked.{are_modes}

-- ---- a text

-- a sink that has taken these bytes, and has not failed
abbrev pub took : List ℕ → Told
took bytes = record { taken = Some bytes; held = 0; failures = 0 }

-- these bytes are the whole text of an input, read as several pickles or as one, and with its frames or loose, and this is its status
abbrev pub IsTextOf : Text → Bool → Bool → List ℕ → List ℕ → ℕ → Type 0
IsTextOf text many loose bytes written status = CompletesText text many loose bytes (took []) (took written) status

-- these bytes are all of these lines of JSON about an input, and this is their status
abbrev pub IsLinesOf : Lines → Bool → Bool → List ℕ → List ℕ → ℕ → Type 0
IsLinesOf l many loose bytes written status = CompletesLines l many loose bytes (took []) (took written) status

-- these bytes are the whole text of what is imported and called by what is left of an input without its holes, and this is its status
abbrev pub IsCallsOf : Detail → List Hole → Pickles → List ℕ → List ℕ → ℕ → Type 0
IsCallsOf detail holes pickles bytes written status = CompletesFile (manner detail holes) pickles bytes (took []) (took written) status

-- these bytes are all of its lines of JSON, and this is their status
abbrev pub IsCallsLinesOf : Detail → List Hole → Pickles → List ℕ → List ℕ → ℕ → Type 0
IsCallsLinesOf detail holes pickles bytes written status = calls_lines.CompletesFile (manner detail holes) pickles bytes (took []) (took written) status

-- these bytes are the whole text of whether an input passes a list, and this is its status
abbrev pub IsGateOf : List ℕ → List ℕ → List ℕ → ℕ → Type 0
IsGateOf list bytes written status = WroteText (IsGateText list bytes) (took []) (took written) status

-- the same as a line of JSON
abbrev pub IsGateLineOf : List ℕ → List ℕ → List ℕ → ℕ → Type 0
IsGateLineOf list bytes written status = WroteText (IsGateLine list bytes) (took []) (took written) status

-- these bytes are the whole text of the members of an input, and this is its status
abbrev pub IsMembersOf : List ℕ → List ℕ → ℕ → Type 0
IsMembersOf bytes written status = WroteText (IsMembersText bytes) (took []) (took written) status

-- the same as lines of JSON
abbrev pub IsMembersLinesOf : List ℕ → List ℕ → ℕ → Type 0
IsMembersLinesOf bytes written status = WroteText (IsMembersLines bytes) (took []) (took written) status

-- these bytes are what a text of opcodes is assembled to, or the line of its first line that gives none, and this is the status
abbrev pub IsAssemblyOf : List ℕ → List ℕ → ℕ → Type 0
IsAssemblyOf text written status = WroteText (IsAssemblyText text) (took []) (took written) status

-- these bytes are the line that says whether two inputs make the same objects, and this is its status
abbrev pub IsComparisonOf : Bool → List ℕ → List ℕ → List ℕ → ℕ → Type 0
IsComparisonOf many one other written status = WroteText (IsSameText many one other) (took []) (took written) status

-- the same as a line of JSON
abbrev pub IsComparisonLineOf : Bool → List ℕ → List ℕ → List ℕ → ℕ → Type 0
IsComparisonLineOf many one other written status = WroteText (IsSameLine many one other) (took []) (took written) status

-- the longer of two inputs
abbrev pub longer : List ℕ → List ℕ → List ℕ
longer one other = if nat_lt (length one) (length other) then other else one

-- these bytes are all answers to the lines of a script, in a session of an input, and this is its status
pub record IsTalkOf (many loose : Bool) (bytes script written : List ℕ) (status : ℕ) : Type 0 where
  pub begun : SessionState
  pub opened : IsOpenedIn many loose bytes begun
  pub after : SessionState
  pub rest : List ℕ
  pub finishes : Finishes begun after status (Some script) (Some rest) (took []) (took written)

-- ---- the caller's memory

-- a text and its status were put at the beginning of the memory that was offered, if it has room for it; the rest is as it was
pub record Puts (text : List ℕ) (status : ℕ) (old new : List ℕ) (written : Written) (answer : ℕ) : Type 0 where
  pub size : written.size ≡ length text
  pub status_is : written.status ≡ status
  pub whole : answer ≡ 0 → (take (length text) new ≡ text) × (drop (length text) new ≡ drop (length text) old)
  pub short : answer ≡ 3 → (length old < length text) × (new ≡ old)
  pub either : (answer ≡ 0) ⊎ (answer ≡ 3)

-- the text that is wanted, of these bytes, was put there (0), or it has no room and its size is given (3); else memory ran out (1) or
-- there are too many bytes (2)
pub record Fills (IsWanted : List ℕ → ℕ → Type 0) (bytes old new : List ℕ) (written : Written) (answer : ℕ) : Type 0 where
  pub whole : answer ≡ 0 → IsWanted (take written.size new) written.status
  pub fits : answer ≡ 0 → written.size ≤ length new
  pub behind : answer ≡ 0 → drop written.size new ≡ drop written.size old
  pub short : answer ≡ 3 → (length old < written.size) × ((text : List ℕ) × IsWanted text written.status × (length text ≡ written.size))
  pub untouched : answer ≢ 0 → new ≡ old
  pub large : (answer ≡ 2) ↔ (size_limit < length bytes)
  pub bounded : answer ≤ 3

-- ---- by options

-- the options or the holes are none of the function, and nothing was put there
abbrev pub IsNoTask : List ℕ → List ℕ → ℕ → Type 0
IsNoTask old new answer = (answer ≡ 4) × (new ≡ old)

-- where the options only say how an input is read, the text was put there
abbrev pub FillsIn : ℕ → (List ℕ → ℕ → Type 0) → List ℕ → List ℕ → List ℕ → Written → ℕ → Type 0
FillsIn options IsWanted bytes old new written answer = MatchBool (are_modes options) (Fills IsWanted bytes old new written answer) (IsNoTask old new answer)

-- where the options say something, it was
abbrev pub FillsOf : {A : Type 0} → Option A → (A → List ℕ → ℕ → Type 0) → List ℕ → List ℕ → List ℕ → Written → ℕ → Type 0
FillsOf (Some said) IsWanted bytes old new written answer = Fills (IsWanted said) bytes old new written answer
FillsOf None IsWanted bytes old new written answer = IsNoTask old new answer
