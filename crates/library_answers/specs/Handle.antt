-- What becomes of a handle, in which a session is open or none.
-- Source: own.
use Rattle.std.specs.Prelude.{◌≡◌, ◌≢◌, ◌≤◌, ◌<◌, ◌↔◌, ◌⊎◌, ℕ, Bool, true, false, ◌&&◌, nat_le, List, [], length, Option, Some, None, MatchBool}
use Rattle.pickle_doc.specs.Document.{size_limit, document_bytes}
use Rattle.pickle_session.specs.Opening.{IsOpenedIn}
use Rattle.library_answers.specs.declared.fill.Written.{Written}
use Rattle.library_answers.specs.Asked.{is_many, is_loose, are_modes}
use Rattle.library_answers.specs.Answer.{Puts, Fills}
use Rattle.library_answers.specs.Talk.{Talk, Says, Loses, SaysJson, LosesJson}
use Rattle.library_answers.specs.Kept.{limit_of}

-- ---- to open

abbrev pub is_closed : Option Talk → Bool
is_closed None = true
is_closed (Some t) = false

-- the most steps that may be remembered where not all are
abbrev pub most_steps : ℕ
most_steps = 1000000

abbrev pub may_open : ℕ → ℕ → Option Talk → Bool
may_open options window old = (are_modes options && nat_le window most_steps) && is_closed old

-- a session of these bytes as it is opened, which remembers so many steps; no line was asked yet
pub record IsNew (options window : ℕ) (bytes : List ℕ) (t : Talk) : Type 0 where
  pub opened : IsOpenedIn (is_many options) (is_loose options) bytes t.state
  pub limit : t.state.past.limit ≡ limit_of window
  pub text : t.text ≡ []
  pub status : t.status ≡ 0

-- a session was opened (0), or memory ran out (1), or there are too many bytes (2)
pub record OpensNew (options window : ℕ) (bytes : List ℕ) (old new : Option Talk) (answer : ℕ) : Type 0 where
  pub opened : answer ≡ 0 → (t : Talk) × (new ≡ Some t) × IsNew options window bytes t
  pub stays : answer ≢ 0 → new ≡ old
  pub large : (answer ≡ 2) ↔ (size_limit < length bytes)
  pub bounded : answer ≤ 2

-- where the options, the window and the handle allow it
abbrev pub Opens : ℕ → ℕ → List ℕ → Option Talk → Option Talk → ℕ → Type 0
Opens options window bytes old new answer = MatchBool (may_open options window old) (OpensNew options window bytes old new answer) ((answer ≡ 4) × (new ≡ old))

-- ---- to ask

-- the line was obeyed, and its text was put there (0) or has no room there (3)
pub record IsSaid (SaysIt : Talk → Talk → Type 0) (t u : Talk) (old new : List ℕ) (written : Written) (answer : ℕ) : Type 0 where
  pub says : SaysIt t u
  pub puts : Puts u.text u.status old new written answer

-- memory ran out, and the line was not obeyed
pub record IsUnasked (t u : Talk) (old new : List ℕ) (answer : ℕ) : Type 0 where
  pub answer_is : answer ≡ 1
  pub same : u ≡ t
  pub untouched : new ≡ old

-- the line was obeyed, and memory ran out for its text
pub record IsLost (LosesIt : Talk → Talk → Type 0) (t u : Talk) (old new : List ℕ) (answer : ℕ) : Type 0 where
  pub answer_is : answer ≡ 5
  pub loses : LosesIt t u
  pub untouched : new ≡ old

abbrev pub AsksBy : (Talk → Talk → Type 0) → (Talk → Talk → Type 0) → Talk → Talk → List ℕ → List ℕ → Written → ℕ → Type 0
AsksBy SaysIt LosesIt t u old new written answer = IsSaid SaysIt t u old new written answer ⊎ (IsUnasked t u old new answer ⊎ IsLost LosesIt t u old new answer)

abbrev pub AsksOpen : List ℕ → Talk → Talk → List ℕ → List ℕ → Written → ℕ → Type 0
AsksOpen line t u old new written answer = AsksBy (Says line) (Loses line) t u old new written answer

-- the same with the line of JSON in the place of the text
abbrev pub AsksOpenJson : List ℕ → Talk → Talk → List ℕ → List ℕ → Written → ℕ → Type 0
AsksOpenJson line t u old new written answer = AsksBy (SaysJson line) (LosesJson line) t u old new written answer

-- where a session is open something becomes of it, and else nothing was put there
abbrev pub OfOpen : (Talk → Talk → Type 0) → Option Talk → Option Talk → List ℕ → List ℕ → ℕ → Type 0
OfOpen Becomes (Some t) handle' old new answer = (u : Talk) × (handle' ≡ Some u) × Becomes t u
OfOpen Becomes None handle' old new answer = (handle' ≡ None) × (answer ≡ 4) × (new ≡ old)

abbrev pub Asks : List ℕ → Option Talk → Option Talk → List ℕ → List ℕ → Written → ℕ → Type 0
Asks line handle handle' old new written answer = OfOpen (λ t u. AsksOpen line t u old new written answer) handle handle' old new answer

abbrev pub AsksJson : List ℕ → Option Talk → Option Talk → List ℕ → List ℕ → Written → ℕ → Type 0
AsksJson line handle handle' old new written answer = OfOpen (λ t u. AsksOpenJson line t u old new written answer) handle handle' old new answer

-- the text of the latest line was put there once more
abbrev pub AsksAgain : Option Talk → Option Talk → List ℕ → List ℕ → Written → ℕ → Type 0
AsksAgain handle handle' old new written answer = OfOpen (λ t u. (u ≡ t) × Puts t.text t.status old new written answer) handle handle' old new answer

-- these are the bytes of the document as it is
abbrev pub AreBytes : Talk → List ℕ → ℕ → Type 0
AreBytes t written status = (written ≡ document_bytes t.state.session.document) × (status ≡ 0)

-- they were put there
abbrev pub AsksBytes : Option Talk → Option Talk → List ℕ → List ℕ → Written → ℕ → Type 0
AsksBytes handle handle' old new written answer = OfOpen (λ t u. (u ≡ t) × Fills (AreBytes t) [] old new written answer) handle handle' old new answer
