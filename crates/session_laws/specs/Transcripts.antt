-- What a transcript depends on, and what does not change it: how much of the past is kept.
-- Source: own.
use Rattle.std.specs.Prelude.{◌≡◌, ◌≢◌, ◌<◌, ◌^◌, ℕ, Bool, List, length}
use Rattle.std.specs.List.{AllByRecursion}
use Rattle.pickle_doc.specs.Document.{AreBytes}
use Rattle.pickle_session.specs.Allowed.{SessionState}
use Rattle.pickle_session.specs.Opening.{IsOpenedIn}
use Rattle.pickle_script.specs.declared.conversation.line.Syntax.TheVariants as syntax
use Rattle.pickle_script.specs.ReplyText.{syntax_line}
use Rattle.pickle_script.specs.Transcript.{IsTranscript}

-- ---- one transcript

-- the answer to any line where memory runs out
abbrev pub memory_line : List ℕ
memory_line = syntax_line syntax.Memory

-- memory ran out for none of the lines
abbrev pub IsAmple : List (List ℕ) → Type 0
IsAmple texts = AllByRecursion (λ text. text ≢ memory_line) texts

-- Two transcripts of the same lines from the same document, cursor, breakpoints and edits are one where memory ran out in neither, and
-- lead to the same document, cursor, breakpoints and edits. Of the machine, the records and the limit of the past nothing is asked.
abbrev pub OneTranscript : Type 0
OneTranscript = (lines texts others : List (List ℕ)) (p q r s : SessionState) → p.session ≡ r.session → IsAmple texts → IsAmple others
    → IsTranscript p lines texts q → IsTranscript r lines others s → (texts ≡ others) × (q.session ≡ s.session)

-- and sessions that are opened of the same bytes, in the same mode, have the same document, cursor, breakpoints and edits
abbrev pub OneOpening : Type 0
OneOpening = (many loose : Bool) (bytes : List ℕ) (p r : SessionState) → AreBytes bytes → length bytes < 2 ^ 64
    → IsOpenedIn many loose bytes p → IsOpenedIn many loose bytes r → p.session ≡ r.session
