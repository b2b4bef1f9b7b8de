-- Lists of commands, and the sessions that they lead to by answers that are allowed.
-- Source: own. A command without memory may be refused at any time where it is allowed to ask for memory, so that one list
-- leads to more than one session.
use Rattle.std.specs.Prelude.{◌≡◌, ◌<◌, ℕ, Bool, zero, suc, List, [], ◌∷◌, length}
use Rattle.pickle_doc.specs.Document.{document_bytes}
use Rattle.pickle_session.specs.declared.command.Command.{Command}
use Rattle.pickle_session.specs.declared.command.Command.TheVariants as command
use Rattle.pickle_session.specs.declared.reply.Reply.{Reply}
use Rattle.pickle_session.specs.declared.reply.Reply.TheVariants as reply
use Rattle.pickle_session.specs.Session.{Session, place_in}
use Rattle.pickle_session.specs.Allowed.{SessionState, Answers}
use Rattle.pickle_session.specs.Opening.{IsOpenedIn}
use Rattle.pickle_session.specs.Undo.{oldest, undone, version_bytes}

-- these commands, one after another, lead from the one to the other, each by an answer that is allowed
abbrev pub Reaches : List Command → SessionState → SessionState → Type 0
Reaches [] p q = q ≡ p
Reaches (c ∷ cs) p q = (r : Reply) × (m : SessionState) × Answers c p r m.session × Reaches cs m q

-- they lead there from the opening of these bytes, as several pickles or as one, and with all items loose or with their frames
abbrev pub IsReached : Bool → Bool → List ℕ → List Command → SessionState → Type 0
IsReached many loose bytes cs q = (p : SessionState) × IsOpenedIn many loose bytes p × Reaches cs p q

-- this many undos
abbrev pub undos : ℕ → List Command
undos zero = []
undos (suc n) = command.Undo ∷ undos n

-- what stays of the bytes that were opened, whatever the commands and the answers
pub record OpenedStays : Type 0 where
  -- the oldest document has these bytes
  pub kept : (many loose : Bool) (bytes : List ℕ) (cs : List Command) (q : SessionState) → IsReached many loose bytes cs q
      → version_bytes (oldest q.session) ≡ bytes
  -- at the start an Undo is accepted wherever there is something to undo
  pub accepted : (p : SessionState) (r : Reply) (t : Session) → p.session.cursor ≡ 0 → 0 < length p.session.undos → Answers command.Undo p r t
      → (r ≡ reply.Undone (place_in p.session.undos)) × (t ≡ undone p.session)
  -- an accepted Goto to the start, and then as many undos as there are edits, give these bytes again; nothing is left to undo
  pub given : (many loose : Bool) (bytes : List ℕ) (cs : List Command) (q m t : SessionState) → IsReached many loose bytes cs q
      → Answers (command.Goto 0) q (reply.At 0) m.session
      → Reaches (undos (length q.session.undos)) m t → (document_bytes t.session.document ≡ bytes) × (t.session.undos ≡ [])
