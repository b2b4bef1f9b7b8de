-- What the bytes of a session's document are good for, which are what is saved.
-- Source: own.
use Rattle.std.specs.Prelude.{◌≡◌, ◌⊎◌}
use Rattle.pickle_doc.specs.Document.{ReadsIn, SameApart, Contents, document_bytes}
use Rattle.pickle_session.specs.declared.command.Command.TheVariants as command
use Rattle.pickle_session.specs.declared.reply.Fault.TheVariants as fault
use Rattle.pickle_session.specs.declared.reply.Reply.{Reply}
use Rattle.pickle_session.specs.declared.reply.Reply.TheVariants as reply
use Rattle.pickle_session.specs.Allowed.{SessionState, Answers, IsAtCursor}
use Rattle.pickle_session.specs.Opening.{IsOpenedIn}

-- to a place the answer was that the cursor is there, with this machine's state; or memory ran out
abbrev pub ComesTo : SessionState → Reply → SessionState → Type 0
ComesTo p r q = ((r ≡ reply.At p.session.cursor) × (q.machine.state ≡ p.machine.state)) ⊎ (r ≡ reply.Refused fault.Memory)

-- The bytes of its document, which a session saves, read as that document, identities apart; and where they are opened, with whatever
-- past, and the cursor is sent to the same place, the machine is in the same state.
pub record IsSavedWhole (p : SessionState) : Type 0 where
  pub document : (d : Contents) → ReadsIn p.session.document.many p.session.document.loose (document_bytes p.session.document) d
      → SameApart p.session.document d
  pub machine : (q r : SessionState) (answer : Reply) → IsOpenedIn p.session.document.many p.session.document.loose (document_bytes p.session.document) q
      → Answers (command.Goto p.session.cursor) q answer r.session → IsAtCursor r → ComesTo p answer r
