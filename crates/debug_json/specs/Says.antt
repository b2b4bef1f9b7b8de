-- What the lines of a script may be answered: as in a transcript for people, but for what is said in the place of its text.
-- Source: own. It is a relation, since a line may also be answered by running out of memory.
use Rattle.std.specs.Prelude.{◌≡◌, ◌≢◌, ℕ, ◌-◌, ◌<◌, ⊤, List, length, nat_lt, true, false, if◌then◌else◌, MatchOption, Option, Some, Result, Ok, Err}
use Rattle.pickle_doc.specs.Place.{IsPlaceAt}
use Rattle.pickle_machine.specs.State.{State}
use Rattle.pickle_session.specs.declared.command.Command.{Command}
use Rattle.pickle_session.specs.declared.command.Command.TheVariants as command
use Rattle.pickle_session.specs.declared.reply.Fault.TheVariants as fault
use Rattle.pickle_session.specs.declared.reply.Reply.{Reply}
use Rattle.pickle_session.specs.declared.reply.Reply.TheVariants as reply
use Rattle.pickle_session.specs.Session.{state_at}
use Rattle.pickle_session.specs.Allowed.{SessionState, Answers, Goes, Stays, IsFree, IsFreeAgain, goes_beyond, is_at_place, kept_of}
use Rattle.pickle_script.specs.declared.conversation.line.Line.{Line}
use Rattle.pickle_script.specs.declared.conversation.line.Line.TheVariants as line
use Rattle.pickle_script.specs.declared.conversation.line.Query.{Query}
use Rattle.pickle_script.specs.declared.conversation.line.Query.TheVariants as query
use Rattle.pickle_script.specs.declared.conversation.line.Place.{Place}
use Rattle.pickle_script.specs.declared.conversation.line.Place.TheVariants as place
use Rattle.pickle_script.specs.declared.conversation.line.Action.{Action}
use Rattle.pickle_script.specs.declared.conversation.line.Syntax.{Syntax}
use Rattle.pickle_script.specs.Grammar.{command_at}
use Rattle.pickle_script.specs.Transcript.{Prints}
use Rattle.debug_json.specs.declared.asked.Own.{Own}
use Rattle.debug_json.specs.declared.asked.Own.TheVariants as own
use Rattle.debug_json.specs.declared.asked.Asked.{Asked}
use Rattle.debug_json.specs.declared.asked.Asked.TheVariants as asked
use Rattle.debug_json.specs.Asked.{IsAsked, IsShared}
use Rattle.debug_json.specs.declared.said.Said.{Said}
use Rattle.debug_json.specs.declared.said.Said.TheVariants as said
use Rattle.debug_json.specs.Answer.{Answer, answer_text}

-- this is said, and the session stays as it is
pub record SaysOnly (p : SessionState) (is what : Said) (q : SessionState) : Type 0 where
  pub said_is : what ≡ is
  pub unchanged : q ≡ p

-- an answer that is allowed to the command is replied; where the cursor stays the machine stays, and a refused command leaves the
-- records; a step that is free finds memory; after a way back that a record led, a step over a light opcode is free, unless a further
-- pickle begins with it
pub record SaysReply (c : Command) (p : SessionState) (what : Said) (q : SessionState) : Type 0 where
  pub answer : Reply
  pub answers : Answers c p answer q.session
  pub goes : Goes c p answer q
  pub stays : Stays p answer q
  pub free : c ≡ command.Step → IsFree p → answer ≢ reply.Refused fault.Memory
  pub again : c ≡ command.Back → goes_beyond command.Back p ≡ false → is_at_place answer ≡ true → IsFreeAgain q
  pub said_is : what ≡ said.Replied answer

-- the same of the command at the place that has this offset; or, where none has it, that there is none
pub record SaysAt (offset : ℕ) (a : Action) (p : SessionState) (what : Said) (q : SessionState) : Type 0 where
  pub found : Option ℕ
  pub is_found : IsPlaceAt p.session.document offset found
  pub says : MatchOption found (SaysOnly p (said.NoItem offset) what q) (λ k. SaysReply (command_at a k) p what q)

abbrev pub SaysPlaced : Place → Action → SessionState → Said → SessionState → Type 0
SaysPlaced (place.Number k) a p what q = SaysReply (command_at a k) p what q
SaysPlaced (place.Offset offset) a p what q = SaysAt offset a p what q

-- what is shown; a number may be no object's. What an object contains is named by number, so that no memory is asked for
abbrev pub shown : Query → State → Said
shown query.Items t = said.Shown query.Items
shown query.Objects t = said.Shown query.Objects
shown query.Stack t = said.Shown query.Stack
shown query.Memo t = said.Shown query.Memo
shown (query.Show n) t = if nat_lt n (length t.heap) then said.Shown (query.Show n) else said.NoObject n
shown query.Where t = said.Shown query.Where

-- what is shown of the session and of the state that running the items before the cursor on an empty machine gives
pub record SaysShown (query : Query) (p : SessionState) (what : Said) (q : SessionState) : Type 0 where
  pub state : State
  pub reached : state_at p.session.document p.session.cursor ≡ Some state
  pub is_shown : what ≡ shown query state
  pub unchanged : q ≡ p

abbrev pub SaysLine : Line → SessionState → Said → SessionState → Type 0
SaysLine line.Nothing p what q = SaysOnly p said.Nothing what q
SaysLine (line.Command c) p what q = SaysReply c p what q
SaysLine (line.At place a) p what q = SaysPlaced place a p what q
SaysLine (line.Query query) p what q = SaysShown query p what q
SaysLine line.Quit p what q = SaysOnly p said.Quit what q

-- what the latest step did, where its record is kept
abbrev pub traced : SessionState → Said
traced p = if nat_lt 0 (kept_of p) then said.Step else said.NoStep

-- who made an object and who changed it, of the items whose records are kept; a number may be no object's
abbrev pub made_of : ℕ → SessionState → State → Said
made_of n p t = if nat_lt n (length t.heap) then said.Made n (p.session.cursor - kept_of p) else said.NoObject n

-- the same by the state that running the items before the cursor on an empty machine gives
pub record SaysMade (n : ℕ) (p : SessionState) (what : Said) (q : SessionState) : Type 0 where
  pub state : State
  pub reached : state_at p.session.document p.session.cursor ≡ Some state
  pub is_made : what ≡ made_of n p state
  pub unchanged : q ≡ p

abbrev pub SaysOwn : Own → SessionState → Said → SessionState → Type 0
SaysOwn own.Breaks p what q = SaysOnly p said.Breaks what q
SaysOwn (own.Items a b) p what q = SaysOnly p (said.SomeItems a b) what q
SaysOwn (own.Objects a b) p what q = SaysOnly p (said.SomeObjects a b) what q
SaysOwn own.Trace p what q = SaysOnly p (traced p) what q
SaysOwn (own.Made n) p what q = SaysMade n p what q

abbrev pub SaysBy : Result Asked Syntax → SessionState → Said → SessionState → Type 0
SaysBy (Ok (asked.Line l)) p what q = SaysLine l p what q
SaysBy (Ok (asked.Own o)) p what q = SaysOwn o p what q
SaysBy (Err f) p what q = SaysOnly p (said.Bad f) what q

-- what is told of a step has a record, and what is told of an object begins with the first record
abbrev pub IsTold : Said → SessionState → Type 0
IsTold said.Step p = 0 < kept_of p
IsTold (said.Made n first) p = first ≡ p.session.cursor - kept_of p
IsTold _ p = ⊤

-- what a line says is obeyed, and answered of the session after it
pub record Says (p : SessionState) (bytes : List ℕ) (a : Answer) (q : SessionState) : Type 0 where
  pub says : Result Asked Syntax
  pub is_asked : IsAsked bytes says
  pub said_by : SaysBy says p a.said q
  pub session : a.session ≡ q.session
  pub reached : state_at q.session.document q.session.cursor ≡ Some a.state

-- ---- laws

-- what is said in JSON to a line of the texts is what the text of a transcript tells
abbrev pub SaidIsPrinted : Type 0
SaidIsPrinted = (p q : SessionState) (bytes : List ℕ) (a : Answer) → IsShared bytes → Says p bytes a q → Prints p bytes (answer_text a) q
