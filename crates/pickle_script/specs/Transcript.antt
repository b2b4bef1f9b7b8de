-- What the lines of a script may be answered.
-- Source: own. It is a relation, since a line may also be answered by running out of memory.
use Rattle.std.specs.Prelude.{◌≡◌, ◌≢◌, ℕ, List, [], ◌∷◌, codes, eqb, Bool, true, false, if◌then◌else◌, MatchOption, Option, Some, Result, Ok, Err}
use Rattle.std.specs.List.{starts_with, list_any}
use Rattle.pickle_doc.specs.Place.{IsPlaceAt, end_of}
use Rattle.pickle_machine.specs.State.{State}
use Rattle.pickle_session.specs.declared.command.Command.{Command}
use Rattle.pickle_session.specs.declared.command.Command.TheVariants as command
use Rattle.pickle_session.specs.declared.reply.Fault.TheVariants as fault
use Rattle.pickle_session.specs.declared.reply.Reply.{Reply}
use Rattle.pickle_session.specs.declared.reply.Reply.TheVariants as reply
use Rattle.pickle_session.specs.Session.{state_at}
use Rattle.pickle_session.specs.Allowed.{SessionState, Answers, Goes, Stays, IsFree, IsFreeAgain, goes_beyond, is_at_place}
use Rattle.pickle_script.specs.declared.conversation.line.Line.{Line}
use Rattle.pickle_script.specs.declared.conversation.line.Line.TheVariants as line
use Rattle.pickle_script.specs.declared.conversation.line.Query.{Query}
use Rattle.pickle_script.specs.declared.conversation.line.Place.{Place}
use Rattle.pickle_script.specs.declared.conversation.line.Place.TheVariants as place
use Rattle.pickle_script.specs.declared.conversation.line.Action.{Action}
use Rattle.pickle_script.specs.declared.conversation.line.Syntax.{Syntax}
use Rattle.pickle_script.specs.Grammar as grammar
use Rattle.pickle_script.specs.ReplyText.{reply_text, syntax_line, no_item_line}
use Rattle.pickle_script.specs.Query.{IsQueryText}

-- ---- one line: the session before it, its text, and the session after it

-- a text about the session, which stays as it is
pub record PrintsText (p : SessionState) (says text : List ℕ) (q : SessionState) : Type 0 where
  pub text_is : text ≡ says
  pub unchanged : q ≡ p

-- an answer that is allowed to the command, and its text; where the cursor stays the machine stays, and a refused command leaves the
-- records; a step that is free finds memory; after a way back that a record led, a step over a light opcode is free, unless a further
-- pickle begins with it
pub record Replies (c : Command) (p : SessionState) (text : List ℕ) (q : SessionState) : Type 0 where
  pub answer : Reply
  pub answers : Answers c p answer q.session
  pub goes : Goes c p answer q
  pub stays : Stays p answer q
  pub free : c ≡ command.Step → IsFree p → answer ≢ reply.Refused fault.Memory
  pub again : c ≡ command.Back → goes_beyond command.Back p ≡ false → is_at_place answer ≡ true → IsFreeAgain q
  pub text_is : text ≡ reply_text (end_of q.session.document) answer

-- the command at the place that has this offset; or, where none has it, that there is none
pub record RepliesAt (offset : ℕ) (a : Action) (p : SessionState) (text : List ℕ) (q : SessionState) : Type 0 where
  pub found : Option ℕ
  pub is_found : IsPlaceAt p.session.document offset found
  pub prints : MatchOption found (PrintsText p (no_item_line offset) text q) (λ k. Replies (grammar.command_at a k) p text q)

abbrev pub PrintsAt : Place → Action → SessionState → List ℕ → SessionState → Type 0
PrintsAt (place.Number k) a p text q = Replies (grammar.command_at a k) p text q
PrintsAt (place.Offset offset) a p text q = RepliesAt offset a p text q

-- what is shown of the session and of the state that running the items before the cursor on an empty machine gives
pub record Shows (query : Query) (p : SessionState) (text : List ℕ) (q : SessionState) : Type 0 where
  pub state : State
  pub reached : state_at p.session.document p.session.cursor ≡ Some state
  pub text_is : IsQueryText query p.session state text
  pub unchanged : q ≡ p

abbrev pub PrintsBy : Result Line Syntax → SessionState → List ℕ → SessionState → Type 0
PrintsBy (Ok line.Nothing) p text q = PrintsText p [] text q
PrintsBy (Ok (line.Command c)) p text q = Replies c p text q
PrintsBy (Ok (line.At place a)) p text q = PrintsAt place a p text q
PrintsBy (Ok (line.Query query)) p text q = Shows query p text q
PrintsBy (Ok line.Quit) p text q = PrintsText p [] text q
PrintsBy (Err f) p text q = PrintsText p (syntax_line f) text q

-- what a line may be read as: what it says, or its first fault, or running out of memory for the operation that it names
abbrev pub IsRead : List ℕ → Result Line Syntax → Type 0
IsRead bytes says = grammar.AnswersWords (grammar.line_says bytes) says

pub record Prints (p : SessionState) (bytes text : List ℕ) (q : SessionState) : Type 0 where
  pub says : Result Line Syntax
  pub is_read : IsRead bytes says
  pub prints : PrintsBy says p text q

-- ---- line after line

-- the texts that the lines give, and the session after the last of them
abbrev pub PrintsAll : SessionState → List (List ℕ) → List (List ℕ) → SessionState → Type 0
PrintsAll p [] [] q = q ≡ p
PrintsAll p (bytes ∷ lines) (text ∷ texts) q = (mid : SessionState) × Prints p bytes text mid × PrintsAll mid lines texts q
PrintsAll p [] (text ∷ texts) q = ⊥
PrintsAll p (bytes ∷ lines) [] q = ⊥

abbrev pub quits : Result Line Syntax → Bool
quits (Ok line.Quit) = true
quits (Ok line.Nothing) = false
quits (Ok (line.Command c)) = false
quits (Ok (line.At place a)) = false
quits (Ok (line.Query query)) = false
quits (Err f) = false

abbrev pub is_quit : List ℕ → Bool
is_quit bytes = quits (grammar.line_says bytes)

abbrev pub has_quit : List (List ℕ) → Bool
has_quit lines = list_any is_quit lines

-- the lines up to the first that quits, or all
abbrev pub up_to_quit : List (List ℕ) → List (List ℕ)
up_to_quit [] = []
up_to_quit (bytes ∷ lines) = bytes ∷ (if is_quit bytes then [] else up_to_quit lines)

-- the texts of a transcript of the lines, and the session after it: after a line that quits nothing is obeyed
abbrev pub IsTranscript : SessionState → List (List ℕ) → List (List ℕ) → SessionState → Type 0
IsTranscript p lines texts q = PrintsAll p (up_to_quit lines) texts q

-- ---- the status

abbrev pub is_refusal : List ℕ → Bool
is_refusal text = starts_with eqb text (codes "refused: ")

-- 1 where a line was refused
abbrev pub status_of : List (List ℕ) → ℕ
status_of texts = if list_any is_refusal texts then 1 else 0
