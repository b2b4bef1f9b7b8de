-- Codes, and which answers are refusals.
use Rattle.std.proofs.Common.{◌≡◌, ℕ, Bool, true, false, length, Option, None, Some, Result, Ok, Err, refl, subst}
use Rattle.std.specs.Prelude.{codes, nat_lt, if◌then◌else◌, MatchOption}
use Rattle.pickle_io.specs.Text.{◌⧺◌}
use Rattle.pickle_doc.specs.declared.edit.EditFault.{EditFault}
use Rattle.pickle_doc.specs.declared.edit.EditFault.TheVariants as edit
use Rattle.pickle_doc.specs.declared.fault.End.{End}
use Rattle.pickle_doc.specs.Place.{end_of}
use Rattle.pickle_ops.specs.declared.fault.FrontFault.TheVariants as at_front
use Rattle.pickle_ops.specs.declared.fault.OpFault.{OpFault}
use Rattle.pickle_ops.specs.declared.fault.OpFault.TheVariants as op_fault
use Rattle.pickle_machine.specs.State.{State}
use Rattle.pickle_session.specs.declared.reply.Fault.{Fault}
use Rattle.pickle_session.specs.declared.reply.Fault.TheVariants as fault
use Rattle.pickle_session.specs.declared.reply.Reply.{Reply}
use Rattle.pickle_session.specs.declared.reply.Reply.TheVariants as reply
use Rattle.pickle_session.specs.Session.{Session, state_at}
use Rattle.pickle_session.specs.Allowed.{SessionState, is_refused}
use Rattle.pickle_text.specs.ReportLine.{tail_words, fault_text}
use Rattle.pickle_script.specs.declared.conversation.line.Line.{Line}
use Rattle.pickle_script.specs.declared.conversation.line.Line.TheVariants as line
use Rattle.pickle_script.specs.declared.conversation.line.Place.TheVariants as place
use Rattle.pickle_script.specs.declared.conversation.line.Query.{Query}
use Rattle.pickle_script.specs.declared.conversation.line.Query.TheVariants as query
use Rattle.pickle_script.specs.declared.conversation.line.Syntax.{Syntax}
use Rattle.pickle_script.specs.declared.conversation.line.Syntax.TheVariants as syntax
use Rattle.pickle_script.specs.FaultText.{op_fault_text}
use Rattle.pickle_script.specs.Grammar.{command_at}
use Rattle.pickle_script.specs.ReplyText as text
use Rattle.pickle_script.specs.Transcript.{is_refusal}
use Rattle.pickle_script.proofs.Refusals.{line_refuses, command_refuses, at_accepts, ran_accepts, broke_accepts, cleared_accepts, edited_accepts, undone_accepts, redone_accepts, missing_refuses, no_item_refuses, stack_accepts, memo_accepts, where_accepts, objects_accept, items_accept, show_accepts}
use Rattle.pickle_json.specs.EndFields as ends
use Rattle.debug_json.specs.declared.asked.Asked.{Asked}
use Rattle.debug_json.specs.Asked.{as_line}
use Rattle.debug_json.specs.declared.said.Said.{Said}
use Rattle.debug_json.specs.declared.said.Said.TheVariants as said
use Rattle.debug_json.specs.RefusedFields.{edit_code, edit_words, fault_code, op_code, syntax_code}
use Rattle.debug_json.specs.Answer.{said_text, refuses}
use Rattle.debug_json.specs.Says.{SaysOnly, SaysReply, SaysLine, SaysBy, shown}
use Rattle.debug_json.specs.Agreeing.{BeginsWith, CodesAgree, RefusalsAgree}
use Rattle.debug_json.proofs.Printed.{same_state, read_as_line}

-- ---- codes

edits : (f : EditFault) → text.edit_words f ≡ edit_code f ⧺ codes " " ⧺ edit_words f
unfolding text.edit_words edit_code edit_words ◌⧺◌
edits edit.NoSuchItem = refl
edits edit.StopItem = refl
edits edit.FrameItem = refl
edits edit.AfterStop = refl
edits edit.OpenFrame = refl
edits edit.AlreadyFramed = refl
edits edit.TooManyItems = refl
edits edit.TooLarge = refl
edits edit.Memory = refl

commands : (f : Fault) → BeginsWith (fault_code f) (text.fault_words f)
unfolding text.fault_words fault_code ◌⧺◌
commands fault.AtStart = (_, refl)
commands (fault.AtEnd e) = (_, refl)
commands (fault.Item k r) = (_, refl)
commands fault.NoSuchPlace = (_, refl)
commands fault.BehindCursor = (_, refl)
commands fault.NothingToUndo = (_, refl)
commands fault.NothingToRedo = (_, refl)
commands (fault.EditBehindCursor k) = (_, refl)
commands (fault.Edit f) = (_, refl)
commands fault.Memory = (_, refl)

syntaxes : (f : Syntax) → BeginsWith (syntax_code f) (text.syntax_words f)
unfolding text.syntax_words syntax_code ◌⧺◌
syntaxes syntax.UnknownWord = (_, refl)
syntaxes syntax.MissingWord = (_, refl)
syntaxes syntax.BadNumber = (_, refl)
syntaxes syntax.UnknownOpcodeName = (_, refl)
syntaxes syntax.BadHex = (_, refl)
syntaxes syntax.ExtraWord = (_, refl)
syntaxes syntax.LineTooLong = (_, refl)
syntaxes (syntax.BadOp f) = (_, refl)
syntaxes syntax.Memory = (_, refl)

opcodes : (f : OpFault) → BeginsWith (op_code f) (op_fault_text f)
unfolding op_fault_text op_code ends.fault_code fault_text tail_words ◌⧺◌
opcodes (op_fault.Front at_front.Ended) = (_, refl)
opcodes (op_fault.Front (at_front.UnknownOpcode byte)) = (_, refl)
opcodes (op_fault.Front at_front.Truncated) = (_, refl)
opcodes (op_fault.Front at_front.NegativeLength) = (_, refl)
opcodes (op_fault.Front at_front.BadArgument) = (_, refl)
opcodes op_fault.TooLong = (_, refl)
opcodes op_fault.Memory = (_, refl)

objects : BeginsWith (codes "refused: V1") text.no_object_line
unfolding text.no_object_line ◌⧺◌
objects = (_, refl)

items : BeginsWith (codes "V2") text.no_item_words
unfolding text.no_item_words ◌⧺◌
items = (_, refl)

pub codes_agree : CodesAgree
codes_agree = record { edits = edits; commands = commands; syntaxes = syntaxes; opcodes = opcodes; objects = objects; items = items }

-- ---- refusals

reply_refuses : (e : End) (r : Reply) → is_refused r ≡ is_refusal (text.reply_text e r)
reply_refuses e (reply.At k) = at_accepts e k
reply_refuses e (reply.Ran k w) = ran_accepts e k w
reply_refuses e (reply.Broke k) = broke_accepts e k
reply_refuses e (reply.Cleared k) = cleared_accepts e k
reply_refuses e (reply.Edited k) = edited_accepts e k
reply_refuses e (reply.Undone k) = undone_accepts e k
reply_refuses e (reply.Redone k) = redone_accepts e k
reply_refuses e (reply.Refused f) = command_refuses e f

by_number : (b : Bool) (n : ℕ) (s : Session) (t : State) → nat_lt n (length t.heap) ≡ b
    → refuses (if b then said.Shown (query.Show n) else said.NoObject n) ≡ is_refusal (said_text (if b then said.Shown (query.Show n) else said.NoObject n) s t)
by_number true n s t e = rw e (show_accepts t.heap n)
by_number false n s t e = missing_refuses

shown_refuses : (asked : Query) (s : Session) (t : State) → refuses (shown asked t) ≡ is_refusal (said_text (shown asked t) s t)
shown_refuses query.Items s t = items_accept s
shown_refuses query.Objects s t = objects_accept t.heap
shown_refuses query.Stack s t = stack_accepts t
shown_refuses query.Memo s t = memo_accepts t.memo
shown_refuses (query.Show n) s t = by_number (nat_lt n (length t.heap)) n s t refl
shown_refuses query.Where s t = where_accepts s t

is_said : (is what : Said) (s : Session) (t : State) → what ≡ is → refuses is ≡ is_refusal (said_text is s t) → refuses what ≡ is_refusal (said_text what s t)
is_said is what s t e h = rw e h

asked_refuses : (asked : Query) (s : Session) (t : State) (what : Said) → what ≡ shown asked t → refuses what ≡ is_refusal (said_text what s t)
asked_refuses asked s t what e = is_said (shown asked t) what s t e (shown_refuses asked s t)

refuses_line : (l : Line) (p q : SessionState) (s : Session) (t : State) (what : Said) → state_at q.session.document q.session.cursor ≡ Some t
    → SaysLine l p what q → refuses what ≡ is_refusal (said_text what s t)
refuses_line line.Nothing p q s t what r w = is_said said.Nothing what s t w.said_is refl
refuses_line (line.Command c) p q s t what r w = is_said (said.Replied w.answer) what s t w.said_is (reply_refuses (end_of s.document) w.answer)
refuses_line (line.At (place.Number k) a) p q s t what r w = is_said (said.Replied w.answer) what s t w.said_is (reply_refuses (end_of s.document) w.answer)
refuses_line (line.At (place.Offset offset) a) p q s t what r w = go w.found w.says
  where
    go : (found : Option ℕ) → MatchOption found (SaysOnly p (said.NoItem offset) what q) (λ k. SaysReply (command_at a k) p what q) → refuses what ≡ is_refusal (said_text what s t)
    go None x = is_said (said.NoItem offset) what s t x.said_is (no_item_refuses offset)
    go (Some k) x = is_said (said.Replied x.answer) what s t x.said_is (reply_refuses (end_of s.document) x.answer)
refuses_line (line.Query asked) p q s t what r w = asked_refuses asked s t what (rw (same_state asked p q t what r w) at w.is_shown)
refuses_line line.Quit p q s t what r w = is_said said.Quit what s t w.said_is refl

refuses_by : (says : Result Line Syntax) (p q : SessionState) (s : Session) (t : State) (what : Said) → state_at q.session.document q.session.cursor ≡ Some t
    → SaysBy (as_line says) p what q → refuses what ≡ is_refusal (said_text what s t)
refuses_by (Ok l) p q s t what r w = refuses_line l p q s t what r w
refuses_by (Err f) p q s t what r w = is_said (said.Bad f) what s t w.said_is (line_refuses f)

pub refusals_agree : RefusalsAgree
refusals_agree p q bytes a shared w =
    let r = read_as_line bytes w.says shared w.is_asked in
    refuses_by r.0 p q a.session a.state a.said w.reached (subst (λ (x : Result Asked Syntax). SaysBy x p a.said q) r.2 w.said_by)
