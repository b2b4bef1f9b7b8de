-- What is said is what the text for people tells.
use Rattle.std.proofs.Common.{◌≡◌, ◌∙◌, ℕ, Bool, true, false, List, length, Option, None, Some, Result, Ok, Err, refl, sym, ap, subst, inl}
use Rattle.std.specs.Prelude.{nat_lt, if◌then◌else◌, MatchOption}
use Rattle.pickle_doc.specs.Place.{end_of}
use Rattle.pickle_machine.specs.State.{State}
use Rattle.pickle_session.specs.declared.command.Command.{Command}
use Rattle.pickle_session.specs.Session.{Session, state_at}
use Rattle.pickle_session.specs.Allowed.{SessionState}
use Rattle.pickle_script.specs.declared.conversation.line.Line.{Line}
use Rattle.pickle_script.specs.declared.conversation.line.Line.TheVariants as line
use Rattle.pickle_script.specs.declared.conversation.line.Place.TheVariants as place
use Rattle.pickle_script.specs.declared.conversation.line.Action.{Action}
use Rattle.pickle_script.specs.declared.conversation.line.Query.{Query}
use Rattle.pickle_script.specs.declared.conversation.line.Query.TheVariants as query
use Rattle.pickle_script.specs.declared.conversation.line.Syntax.{Syntax}
use Rattle.pickle_script.specs.Grammar.{command_at, line_says}
use Rattle.pickle_script.specs.ReplyText.{reply_text, no_item_line}
use Rattle.pickle_script.specs.Query.{query_text, IsQueryText}
use Rattle.pickle_script.specs.Transcript.{PrintsText, Replies, RepliesAt, Shows, PrintsBy}
use Rattle.debug_json.specs.declared.asked.Asked.{Asked}
use Rattle.debug_json.specs.Asked.{AsksBy, as_line, line_asks, IsShared}
use Rattle.debug_json.specs.declared.said.Said.{Said}
use Rattle.debug_json.specs.declared.said.Said.TheVariants as said
use Rattle.debug_json.specs.Answer.{said_text}
use Rattle.debug_json.specs.Says.{SaysOnly, SaysReply, SaysAt, SaysShown, SaysLine, SaysBy, shown, SaidIsPrinted}

only : (p q : SessionState) (s : Session) (t : State) (is what : Said) → SaysOnly p is what q → PrintsText p (said_text is s t) (said_text what s t) q
only p q s t is what w = record { text_is = ap (λ (x : Said). said_text x s t) w.said_is; unchanged = w.unchanged }

replied : (c : Command) (p q : SessionState) (s : Session) (t : State) (what : Said) → s ≡ q.session → SaysReply c p what q → Replies c p (said_text what s t) q
replied c p q s t what e w = record {
  answer = w.answer;
  answers = w.answers;
  goes = w.goes;
  stays = w.stays;
  free = w.free;
  again = w.again;
  text_is = ap (λ (x : Said). said_text x s t) w.said_is ∙ ap (λ (x : Session). reply_text (end_of x.document) w.answer) e;
}

placed : (offset : ℕ) (a : Action) (p q : SessionState) (s : Session) (t : State) (what : Said) → s ≡ q.session → SaysAt offset a p what q → RepliesAt offset a p (said_text what s t) q
placed offset a p q s t what e w = record { found = w.found; is_found = w.is_found; prints = go w.found w.says }
  where
    go : (found : Option ℕ) → MatchOption found (SaysOnly p (said.NoItem offset) what q) (λ k. SaysReply (command_at a k) p what q)
        → MatchOption found (PrintsText p (no_item_line offset) (said_text what s t) q) (λ k. Replies (command_at a k) p (said_text what s t) q)
    go None x = only p q s t (said.NoItem offset) what x
    go (Some k) x = replied (command_at a k) p q s t what e x

-- ---- something is shown

by_number : (b : Bool) (n : ℕ) (s : Session) (t : State) → nat_lt n (length t.heap) ≡ b
    → said_text (if b then said.Shown (query.Show n) else said.NoObject n) s t ≡ query_text (query.Show n) s t
by_number true n s t e = refl
by_number false n s t e = rw e refl

pub shown_text : (asked : Query) (s : Session) (t : State) → said_text (shown asked t) s t ≡ query_text asked s t
shown_text query.Items s t = refl
shown_text query.Objects s t = refl
shown_text query.Stack s t = refl
shown_text query.Memo s t = refl
shown_text (query.Show n) s t = by_number (nat_lt n (length t.heap)) n s t refl
shown_text query.Where s t = refl

one_state : (a b : State) → Some a ≡ Some b → a ≡ b
one_state a b e = cc

is_text : (asked : Query) (s : Session) (t : State) (what : Said) → what ≡ shown asked t → IsQueryText asked s t (said_text what s t)
is_text asked s t what e = inl (ap (λ (x : Said). said_text x s t) e ∙ shown_text asked s t)

-- the state that is told of is the one that is reached
pub same_state : (asked : Query) (p q : SessionState) (t : State) (what : Said) → state_at q.session.document q.session.cursor ≡ Some t
    → (w : SaysShown asked p what q) → w.state ≡ t
same_state asked p q t what r w =
    one_state w.state t (sym w.reached ∙ ap (λ (x : SessionState). state_at x.session.document x.session.cursor) (sym w.unchanged) ∙ r)

showed : (asked : Query) (p q : SessionState) (s : Session) (t : State) (what : Said) → s ≡ q.session → state_at q.session.document q.session.cursor ≡ Some t
    → SaysShown asked p what q → Shows asked p (said_text what s t) q
showed asked p q s t what e r w =
    let here : s ≡ p.session = e ∙ ap (λ (x : SessionState). x.session) w.unchanged in
    record {
      state = t;
      reached = ap (λ (x : SessionState). state_at x.session.document x.session.cursor) (sym w.unchanged) ∙ r;
      text_is = subst (λ (x : Session). IsQueryText asked x t (said_text what s t)) here
          (is_text asked s t what (subst (λ (x : State). what ≡ shown asked x) (same_state asked p q t what r w) w.is_shown));
      unchanged = w.unchanged;
    }

-- ---- a line

printed_line : (l : Line) (p q : SessionState) (s : Session) (t : State) (what : Said) → s ≡ q.session
    → state_at q.session.document q.session.cursor ≡ Some t → SaysLine l p what q → PrintsBy (Ok l) p (said_text what s t) q
printed_line line.Nothing p q s t what e r w = only p q s t said.Nothing what w
printed_line (line.Command c) p q s t what e r w = replied c p q s t what e w
printed_line (line.At (place.Number k) a) p q s t what e r w = replied (command_at a k) p q s t what e w
printed_line (line.At (place.Offset offset) a) p q s t what e r w = placed offset a p q s t what e w
printed_line (line.Query asked) p q s t what e r w = showed asked p q s t what e r w
printed_line line.Quit p q s t what e r w = only p q s t said.Quit what w

printed_by : (says : Result Line Syntax) (p q : SessionState) (s : Session) (t : State) (what : Said) → s ≡ q.session
    → state_at q.session.document q.session.cursor ≡ Some t → SaysBy (as_line says) p what q → PrintsBy says p (said_text what s t) q
printed_by (Ok l) p q s t what e r w = printed_line l p q s t what e r w
printed_by (Err f) p q s t what e r w = only p q s t (said.Bad f) what w

-- a line of the texts is read as in them
pub read_as_line : (bytes : List ℕ) (answer : Result Asked Syntax) → IsShared bytes → AsksBy (line_asks bytes) (line_says bytes) answer
    → AsksBy None (line_says bytes) answer
read_as_line bytes answer e w = rw e at w

pub said_is_printed : SaidIsPrinted
said_is_printed p q bytes a shared w =
    let r = read_as_line bytes w.says shared w.is_asked in
    record {
      says = r.0;
      is_read = r.1;
      prints = printed_by r.0 p q a.session a.state a.said w.session w.reached (subst (λ (x : Result Asked Syntax). SaysBy x p a.said q) r.2 w.said_by);
    }
