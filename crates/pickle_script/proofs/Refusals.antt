-- Which texts are refusals.
use Rattle.std.proofs.Common.{◌≡◌, ℕ, zero, suc, ◌+◌, ◌==◌, ◌&&◌, eqb, Bool, true, false, List, [], ◌∷◌, ◌++◌, length, set, Option, Some, None, refl}
use Rattle.std.specs.Prelude.{replicate}
use Rattle.std.specs.Option.{option_map_or}
use Rattle.pickle_io.specs.Device.{each, each_below}
use Rattle.pickle_io.specs.Text.{◌⧺◌}
use Rattle.pickle_doc.specs.declared.fault.End.{End}
use Rattle.pickle_doc.specs.Place.{item_at}
use Rattle.pickle_ops.specs.Spelling.{Operation}
use Rattle.pickle_ops.specs.Object.{Object}
use Rattle.pickle_machine.specs.State.{State}
use Rattle.pickle_text.specs.Words.{id_text}
use Rattle.object_texts.specs.ObjectText.{object_text, object_line, lines_from, objects_text}
use Rattle.object_texts.specs.StackText.{stack_text}
use Rattle.object_texts.specs.MemoText.{memo_text}
use Rattle.std.specs.Fmt.{digits}
use Rattle.object_texts.specs.Show.{first_line, again_line, at_depth, content, found, walk, show_text}
use Rattle.pickle_session.specs.Session.{Session, len_of}
use Rattle.pickle_session.specs.declared.reply.Fault.{Fault}
use Rattle.pickle_session.specs.declared.reply.Why.{Why}
use Rattle.pickle_session.specs.declared.reply.Reply.TheVariants as reply
use Rattle.pickle_script.specs.declared.conversation.line.Syntax.{Syntax}
use Rattle.pickle_script.specs.PlaceText.{sign_if, session_line, session_line_at, items_text, cursor_text, where_text}
use Rattle.pickle_script.specs.ReplyText.{refused_command, ran_text, placed_text, reply_text, syntax_line, no_object_line, no_item_line}
use Rattle.pickle_script.specs.Transcript.{is_refusal}

-- ---- replies

pub line_refuses : (f : Syntax) → true ≡ is_refusal (syntax_line f)
unfolding syntax_line ◌⧺◌
line_refuses f = refl

pub command_refuses : (e : End) (f : Fault) → true ≡ is_refusal (reply_text e (reply.Refused f))
unfolding reply_text refused_command ◌⧺◌
command_refuses e f = refl

pub at_accepts : (e : End) (k : ℕ) → false ≡ is_refusal (reply_text e (reply.At k))
unfolding reply_text placed_text ◌⧺◌
at_accepts e k = refl

pub ran_accepts : (e : End) (k : ℕ) (w : Why) → false ≡ is_refusal (reply_text e (reply.Ran k w))
unfolding reply_text ran_text ◌⧺◌
ran_accepts e k w = refl

pub broke_accepts : (e : End) (k : ℕ) → false ≡ is_refusal (reply_text e (reply.Broke k))
unfolding reply_text placed_text ◌⧺◌
broke_accepts e k = refl

pub cleared_accepts : (e : End) (k : ℕ) → false ≡ is_refusal (reply_text e (reply.Cleared k))
unfolding reply_text placed_text ◌⧺◌
cleared_accepts e k = refl

pub edited_accepts : (e : End) (k : ℕ) → false ≡ is_refusal (reply_text e (reply.Edited k))
unfolding reply_text placed_text ◌⧺◌
edited_accepts e k = refl

pub undone_accepts : (e : End) (k : ℕ) → false ≡ is_refusal (reply_text e (reply.Undone k))
unfolding reply_text placed_text ◌⧺◌
undone_accepts e k = refl

pub redone_accepts : (e : End) (k : ℕ) → false ≡ is_refusal (reply_text e (reply.Redone k))
unfolding reply_text placed_text ◌⧺◌
redone_accepts e k = refl

-- ---- what is shown

pub missing_refuses : true ≡ is_refusal no_object_line
unfolding no_object_line
missing_refuses = refl

pub no_item_refuses : (offset : ℕ) → true ≡ is_refusal (no_item_line offset)
unfolding no_item_line ◌⧺◌
no_item_refuses offset = refl

pub stack_accepts : (t : State) → false ≡ is_refusal (stack_text t)
unfolding stack_text ◌⧺◌
stack_accepts t = refl

pub memo_accepts : (entries : List (ℕ × ℕ)) → false ≡ is_refusal (memo_text entries)
unfolding memo_text ◌⧺◌
memo_accepts entries = refl

pub where_accepts : (s : Session) (t : State) → false ≡ is_refusal (where_text s t)
unfolding where_text cursor_text ◌⧺◌
where_accepts s t = refl

pub objects_accept : (heap : List Object) → false ≡ is_refusal (objects_text heap)
unfolding objects_text lines_from object_line object_text id_text ◌⧺◌
objects_accept [] = refl
objects_accept (o ∷ heap) = refl

-- a text that begins with another letter is no refusal
abbrev begins_so : List ℕ → Bool
begins_so [] = false
begins_so (byte ∷ bytes) = eqb 114 byte

neither : (b c : Bool) → b ≡ false → false ≡ (b && c)
neither true c h = absurd cc
neither false c h = refl

accepts : (text : List ℕ) → begins_so text ≡ false → false ≡ is_refusal text
accepts [] h = refl
accepts (byte ∷ bytes) h = neither (eqb 114 byte) _ h

both : (a b : List ℕ) → begins_so a ≡ false → begins_so b ≡ false → begins_so (a ++ b) ≡ false
both [] b p q = q
both (byte ∷ a) b p q = p

lines_begin : (text : ℕ → List ℕ) (n : ℕ) → ((k : ℕ) → begins_so (text k) ≡ false) → begins_so (each_below text n) ≡ false
unfolding each_below
lines_begin text zero h = refl
lines_begin text (suc n) h = both (each_below text n) (text n) (lines_begin text n h) (h n)

sign_begins : (holds : Bool) → eqb 114 (sign_if 62 holds) ≡ false
sign_begins true = refl
sign_begins false = refl

item_begins : (s : Session) (k : ℕ) (o : Operation) → begins_so (session_line s k o) ≡ false
unfolding session_line ◌⧺◌
item_begins s k o = sign_begins (k == s.cursor)

line_begins : (s : Session) (k : ℕ) → begins_so (session_line_at s k) ≡ false
unfolding session_line_at
line_begins s k = go (item_at s.document k)
  where
    go : (o : Option Operation) → begins_so (option_map_or (session_line s k) o []) ≡ false
    go None = refl
    go (Some o) = item_begins s k o

pub items_accept : (s : Session) → false ≡ is_refusal (items_text s)
unfolding items_text
items_accept s = accepts (each_below (session_line_at s) (len_of s.document)) (lines_begin (session_line_at s) (len_of s.document) (λ k. line_begins s k))

first_begins : (id : ℕ) (o : Object) (rest : List ℕ) → begins_so (first_line 0 id o ⧺ rest) ≡ false
unfolding first_line ◌⧺◌ digits
first_begins id o rest = refl

again_begins : (id : ℕ) (rest : List ℕ) → begins_so (again_line 0 id ⧺ rest) ≡ false
unfolding again_line ◌⧺◌ digits
again_begins id rest = refl

walk_begins : (n : ℕ) (heap : List Object) (seen : List Bool) (id : ℕ) → begins_so (walk n heap seen (record { depth = 0; id = id } ∷ [])) ≡ false
unfolding walk each ◌⧺◌
walk_begins zero heap seen id = again_begins id []
walk_begins (suc n) heap seen id = go (found heap seen id)
  where
    go : (o : Option Object) → begins_so (option_map_or (λ (o : Object). first_line 0 id o ⧺ walk n heap (set seen id true) (at_depth (0 + 1) (content o) ++ [])) o (again_line 0 id ⧺ walk (suc n) heap seen [])) ≡ false
    go None = again_begins id _
    go (Some o) = first_begins id o _

pub show_accepts : (heap : List Object) (id : ℕ) → false ≡ is_refusal (show_text heap id)
unfolding show_text
show_accepts heap id = accepts (walk (length heap) heap (replicate (length heap) false) (record { depth = 0; id = id } ∷ [])) (walk_begins (length heap) heap (replicate (length heap) false) id)

pub ruleset refusal_steps = (line_refuses, command_refuses, at_accepts, ran_accepts, broke_accepts, cleared_accepts, edited_accepts, undone_accepts, redone_accepts)

pub ruleset telling_steps = (line_refuses, missing_refuses, stack_accepts, memo_accepts, where_accepts, objects_accept, items_accept, show_accepts)
