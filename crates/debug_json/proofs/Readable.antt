-- The fields of each line can be read back, and so the line is.
use Rattle.std.proofs.Common.{◌≡◌, ℕ, zero, suc, ◌+◌, ◌-◌, ◌<◌, ◌≤◌, Bool, true, false, List, [], ◌∷◌, length, Option, None, Some, Result, Ok, Err, refl, arith}
use Rattle.std.specs.Prelude.{codes, nat_lt, slice_get, if◌then◌else◌, MatchOption, ⊤}
use Rattle.std.specs.List.{list_all}
use Rattle.std.proofs.lemmas.Bool.{ltb-true}
use Rattle.json.specs.Json.{Json}
use Rattle.json.specs.Tree.{items_depth}
use Rattle.json.specs.Value.{items_of}
use Rattle.json_lines.specs.Json.{is_plain}
use Rattle.json_lines.specs.Line.{Field, field, whole, numbers_json, line}
use Rattle.json_lines.specs.Readable.{ItemsHaveTexts, ArePlain}
use Rattle.json_lines.proofs.Nested.{number, text, truth, both, Fits, Deep, wider, deeper, of_plain, joined, alone, object_fits, mapped, number_fits, numbers_fit, line_reads}
use Rattle.pickle_doc.specs.Document.{Contents}
use Rattle.pickle_doc.specs.declared.edit.EditFault.{EditFault}
use Rattle.pickle_doc.specs.declared.edit.EditFault.TheVariants as edit
use Rattle.pickle_doc.specs.declared.fault.End.{End}
use Rattle.pickle_doc.specs.declared.fault.End.TheVariants as end
use Rattle.pickle_doc.specs.Place.{ops_of, offset_of, end_of}
use Rattle.pickle_ops.specs.declared.fault.FrontFault.TheVariants as at_front
use Rattle.pickle_ops.specs.declared.fault.OpFault.{OpFault}
use Rattle.pickle_ops.specs.declared.fault.OpFault.TheVariants as op_fault
use Rattle.pickle_ops.specs.Object.{Object}
use Rattle.pickle_ops.specs.Spelling.{Operation}
use Rattle.pickle_ops.specs.Row.{row_of}
use Rattle.pickle_machine.specs.declared.refusal.Refusal.{Refusal}
use Rattle.pickle_machine.specs.State.{State, stack_of, marks_of}
use Rattle.pickle_machine.specs.declared.told.Stored.{Stored}
use Rattle.pickle_machine.specs.Doing.{Doing, does}
use Rattle.pickle_session.specs.declared.reply.Fault.{Fault}
use Rattle.pickle_session.specs.declared.reply.Fault.TheVariants as fault
use Rattle.pickle_session.specs.declared.reply.Why.{Why}
use Rattle.pickle_session.specs.declared.reply.Why.TheVariants as why
use Rattle.pickle_session.specs.declared.reply.Reply.{Reply}
use Rattle.pickle_session.specs.declared.reply.Reply.TheVariants as reply
use Rattle.pickle_session.specs.Session.{Session, state_at, len_of}
use Rattle.pickle_session.specs.Allowed.{SessionState, kept_of}
use Rattle.pickle_script.specs.declared.conversation.line.Line.{Line}
use Rattle.pickle_script.specs.declared.conversation.line.Line.TheVariants as line_says
use Rattle.pickle_script.specs.declared.conversation.line.Place.TheVariants as place
use Rattle.pickle_script.specs.declared.conversation.line.Query.{Query}
use Rattle.pickle_script.specs.declared.conversation.line.Query.TheVariants as query
use Rattle.pickle_script.specs.declared.conversation.line.Syntax.{Syntax}
use Rattle.pickle_script.specs.declared.conversation.line.Syntax.TheVariants as syntax
use Rattle.pickle_script.specs.Grammar.{command_at}
use Rattle.pickle_json.specs.EndFields as ends
use Rattle.pickle_json.proofs.Readable.{ended, coded, refused, head, argument}
use Rattle.pickle_json.proofs.Readable.{fault as fault_told}
use Rattle.objects_json.specs.ObjectFields.{object_line}
use Rattle.objects_json.specs.Objects.{item_refused_fields}
use Rattle.objects_json.proofs.Readable.{object, item_refused}
use Rattle.debug_json.specs.declared.asked.Own.{Own}
use Rattle.debug_json.specs.declared.asked.Own.TheVariants as own
use Rattle.debug_json.specs.declared.asked.Asked.{Asked}
use Rattle.debug_json.specs.declared.asked.Asked.TheVariants as asking
use Rattle.debug_json.specs.declared.said.Said.{Said}
use Rattle.debug_json.specs.declared.said.Said.TheVariants as said
use Rattle.debug_json.specs.Array.{object_json, numbered, array_json, between, range_json, picked, picked_json}
use Rattle.debug_json.specs.RefusedFields.{end_fields, end_field, item_field, place_field, edit_code, edit_words, fault_code, fault_words, fault_rest, fault_fields, op_code, op_words, syntax_code, syntax_words, syntax_rest, syntax_fields, no_object_words, no_object_fields, no_item_words, no_item_fields, refused_command, refused_syntax, no_object_line, no_item_line}
use Rattle.debug_json.specs.ReplyFields.{why_fields, ran_fields, ran_line, placed_line, reply_line}
use Rattle.debug_json.specs.WhereFields.{cursor_fields, count_fields, reached_fields, where_fields, where_line}
use Rattle.debug_json.specs.ShownFields.{id_json, mark_fields, mark_json, ids_field, marks_field, stack_fields, stack_line, entry_fields, entry_value, entry_json, memo_fields, memo_line, heap_json, heap_fields, heap_line, show_line}
use Rattle.debug_json.specs.ItemsFields.{sign_fields, item_fields, item_json, items_fields, items_line}
use Rattle.debug_json.specs.OwnFields.{break_at, breaks_fields, breaks_line, some_items_fields, some_items_line, some_heap_fields, some_heap_line}
use Rattle.debug_json.specs.StepFields as step
use Rattle.debug_json.specs.StepFields.{optional_field, flag_field, marking_fields, change_fields, one_change, changed_field, stored_fields, one_entry, stored_field, doing_fields, stepped_fields, step_over, step_fields, step_line, no_step_words, no_step_fields, no_step_line}
use Rattle.debug_json.specs.declared.made.Changer.{Changer}
use Rattle.debug_json.specs.MadeFields.{changer_from, changer_fields, changer_json, place_fields, maker_fields, since_field, changers_field, made_fields, made_line}
use Rattle.debug_json.specs.Lines.{nothing_line, quit_line, said_line}
use Rattle.debug_json.specs.Says.{SaysOnly, SaysReply, SaysLine, SaysOwn, SaysBy, shown, traced, made_of}
use Rattle.debug_json.specs.Readable.{ReadsBack, AnswersReadBack}
use Rattle.debug_json.proofs.Printed.{same_state}

-- ---- objects as values, and values by their places

value : (n : ℕ) (kind : List ℕ) (fs : List Field) → list_all is_plain kind ≡ true → Deep n fs → Fits (suc n) (object_json kind fs)
unfolding object_json
value n kind fs h d = object_fits n kind fs h d

module _ {X : Type 0} where
  values_texts : (n : ℕ) (json : ℕ → X → Json) (xs : List X) → ((i : ℕ) (x : X) → Fits n (json i x)) → ItemsHaveTexts (items_of (numbered json xs))
  values_texts n json [] f = tt
  values_texts n json (x ∷ xs) f = ((f 0 x).texts, values_texts n (λ i. json (suc i)) xs (λ i y. f (suc i) y))

  values_depth : (n : ℕ) (json : ℕ → X → Json) (xs : List X) → ((i : ℕ) (x : X) → Fits n (json i x)) → items_depth (items_of (numbered json xs)) ≤ n
  values_depth n json [] f = omega arith
  values_depth n json (x ∷ xs) f = omega (arith, (f 0 x).shallow, values_depth n (λ i. json (suc i)) xs (λ i y. f (suc i) y))

  values : (n : ℕ) (json : ℕ → X → Json) (xs : List X) → ((i : ℕ) (x : X) → Fits n (json i x)) → Fits (suc n) (array_json json xs)
  unfolding array_json
  values n json xs f = record { texts = values_texts n json xs f; shallow = omega (arith, values_depth n json xs f) }

-- a line of such fields is read back
reads : (kind : List ℕ) (fs : List Field) → list_all is_plain kind ≡ true → Deep 8 fs → ReadsBack (line kind fs)
reads kind fs h d = record { kind = kind; fields = fs; is_line = refl; reads = line_reads kind fs h d }

-- ---- how a document ends, and which item is refused

ending : (e : End) → ArePlain (end_fields e)
ending end.Stopped = ended (codes "stopped") refl
ending (end.Fault f offset) = fault_told f offset None

end_deep : (e : End) → Deep 8 (end_field e)
unfolding end_field
end_deep e = deeper 1 8 _ (omega arith) (alone 1 (codes "end") _ refl (value 0 (codes "end") (end_fields e) refl (of_plain 0 _ (ending e))))

item_deep : (k : ℕ) (r : Refusal) → Deep 8 (item_field k r)
unfolding item_field
item_deep k r = deeper 1 8 _ (omega arith) (alone 1 (codes "end") _ refl (value 0 (codes "end") (item_refused_fields k r) refl (of_plain 0 _ (item_refused k r))))

placed : (k : ℕ) → ArePlain (place_field k)
unfolding place_field
placed k = number (codes "place") k refl

-- ---- refusals

edit_code_plain : (f : EditFault) → list_all is_plain (edit_code f) ≡ true
unfolding edit_code
edit_code_plain edit.NoSuchItem = refl
edit_code_plain _ = refl

edit_words_plain : (f : EditFault) → list_all is_plain (edit_words f) ≡ true
unfolding edit_words
edit_words_plain edit.NoSuchItem = refl
edit_words_plain _ = refl

fault_code_plain : (f : Fault) → list_all is_plain (fault_code f) ≡ true
unfolding fault_code
fault_code_plain fault.AtStart = refl
fault_code_plain _ = refl

fault_words_plain : (f : Fault) → list_all is_plain (fault_words f) ≡ true
unfolding fault_words
fault_words_plain fault.AtStart = refl
fault_words_plain (fault.AtEnd e) = refl
fault_words_plain (fault.Item k r) = refl
fault_words_plain fault.NoSuchPlace = refl
fault_words_plain fault.BehindCursor = refl
fault_words_plain fault.NothingToUndo = refl
fault_words_plain fault.NothingToRedo = refl
fault_words_plain (fault.EditBehindCursor k) = refl
fault_words_plain (fault.Edit f) = edit_words_plain f
fault_words_plain fault.Memory = refl

fault_about : (f : Fault) → Deep 8 (fault_rest f)
unfolding fault_rest
fault_about fault.AtStart = of_plain 8 [] tt
fault_about (fault.AtEnd e) = end_deep e
fault_about (fault.Item k r) = item_deep k r
fault_about fault.NoSuchPlace = of_plain 8 [] tt
fault_about fault.BehindCursor = of_plain 8 [] tt
fault_about fault.NothingToUndo = of_plain 8 [] tt
fault_about fault.NothingToRedo = of_plain 8 [] tt
fault_about (fault.EditBehindCursor k) = of_plain 8 _ (placed k)
fault_about (fault.Edit f) = of_plain 8 _ (text (codes "edit") (edit_code f) refl (edit_code_plain f))
fault_about fault.Memory = of_plain 8 [] tt

faulty : (f : Fault) → Deep 8 (fault_fields f)
faulty f = joined 8 _ _ (of_plain 8 _ (coded (fault_code f) (fault_words f) (fault_code_plain f) (fault_words_plain f))) (fault_about f)

op_code_plain : (f : OpFault) → list_all is_plain (op_code f) ≡ true
unfolding op_code ends.fault_code
op_code_plain (op_fault.Front at_front.Ended) = refl
op_code_plain (op_fault.Front (at_front.UnknownOpcode byte)) = refl
op_code_plain (op_fault.Front at_front.Truncated) = refl
op_code_plain (op_fault.Front at_front.NegativeLength) = refl
op_code_plain (op_fault.Front at_front.BadArgument) = refl
op_code_plain op_fault.TooLong = refl
op_code_plain op_fault.Memory = refl

op_words_plain : (f : OpFault) → list_all is_plain (op_words f) ≡ true
unfolding op_words ends.fault_words
op_words_plain (op_fault.Front at_front.Ended) = refl
op_words_plain (op_fault.Front (at_front.UnknownOpcode byte)) = refl
op_words_plain (op_fault.Front at_front.Truncated) = refl
op_words_plain (op_fault.Front at_front.NegativeLength) = refl
op_words_plain (op_fault.Front at_front.BadArgument) = refl
op_words_plain op_fault.TooLong = refl
op_words_plain op_fault.Memory = refl

syntax_code_plain : (f : Syntax) → list_all is_plain (syntax_code f) ≡ true
unfolding syntax_code
syntax_code_plain syntax.UnknownWord = refl
syntax_code_plain _ = refl

syntax_words_plain : (f : Syntax) → list_all is_plain (syntax_words f) ≡ true
unfolding syntax_words
syntax_words_plain syntax.UnknownWord = refl
syntax_words_plain syntax.MissingWord = refl
syntax_words_plain syntax.BadNumber = refl
syntax_words_plain syntax.UnknownOpcodeName = refl
syntax_words_plain syntax.BadHex = refl
syntax_words_plain syntax.ExtraWord = refl
syntax_words_plain syntax.LineTooLong = refl
syntax_words_plain (syntax.BadOp f) = op_words_plain f
syntax_words_plain syntax.Memory = refl

syntax_about : (f : Syntax) → ArePlain (syntax_rest f)
unfolding syntax_rest
syntax_about syntax.UnknownWord = tt
syntax_about syntax.MissingWord = tt
syntax_about syntax.BadNumber = tt
syntax_about syntax.UnknownOpcodeName = tt
syntax_about syntax.BadHex = tt
syntax_about syntax.ExtraWord = tt
syntax_about syntax.LineTooLong = tt
syntax_about (syntax.BadOp f) = text (codes "fault") (op_code f) refl (op_code_plain f)
syntax_about syntax.Memory = tt

no_words : (f : Syntax) → ArePlain (syntax_fields f)
no_words f = both _ _ (coded (syntax_code f) (syntax_words f) (syntax_code_plain f) (syntax_words_plain f)) (syntax_about f)

no_object : (n : ℕ) → ArePlain (no_object_fields n)
unfolding no_object_fields no_object_words
no_object n = both _ _ (coded (codes "V1") _ refl refl) (number (codes "object") n refl)

no_item : (offset : ℕ) → ArePlain (no_item_fields offset)
unfolding no_item_fields no_item_words
no_item offset = both _ _ (coded (codes "V2") _ refl refl) (number (codes "offset") offset refl)

-- ---- replies

stopped_why : (e : End) (w : Why) → ArePlain (why_fields e w)
stopped_why e why.End = ending e
stopped_why e why.Breakpoint = ended (codes "breakpoint") refl
stopped_why e (why.Refused r) = refused r None

replies : (e : End) (r : Reply) → ReadsBack (reply_line e r)
unfolding reply_line ran_line placed_line refused_command
replies e (reply.At k) = reads (codes "at") (place_field k) refl (of_plain 8 _ (placed k))
replies e (reply.Ran k w) = reads (codes "ran") (ran_fields e k w) refl (of_plain 8 _ (both _ _ (placed k) (stopped_why e w)))
replies e (reply.Broke k) = reads (codes "broke") (place_field k) refl (of_plain 8 _ (placed k))
replies e (reply.Cleared k) = reads (codes "cleared") (place_field k) refl (of_plain 8 _ (placed k))
replies e (reply.Edited k) = reads (codes "edited") (place_field k) refl (of_plain 8 _ (placed k))
replies e (reply.Undone k) = reads (codes "undone") (place_field k) refl (of_plain 8 _ (placed k))
replies e (reply.Redone k) = reads (codes "redone") (place_field k) refl (of_plain 8 _ (placed k))
replies e (reply.Refused f) = reads (codes "refused") (fault_fields f) refl (faulty f)

-- ---- where a session is

at_cursor : (k n offset : ℕ) → ArePlain (cursor_fields k n offset)
unfolding cursor_fields
at_cursor k n offset = both _ _ (both _ _ (placed k) (number (codes "length") n refl)) (number (codes "offset") offset refl)

counts : (t : State) → ArePlain (count_fields t)
unfolding count_fields
counts t =
    both _ _ (both _ _ (both _ _ (number (codes "objects") _ refl) (number (codes "stack_size") _ refl)) (number (codes "marks") _ refl)) (number (codes "memo_size") _ refl)

results : (ids : List ℕ) → Fits 8 (numbers_json ids)
results ids = wider 1 8 _ (omega arith) (numbers_fit ids)

reached : (t : State) → Deep 8 (reached_fields t)
unfolding reached_fields
reached t = joined 8 _ _ (of_plain 8 _ (number (codes "buffers") t.buffers refl)) (alone 8 (codes "results") (numbers_json t.results) refl (results t.results))

where_is : (s : Session) (t : State) → ReadsBack (where_line s t)
unfolding where_line
where_is s t =
    reads (codes "where") (where_fields s t) refl
    (joined 8 _ _ (joined 8 _ _ (joined 8 _ _ (of_plain 8 _ (at_cursor _ _ _)) (of_plain 8 _ (counts t))) (reached t)) (end_deep (end_of s.document)))

-- ---- what is shown of a machine

id_fits : (i id : ℕ) → Fits 0 (id_json i id)
unfolding id_json
id_fits i id = number_fits id

mark_fits : (i : ℕ) (m : ℕ × ℕ) → Fits 1 (mark_json i m)
unfolding mark_json mark_fields
mark_fits i m = value 0 (codes "mark") _ refl (of_plain 0 _ (both _ _ (number (codes "item") m.0 refl) (number (codes "below") m.1 refl)))

entry_fits : (i : ℕ) (e : ℕ × ℕ) → Fits 1 (entry_json i e)
unfolding entry_value entry_fields
entry_fits i e = value 0 (codes "entry") _ refl (of_plain 0 _ (both _ _ (number (codes "memo") e.0 refl) (number (codes "object") e.1 refl)))

heap_fits : (id : ℕ) (o : Object) → Fits 3 (heap_json id o)
unfolding heap_json
heap_fits id o = value 2 (codes "object") _ refl (object id o)

stack_is : (t : State) → ReadsBack (stack_line t)
unfolding stack_line ids_field marks_field
stack_is t =
    reads (codes "stack") (stack_fields t) refl
    (joined 8 _ _ (deeper 1 8 _ (omega arith) (alone 1 (codes "stack") _ refl (values 0 id_json (stack_of t) id_fits)))
    (deeper 2 8 _ (omega arith) (alone 2 (codes "marks") _ refl (values 1 mark_json (marks_of t.marked) mark_fits))))

memo_is : (entries : List (ℕ × ℕ)) → ReadsBack (memo_line entries)
unfolding memo_line memo_fields
memo_is entries =
    reads (codes "memo") _ refl (deeper 2 8 _ (omega arith) (alone 2 (codes "entries") _ refl (values 1 entry_json entries entry_fits)))

heap_is : (heap : List Object) → ReadsBack (heap_line heap)
unfolding heap_line heap_fields
heap_is heap =
    reads (codes "objects") _ refl (deeper 4 8 _ (omega arith) (alone 4 (codes "objects") _ refl (values 3 heap_json heap heap_fits)))

one_line : (id : ℕ) (o : Object) → ReadsBack (object_line id o)
unfolding object_line
one_line id o = reads (codes "object") _ refl (deeper 2 8 _ (omega arith) (object id o))

there : (heap : List Object) (n : ℕ) → n < length heap → (o : Object) × (slice_get heap n ≡ Some o)
there [] n h = absurd (omega (arith, h))
there (o ∷ heap) zero h = (o, refl)
there (o ∷ heap) (suc n) h = there heap n (omega (arith, h))

show_is : (heap : List Object) (n : ℕ) → n < length heap → ReadsBack (show_line heap n)
unfolding show_line
show_is heap n h = let x = there heap n h in rw x.1 (one_line n x.0)

-- ---- items

signs : (at breaks : Bool) → ArePlain (sign_fields at breaks)
unfolding sign_fields
signs at breaks = both _ _ (truth (codes "cursor") at refl) (truth (codes "breakpoint") breaks refl)

item_fits : (s : Session) (k : ℕ) (o : Operation) → Fits 1 (item_json s k o)
unfolding item_json
item_fits s k o =
    value 0 (codes "opcode") (item_fields s k o) refl
    (of_plain 0 _ (both _ _ (both _ _ (both _ _ (placed k) (head o (offset_of s.document k))) (argument o)) (signs _ _)))

items_is : (s : Session) → ReadsBack (items_line s)
unfolding items_line items_fields
items_is s =
    reads (codes "items") _ refl (deeper 2 8 _ (omega arith) (alone 2 (codes "items") _ refl (values 1 (item_json s) (ops_of s.document) (item_fits s))))

-- ---- what is told in JSON alone

found_values : {X : Type 0} (n : ℕ) (json : X → Json) (find : ℕ → Option X) (k : ℕ) → ((x : X) → Fits n (json x)) → Fits (suc n) (picked_json json find k)
unfolding picked_json
found_values n json find k f = mapped n json (picked find k) f

breaks_is : (s : Session) → ReadsBack (breaks_line s)
unfolding breaks_line breaks_fields
breaks_is s =
    reads (codes "breaks") _ refl (deeper 1 8 _ (omega arith) (alone 1 (codes "places") _ refl (found_values 0 whole (break_at s) (len_of s.document) number_fits)))

range : {X : Type 0} (n : ℕ) (json : ℕ → X → Json) (a b : ℕ) (xs : List X) → ((i : ℕ) (x : X) → Fits n (json i x)) → Fits (suc n) (range_json json a b xs)
unfolding range_json
range n json a b xs f = values n (λ (i : ℕ). json (a + i)) (between a b xs) (λ i x. f (a + i) x)

some_items_is : (s : Session) (a b : ℕ) → ReadsBack (some_items_line s a b)
unfolding some_items_line some_items_fields
some_items_is s a b =
    reads (codes "items") _ refl (deeper 2 8 _ (omega arith) (alone 2 (codes "items") _ refl (range 1 (item_json s) a b (ops_of s.document) (item_fits s))))

some_heap_is : (heap : List Object) (a b : ℕ) → ReadsBack (some_heap_line heap a b)
unfolding some_heap_line some_heap_fields
some_heap_is heap a b =
    reads (codes "objects") _ refl (deeper 4 8 _ (omega arith) (alone 4 (codes "objects") _ refl (range 3 heap_json a b heap heap_fits)))

-- ---- what a step did

optional : (name : List ℕ) (found : Option ℕ) → list_all is_plain name ≡ true → ArePlain (optional_field name found)
unfolding optional_field
optional name None h = tt
optional name (Some n) h = number name n h

flag : (name : List ℕ) (is_so : Bool) → list_all is_plain name ≡ true → ArePlain (flag_field name is_so)
unfolding flag_field
flag name true h = truth name true h
flag name false h = tt

objects_told : (x : Doing) → Deep 8 (step.object_fields x)
unfolding step.object_fields
objects_told x =
    joined 8 _ _ (of_plain 8 _ (both _ _ (both _ _ (flag (codes "begins") x.begins refl) (optional (codes "made") x.made refl)) (optional (codes "pushed") x.pushed refl)))
    (alone 8 (codes "took") (numbers_json x.took) refl (results x.took))

marks_told : (x : Doing) → Deep 8 (marking_fields x)
unfolding marking_fields
marks_told x = of_plain 8 _ (both _ _ (optional (codes "cut_mark") x.cut refl) (flag (codes "set_mark") x.marked refl))

change_told : (c : ℕ × ℕ) → Deep 8 (one_change c)
unfolding one_change change_fields
change_told c =
    deeper 1 8 _ (omega arith) (alone 1 (codes "changed") _ refl (value 0 (codes "change") _ refl (of_plain 0 _ (both _ _ (number (codes "object") c.0 refl) (number (codes "changes") c.1 refl)))))

change_when : (b : Bool) (c : ℕ × ℕ) → Deep 8 (if b then one_change c else [])
change_when true c = change_told c
change_when false c = of_plain 8 [] tt

changed_told : (found : Option (ℕ × ℕ)) → Deep 8 (changed_field found)
unfolding changed_field
changed_told None = of_plain 8 [] tt
changed_told (Some c) = change_when (nat_lt 0 c.1) c

entry_told : (e : Stored) → Deep 8 (one_entry e)
unfolding one_entry stored_fields
entry_told e =
    deeper 1 8 _ (omega arith) (alone 1 (codes "memo") _ refl (value 0 (codes "entry") _ refl
    (of_plain 0 _ (both _ _ (both _ _ (number (codes "memo") e.key refl) (number (codes "object") e.object refl)) (optional (codes "before") e.before refl)))))

stored_told : (found : Option Stored) → Deep 8 (stored_field found)
unfolding stored_field
stored_told None = of_plain 8 [] tt
stored_told (Some e) = entry_told e

doing_told : (x : Doing) → Deep 8 (doing_fields x)
doing_told x = joined 8 _ _ (joined 8 _ _ (joined 8 _ _ (objects_told x) (marks_told x)) (changed_told x.changed)) (stored_told x.stored)

stepped : (s : Session) (t : State) (k : ℕ) (o : Operation) (x : Doing) → Deep 8 (stepped_fields s t k o x)
stepped s t k o x =
    joined 8 _ _ (joined 8 _ _ (of_plain 8 _ (both _ _ (both _ _ (placed k) (head o (offset_of s.document k))) (argument o))) (doing_told x)) (reached t)

step_by : (s : Session) (t : State) (o : Option Operation) (before : Option State) → Deep 8 (step_over s t o before)
step_by s t (Some o) (Some before) = stepped s t (s.cursor - 1) o (does (row_of o) before)
step_by s t (Some o) None = of_plain 8 [] tt
step_by s t None before = of_plain 8 [] tt

step_is : (s : Session) (t : State) → ReadsBack (step_line s t)
unfolding step_line step_fields
step_is s t = reads (codes "step") _ refl (step_by s t _ _)

no_step : ReadsBack no_step_line
unfolding no_step_line no_step_fields no_step_words
no_step = reads (codes "refused") _ refl (of_plain 8 _ (coded (codes "V3") _ refl refl))

-- ---- who made an object

changer_fits : (c : Changer) → Fits 1 (changer_json c)
unfolding changer_json changer_fields
changer_fits c =
    value 0 (codes "changer") _ refl
    (of_plain 0 _ (both _ _ (both _ _ (number (codes "item") c.item refl) (number (codes "offset") c.offset refl)) (number (codes "changes") c.changes refl)))

maker_told : (d : Contents) (found : Option ℕ) → ArePlain (maker_fields d found)
unfolding maker_fields place_fields
maker_told d None = tt
maker_told d (Some k) = both _ _ (number (codes "item") k refl) (number (codes "offset") (offset_of d k) refl)

since_when : (b : Bool) (first : ℕ) → ArePlain (if b then field (codes "since") (whole first) else [])
since_when true first = number (codes "since") first refl
since_when false first = tt

since_told : (first : ℕ) → ArePlain (since_field first)
unfolding since_field
since_told first = since_when (nat_lt 0 first) first

changers_told : (d : Contents) (first n cursor : ℕ) → Deep 8 (changers_field d first n cursor)
unfolding changers_field
changers_told d first n cursor =
    deeper 2 8 _ (omega arith) (alone 2 (codes "changed") _ refl (found_values 1 changer_json (changer_from d first n) (cursor - first) changer_fits))

made_told : (s : Session) (n first : ℕ) → Deep 8 (made_fields s n first)
unfolding made_fields
made_told s n first =
    joined 8 _ _ (of_plain 8 _ (both _ _ (both _ _ (number (codes "object") n refl) (maker_told s.document _)) (since_told first))) (changers_told s.document first n s.cursor)

made_is : (s : Session) (n first : ℕ) → ReadsBack (made_line s n first)
unfolding made_line
made_is s n first = reads (codes "made") _ refl (made_told s n first)

-- ---- answers

-- an object that is shown is there
abbrev IsThere : Said → State → Type 0
IsThere (said.Shown (query.Show n)) t = n < length t.heap
IsThere _ t = ⊤

bare : (kind : List ℕ) → list_all is_plain kind ≡ true → ReadsBack (line kind [])
bare kind h = reads kind [] h (of_plain 8 [] tt)

said_reads : (what : Said) (s : Session) (t : State) → IsThere what t → ReadsBack (said_line what s t)
unfolding nothing_line quit_line refused_syntax no_object_line no_item_line
said_reads said.Nothing s t h = bare (codes "nothing") refl
said_reads said.Quit s t h = bare (codes "quit") refl
said_reads (said.Replied r) s t h = replies (end_of s.document) r
said_reads (said.NoItem offset) s t h = reads (codes "refused") _ refl (of_plain 8 _ (no_item offset))
said_reads (said.NoObject n) s t h = reads (codes "refused") _ refl (of_plain 8 _ (no_object n))
said_reads (said.Bad f) s t h = reads (codes "refused") _ refl (of_plain 8 _ (no_words f))
said_reads (said.Shown query.Items) s t h = items_is s
said_reads (said.Shown query.Objects) s t h = heap_is t.heap
said_reads (said.Shown query.Stack) s t h = stack_is t
said_reads (said.Shown query.Memo) s t h = memo_is t.memo
said_reads (said.Shown (query.Show n)) s t h = show_is t.heap n h
said_reads (said.Shown query.Where) s t h = where_is s t
said_reads said.Breaks s t h = breaks_is s
said_reads (said.SomeItems a b) s t h = some_items_is s a b
said_reads (said.SomeObjects a b) s t h = some_heap_is t.heap a b
said_reads said.Step s t h = step_is s t
said_reads said.NoStep s t h = no_step
said_reads (said.Made n first) s t h = made_is s n first

by_number : (b : Bool) (n : ℕ) (t : State) → nat_lt n (length t.heap) ≡ b → IsThere (if b then said.Shown (query.Show n) else said.NoObject n) t
by_number true n t e = ltb-true n (length t.heap) e
by_number false n t e = tt

shown_there : (asked : Query) (t : State) → IsThere (shown asked t) t
shown_there query.Items t = tt
shown_there query.Objects t = tt
shown_there query.Stack t = tt
shown_there query.Memo t = tt
shown_there (query.Show n) t = by_number (nat_lt n (length t.heap)) n t refl
shown_there query.Where t = tt

is_there : (is what : Said) (t : State) → what ≡ is → IsThere is t → IsThere what t
is_there is what t e h = rw e h

asked_there : (asked : Query) (t : State) (what : Said) → what ≡ shown asked t → IsThere what t
asked_there asked t what e = is_there (shown asked t) what t e (shown_there asked t)

there_line : (l : Line) (p q : SessionState) (t : State) (what : Said) → state_at q.session.document q.session.cursor ≡ Some t → SaysLine l p what q → IsThere what t
there_line line_says.Nothing p q t what r w = is_there said.Nothing what t w.said_is tt
there_line (line_says.Command c) p q t what r w = is_there (said.Replied w.answer) what t w.said_is tt
there_line (line_says.At (place.Number k) a) p q t what r w = is_there (said.Replied w.answer) what t w.said_is tt
there_line (line_says.At (place.Offset offset) a) p q t what r w = go w.found w.says
  where
    go : (found : Option ℕ) → MatchOption found (SaysOnly p (said.NoItem offset) what q) (λ k. SaysReply (command_at a k) p what q) → IsThere what t
    go None x = is_there (said.NoItem offset) what t x.said_is tt
    go (Some k) x = is_there (said.Replied x.answer) what t x.said_is tt
there_line (line_says.Query asked) p q t what r w = asked_there asked t what (rw (same_state asked p q t what r w) at w.is_shown)
there_line line_says.Quit p q t what r w = is_there said.Quit what t w.said_is tt

trace_there : (b : Bool) (t : State) → IsThere (if b then said.Step else said.NoStep) t
trace_there true t = tt
trace_there false t = tt

made_there : (b : Bool) (n first : ℕ) (t : State) → IsThere (if b then said.Made n first else said.NoObject n) t
made_there true n first t = tt
made_there false n first t = tt

there_own : (o : Own) (p q : SessionState) (t : State) (what : Said) → SaysOwn o p what q → IsThere what t
there_own own.Breaks p q t what w = is_there said.Breaks what t w.said_is tt
there_own (own.Items a b) p q t what w = is_there (said.SomeItems a b) what t w.said_is tt
there_own (own.Objects a b) p q t what w = is_there (said.SomeObjects a b) what t w.said_is tt
there_own own.Trace p q t what w = is_there (traced p) what t w.said_is (trace_there (nat_lt 0 (kept_of p)) t)
there_own (own.Made n) p q t what w =
    is_there (made_of n p w.state) what t w.is_made (made_there (nat_lt n (length w.state.heap)) n (p.session.cursor - kept_of p) t)

there_by : (says : Result Asked Syntax) (p q : SessionState) (t : State) (what : Said) → state_at q.session.document q.session.cursor ≡ Some t
    → SaysBy says p what q → IsThere what t
there_by (Ok (asking.Line l)) p q t what r w = there_line l p q t what r w
there_by (Ok (asking.Own o)) p q t what r w = there_own o p q t what w
there_by (Err f) p q t what r w = is_there (said.Bad f) what t w.said_is tt

pub answers_read_back : AnswersReadBack
answers_read_back p q bytes a w = said_reads a.said a.session a.state (there_by w.says p q a.state a.said w.reached w.said_by)
