-- An item that loaders take, and a step of it.
use Rattle.std.proofs.Common.{◌≡◌, ◌<◌, ℕ, ◌+◌, ◌-◌, Bool, true, false, List, [], ◌∷◌, ◌++◌, length, take, drop, Option, Some, None, Ok, Err, refl, sym, ap, subst, ◌∙◌, arith}
use Rattle.std.specs.Prelude.{◌==◌, ◌&&◌, nat_le, position, is_some, if◌then◌else◌, Result}
use Rattle.std.specs.Option.{option_map}
use Rattle.std.specs.Ordering.{nat_cmp}
use Rattle.std.specs.BTreeMap.{insert_entry}
use Rattle.pickle_ops.specs.declared.fault.FrontFault.{FrontFault}
use Rattle.pickle_ops.specs.declared.fault.FrontFault.TheVariants as fault
use Rattle.pickle_ops.specs.declared.opcode.Opcode.{Opcode}
use Rattle.pickle_ops.specs.declared.opcode.Opcode.TheVariants as op
use Rattle.pickle_ops.specs.declared.kind.Kind.TheVariants as kind
use Rattle.pickle_ops.specs.declared.row.Row.{Row}
use Rattle.pickle_ops.specs.declared.row.Row.TheVariants as row
use Rattle.pickle_ops.specs.Shape.{is_newline}
use Rattle.pickle_ops.specs.Spelling.{Operation, Front, Whole, front_fault}
use Rattle.pickle_ops.specs.Front.{front_of}
use Rattle.pickle_ops.specs.Row.{row_of, kind_of}
use Rattle.pickle_doc.specs.DocUnit.{frame_op, is_stop, is_frame, frame_number}
use Rattle.pickle_machine.specs.declared.refusal.Refusal.{Refusal}
use Rattle.pickle_machine.specs.declared.refusal.Refusal.TheVariants as refusal
use Rattle.pickle_machine.specs.State.{State}
use Rattle.pickle_machine.specs.Move.{unless, memo_at, refusal_of, next_of, fresh, outcome}
use Rattle.pickle_machine.specs.Loader.{loader_move}
use Rattle.pickle_machine.specs.declared.loader.LoaderMove.{LoaderMove}
use Rattle.pickle_machine.specs.LoaderLaws.{one_move}
use Rattle.pickle_lenient.specs.declared.taken.Frames.{Frames}
use Rattle.pickle_lenient.specs.declared.taken.Frames.TheVariants as frames
use Rattle.pickle_lenient.specs.declared.taken.Taken.{Taken}
use Rattle.pickle_lenient.specs.Key.{key_of}
use Rattle.pickle_lenient.specs.Lenient.{Lenient, mended, tells_line, sized, keyed_by, odd_to, odd_so, odd, taken_so, mended_so, cut_line, cut, faulty, lenient_at, lenient}
use Rattle.pickle_lenient.specs.Stream.{first_read, joined, ends_in, refilled, framed, settled, taken_as, plain, within, across, buffered, taken}
use Rattle.pickle_further.specs.Going.{used_op, then_as, moved_so}
use Rattle.pickle_loader.specs.Environment.{Value, Method, Unpickler, World}
use Rattle.pickle_loader.specs.Unpickler.{Step, Raised, load_get, load_put, tell}
use Rattle.pickle_loader.specs.Dispatch.{dispatch}
use Rattle.pickle_loader.specs.Listed.{listed_of, protocol_after}
use Rattle.pickle_loader.specs.Laws.{entries, IsSame}
use Rattle.pickle_loader.specs.Whole.{IsWhole}
use Rattle.pickle_loader.specs.Beyond.{HasValue, is_missing, RaisesAt, Comes}
use Rattle.pickle_loader.specs.Onward.{load_keyed, dispatch_as, load_taken}
use Rattle.pickle_loader.proofs.Cuts.{drop_none, take_none}
use Rattle.pickle_loader.proofs.Methods.{Here, unpickler, fresh_acts, RowGood, raised_good, memo_get_good, put_good}
use Rattle.pickle_loader.proofs.Still.{fresh_same}
use Rattle.pickle_loader.proofs.Beyond.{same_image, follows_by}
use Rattle.pickle_loader.proofs.Missing.{get_misses, top_misses, never_none}
use Rattle.pickle_loader.proofs.Wholes.{whole_next, no_view_kind}
use Rattle.pickle_loader.proofs.Steps.{a_step_beyond}

-- ---- what is taken

-- the row is that of the operation; or the operation is a FRAME, and the row that of a key
pub data IsItem (o : Operation) (r : Row) : Type 0 where
  Itself : r ≡ row_of o → HasValue o → IsItem o r
  Gets : (key : ℕ) → o ≡ frame_op 0 → r ≡ row.Get key → IsItem o r
  Puts : (key : ℕ) → o ≡ frame_op 0 → r ≡ row.Put key → IsItem o r

-- of what a reading answers; and it takes a byte at least
abbrev AreLenient : Result Lenient FrontFault → Type 0
AreLenient x = (l : Lenient) → x ≡ Ok l → IsItem l.op l.row × (0 < l.size)

abbrev AreItems : Result Taken FrontFault → Type 0
AreItems x = (t : Taken) → x ≡ Ok t → IsItem t.op t.row × (0 < t.size)

ok_same : {A : Type 0} (a b : A) (x : Result A FrontFault) → x ≡ Ok a → x ≡ Ok b → a ≡ b
ok_same a b (Ok x) e f = let one : x ≡ a = cc in let two : x ≡ b = cc in sym one ∙ two
ok_same a b (Err g) e f = absurd cc

ok_lenient : (l : Lenient) → IsItem l.op l.row → 0 < l.size → AreLenient (Ok l)
ok_lenient l is some k e = subst (λ (x : Lenient). IsItem x.op x.row × (0 < x.size)) (ok_same l k (Ok l) refl e) (is, some)

err_lenient : (f : FrontFault) → AreLenient (Err f)
err_lenient f l e = absurd cc

taken_lenient : (size : ℕ) (f : Front) → front_fault f ≡ None → 0 < size → AreLenient (taken_so size f)
taken_lenient size (Whole o arg rest) good some = ok_lenient _ (Itself refl good) some
taken_lenient size _ good some = err_lenient fault.Truncated

keyed_lenient : (code key size : ℕ) (a b : Bool) → 0 < size → (code == 103) ≡ a → (code == 112) ≡ b → AreLenient (odd_so (option_map (sized size) (if a then Some (row.Get key) else (if b then Some (row.Put key) else None))))
keyed_lenient code key size true b some e f = ok_lenient _ (Gets key refl refl) some
keyed_lenient code key size false true some e f = ok_lenient _ (Puts key refl refl) some
keyed_lenient code key size false false some e f = err_lenient fault.BadArgument

by_lenient : (code size : ℕ) (x : Option ℕ) → 0 < size → AreLenient (odd_so (keyed_by code size x))
by_lenient code size None some = err_lenient fault.BadArgument
by_lenient code size (Some key) some = keyed_lenient code key size (code == 103) (code == 112) some refl refl

to_lenient : (code : ℕ) (rest : List ℕ) (x : Option ℕ) → AreLenient (odd_so (odd_to code rest x))
to_lenient code rest None = err_lenient fault.BadArgument
to_lenient code rest (Some end) = by_lenient code (end + 2) (key_of (take end rest)) (omega arith)

odd_lenient : (bytes : List ℕ) → AreLenient (odd bytes)
odd_lenient [] = err_lenient fault.BadArgument
odd_lenient (code ∷ rest) = to_lenient code rest (position is_newline rest)

mended_lenient : (size : ℕ) (f : Front) (x : Option FrontFault) → front_fault f ≡ x → 0 < size → AreLenient (mended_so size f x)
mended_lenient size f None good some = taken_lenient size f good some
mended_lenient size f (Some g) good some = err_lenient fault.Truncated

line_lenient : (b : Bool) (bytes : List ℕ) → 0 < length bytes → AreLenient (if b then cut_line bytes else Err fault.Truncated)
line_lenient true bytes some = mended_lenient (length bytes) (front_of (mended bytes)) (front_fault (front_of (mended bytes))) refl some
line_lenient false bytes some = err_lenient fault.Truncated

cut_lenient : (bytes : List ℕ) → AreLenient (cut bytes)
cut_lenient [] = err_lenient fault.Truncated
cut_lenient (code ∷ rest) = line_lenient (tells_line code) (code ∷ rest) (omega arith)

faulty_lenient : (bytes : List ℕ) (f : FrontFault) → AreLenient (faulty bytes f)
faulty_lenient bytes fault.BadArgument = odd_lenient bytes
faulty_lenient bytes fault.Truncated = cut_lenient bytes
faulty_lenient bytes f = err_lenient f

at_lenient : (bytes : List ℕ) (f : Front) (x : Option FrontFault) → front_fault f ≡ x → AreLenient (lenient_at bytes f x)
at_lenient bytes (Whole o arg rest) None good = ok_lenient _ (Itself refl good) (omega arith)
at_lenient bytes _ None good = err_lenient fault.Truncated
at_lenient bytes f (Some g) good = faulty_lenient bytes g

all_lenient : (bytes : List ℕ) → AreLenient (lenient bytes)
unfolding lenient
all_lenient bytes = at_lenient bytes (front_of bytes) (front_fault (front_of bytes)) refl

ok_item : (t : Taken) → IsItem t.op t.row × (0 < t.size) → AreItems (Ok t)
ok_item t is k e = subst (λ (x : Taken). IsItem x.op x.row × (0 < x.size)) (ok_same t k (Ok t) refl e) is

taken_some : (gap : ℕ) (l : Lenient) → IsItem l.op l.row × (0 < l.size) → IsItem l.op l.row × (0 < l.size + gap)
taken_some gap l is = (is.0, omega (arith, is.1))

ok_taken : (gap left : ℕ) (l : Lenient) → IsItem l.op l.row × (0 < l.size) → AreItems (Ok (taken_as gap left l))
ok_taken gap left l is = ok_item (taken_as gap left l) (taken_some gap l is)

-- what an opcode does to the buffer leaves the item
abbrev IsGood : Taken → Type 0
IsGood t = IsItem t.op t.row × (0 < t.size)

good_refilled : (n : ℕ) (t : Taken) → IsGood t → IsGood (refilled n t)
good_refilled n t is = (is.0, omega (arith, is.1))

good_framed : (b c : Bool) (t : Taken) (n m : ℕ) → IsGood t → IsGood (if b then t else (if c then refilled n t else refilled m t))
good_framed true c t n m is = is
good_framed false true t n m is = good_refilled n t is
good_framed false false t n m is = good_refilled m t is

good_settled : (b c : Bool) (bytes : List ℕ) (t : Taken) → IsGood t → IsGood (if b then refilled 0 t else (if c then framed bytes t (frame_number t.op) else t))
good_settled true c bytes t is = good_refilled 0 t is
good_settled false true bytes t is =
    good_framed (nat_le (frame_number t.op) t.left) (nat_le (frame_number t.op) (length bytes - (t.size + t.left))) t (frame_number t.op) (length bytes - (t.size + t.left)) is
good_settled false false bytes t is = is

plain_items : (x : Result Lenient FrontFault) → AreLenient x → AreItems (plain x)
plain_items (Ok l) all = ok_taken 0 0 l (all l refl)
plain_items (Err f) all = λ t e. absurd cc

within_items : (ends : Bool) (bytes : List ℕ) (size : ℕ) (x : Result Lenient FrontFault) → AreLenient x → AreItems (within ends bytes size x)
within_items ends bytes size (Ok l) all = let t : Taken = taken_as 0 (size - l.size) l in ok_item (settled ends bytes t) (good_settled (ends && is_stop t.op.opcode) (is_frame t.op.opcode) bytes t (taken_some 0 l (all l refl)))
within_items ends bytes size (Err f) all = λ t e. absurd cc

across_items : (ends : Bool) (bytes : List ℕ) (gap : ℕ) (x : Result Lenient FrontFault) → AreLenient x → AreItems (across ends bytes gap x)
across_items ends bytes gap (Ok l) all = let t : Taken = taken_as gap 0 l in ok_item (settled ends bytes t) (good_settled (ends && is_stop t.op.opcode) (is_frame t.op.opcode) bytes t (taken_some gap l (all l refl)))
across_items ends bytes gap (Err f) all = λ t e. absurd cc

buffered_items : (b ends : Bool) (left : ℕ) (bytes : List ℕ)
    → AreItems (if b then within ends bytes (length (take left bytes)) (lenient (take left bytes)) else across ends bytes (length (take left bytes) - first_read (take left bytes)) (lenient (joined left bytes)))
buffered_items true ends left bytes = within_items ends bytes (length (take left bytes)) (lenient (take left bytes)) (all_lenient (take left bytes))
buffered_items false ends left bytes = across_items ends bytes (length (take left bytes) - first_read (take left bytes)) (lenient (joined left bytes)) (all_lenient (joined left bytes))

all_items : (f : Frames) (left : ℕ) (bytes : List ℕ) → AreItems (taken f left bytes)
unfolding taken
all_items frames.Ignored left bytes = plain_items (lenient bytes) (all_lenient bytes)
all_items frames.Buffered left bytes = buffered_items (ends_in (front_of (take left bytes))) true left bytes
all_items frames.Held left bytes = buffered_items (ends_in (front_of (take left bytes))) false left bytes

pub are_items : (f : Frames) (left : ℕ) (bytes : List ℕ) (t : Taken) → taken f left bytes ≡ Ok t → IsItem t.op t.row
are_items f left bytes t e = (all_items f left bytes t e).0

pub take_some : (f : Frames) (left : ℕ) (bytes : List ℕ) (t : Taken) → taken f left bytes ≡ Ok t → 0 < t.size
take_some f left bytes t e = (all_items f left bytes t e).1

-- ---- of no bytes nothing is

no_lenient : lenient [] ≡ Err fault.Ended
unfolding lenient
no_lenient = refl

none_buffered : (ends : Bool) (left : ℕ) → buffered ends left [] ≡ Err fault.Ended
none_buffered ends left =
    ap (λ (l : List ℕ). if ends_in (front_of l) then within ends [] (length l) (lenient l) else across ends [] (length l - first_read l) (lenient (take (first_read l) l ++ drop left []))) (take_none left)
    ∙ ap (λ (l : List ℕ). across ends [] 0 (lenient l)) (drop_none left)
    ∙ ap (across ends [] 0) no_lenient

pub none_taken : (f : Frames) (left : ℕ) → taken f left [] ≡ Err fault.Ended
unfolding taken
none_taken frames.Ignored left = ap plain no_lenient
none_taken frames.Buffered left = none_buffered true left
none_taken frames.Held left = none_buffered false left

-- ---- a key that only int() reads

then_one : (r : Row) (o : Operation) (place : ℕ) (x : Result State Refusal) → then_as (one_move r) o place x ≡ x
then_one r o place (Ok t) = refl
then_one r o place (Err e) = refl

-- a method that is right for a row, and raises where that is refused
pub record IsRight (h : Here) (r : Row) (o : Operation) (step : Step) : Type 0 where
  pub good : RowGood h r (kind_of o) h.proto step
  pub raises : (e : Refusal) → refusal_of r h.s ≡ Some e → step ≡ Raised h.acts

row_comes : (h : Here) (r : Row) (o : Operation) (step : Step) (x : Option Refusal) → refusal_of r h.s ≡ x → IsWhole h.s → IsRight h r o step
    → Comes h.w h.V h.s (unpickler h) (one_move r) h.proto step (outcome x (next_of r (kind_of o) h.place h.s))
row_comes h r o step None is whole right =
    let t : State = next_of r (kind_of o) h.place h.s in
    (whole_next r (kind_of o) h.place h.s whole (no_view_kind o.opcode o.arg) is, λ maps. follows_by h.w h.V h.s t h.acts (fresh_acts h r t) h.proto step maps (right.good is))
row_comes h r o step (Some e) is whole right = subst (λ (y : Step). RaisesAt (listed_of h.acts) y) (sym (right.raises e is)) refl

one_comes : (h : Here) (r : Row) (o : Operation) (step : Step) → h.s.stopped ≡ false → IsWhole h.s → IsRight h r o step → Comes h.w h.V h.s (unpickler h) (one_move r) h.proto step (moved_so (one_move r) o h.place h.s)
one_comes h r o step running whole right =
    let same : moved_so (one_move r) o h.place h.s ≡ outcome (refusal_of r h.s) (next_of r (kind_of o) h.place h.s) =
    then_one r o h.place (outcome (refusal_of r (fresh h.s)) (next_of r (kind_of o) h.place (fresh h.s)))
    ∙ ap (λ (f : State). outcome (refusal_of r f) (next_of r (kind_of o) h.place f)) (fresh_same h.s running) in
    subst (λ (x : Result State Refusal). Comes h.w h.V h.s (unpickler h) (one_move r) h.proto step x) (sym same) (row_comes h r o step (refusal_of r h.s) refl whole right)

-- it may raise before it does anything
right_or : (h : Here) (r : Row) (o : Operation) (b : Bool) (step : Step) → IsRight h r o step → IsRight h r o (if b then Raised h.acts else step)
right_or h r o true step right = record {
  good = λ e. raised_good h.V h.w h.s.heap h.acts (next_of r (kind_of o) h.place h.s) (fresh_acts h r (next_of r (kind_of o) h.place h.s)) h.proto h.acts refl;
  raises = λ e f. refl;
}
right_or h r o false step right = right

-- all that can be refused is missing
lacks : (b : Bool) (x e : Refusal) → unless b x None ≡ Some e → is_missing x ≡ true → is_missing e ≡ true
lacks true x e f m = absurd cc
lacks false x e f m = let same : x ≡ e = cc in ap is_missing (sym same) ∙ m

get_right : (h : Here) (key : ℕ) → IsRight h (row.Get key) (frame_op 0) (load_get key (unpickler h))
get_right h key = record {
  good = memo_get_good h kind.None key;
  raises = λ e f. get_misses h key e f (lacks (is_some (memo_at key h.s)) (refusal.NoMemoEntry key) e f refl);
}

put_right : (h : Here) (key : ℕ) → IsRight h (row.Put key) (frame_op 0) (load_put h.w key (unpickler h))
put_right h key = record {
  good = put_good h kind.None key;
  raises = λ e f. top_misses h (λ v. tell h.w Method (record (unpickler h) { memo = insert_entry nat_cmp (entries h.V h.s.memo) key v })) None never_none e f (lacks (nat_le 1 (length h.s.top)) refusal.Underflow e f refl);
}

-- ---- a step of an item

ItemComes : World → (ℕ → Value) → State → Unpickler → ℕ → Operation → Row → Type 0
ItemComes w V s u place o r =
    Comes w V s u (loader_move o.opcode r s) (protocol_after o.opcode o.arg u.proto) (if w.fails u o then Raised u.acts else dispatch_as w r o.opcode o.arg u)
    (moved_so (loader_move o.opcode r s) (used_op (loader_move o.opcode r s) o) place s)

frame_comes : (w : World) (V : ℕ → Value) (s : State) (u : Unpickler) (place : ℕ) (r : Row) → s.stopped ≡ false → IsWhole s → IsSame w V s u
    → ((h : Here) → IsRight h r (frame_op 0) (load_keyed h.w r (unpickler h))) → loader_move op.Frame r s ≡ one_move r → ItemComes w V s u place (frame_op 0) r
unfolding ItemComes
frame_comes w V s u place r running whole same right one =
    let h : Here = record { V = V; w = w; s = s; proto = u.proto; acts = u.acts; place = place; knows = same.objects } in
    subst (λ (m : LoaderMove). Comes w V s u m u.proto (if w.fails u (frame_op 0) then Raised u.acts else load_keyed w r u) (moved_so m (used_op m (frame_op 0)) place s)) (sym one)
    (subst (λ (x : Unpickler). Comes w V s x (one_move r) x.proto (if w.fails x (frame_op 0) then Raised x.acts else load_keyed w r x) (moved_so (one_move r) (frame_op 0) place s)) (sym (same_image w V s u same))
    (one_comes h r (frame_op 0) (if w.fails (unpickler h) (frame_op 0) then Raised h.acts else load_keyed w r (unpickler h)) running whole (right_or h r (frame_op 0) (w.fails (unpickler h) (frame_op 0)) (load_keyed w r (unpickler h)) (right h))))

-- an operation whose row is its own
pub own_dispatch : (w : World) (o : Opcode) (arg : List ℕ) (r : Row) (u : Unpickler) → r ≡ row_of (record { opcode = o; arg = arg }) → dispatch_as w r o arg u ≡ dispatch w o arg u
own_dispatch w op.Frame arg r u e = ap (λ (x : Row). load_keyed w x u) e
own_dispatch w _ arg r u e = refl

item_comes : (w : World) (V : ℕ → Value) (s : State) (u : Unpickler) (place : ℕ) (o : Operation) (r : Row) → IsWhole s → s.stopped ≡ false → IsSame w V s u → IsItem o r → ItemComes w V s u place o r
unfolding ItemComes
item_comes w V s u place o r whole running same (Itself is value) =
    subst (λ (x : Step). Comes w V s u (loader_move o.opcode r s) (protocol_after o.opcode o.arg u.proto) (if w.fails u o then Raised u.acts else x) (moved_so (loader_move o.opcode r s) (used_op (loader_move o.opcode r s) o) place s))
    (sym (own_dispatch w o.opcode o.arg r u is))
    (subst (λ (x : Row). Comes w V s u (loader_move o.opcode x s) (protocol_after o.opcode o.arg u.proto) (if w.fails u o then Raised u.acts else dispatch w o.opcode o.arg u) (moved_so (loader_move o.opcode x s) (used_op (loader_move o.opcode x s) o) place s))
    (sym is) (a_step_beyond w V s u o place value whole running same))
item_comes w V s u place o r whole running same (Gets key a b) =
    subst (λ (x : Operation). ItemComes w V s u place x r) (sym a)
    (subst (λ (x : Row). ItemComes w V s u place (frame_op 0) x) (sym b) (frame_comes w V s u place (row.Get key) running whole same (λ h. get_right h key) refl))
item_comes w V s u place o r whole running same (Puts key a b) =
    subst (λ (x : Operation). ItemComes w V s u place x r) (sym a)
    (subst (λ (x : Row). ItemComes w V s u place (frame_op 0) x) (sym b) (frame_comes w V s u place (row.Put key) running whole same (λ h. put_right h key) refl))

-- where a loader moves in another way, or is refused, so does the unpickler
pub an_item_beyond : (w : World) (V : ℕ → Value) (s : State) (u : Unpickler) (place : ℕ) (item : Taken) → IsWhole s → s.stopped ≡ false → IsSame w V s u → IsItem item.op item.row
    → Comes w V s u (loader_move item.op.opcode item.row s) (protocol_after item.op.opcode item.op.arg u.proto) (load_taken w item u)
    (moved_so (loader_move item.op.opcode item.row s) (used_op (loader_move item.op.opcode item.row s) item.op) place s)
unfolding ItemComes
an_item_beyond w V s u place item whole running same is = item_comes w V s u place item.op item.row whole running same is
