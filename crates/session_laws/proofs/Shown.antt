-- Documents that agree before a place show the same there.
use Rattle.std.proofs.Common.{◌≡◌, ◌∙◌, inl, inr, ℕ, zero, suc, ◌<◌, ◌≤◌, Bool, true, false, cond, List, [], ◌∷◌, length, slice_get, Option, Some, None, Result, Ok, Err, OnOk, IfOk, refl, sym, ap, ap₂, subst, arith}
use Rattle.std.proofs.lemmas.Option.{slice_get_within}
use Rattle.std.specs.Option.{option_map}
use Rattle.std.specs.Bool.{⊤}
use Rattle.std.specs.Result.{result_ok}
use Rattle.std.specs.List.{AllByRecursion}
use Rattle.pickle_ops.specs.declared.row.Row.{Row}
use Rattle.pickle_ops.specs.Row.{row_of, kind_of}
use Rattle.pickle_ops.specs.Spelling.{Operation}
use Rattle.pickle_doc.specs.declared.item.Item.{Item}
use Rattle.pickle_doc.specs.DocUnit.{operations}
use Rattle.pickle_doc.specs.Alike.{AreAlike, AgreeBefore}
use Rattle.pickle_doc.specs.Document.{Contents, IsDocument, items_of, document_bytes, size_limit}
use Rattle.pickle_doc.specs.Place.{ops_of, item_at, offset_of}
use Rattle.pickle_doc.specs.declared.edit.Edit.{Edit}
use Rattle.pickle_doc.specs.declared.record.EditRecord.{EditRecord}
use Rattle.pickle_doc.specs.Edit.{adds_item, edit_place, edit_fault, edited, raised_next, raised_next_by}
use Rattle.pickle_doc.specs.Swap.{EditLeads, record_place}
use Rattle.pickle_doc.proofs.Alikes.{leads_back}
use Rattle.pickle_doc.proofs.Deletions.{Sound, sound}
use Rattle.pickle_doc.proofs.SwappedItems.{some-at, place_within}
use Rattle.pickle_machine.specs.State.{State, Marked, start}
use Rattle.pickle_machine.specs.Move.{fresh, begun, move}
use Rattle.pickle_machine.specs.Run.{run, after}
use Rattle.pickle_session.specs.Session.{len_of, state_at}
use Rattle.pickle_session.proofs.Edited.{frames_alike}
use Rattle.pickle_session.proofs.Trails.{run_nothing, run_after, before_it, there_is, moved_by, some_same}
use Rattle.pickle_session.proofs.Offsets.{size_alike}
use Rattle.pickle_list.proofs.Marks.{MarkStep, Stays, IsSet, Goes, move_marks}
use Rattle.pickle_calls.specs.declared.naming.Naming.{Naming}
use Rattle.pickle_calls.specs.Naming.{naming_after}
use Rattle.pickle_calls.specs.Event.{before_of, event_of}
use Rattle.pickle_io.specs.Holes.{in_file}
use Rattle.pickle_calls.specs.declared.naming.Detail.{Detail}
use Rattle.pickle_calls.specs.Manner.{Manner}
use Rattle.pickle_calls.specs.Telling.{for_people}
use Rattle.pickle_calls.specs.Calls.{entry_at, entry_on, naming_at, naming_on, counted_text, entry_in}
use Rattle.pickle_list.specs.Listing.{line_at, line_at_in, line_on, topmost_offset}
use Rattle.object_texts.specs.ObjectText.{objects_text}
use Rattle.session_laws.specs.Edits.{ShowSame}
use Rattle.session_laws.proofs.Numbers.{OneNumber, of_edit}

-- ---- operations that are alike

abbrev AreAlikeAt : Option Operation → Option Operation → Type 0
AreAlikeAt None None = ⊤
AreAlikeAt (Some o) (Some p) = AreAlike o p
AreAlikeAt None (Some p) = ⊥
AreAlikeAt (Some o) None = ⊥

-- at each place before this one
abbrev AgreeOps : ℕ → Contents → Contents → Type 0
AgreeOps k d e = (i : ℕ) → i < k → AreAlikeAt (item_at d i) (item_at e i)

op_of : (xs : List Item) (i : ℕ) (x : Item) → slice_get xs i ≡ Some x → slice_get (operations xs) i ≡ Some x.op
op_of [] i x e = absurd cc
op_of (y ∷ ys) zero x e = let same : y ≡ x = cc in ap (λ (z : Item). Some z.op) same
op_of (y ∷ ys) (suc i) x e = op_of ys i x e

agree_ops : (k : ℕ) (d e : Contents) → k ≤ len_of d → AgreeBefore k (items_of d) (items_of e) → AgreeOps k d e
agree_ops k d e h a = λ i l.
    let x = some-at (items_of d) i (omega (arith, h, l)) in
    let y = a i x.0 l x.1 in
    rw (op_of (items_of d) i x.0 x.1, op_of (items_of e) i y.0 y.1) y.2

same_row : (o p : Operation) → AreAlike o p → row_of p ≡ row_of o
same_row o p (inl e) = ap row_of (sym e)
same_row o p (inr e) = sym (frames_alike o p e.0 e.1).row

same_kind : (o p : Operation) → AreAlike o p → kind_of p ≡ kind_of o
same_kind o p (inl e) = ap kind_of (sym e)
same_kind o p (inr e) = sym (frames_alike o p e.0 e.1).kind

same_move : (o p : Operation) (n : ℕ) (s : State) → AreAlike o p → move p n s ≡ move o n s
same_move o p n s a = rw (same_row o p a, same_kind o p a) refl

-- ---- the same states

after_alike : (x y : Option Operation) (n : ℕ) (s : Option State) → AreAlikeAt x y → after y n s ≡ after x n s
after_alike None None n s a = refl
after_alike None (Some p) n s a = absurd a
after_alike (Some o) None n s a = absurd a
after_alike (Some o) (Some p) n None a = refl
after_alike (Some o) (Some p) n (Some s) a = ap result_ok (same_move o p n s a)

same_run : (from : State) (d e : Contents) (k n : ℕ) → n ≤ k → AgreeOps k d e → run from (ops_of e) n ≡ run from (ops_of d) n
unfolding run
same_run from d e k zero h a = refl
same_run from d e k (suc n) h a =
    ap (after (item_at e n) n) (same_run from d e k n (omega (arith, h)) a) ∙ after_alike (item_at d n) (item_at e n) n (run from (ops_of d) n) (a n (omega (arith, h)))

same_state : (d e : Contents) (k n : ℕ) → n ≤ k → e.many ≡ d.many → AgreeOps k d e → state_at e n ≡ state_at d n
same_state d e k n h m a = ap (λ (many : Bool). run (start many) (ops_of e) n) m ∙ same_run (start d.many) d e k n h a

-- ---- marks are set at earlier places

abbrev AreBefore : ℕ → List Marked → Type 0
AreBefore n ms = AllByRecursion (λ (m : Marked). m.place < n) ms

later : (n : ℕ) (ms : List Marked) → AreBefore n ms → AreBefore (suc n) ms
later n [] h = tt
later n (m ∷ ms) h = (omega (arith, h.0), later n ms h.1)

tail_before : (n : ℕ) (m : Marked) (ms old : List Marked) → old ≡ m ∷ ms → AreBefore n old → AreBefore n ms
tail_before n m ms old e h = (subst (AreBefore n) e h).1

stepped : (n : ℕ) (old new : List Marked) → MarkStep n old new → AreBefore n old → AreBefore (suc n) new
stepped n old new (Stays e) h = subst (AreBefore (suc n)) (sym e) (later n old h)
stepped n old new (IsSet section e) h = subst (AreBefore (suc n)) (sym e) (omega arith, later n old h)
stepped n old new (Goes m e) h = later n new (tail_before n m new old e h)

fresh_by : (b : Bool) (n : ℕ) (s : State) → AreBefore n s.marked → AreBefore n (cond b (begun s) s).marked
fresh_by true n s h = tt
fresh_by false n s h = h

fresh_before : (n : ℕ) (s : State) → AreBefore n s.marked → AreBefore n (fresh s).marked
fresh_before n s h = fresh_by s.stopped n s h

marks_before : (many : Bool) (ops : List Operation) (n : ℕ) (s : State) → run (start many) ops n ≡ Some s → AreBefore n s.marked
marks_before many ops zero s e = let same : start many ≡ s = some_same (run (start many) ops 0) (start many) s (run_nothing ops) e in subst (λ (t : State). AreBefore 0 t.marked) same tt
marks_before many ops (suc n) s e =
    let f : after (slice_get ops n) n (run (start many) ops n) ≡ Some s = run_after (start many) ops n s e in
    let b = before_it (slice_get ops n) (run (start many) ops n) n s f in
    let o = there_is (slice_get ops n) (run (start many) ops n) n s f in
    let m : move o.0 n b.0 ≡ Ok s = moved_by (slice_get ops n) (run (start many) ops n) o.0 b.0 n s o.1 b.1 f in
    stepped n (fresh b.0).marked s.marked (move_marks o.0 n b.0 s m) (fresh_before n b.0 (marks_before many ops n b.0 b.1))

-- ---- lines of a listing

abbrev SameOffsets : ℕ → Contents → Contents → Type 0
SameOffsets k d e = (i : ℕ) → i ≤ k → offset_of e i ≡ offset_of d i

top_offset : (k n : ℕ) (d e : Contents) (ms : List Marked) → n ≤ k → SameOffsets k d e → AreBefore n ms → topmost_offset e ms ≡ topmost_offset d ms
top_offset k n d e [] h a b = refl
top_offset k n d e (m ∷ ms) h a b = ap Some (a m.place (omega (arith, h, b.0)))

same_line : (k i : ℕ) (d e : Contents) (x : Option Operation) (s : Option State) → i < k → SameOffsets k d e → ((t : State) → s ≡ Some t → AreBefore i t.marked)
    → line_on e i x s ≡ line_on d i x s
same_line k i d e None s h a b = refl
same_line k i d e (Some o) None h a b = refl
same_line k i d e (Some o) (Some s) h a b =
    rw (a i (omega (arith, h)), top_offset k i d e (fresh s).marked (omega (arith, h)) a (fresh_before i s (b s refl))) refl

listed : (k i : ℕ) (d e : Contents) → i < k → e.many ≡ d.many → AgreeOps k d e → SameOffsets k d e → item_at e i ≡ item_at d i → line_at e i ≡ line_at d i
unfolding line_at_in
listed k i d e h m a offsets same =
    ap₂ (line_on e i) same (same_state d e k i (omega (arith, h)) m a)
    ∙ same_line k i d e (item_at d i) (state_at d i) h offsets (λ t r. marks_before d.many (ops_of d) i t r)

-- ---- lines of calls

naming_alike : (x y : Option Operation) (s : Option State) (m : Naming) → AreAlikeAt x y → naming_on y s m ≡ naming_on x s m
naming_alike None None s m a = refl
naming_alike None (Some p) s m a = absurd a
naming_alike (Some o) None s m a = absurd a
naming_alike (Some o) (Some p) None m a = refl
naming_alike (Some o) (Some p) (Some t) m a = ap (λ (r : Row). naming_after r (length t.heap) m) (same_row o p a)

same_naming : (how : Detail) (d e : Contents) (k n : ℕ) → n ≤ k → e.many ≡ d.many → AgreeOps k d e → naming_at how e n ≡ naming_at how d n
same_naming how d e k zero h m a = refl
same_naming how d e k (suc n) h m a =
    ap₂ (naming_on (item_at e n)) (same_state d e k (suc n) h m a) (same_naming how d e k n (omega (arith, h)) m a)
    ∙ naming_alike (item_at d n) (item_at e n) (state_at d (suc n)) (naming_at how d n) (a n (omega (arith, h)))

entry_alike : (offset : ℕ) (m : Naming) (x y : Option Operation) (s t : Option State) → AreAlikeAt x y → entry_on for_people offset m y s t ≡ entry_on for_people offset m x s t
entry_alike offset m None None s t a = refl
entry_alike offset m None (Some p) s t a = absurd a
entry_alike offset m (Some o) None s t a = absurd a
entry_alike offset m (Some o) (Some p) None t a = refl
entry_alike offset m (Some o) (Some p) (Some s) None a = refl
entry_alike offset m (Some o) (Some p) (Some s) (Some t) a =
    ap (λ (r : Row). counted_text offset m t.heap (event_of r (before_of (fresh s)) t)) (same_row o p a)

called : (how : Manner) (k i : ℕ) (d e : Contents) → i < k → e.many ≡ d.many → AgreeOps k d e → SameOffsets k d e → entry_at how e i ≡ entry_at how d i
unfolding entry_in
called how k i d e h m a offsets =
    rw (offsets i (omega (arith, h)), same_naming how.detail d e k i (omega (arith, h)) m a, same_state d e k i (omega (arith, h)) m a, same_state d e k (suc i) (omega (arith, h)) m a)
    (entry_alike (in_file how.holes (offset_of d i)) (naming_at how.detail d i) (item_at d i) (item_at e i) (state_at d i) (state_at d (suc i)) (a i h))

-- ---- all of it

items_alike : (d e : Contents) (i : ℕ) (o : Operation) → AreAlikeAt (item_at d i) (item_at e i) → item_at d i ≡ Some o → (p : Operation) × (item_at e i ≡ Some p) × AreAlike o p
items_alike d e i o a f = go (item_at d i) (item_at e i) a f
  where
    go : (x y : Option Operation) → AreAlikeAt x y → x ≡ Some o → (p : Operation) × (y ≡ Some p) × AreAlike o p
    go None y a f = absurd cc
    go (Some q) None a f = absurd a
    go (Some q) (Some p) a f = let same : q ≡ o = cc in (p, refl, subst (λ (r : Operation). AreAlike r p) same a)

show_same : (k : ℕ) (d e : Contents) → OneNumber k d e → e.many ≡ d.many → AgreeOps k d e → SameOffsets k d e → ShowSame k d e
show_same k d e one m a offsets = record {
  frame = one.frame;
  around = one.around;
  items = one.items;
  alike = λ i o h f. items_alike d e i o (a i h) f;
  offsets = offsets;
  listed = λ i h same. listed k i d e h m a offsets same;
  reached = λ i h. same_state d e k i h m a;
  objects = λ i h. ap (option_map (λ (s : State). objects_text s.heap)) (same_state d e k i h m a);
  called = λ how i h. called how k i d e h m a offsets;
}

-- ---- an edit

given : (e : Edit Operation) (d : Contents) → (items_of (raised_next_by e d) ≡ items_of d) × ((raised_next_by e d).many ≡ d.many)
given e d = go (adds_item e)
  where
    go : (b : Bool) → (items_of (cond b (raised_next d) d) ≡ items_of d) × ((cond b (raised_next d) d).many ≡ d.many)
    go true = (refl, refl)
    go false = (refl, refl)

within_also : (k : ℕ) (xs ys : List Item) → k ≤ length xs → AgreeBefore k xs ys → k ≤ length ys
within_also zero xs ys h a = omega arith
within_also (suc n) xs ys h a =
    let x = some-at xs n (omega (arith, h)) in
    let y = a n x.0 (omega arith) x.1 in
    omega (arith, slice_get_within ys n y.0 y.1)

-- a record leads back from the edited document, with its place
pub edit_shows : (e : Edit Operation) (r : EditRecord) (d new : Contents) → OneNumber (edit_place e) d new → record_place r ≡ edit_place e → IsDocument d → IsDocument new
    → EditLeads r new (raised_next_by e d) → ShowSame (edit_place e) d new
edit_shows e r d new one at old_is new_is leads =
    let g = given e d in
    let before : AgreeBefore (edit_place e) (items_of d) (items_of new)
    = subst (λ (k : ℕ). AgreeBefore k (items_of d) (items_of new)) at (subst (λ (xs : List Item). AgreeBefore r.place xs (items_of new)) g.0 (leads_back leads)) in
    let there : edit_place e ≤ len_of new = subst (λ (k : ℕ). k ≤ len_of new) at (place_within r.change r.place (items_of new) leads.can.place) in
    let back : AgreeBefore (edit_place e) (items_of new) (items_of d)
    = subst (λ (k : ℕ). AgreeBefore k (items_of new) (items_of d)) at (subst (λ (xs : List Item). AgreeBefore r.place (items_of new) xs) g.0 leads.before) in
    let within : edit_place e ≤ len_of d = within_also (edit_place e) (items_of new) (items_of d) there back in
    show_same (edit_place e) d new one (leads.many ∙ g.1) (agree_ops (edit_place e) d new within before)
    (λ i h. size_alike d new i (edit_place e) (offset_of d i) old_is new_is (omega (arith, h, within)) h before refl)

-- of an edit that was made
pub made_shows : {E : Type 0} (result : Result EditRecord E) (e : Edit Operation) (d new : Contents) → edit_fault e d ≡ None → Sound d
    → OnOk result (new ≡ edited e d) → OnOk result (IsDocument new) → OnOk result (length (document_bytes new) ≤ size_limit)
    → IfOk result (λ r. record_place r ≡ edit_place e) → IfOk result (λ r. EditLeads r new (raised_next_by e d)) → OnOk result (ShowSame (edit_place e) d new)
made_shows (Ok r) e d new none s is new_is small at leads =
    let one : OneNumber (edit_place e) d new = subst (OneNumber (edit_place e) d) (sym is) (of_edit e d s (subst Sound is (sound new new_is small)) none) in
    edit_shows e r d new one at s.document new_is leads
made_shows (Err x) e d new none s is new_is small at leads = tt
