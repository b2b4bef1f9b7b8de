-- Documents that are the same, identities apart, have one listing.
use Rattle.std.proofs.Common.{◌≡◌, ℕ, Bool, zero, suc, ◌+◌, List, [], ◌∷◌, ◌++◌, length, map, take, Option, Some, None, refl, sym, ap, ap₂, ◌∙◌, arith}
use Rattle.std.specs.Prelude.{slice_get}
use Rattle.pickle_ops.specs.Spelling.{Operation, size_of}
use Rattle.pickle_io.specs.Text.{◌⧺◌}
use Rattle.pickle_doc.specs.declared.item.Item.{Item}
use Rattle.pickle_doc.specs.declared.fault.Finish.{Finish}
use Rattle.pickle_doc.specs.declared.fault.Finish.TheVariants as finish
use Rattle.pickle_doc.specs.DocUnit.{DocUnit, Loose, Frame, flat, operations, sizes, frame_op}
use Rattle.pickle_doc.specs.Document.{Contents, items_of, unnamed, unnamed_unit, SameApart, finish_of}
use Rattle.pickle_doc.specs.Place.{ops_of, item_at}
use Rattle.pickle_machine.specs.State.{State, Marked, start}
use Rattle.pickle_machine.specs.Move.{fresh}
use Rattle.pickle_machine.specs.Run.{run}
use Rattle.pickle_list.specs.ArgTexts.{short_args}
use Rattle.pickle_list.specs.Listing.{topmost_offset, line_on, line_at, line_at_in, left_by, lines, lines_in, end_lines, listing_to, listing_with_in, listing, listing_in}
use Rattle.pickle_text.specs.Reached.{reached}

-- ---- the operations

operations_join : (xs ys : List Item) → operations (xs ++ ys) ≡ operations xs ++ operations ys
operations_join [] ys = refl
operations_join (x ∷ xs) ys = ap (λ l. x.op ∷ l) (operations_join xs ys)

operations_unnamed : (xs : List Item) → operations (map unnamed xs) ≡ operations xs
operations_unnamed [] = refl
operations_unnamed (x ∷ xs) = ap (λ l. x.op ∷ l) (operations_unnamed xs)

sizes_unnamed : (xs : List Item) → sizes (map unnamed xs) ≡ sizes xs
sizes_unnamed [] = refl
sizes_unnamed (x ∷ xs) = omega (arith, sizes_unnamed xs)

units_unnamed : (us : List DocUnit) → operations (flat (map unnamed_unit us)) ≡ operations (flat us)
units_unnamed [] = refl
units_unnamed (Loose item ∷ us) = ap (λ l. item.op ∷ l) (units_unnamed us)
units_unnamed (Frame id members extra ∷ us) =
    let rest : operations (map unnamed members ++ flat (map unnamed_unit us)) ≡ operations (members ++ flat us)
    = operations_join (map unnamed members) (flat (map unnamed_unit us)) ∙ ap₂ (λ (a b : List Operation). a ++ b) (operations_unnamed members) (units_unnamed us) ∙ sym (operations_join members (flat us)) in
    ap₂ (λ (n : ℕ) (l : List Operation). frame_op (n + extra) ∷ l) (sizes_unnamed members) rest

same_operations : (d e : Contents) → SameApart d e → ops_of d ≡ ops_of e
same_operations d e h = sym (units_unnamed d.units) ∙ ap (λ us. operations (flat us)) h.units ∙ units_unnamed e.units

-- ---- offsets

size_alike : (xs ys : List Item) (k : ℕ) → operations xs ≡ operations ys → sizes (take k xs) ≡ sizes (take k ys)
size_alike xs ys zero h = refl
size_alike [] [] (suc k) h = refl
size_alike [] (y ∷ ys) (suc k) h = cc
size_alike (x ∷ xs) [] (suc k) h = cc
size_alike (x ∷ xs) (y ∷ ys) (suc k) h =
    let op : x.op ≡ y.op = cc in
    let rest : operations xs ≡ operations ys = cc in
    ap₂ (λ (a b : ℕ). a + b) (ap (λ (o : Operation). size_of o) op) (size_alike xs ys k rest)

size_same : (xs ys : List Item) → operations xs ≡ operations ys → sizes xs ≡ sizes ys
size_same [] [] h = refl
size_same [] (y ∷ ys) h = cc
size_same (x ∷ xs) [] h = cc
size_same (x ∷ xs) (y ∷ ys) h =
    let op : x.op ≡ y.op = cc in
    let rest : operations xs ≡ operations ys = cc in
    ap₂ (λ (a b : ℕ). a + b) (ap (λ (o : Operation). size_of o) op) (size_same xs ys rest)

-- ---- lines

topmost_same : (d e : Contents) (ms : List Marked) → ops_of d ≡ ops_of e → topmost_offset d ms ≡ topmost_offset e ms
topmost_same d e [] h = refl
topmost_same d e (m ∷ ms) h = ap Some (size_alike (items_of d) (items_of e) m.place h)

line_same : (d e : Contents) (k : ℕ) (o : Option Operation) (s : Option State) → ops_of d ≡ ops_of e → line_on d k o s ≡ line_on e k o s
line_same d e k (Some o) (Some s) h = rw (topmost_same d e (fresh s).marked h, size_alike (items_of d) (items_of e) k h) refl
line_same d e k (Some o) None h = refl
line_same d e k None s h = refl

-- the state that so many items reach
state_same : (d e : Contents) (k : ℕ) → d.many ≡ e.many → ops_of d ≡ ops_of e → run (start d.many) (ops_of d) k ≡ run (start e.many) (ops_of e) k
state_same d e k m h = ap₂ (λ (b : Bool) (ops : List Operation). run (start b) ops k) m h

item_same : (d e : Contents) (k : ℕ) → ops_of d ≡ ops_of e → item_at d k ≡ item_at e k
item_same d e k h = ap (λ (ops : List Operation). slice_get ops k) h

line_at_same : (d e : Contents) (k : ℕ) → d.many ≡ e.many → ops_of d ≡ ops_of e → line_at d k ≡ line_at e k
unfolding line_at_in
line_at_same d e k m h =
    line_same d e k (item_at d k) (run (start d.many) (ops_of d) k) h ∙ ap₂ (λ (o : Option Operation) (s : Option State). line_on e k o s) (item_same d e k h) (state_same d e k m h)

lines_same : (d e : Contents) (k : ℕ) → d.many ≡ e.many → ops_of d ≡ ops_of e → lines d k ≡ lines e k
unfolding lines_in
lines_same d e zero m h = refl
lines_same d e (suc k) m h =
    ap₂ (λ (a b : List ℕ). a ⧺ b ⧺ left_by (item_at d k) (run (start d.many) (ops_of d) (suc k))) (lines_same d e k m h) (line_at_same d e k m h)
    ∙ ap₂ (λ (o : Option Operation) (s : Option State). lines e k ⧺ line_at e k ⧺ left_by o s) (item_same d e k h) (state_same d e (suc k) m h)

end_same : (d e : Contents) (f : Finish) → ops_of d ≡ ops_of e → d.tail ≡ e.tail → end_lines d f ≡ end_lines e f
end_same d e finish.Stopped h t = rw t refl
end_same d e (finish.Fault f) h t = rw (size_same (items_of d) (items_of e) h) refl

to_same : (d e : Contents) (k : ℕ) (o : Option Operation) (s : Option State) → d.many ≡ e.many → ops_of d ≡ ops_of e → d.tail ≡ e.tail → finish_of d ≡ finish_of e → listing_to d k o s ≡ listing_to e k o s
to_same d e k None (Some s) m h t f = rw (lines_same d e k m h, end_same d e (finish_of d) h t, f, h) refl
to_same d e k (Some o) (Some s) m h t f = rw (lines_same d e (suc k) m h, h) refl
to_same d e k None None m h t f = refl
to_same d e k (Some o) None m h t f = refl

with_same : (d e : Contents) (j k : ℕ) → d.many ≡ e.many → ops_of d ≡ ops_of e → d.tail ≡ e.tail → finish_of d ≡ finish_of e → j ≡ k → listing_with_in short_args d j ≡ listing_with_in short_args e k
with_same d e j k m h t f n =
    to_same d e j (item_at d j) (run (start d.many) (ops_of d) j) m h t f
    ∙ ap₂ (λ (o : Option Operation) (s : Option State). listing_to e j o s) (item_same d e j h) (state_same d e j m h)
    ∙ ap (λ (i : ℕ). listing_with_in short_args e i) n

pub same_listing : (d e : Contents) → SameApart d e → listing d ≡ listing e
unfolding listing_in
same_listing d e a =
    let h = same_operations d e a in
    with_same d e _ _ a.many h a.tail a.finish (ap₂ (λ (b : Bool) (ops : List Operation). reached (start b) ops (length ops)) a.many h)
