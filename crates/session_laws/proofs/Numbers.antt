-- Before its place an edit changes the number of one FRAME at most: of the frame that the item there is in.
use Rattle.std.proofs.Common.{◌≡◌, ◌≢◌, ◌⊎◌, ◌<◌, ◌+◌, ◌-◌, ℕ, zero, suc, true, List, [], ◌∷◌, length, slice_get, Option, Some, None, refl, ap, sym, ◌∙◌, inl, inr, arith}
use Rattle.std.specs.List.{insert}
use Rattle.std.specs.Option.{option_map}
use Rattle.std.proofs.lemmas.Bool.{cases_Bool, lt-ltb}
use Rattle.std.proofs.lemmas.List.Edits.{length-insert}
use Rattle.std.proofs.lemmas.Option.{slice_get-map}
use Rattle.pickle_ops.specs.Spelling.{Operation, size_of}
use Rattle.pickle_doc.specs.declared.edit.Edit.{Edit}
use Rattle.pickle_doc.specs.declared.edit.Edit.TheVariants as edit
use Rattle.pickle_doc.specs.declared.item.Item.{Item}
use Rattle.pickle_doc.specs.declared.record.ItemChange.{ItemChange}
use Rattle.pickle_doc.specs.declared.record.ItemChange.TheVariants.{Put, Take, Set}
use Rattle.pickle_doc.specs.DocUnit.{DocUnit, Loose, Frame, item_size}
use Rattle.pickle_doc.specs.Document.{Contents, items_of}
use Rattle.pickle_doc.specs.Edit.{joins, inserted, new_item, replace_fault, insert_fault, delete_fault, frame_fault, unframe_fault, edit_place, edit_fault, edited}
use Rattle.pickle_doc.specs.Inside.Joined.{later, joined_frame, renumber_at, renumber, resize}
use Rattle.pickle_doc.specs.Place.{item_at, frame_at}
use Rattle.pickle_doc.specs.Swap.{with_change, IsPlaceOf}
use Rattle.pickle_doc.proofs.Alikes.{changed-before, place_also}
use Rattle.pickle_doc.proofs.Deletes.{can_delete, flat-deleted}
use Rattle.pickle_doc.proofs.Deletions.{Sound}
use Rattle.pickle_doc.proofs.Framings as framings
use Rattle.pickle_doc.proofs.Inserts.{flat-inserted}
use Rattle.pickle_doc.proofs.Insertions as insertions
use Rattle.pickle_doc.proofs.Joins.{joined, walk-joined_frame}
use Rattle.pickle_doc.proofs.Lists.{within, length-renumber}
use Rattle.pickle_doc.proofs.Replacements as replacements
use Rattle.pickle_doc.proofs.Replaces.{renewed, flat-replaced}
use Rattle.pickle_doc.proofs.Unframes.{unframing}
use Rattle.pickle_doc.proofs.Walks.{walk-flat}

-- ---- one number

number_at : (f i : ℕ) (g : ℕ → ℕ) (xs : List Item) → f ≢ i → slice_get (renumber_at f g xs) i ≡ slice_get xs i
number_at f i g [] h = refl
number_at zero zero g (x ∷ xs) h = absurd (h refl)
number_at zero (suc i) g (x ∷ xs) h = refl
number_at (suc f) zero g (x ∷ xs) h = refl
number_at (suc f) (suc i) g (x ∷ xs) h = number_at f i g xs (λ e. h (ap suc e))

number_by : (f : Option ℕ) (i : ℕ) (g : ℕ → ℕ) (xs : List Item) → f ≢ Some i → slice_get (renumber f g xs) i ≡ slice_get xs i
number_by None i g xs h = refl
number_by (Some f) i g xs h = number_at f i g xs (λ e. h (ap Some e))

long : (f : Option ℕ) (g : ℕ → ℕ) (xs : List Item) → length (renumber f g xs) ≡ length xs
long None g xs = refl
long (Some f) g xs = length-renumber f g xs

-- items with a change at a place, and with another number
one_number : (c : ItemChange) (f : Option ℕ) (g : ℕ → ℕ) (k i : ℕ) (xs ys : List Item) → IsPlaceOf c k xs → ys ≡ with_change c k (renumber f g xs) → i < k → f ≢ Some i
    → slice_get ys i ≡ slice_get xs i
one_number c f g k i xs ys h e l n =
    ap (λ (zs : List Item). slice_get zs i) e ∙ changed-before c (renumber f g xs) k i l (place_also c k xs (renumber f g xs) (sym (long f g xs)) h) ∙ number_by f i g xs n

-- ---- whose member an item is

member : (d : Contents) (k : ℕ) → Sound d → k < length (items_of d) → frame_at d k ≡ joined_frame k d.units
member d k s l =
    let f = s.document.formed in
    sym (walk-flat d.loose d.units 0 0 k f.units f.last_open s.bound l) ∙ walk-joined_frame d.loose k d.units (omega (arith, l)) f.units s.bound f.last_open

-- an item that is put in joins the frame
joins_still : (k extra : ℕ) (i : Item) (members : List Item) → joins k members extra ≡ true → joins k (insert members k i) extra ≡ true
joins_still k extra i members h =
    let low = joined k extra members h in
    rw (lt-ltb k (length (insert members k i)) (omega (arith, low, length-insert members k i low))) refl

joined_inserted : (k : ℕ) (i : Item) (units : List DocUnit) → joined_frame k (inserted k i units) ≡ joined_frame k units
joined_inserted zero i units = refl
joined_inserted (suc k) i [] = refl
joined_inserted (suc k) i (Loose j ∷ units) = ap (later 1) (joined_inserted k i units)
joined_inserted (suc k) i (Frame id members extra ∷ units) = elim (cases_Bool (joins k members extra)) [
  | inl in_it ↦ rw (in_it, joins_still k extra i members in_it) refl
  | inr past ↦ rw (past, past) (ap (later (length members + 1)) (joined_inserted (k - length members) i units))
]

-- ---- an edit

pub record OneNumber (k : ℕ) (d e : Contents) : Type 0 where
  pub frame : Option ℕ
  pub around : (i : ℕ) → frame ≡ Some i → (frame_at d k ≡ Some i) ⊎ (frame_at e k ≡ Some i)
  pub items : (i : ℕ) → i < k → frame ≢ Some i → item_at e i ≡ item_at d i

same_item : (d e : Contents) (i : ℕ) → slice_get (items_of e) i ≡ slice_get (items_of d) i → item_at e i ≡ item_at d i
same_item d e i h =
    slice_get-map (λ (x : Item). x.op) (items_of e) i ∙ ap (option_map (λ (x : Item). x.op)) h ∙ sym (slice_get-map (λ (x : Item). x.op) (items_of d) i)

-- no number changes
no_number : (c : ItemChange) (k : ℕ) (d e : Contents) → IsPlaceOf c k (items_of d) → items_of e ≡ with_change c k (items_of d) → OneNumber k d e
no_number c k d e h same = record {
  frame = None;
  around = λ i z. absurd cc;
  items = λ i l n. same_item d e i (one_number c None (λ m. m) k i (items_of d) (items_of e) h same l n);
}

of_replace : (k : ℕ) (o : Operation) (d : Contents) → Sound d → replace_fault d k o ≡ None → OneNumber k d (edited (edit.Replace k o) d)
of_replace k o d s none =
    let c = (replacements.accepted d k o none).can in
    let place = within (items_of d) k c.item c.is in
    let g = resize (item_size c.item) (size_of o) in
    let same = flat-replaced k c.item o d.units c.is c.plain s.bound s.document.formed.last_open in
    record {
      frame = joined_frame k d.units;
      around = λ i z. inl (member d k s place ∙ z);
      items = λ i l n. same_item d (edited (edit.Replace k o) d) i (one_number (Set (renewed c.item o)) (joined_frame k d.units) g k i (items_of d) _ place same l n);
    }

of_delete : (k : ℕ) (d : Contents) → Sound d → delete_fault d k ≡ None → OneNumber k d (edited (edit.Delete k) d)
of_delete k d s none =
    let c = can_delete (items_of d) k none in
    let place = within (items_of d) k c.item c.is in
    let g = resize (item_size c.item) 0 in
    let same = flat-deleted k c.item d.units c.is c.plain s.bound s.document.formed.last_open in
    record {
      frame = joined_frame k d.units;
      around = λ i z. inl (member d k s place ∙ z);
      items = λ i l n. same_item d (edited (edit.Delete k) d) i (one_number Take (joined_frame k d.units) g k i (items_of d) _ place same l n);
    }

of_insert : (k : ℕ) (o : Operation) (d : Contents) → Sound d → Sound (edited (edit.Insert k o) d) → insert_fault d k o ≡ None → OneNumber k d (edited (edit.Insert k o) d)
of_insert k o d s t none =
    let place = (insertions.accepted d k o s none).can.place in
    let j = joined_frame k d.units in
    let x = new_item d o in
    let g = resize 0 (size_of o) in
    let e : Contents = edited (edit.Insert k o) d in
    let same = flat-inserted k x d.units place s.bound s.document.formed.last_open in
    let more = length-insert (renumber j g (items_of d)) k x (omega (arith, place, long j g (items_of d))) in
    let there : k < length (items_of e) = omega (arith, place, ap length same, more, long j g (items_of d)) in
    record {
      frame = j;
      around = λ i z. inr (member e k t there ∙ joined_inserted k x d.units ∙ z);
      items = λ i l n. same_item d e i (one_number (Put x) j g k i (items_of d) (items_of e) place same l n);
    }

of_frame : (k n : ℕ) (d : Contents) → Sound d → frame_fault d k n ≡ None → OneNumber k d (edited (edit.Frame k n) d)
of_frame k n d s none =
    let r = framings.frame_keeps d k n s.document (framings.accepted d k n s none).can in
    no_number (Put _) k d (edited (edit.Frame k n) d) r.place r.made.items

of_unframe : (k : ℕ) (d : Contents) → Sound d → unframe_fault d k ≡ None → OneNumber k d (edited (edit.Unframe k) d)
of_unframe k d s none =
    let u = unframing d k s none in
    no_number Take k d (edited (edit.Unframe k) d) u.leads.can.place (sym u.leads.items)

pub of_edit : (e : Edit Operation) (d : Contents) → Sound d → Sound (edited e d) → edit_fault e d ≡ None → OneNumber (edit_place e) d (edited e d)
of_edit (edit.Replace k o) d s t none = of_replace k o d s none
of_edit (edit.Insert k o) d s t none = of_insert k o d s t none
of_edit (edit.Delete k) d s t none = of_delete k d s none
of_edit (edit.Frame k n) d s t none = of_frame k n d s none
of_edit (edit.Unframe k) d s t none = of_unframe k d s none
