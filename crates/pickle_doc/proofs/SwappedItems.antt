-- A record leads back: making its change and then the one that undoes it gives the items again.
use Rattle.std.proofs.Common.{◌≡◌, ◌<◌, ◌≤◌, ℕ, zero, suc, List, [], ◌∷◌, length, slice_get, slice_set, Option, Some, None, refl, ap, sym, ◌∙◌, arith, length-set}
use Rattle.std.specs.List.{insert, remove}
use Rattle.std.proofs.lemmas.List.Edits.{length-insert, length-remove}
use Rattle.pickle_doc.specs.declared.item.Item.{Item}
use Rattle.pickle_doc.specs.declared.record.ItemChange.{ItemChange}
use Rattle.pickle_doc.specs.declared.record.ItemChange.TheVariants.{Put, Take, Set}
use Rattle.pickle_doc.specs.declared.record.Numbered.{Numbered}
use Rattle.pickle_doc.specs.declared.record.EditRecord.{EditRecord}
use Rattle.pickle_doc.specs.Swap.{with_change, IsPlaceOf, renumbered, IsNumberPlace, swapped_items, CanSwap}
use Rattle.pickle_doc.specs.Inside.Swap.{undo, undo_number, swap_back}

module _ {X : Type 0} where
  pub some-at : (xs : List X) (k : ℕ) → k < length xs → (x : X) × (slice_get xs k ≡ Some x)
  some-at [] k h = absurd (omega arith)
  some-at (x ∷ xs) zero h = (x, refl)
  some-at (x ∷ xs) (suc k) h = some-at xs k (omega arith)

  pub remove-insert : (xs : List X) (k : ℕ) (x : X) → k ≤ length xs → remove (insert xs k x) k ≡ xs
  remove-insert xs zero x h = refl
  remove-insert [] (suc k) x h = absurd (omega arith)
  remove-insert (y ∷ xs) (suc k) x h = ap (λ (ys : List X). y ∷ ys) (remove-insert xs k x (omega arith))

  pub insert-remove : (xs : List X) (k : ℕ) (x : X) → slice_get xs k ≡ Some x → insert (remove xs k) k x ≡ xs
  insert-remove [] k x e = cc
  insert-remove (y ∷ xs) zero x e = let same : x ≡ y = cc in ap (λ (z : X). z ∷ xs) same
  insert-remove (y ∷ xs) (suc k) x e = ap (λ (ys : List X). y ∷ ys) (insert-remove xs k x e)

  pub set-back : (xs : List X) (k : ℕ) (x y : X) → slice_get xs k ≡ Some x → slice_set (slice_set xs k y) k x ≡ xs
  set-back [] k x y e = cc
  set-back (z ∷ xs) zero x y e = let same : x ≡ z = cc in ap (λ (w : X). w ∷ xs) same
  set-back (z ∷ xs) (suc k) x y e = ap (λ (ys : List X). z ∷ ys) (set-back xs k x y e)

  pub set-insert : (xs : List X) (f k : ℕ) (x y : X) → f < k → k ≤ length xs → slice_set (insert xs k x) f y ≡ insert (slice_set xs f y) k x
  set-insert xs f zero x y h l = absurd (omega arith)
  set-insert [] f (suc k) x y h l = absurd (omega arith)
  set-insert (z ∷ xs) zero (suc k) x y h l = refl
  set-insert (z ∷ xs) (suc f) (suc k) x y h l = ap (λ (ys : List X). z ∷ ys) (set-insert xs f k x y (omega arith) (omega arith))

  pub set-remove : (xs : List X) (f k : ℕ) (y : X) → f < k → slice_set (remove xs k) f y ≡ remove (slice_set xs f y) k
  set-remove xs f zero y h = absurd (omega arith)
  set-remove [] f (suc k) y h = refl
  set-remove (z ∷ xs) zero (suc k) y h = refl
  set-remove (z ∷ xs) (suc f) (suc k) y h = ap (λ (ys : List X). z ∷ ys) (set-remove xs f k y (omega arith))

  pub set-set : (xs : List X) (f k : ℕ) (x y : X) → f < k → slice_set (slice_set xs k x) f y ≡ slice_set (slice_set xs f y) k x
  set-set [] f k x y h = refl
  set-set (z ∷ xs) f zero x y h = absurd (omega arith)
  set-set (z ∷ xs) zero (suc k) x y h = refl
  set-set (z ∷ xs) (suc f) (suc k) x y h = ap (λ (ys : List X). z ∷ ys) (set-set xs f k x y (omega arith))

place_same : (c : ItemChange) (k : ℕ) (xs ys : List Item) → length xs ≡ length ys → IsPlaceOf c k xs → IsPlaceOf c k ys
place_same (Put i) k xs ys e h = omega arith
place_same Take k xs ys e h = omega arith
place_same (Set i) k xs ys e h = omega arith

change_round : (c : ItemChange) (k : ℕ) (xs : List Item) → IsPlaceOf c k xs → with_change (undo c k xs) k (with_change c k xs) ≡ xs
change_round (Put i) k xs h = remove-insert xs k i h
change_round Take k xs h = let x = some-at xs k h in rw x.1 (insert-remove xs k x.0 x.1)
change_round (Set i) k xs h = let x = some-at xs k h in rw x.1 (set-back xs k x.0 i x.1)

change_back : (c : ItemChange) (k : ℕ) (xs ys : List Item) → IsPlaceOf c k xs → length xs ≡ length ys → IsPlaceOf (undo c k xs) k (with_change c k ys)
change_back (Put i) k xs ys h e = omega (arith, length-insert ys k i (omega arith))
change_back Take k xs ys h e = let x = some-at xs k h in rw x.1 (omega (arith, length-remove ys k (omega arith)))
change_back (Set i) k xs ys h e = let x = some-at xs k h in rw x.1 (omega (arith, length-set ys k i))

change-number : (c : ItemChange) (f : Option Numbered) (k : ℕ) (xs : List Item) → IsPlaceOf c k xs → IsNumberPlace f k
    → renumbered f (with_change c k xs) ≡ with_change c k (renumbered f xs)
change-number c None k xs h l = refl
change-number (Put i) (Some f) k xs h l = set-insert xs f.place k i f.item l h
change-number Take (Some f) k xs h l = set-remove xs f.place k f.item l
change-number (Set i) (Some f) k xs h l = set-set xs f.place k i f.item l

pub place_within : (c : ItemChange) (k : ℕ) (xs : List Item) → IsPlaceOf c k xs → k ≤ length xs
place_within (Put i) k xs h = h
place_within Take k xs h = omega arith
place_within (Set i) k xs h = omega arith

number_round : (f : Option Numbered) (k : ℕ) (xs : List Item) → IsNumberPlace f k → k ≤ length xs → renumbered (undo_number f xs) (renumbered f xs) ≡ xs
number_round None k xs h l = refl
number_round (Some f) k xs h l = let x = some-at xs f.place (omega arith) in rw x.1 (set-back xs f.place x.0 f.item x.1)

number_back : (f : Option Numbered) (k : ℕ) (xs : List Item) → IsNumberPlace f k → k ≤ length xs → IsNumberPlace (undo_number f xs) k
number_back None k xs h l = tt
number_back (Some f) k xs h l = let x = some-at xs f.place (omega arith) in rw x.1 h

pub length-renumbered : (f : Option Numbered) (xs : List Item) → length (renumbered f xs) ≡ length xs
length-renumbered None xs = refl
length-renumbered (Some f) xs = length-set xs f.place f.item

pub swap_round : (r : EditRecord) (xs : List Item) → CanSwap r xs → CanSwap (swap_back r xs) (swapped_items r xs) × (swapped_items (swap_back r xs) (swapped_items r xs) ≡ xs)
swap_round r xs h =
    let zs = renumbered r.frame xs in
    let same : length xs ≡ length zs = sym (length-renumbered r.frame xs) in
    let within = place_within r.change r.place xs h.place in
    let place = place_same r.change r.place xs zs same h.place in
    let back = number_back r.frame r.place xs h.frame within in
    let f = undo_number r.frame xs in
    let c = undo r.change r.place xs in (
      record { place = change_back r.change r.place xs zs h.place same; frame = back },
      ap (with_change c r.place) (change-number r.change f r.place zs place back)
          ∙ ap (λ (ys : List Item). with_change c r.place (with_change r.change r.place ys)) (number_round r.frame r.place xs h.frame within)
          ∙ change_round r.change r.place xs h.place,
    )
