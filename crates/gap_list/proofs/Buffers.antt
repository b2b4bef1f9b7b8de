-- Buffers: what their places hold, and when new fields are a buffer.
use Rattle.std.proofs.Common.{◌≡◌, ◌≢◌, ◌+◌, ◌-◌, ◌^◌, ◌<◌, ◌≤◌, ℕ, zero, suc, List, [], ◌∷◌, ◌++◌, length, get_or, slice_get, slice_set, Option, Some, None, refl, ap, sym, ◌∙◌, inl, inr, arith}
use Rattle.std.proofs.lemmas.List.{get_or-set_same, get_or-set_other}
use Rattle.std.proofs.lemmas.Bool.{cases_eq}
use Rattle.std.specs.List.{remove}
use Rattle.gap_list.specs.Inside.Places.{somes, laid, IsFilled}
use Rattle.gap_list.specs.Inside.GapBuffer.{buffer_items, IsBuffer}
use Rattle.gap_list.specs.declared.buffer.GapBuffer.{GapBuffer}
use Rattle.gap_list.proofs.Laid.{length-laid, somes-laid, at-low, at-high, at-gap}

module _ {X : Type 0} where
  pub some-at : (xs : List X) (k : ℕ) → k < length xs → (x : X) × (slice_get xs k ≡ Some x)
  some-at [] k h = absurd (omega arith)
  some-at (x ∷ xs) zero h = (x, refl)
  some-at (x ∷ xs) (suc k) h = some-at xs k (omega arith)

  pub record IsBlock (r : GapBuffer X) : Type 0 where
    pub block : (r.block.at ≡ r.start.ptr) × (r.block.alloc ≡ r.alloc)
    pub within : (r.size ≤ r.capacity) × (r.capacity < 2 ^ 63)
    pub gap : r.front ≤ r.size

  pub relaid : (r : GapBuffer X) (xs : List X) → IsBlock r → r.size ≡ length xs → r.block.slots ≡ laid r.front (r.capacity - r.size) xs → IsBuffer r × (buffer_items r ≡ xs)
  unfolding buffer_items
  relaid r xs b s l =
      let same = ap somes l ∙ somes-laid r.front (r.capacity - r.size) xs in (
        record { block = b.block; within = b.within; gap = b.gap; size = s ∙ ap length (sym same); laid = l ∙ ap (laid r.front (r.capacity - r.size)) (sym same) },
        same,
      )

  pub buffer-length : (r : GapBuffer X) → IsBuffer r → length r.block.slots ≡ r.capacity
  buffer-length r h = omega (arith, ap length h.laid, length-laid r.front (r.capacity - r.size) (buffer_items r) (omega (arith, h.gap, h.size)), h.within.0, h.size)

  pub item-low : (r : GapBuffer X) → IsBuffer r → (k : ℕ) → k < r.front → get_or r.block.slots k None ≡ slice_get (buffer_items r) k
  item-low r h k l = ap (λ (cs : List (Option X)). get_or cs k None) h.laid ∙ at-low r.front (r.capacity - r.size) (buffer_items r) k (omega (arith, h.gap, h.size)) l

  pub item-high : (r : GapBuffer X) → IsBuffer r → (k i : ℕ) → r.front ≤ k → i ≡ k + (r.capacity - r.size) → get_or r.block.slots i None ≡ slice_get (buffer_items r) k
  item-high r h k i l e = ap (λ (cs : List (Option X)). get_or cs i None) h.laid ∙ at-high r.front (r.capacity - r.size) (buffer_items r) k i (omega (arith, h.gap, h.size)) l e

  pub item-gap : (r : GapBuffer X) → IsBuffer r → (i : ℕ) → r.front ≤ i → i < r.front + (r.capacity - r.size) → get_or r.block.slots i None ≡ None
  item-gap r h i l u = ap (λ (cs : List (Option X)). get_or cs i None) h.laid ∙ at-gap r.front (r.capacity - r.size) (buffer_items r) i (omega (arith, h.gap, h.size)) l u

  pub filled : (cs : List (Option X)) (xs : List X) (i k : ℕ) → get_or cs i None ≡ slice_get xs k → k < length xs → IsFilled cs i
  filled cs xs i k e l = let x = some-at xs k l in (x.0, e ∙ x.1)

  -- a place is empty, where one was emptied
  pub hole : (cs : List (Option X)) (i j : ℕ) → i < length cs → (j ≢ i → get_or cs j None ≡ None) → get_or (slice_set cs i None) j None ≡ None
  hole cs i j l h = elim (cases_eq j i) [
    | inl e ↦ ap (λ (k : ℕ). get_or (slice_set cs i None) k None) e ∙ get_or-set_same cs i None None l
    | inr d ↦ get_or-set_other cs i j None None d ∙ h d
  ]

  -- the last item, moved to the front of others
  pub last_moved : (k : ℕ) (x : X) (xs ys : List X) → suc k ≡ length xs → slice_get xs k ≡ Some x → remove xs k ++ (x ∷ ys) ≡ xs ++ ys
  last_moved k x [] ys l e = cc
  last_moved zero x (y ∷ []) ys l e = let same : x ≡ y = cc in ap (λ (z : X). z ∷ ys) same
  last_moved zero x (y ∷ z ∷ xs) ys l e = absurd (omega arith)
  last_moved (suc k) x (y ∷ xs) ys l e = ap (λ (zs : List X). y ∷ zs) (last_moved k x xs ys (omega arith) e)
