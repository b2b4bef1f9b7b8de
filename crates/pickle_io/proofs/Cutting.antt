-- What is left is moved to the front, piece by piece.
use Rattle.std.proofs.Common.{◌≡◌, ℕ, ◌+◌, ◌-◌, ◌≤◌, Bool, true, false, List, [], ◌∷◌, ◌++◌, length, take, drop, Some, None, refl, sym, ap, ◌∙◌, arith, leb-true, append_assoc, length-drop, drop-drop, take_all}
use Rattle.std.specs.Prelude.{nat_le, if◌then◌else◌}
use Rattle.std.specs.List.{copy_within}
use Rattle.std.proofs.lemmas.List.Edits.{take-paste, drop-paste}
use Rattle.pickle_io.specs.declared.hole.Hole.{Hole}
use Rattle.pickle_io.specs.Holes.{AreHoles, first_outside, without_from, without}
use Rattle.pickle_io.proofs.Kept.{without-cons, without-nil}

-- the first holes are cut: what is left before them is at the front, and the bytes from here on are as they were
pub record InCut (holes : List Hole) (old now : List ℕ) (kept from : ℕ) (whole : List ℕ) : Type 0 where
  pub size : length now ≡ length old
  pub low : kept ≤ from
  pub within : from ≤ length old
  pub rest : drop from now ≡ drop from old
  pub apart : AreHoles from holes
  pub inside : first_outside (length old) holes ≡ None
  pub left : take kept now ++ without_from from holes (drop from old) ≡ whole

no_hole : (h : Hole) → Some h ≡ None → ⊥
no_hole h e = cc

-- the first hole lies within
pub record Inside (size : ℕ) (h : Hole) (holes : List Hole) : Type 0 where
  pub ends : h.offset + h.size ≤ size
  pub others : first_outside size holes ≡ None

pub is_inside : (size : ℕ) (h : Hole) (holes : List Hole) → first_outside size (h ∷ holes) ≡ None → Inside size h holes
is_inside size h holes e = go (nat_le (h.offset + h.size) size) refl e
  where
    go : (b : Bool) → nat_le (h.offset + h.size) size ≡ b → (if b then first_outside size holes else Some h) ≡ None → Inside size h holes
    go true is e = record { ends = leb-true _ _ is; others = e }
    go false is e = absurd (no_hole h e)

pub cut_begins : (holes : List Hole) (bytes : List ℕ) → AreHoles 0 holes → first_outside (length bytes) holes ≡ None → InCut holes bytes bytes 0 0 (without holes bytes)
cut_begins holes bytes are inside = record {
  size = refl;
  low = omega arith;
  within = omega arith;
  rest = refl;
  apart = are;
  inside = inside;
  left = refl;
}

-- a piece was moved
pub cut_goes : (h : Hole) (holes : List Hole) (old now next : List ℕ) (kept from : ℕ) (whole : List ℕ) → InCut (h ∷ holes) old now kept from whole
    → next ≡ copy_within now from h.offset kept → length next ≡ length now
    → InCut holes old next (kept + (h.offset - from)) (h.offset + h.size) whole
cut_goes h holes old now next kept from whole c moved same =
    let in_it = is_inside (length old) h holes c.inside in
    let n : ℕ = h.offset - from in
    let apart : from ≤ h.offset = c.apart.0.apart in
    let room : n ≤ length (drop from now) = omega (arith, length-drop from now, c.size, in_it.ends) in
    let front : take (kept + n) next ≡ take kept now ++ take n (drop from now) =
    ap (take (kept + n)) moved ∙ take-paste now kept (drop from now) n (omega (arith, c.low, c.within, c.size)) room in
    let back : drop (kept + n) next ≡ drop (kept + n) now =
    ap (drop (kept + n)) moved ∙ drop-paste now kept (drop from now) n (omega (arith, c.low, c.within, c.size)) room in
    let far : (kept + n) + ((h.offset + h.size) - (kept + n)) ≡ h.offset + h.size = omega (arith, c.low, apart) in
    let behind : drop (h.offset + h.size) next ≡ drop (h.offset + h.size) now =
    ap (λ (m : ℕ). drop m next) (sym far) ∙ sym (drop-drop ((h.offset + h.size) - (kept + n)) (kept + n) next) ∙ ap (drop ((h.offset + h.size) - (kept + n))) back
    ∙ drop-drop ((h.offset + h.size) - (kept + n)) (kept + n) now ∙ ap (λ (m : ℕ). drop m now) far in
    let on : from + (n + h.size) ≡ h.offset + h.size = omega (arith, apart) in
    let still : drop (h.offset + h.size) now ≡ drop (h.offset + h.size) old =
    ap (λ (m : ℕ). drop m now) (sym on) ∙ sym (drop-drop (n + h.size) from now) ∙ ap (drop (n + h.size)) c.rest ∙ drop-drop (n + h.size) from old ∙ ap (λ (m : ℕ). drop m old) on in
    let piece : without_from from (h ∷ holes) (drop from old) ≡ take n (drop from old) ++ without_from (h.offset + h.size) holes (drop (h.offset + h.size) old) =
    without-cons from h holes (drop from old) ∙ ap (λ (xs : List ℕ). take n (drop from old) ++ without_from (h.offset + h.size) holes xs) (drop-drop (n + h.size) from old ∙ ap (λ (m : ℕ). drop m old) on) in
    let left : take (kept + n) next ++ without_from (h.offset + h.size) holes (drop (h.offset + h.size) old) ≡ whole =
    ap (λ (xs : List ℕ). xs ++ without_from (h.offset + h.size) holes (drop (h.offset + h.size) old)) (front ∙ ap (λ (xs : List ℕ). take kept now ++ take n xs) c.rest)
    ∙ append_assoc (take kept now) (take n (drop from old)) (without_from (h.offset + h.size) holes (drop (h.offset + h.size) old))
    ∙ ap (λ (xs : List ℕ). take kept now ++ xs) (sym piece) ∙ c.left in
    record {
      size = same ∙ c.size;
      low = omega (arith, c.low, apart);
      within = in_it.ends;
      rest = behind ∙ still;
      apart = c.apart.1;
      inside = in_it.others;
      left = left;
    }

-- the last piece was moved
pub cut_ends : (old now next : List ℕ) (kept from : ℕ) (whole : List ℕ) → InCut [] old now kept from whole → next ≡ copy_within now from (length now) kept
    → take (kept + (length now - from)) next ≡ whole
cut_ends old now next kept from whole c moved =
    let n : ℕ = length now - from in
    let room : n ≤ length (drop from now) = omega (arith, length-drop from now) in
    let front : take (kept + n) next ≡ take kept now ++ take n (drop from now) =
    ap (take (kept + n)) moved ∙ take-paste now kept (drop from now) n (omega (arith, c.low, c.within, c.size)) room in
    front ∙ ap (λ (xs : List ℕ). take kept now ++ xs) (take_all n (drop from now) (omega (arith, length-drop from now)) ∙ c.rest ∙ sym (without-nil from (drop from old))) ∙ c.left
