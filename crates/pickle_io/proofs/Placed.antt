-- Where holes stand in what is left.
use Rattle.std.proofs.Common.{◌≡◌, ℕ, zero, suc, ◌+◌, ◌-◌, ◌<◌, ◌≤◌, Bool, true, false, List, [], ◌∷◌, length, refl, ap, ◌∙◌, arith, leb-true, leb-false, lt-ltb, ltb-true}
use Rattle.std.specs.Prelude.{slice_index_or, nat_le, nat_lt, if◌then◌else◌}
use Rattle.pickle_io.specs.declared.hole.Hole.{Hole}
use Rattle.pickle_io.specs.Holes.{most, AreHoles, end_of, passing, in_file, left_out, places_from}

pub length-places : (out : ℕ) (holes : List Hole) → length (places_from out holes) ≡ length holes
length-places out [] = refl
length-places out (h ∷ holes) = ap suc (length-places (out + h.size) holes)

-- a hole, where it stands, and what is left out up to its end
pub record IsPlaced (out : ℕ) (holes : List Hole) (n : ℕ) (h : Hole) (place : ℕ) : Type 0 where
  pub ends : h.offset + h.size ≤ most
  pub low : place ≤ h.offset
  pub is : (h.offset + h.size) - place ≡ left_out out (suc n) holes
  pub bound : left_out out (suc n) holes ≤ h.offset + h.size

pub placed : (n from out : ℕ) (holes : List Hole) (d : Hole) (e : ℕ) → AreHoles from holes → out ≤ from → n < length holes
    → IsPlaced out holes n (slice_index_or holes n d) (slice_index_or (places_from out holes) n e)
placed n from out [] d e are le h = absurd (omega (arith, h))
placed zero from out (h ∷ holes) d e are le lt = record {
  ends = are.0.ends;
  low = omega arith;
  is = omega (arith, are.0.apart, le);
  bound = omega (arith, are.0.apart, le);
}
placed (suc n) from out (h ∷ holes) d e are le lt =
    let p = placed n (h.offset + h.size) (out + h.size) holes d e are.1 (omega (arith, are.0.apart, le)) (omega (arith, lt)) in
    record { ends = p.ends; low = p.low; is = p.is; bound = p.bound }

-- no place is before what comes behind the holes before it
pub no_lower : (j from out : ℕ) (holes : List Hole) (e : ℕ) → AreHoles from holes → out ≤ from → j < length holes → from - out ≤ slice_index_or (places_from out holes) j e
no_lower j from out [] e are le h = absurd (omega (arith, h))
no_lower zero from out (h ∷ holes) e are le lt = omega (arith, are.0.apart)
no_lower (suc j) from out (h ∷ holes) e are le lt =
    let low = no_lower j (h.offset + h.size) (out + h.size) holes e are.1 (omega (arith, are.0.apart, le)) (omega (arith, lt)) in
    omega (arith, are.0.apart, le, low)

pub rising : (i j from out : ℕ) (holes : List Hole) (e : ℕ) → AreHoles from holes → out ≤ from → i ≤ j → j < length holes
    → slice_index_or (places_from out holes) i e ≤ slice_index_or (places_from out holes) j e
rising i j from out [] e are le h lt = absurd (omega (arith, lt))
rising zero zero from out (h ∷ holes) e are le order lt = omega arith
rising (suc i) zero from out (h ∷ holes) e are le order lt = absurd (omega (arith, order))
rising zero (suc j) from out (h ∷ holes) e are le order lt =
    let low = no_lower j (h.offset + h.size) (out + h.size) holes e are.1 (omega (arith, are.0.apart, le)) (omega (arith, lt)) in
    omega (arith, are.0.apart, le, low)
rising (suc i) (suc j) from out (h ∷ holes) e are le order lt =
    rising i j (h.offset + h.size) (out + h.size) holes e are.1 (omega (arith, are.0.apart, le)) (omega (arith, order)) (omega (arith, lt))

-- the first k of the places are not behind p, and the others are
pub record Parts (places : List ℕ) (p k : ℕ) : Type 0 where
  pub within : k ≤ length places
  pub below : (j e : ℕ) → j < k → slice_index_or places j e ≤ p
  pub above : (j e : ℕ) → k ≤ j → j < length places → p < slice_index_or places j e

pub passes : (k from out : ℕ) (holes : List Hole) (p : ℕ) → AreHoles from holes → out ≤ from → Parts (places_from out holes) p k
    → passing holes (p + out) ≡ p + left_out out k holes
passes zero from out [] p are le parts = refl
passes (suc k) from out [] p are le parts = absurd (omega (arith, parts.within))
passes zero from out (h ∷ holes) p are le parts = go (nat_le h.offset (p + out)) refl
  where
    go : (b : Bool) → nat_le h.offset (p + out) ≡ b → (if b then passing holes (p + out + h.size) else p + out) ≡ p + out
    go false e = refl
    go true e =
        let low : h.offset ≤ p + out = leb-true _ _ e in
        let high : p < h.offset - out = parts.above 0 0 (omega arith) (omega arith) in
        absurd (omega (arith, low, high))
passes (suc k) from out (h ∷ holes) p are le parts =
    go (nat_le h.offset (p + out)) refl (λ parts. passes k (h.offset + h.size) (out + h.size) holes p are.1 (omega (arith, are.0.apart, le)) parts)
  where
    rest : Parts (places_from (out + h.size) holes) p k
    rest = record {
      within = omega (arith, parts.within);
      below = λ j e lt. parts.below (suc j) e (omega (arith, lt));
      above = λ j e lt less. parts.above (suc j) e (omega (arith, lt)) (omega (arith, less));
    }

    go : (b : Bool) → nat_le h.offset (p + out) ≡ b → (Parts (places_from (out + h.size) holes) p k → passing holes (p + (out + h.size)) ≡ p + left_out (out + h.size) k holes)
        → (if b then passing holes (p + out + h.size) else p + out) ≡ p + left_out (out + h.size) k holes
    go false e ind =
        let high : p + out < h.offset = leb-false _ _ e in
        let low : h.offset - out ≤ p = parts.below 0 0 (omega arith) in
        absurd (omega (arith, low, high))
    go true e ind =
        let same : p + out + h.size ≡ p + (out + h.size) = omega arith in
        ap (passing holes) same ∙ ind rest

pub in_file_is : (holes : List Hole) (p k : ℕ) → AreHoles 0 holes → p < most → Parts (places_from 0 holes) p k → in_file holes p ≡ p + left_out 0 k holes
unfolding in_file
in_file_is holes p k are near parts =
    let test : nat_lt p most ≡ true = lt-ltb _ _ near in
    let all : p ≡ p + 0 = omega arith in
    ap (λ (b : Bool). if b then passing holes p else p) test ∙ ap (passing holes) all ∙ passes k 0 0 holes p are (omega arith) parts

pub in_file_far : (holes : List Hole) (p : ℕ) → most ≤ p → in_file holes p ≡ p
unfolding in_file
in_file_far holes p far = go (nat_lt p most) refl
  where
    go : (b : Bool) → nat_lt p most ≡ b → (if b then passing holes p else p) ≡ p
    go false e = refl
    go true e = let near : p < most = ltb-true _ _ e in absurd (omega (arith, near, far))

-- ---- what is left out at all

pub out_small : (n from out : ℕ) (holes : List Hole) → AreHoles from holes → out ≤ from → n ≤ length holes → from ≤ most → left_out out n holes ≤ most
out_small zero from out holes are le lt small = omega (arith, le, small)
out_small (suc n) from out [] are le lt small = absurd (omega (arith, lt))
out_small (suc n) from out (h ∷ holes) are le lt small =
    out_small n (h.offset + h.size) (out + h.size) holes are.1 (omega (arith, are.0.apart, le)) (omega (arith, lt)) are.0.ends

pub out_before_end : (from out : ℕ) (holes : List Hole) → AreHoles from holes → out ≤ from → left_out out (length holes) holes ≤ end_of from holes
out_before_end from out [] are le = le
out_before_end from out (h ∷ holes) are le = out_before_end (h.offset + h.size) (out + h.size) holes are.1 (omega (arith, are.0.apart, le))

pub end_is : (from : ℕ) (holes : List Hole) (n : ℕ) (d : Hole) → length holes ≡ suc n → end_of from holes ≡ (slice_index_or holes n d).offset + (slice_index_or holes n d).size
end_is from [] n d e = absurd (omega (arith, e))
end_is from (h ∷ []) zero d e = refl
end_is from (h ∷ []) (suc n) d e = absurd (omega (arith, e))
end_is from (h ∷ g ∷ holes) zero d e = absurd (omega (arith, e))
end_is from (h ∷ g ∷ holes) (suc n) d e = end_is (h.offset + h.size) (g ∷ holes) n d (omega (arith, e))

pub none_ends : (from : ℕ) (holes : List Hole) → length holes ≡ 0 → end_of from holes ≡ from
none_ends from [] e = refl
none_ends from (h ∷ holes) e = absurd (omega (arith, e))
