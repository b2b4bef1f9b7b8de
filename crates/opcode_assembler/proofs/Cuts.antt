-- Texts that are cut.
use Rattle.std.proofs.Common.{◌≡◌, ℕ, suc, ◌+◌, ◌<◌, ◌≤◌, Bool, true, false, cond, List, [], ◌∷◌, length, take, drop, Option, Some, None, option_map, Bor, refl, ap, arith}
use Rattle.std.specs.Prelude.{not, if◌then◌else◌}
use Rattle.std.specs.List.{slice_split, onto_first, prefix_len}
use Rattle.opcode_assembler.specs.Cut.{before, behind}

pub prefix_len-within : (p : ℕ → Bool) (bs : List ℕ) → prefix_len p bs ≤ length bs
prefix_len-within p [] = omega arith
prefix_len-within p (b ∷ bs) = go (p b) (prefix_len-within p bs)
  where
    go : (t : Bool) → prefix_len p bs ≤ length bs → cond t (1 + prefix_len p bs) 0 ≤ length (b ∷ bs)
    go true h = omega (arith, h)
    go false h = omega arith

one_more : (n : ℕ) → 1 + n ≡ suc n
one_more n = omega arith

-- what stands behind the first of bytes, if there is one
abbrev pub tail_of : List ℕ → Option (List ℕ)
tail_of [] = None
tail_of (c ∷ bytes) = Some bytes

-- ---- a cut

pub front_is : (p : ℕ → Bool) (bs : List ℕ) → take (prefix_len (λ c. not (p c)) bs) bs ≡ before p bs
front_is p [] = refl
front_is p (b ∷ bs) = go (p b) (front_is p bs)
  where
    go : (t : Bool) → take (prefix_len (λ c. not (p c)) bs) bs ≡ before p bs → take (cond (not t) (1 + prefix_len (λ c. not (p c)) bs) 0) (b ∷ bs) ≡ (if t then [] else b ∷ before p bs)
    go true e = refl
    go false e = rw (one_more (prefix_len (λ c. not (p c)) bs)) (ap (λ (xs : List ℕ). b ∷ xs) e)

pub rest_is : (p : ℕ → Bool) (bs : List ℕ) → tail_of (drop (prefix_len (λ c. not (p c)) bs) bs) ≡ behind p bs
rest_is p [] = refl
rest_is p (b ∷ bs) = go (p b) (rest_is p bs)
  where
    go : (t : Bool) → tail_of (drop (prefix_len (λ c. not (p c)) bs) bs) ≡ behind p bs → tail_of (drop (cond (not t) (1 + prefix_len (λ c. not (p c)) bs) 0) (b ∷ bs)) ≡ (if t then Some bs else behind p bs)
    go true e = refl
    go false e = rw (one_more (prefix_len (λ c. not (p c)) bs)) e

-- what is left to be cut
abbrev pub split_left : (ℕ → Bool) → Option (List ℕ) → List (List ℕ)
split_left p None = []
split_left p (Some bs) = slice_split p bs

pub split_cut : (p : ℕ → Bool) (bs : List ℕ) → slice_split p bs ≡ before p bs ∷ split_left p (behind p bs)
split_cut p [] = refl
split_cut p (b ∷ bs) = go (p b) (split_cut p bs)
  where
    go : (t : Bool) → slice_split p bs ≡ before p bs ∷ split_left p (behind p bs) → cond t ([] ∷ slice_split p bs) (onto_first b (slice_split p bs)) ≡ (if t then [] else b ∷ before p bs) ∷ split_left p (if t then Some bs else behind p bs)
    go true e = refl
    go false e = ap (onto_first b) e

abbrev pub size_left : Option (List ℕ) → ℕ
size_left None = 0
size_left (Some bs) = length bs + 1

pub less_left : (p : ℕ → Bool) (bs : List ℕ) → size_left (behind p bs) ≤ length bs
less_left p [] = omega arith
less_left p (b ∷ bs) = go (p b) (less_left p bs)
  where
    go : (t : Bool) → size_left (behind p bs) ≤ length bs → size_left (if t then Some bs else behind p bs) ≤ length (b ∷ bs)
    go true h = omega arith
    go false h = omega (arith, h)

-- a loop over what is left
pub rest_smaller : (p : ℕ → Bool) (rest next : Option (Bor (List ℕ))) (left : Bor (List ℕ)) → rest ≡ Some left → option_map (λ r. r.now) next ≡ behind p left.now
    → size_left (option_map (λ r. r.now) next) < size_left (option_map (λ r. r.now) rest)
rest_smaller p rest next left e b = let s = less_left p left.now in rw (e, b) (omega (arith, s))

pub split_some : (p : ℕ → Bool) (rest : Option (Bor (List ℕ))) (left : Bor (List ℕ)) → rest ≡ Some left → split_left p (option_map (λ r. r.now) rest) ≡ slice_split p left.now
split_some p rest left e = ap (λ (o : Option (Bor (List ℕ))). split_left p (option_map (λ r. r.now) o)) e
