-- Lists that have the same at each place.
use Rattle.std.proofs.Common.{◌≡◌, ℕ, zero, suc, ◌+◌, ◌<◌, ◌≤◌, List, [], ◌∷◌, length, Some, None, slice_get, refl, sym, ap, ap₂, ◌∙◌, arith, inl, inr, eq-or-lt_of_le}
use Rattle.std.proofs.lemmas.Bool.{cases_lt}
use Rattle.std.proofs.lemmas.Option.{slice_get_past}

some_is : {A : Type 0} (a b : A) → Some a ≡ Some b → a ≡ b
some_is a b e = cc

pub same_all : {A : Type 0} (xs ys : List A) → ((k : ℕ) → slice_get xs k ≡ slice_get ys k) → xs ≡ ys
same_all [] [] h = refl
same_all [] (y ∷ ys) h = let no : None ≡ Some y = h 0 in absurd cc
same_all (x ∷ xs) [] h = let no : Some x ≡ None = h 0 in absurd cc
same_all (x ∷ xs) (y ∷ ys) h =
    let first : Some x ≡ Some y = h 0 in
    let rest : xs ≡ ys = same_all xs ys (λ k. h (suc k)) in
    ap₂ (λ z zs. z ∷ zs) (some_is x y first) rest

-- so they are where they agree up to the length of the longer one
pub same_lists : {A : Type 0} (xs ys : List A) (count : ℕ) → length xs ≤ count → length ys ≤ count → ((k : ℕ) → k < count → slice_get xs k ≡ slice_get ys k) → xs ≡ ys
same_lists xs ys count a b h = same_all xs ys (λ k. elim (cases_lt k count) [
  | inl less ↦ h k less
  | inr more ↦ slice_get_past xs k (omega (arith, a, more)) ∙ sym (slice_get_past ys k (omega (arith, b, more)))
])

-- one number more
pub one_more : {A : Type 0} (xs ys : List A) (i : ℕ) → ((k : ℕ) → k < i → slice_get xs k ≡ slice_get ys k) → slice_get xs i ≡ slice_get ys i → (k : ℕ) → k < i + 1 → slice_get xs k ≡ slice_get ys k
one_more xs ys i h e k l = elim (cases_lt k i) [
  | inl less ↦ h k less
  | inr more ↦ let same : k ≡ i = omega (arith, l, more) in rw same e
]
