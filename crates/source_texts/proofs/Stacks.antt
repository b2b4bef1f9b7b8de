-- The objects of a stack that are written one after another.
use Rattle.std.proofs.Common.{◌≡◌, ℕ, ◌+◌, ◌≤◌, List, [], ◌++◌, length, take, drop, Option, Some, None, refl, sym, ap, subst, ◌∙◌, append-nil, inl, inr, arith}
use Rattle.std.specs.Prelude.{slice_get}
use Rattle.std.specs.List.{flat_map}
use Rattle.std.specs.Option.{option_to_list}
use Rattle.std.proofs.lemmas.Bool.{cases_lt}
use Rattle.std.proofs.lemmas.List.{take_more, take_all, take-append-drop}
use Rattle.std.proofs.lemmas.List.Concat.{flat_map-append}
use Rattle.std.proofs.lemmas.Option.{slice_get-get_or, slice_get_past}
use Rattle.pickle_io.specs.Device.{Told, Wrote, Broke, each}
use Rattle.pickle_io.proofs.Devices.{Wrote-none, Wrote-trans, Broke-after, Broke-more}

parts-append : (f : ℕ → List ℕ) (xs ys : List ℕ) → each f (xs ++ ys) ≡ each f xs ++ each f ys
unfolding each
parts-append f xs ys = flat_map-append f xs ys

-- one object, or none
pub one_object : (f : ℕ → List ℕ) (o : Option ℕ) (id : ℕ) → o ≡ Some id → f id ≡ each f (option_to_list o)
unfolding each
one_object f o id e = sym (append-nil (f id)) ∙ ap (λ (x : Option ℕ). flat_map f (option_to_list x)) (sym e)

no_object : (f : ℕ → List ℕ) → each f [] ≡ []
unfolding each
no_object f = refl

pub wrote_none : (f : ℕ → List ℕ) (a : Told) → Wrote a a (each f [])
wrote_none f a = rw (no_object f) (Wrote-none a)

pub wrote_no_object : (f : ℕ → List ℕ) (a : Told) (o : Option ℕ) → o ≡ None → Wrote a a (each f (option_to_list o))
wrote_no_object f a o e = rw e (wrote_none f a)

take-next : (xs : List ℕ) (i : ℕ) → take (i + 1) xs ≡ take i xs ++ option_to_list (slice_get xs i)
take-next xs i = elim (cases_lt i (length xs)) [
  | inl within ↦ take_more xs i 0 within ∙ ap (λ (o : Option ℕ). take i xs ++ option_to_list o) (sym (slice_get-get_or xs i 0 within))
  | inr past ↦
      take_all (i + 1) xs (omega (arith, past)) ∙ sym (take_all i xs past) ∙ sym (append-nil (take i xs))
      ∙ ap (λ (o : Option ℕ). take i xs ++ option_to_list o) (sym (slice_get_past xs i past))
]

parts-next : (f : ℕ → List ℕ) (xs : List ℕ) (i : ℕ) → each f (take (i + 1) xs) ≡ each f (take i xs) ++ each f (option_to_list (slice_get xs i))
parts-next f xs i = ap (each f) (take-next xs i) ∙ parts-append f (take i xs) (option_to_list (slice_get xs i))

pub wrote_next : (f : ℕ → List ℕ) (a b c : Told) (xs : List ℕ) (i : ℕ)
    → Wrote b c (each f (option_to_list (slice_get xs i))) → Wrote a b (each f (take i xs)) → Wrote a c (each f (take (i + 1) xs))
wrote_next f a b c xs i q p = rw (parts-next f xs i) (Wrote-trans a b c (each f (take i xs)) (each f (option_to_list (slice_get xs i))) p q)

pub broke_at : (f : ℕ → List ℕ) (a b c : Told) (xs : List ℕ) (i : ℕ)
    → Broke b c (each f (option_to_list (slice_get xs i))) → Wrote a b (each f (take i xs)) → Broke a c (each f xs)
broke_at f a b c xs i q p =
    let front = each f (take i xs) ++ each f (option_to_list (slice_get xs i)) in
    let parts : each f xs ≡ front ++ each f (drop (i + 1) xs) =
    ap (each f) (sym (take-append-drop (i + 1) xs)) ∙ parts-append f (take (i + 1) xs) (drop (i + 1) xs) ∙ ap (λ (t : List ℕ). t ++ each f (drop (i + 1) xs)) (parts-next f xs i) in
    rw parts (Broke-more a c front (each f (drop (i + 1) xs)) (Broke-after a b c (each f (take i xs)) (each f (option_to_list (slice_get xs i))) p q))

pub wrote_all : (f : ℕ → List ℕ) (a b : Told) (xs : List ℕ) (i : ℕ) → length xs ≤ i → Wrote a b (each f (take i xs)) → Wrote a b (each f xs)
wrote_all f a b xs i h p = subst (λ (ids : List ℕ). Wrote a b (each f ids)) (take_all i xs h) p
