-- Arrays of the values of a range, value by value.
use Rattle.std.proofs.Common.{◌≡◌, ◌∙◌, ℕ, zero, suc, ◌+◌, ◌-◌, ◌<◌, ◌≤◌, List, [], ◌∷◌, ◌++◌, length, take, drop, Some, None, Result, refl, sym, ap, subst, inl, inr, arith}
use Rattle.std.specs.Prelude.{codes, min, slice_get}
use Rattle.std.proofs.lemmas.Bool.{cases_lt}
use Rattle.std.proofs.lemmas.List.{take_all, take_min, length-take-le, length-drop}
use Rattle.json.specs.Json.{Json, array}
use Rattle.json.specs.Value.{items_of}
use Rattle.json_lines.specs.Json.{value_text}
use Rattle.pickle_io.specs.Text.{◌⧺◌}
use Rattle.pickle_io.specs.Device.{Told, Wrote, Broke, Writes, each_below}
use Rattle.pickle_io.proofs.Devices.{Wrote-none, Wrote-then, Broke-next, Broke-longer, Writes-next}
use Rattle.debug_json.specs.Array.{numbered, array_json, between, range_json, lead, nth_text, placed_text, range_text}
use Rattle.debug_json.proofs.Arrays.{array_is}

-- ---- a value that may be there

module _ {X : Type 0} where
  pub placed-none : (a : Told) (json : ℕ → X → Json) (xs : List X) (i k : ℕ) → slice_get xs k ≡ None → Wrote a a (placed_text json xs i k)
  unfolding placed_text
  placed-none a json xs i k e = rw e (Wrote-none a)

  pub Writes-placed : {A E : Type 0} (a b : Told) (r : Result A E) (json : ℕ → X → Json) (xs : List X) (i k : ℕ) (x : X) → slice_get xs k ≡ Some x
      → Writes a b r (lead i ⧺ value_text (json k x)) → Writes a b r (placed_text json xs i k)
  unfolding placed_text
  Writes-placed a b r json xs i k x e w = rw e w

  pub Wrote-placed : (a b : Told) (json : ℕ → X → Json) (xs : List X) (i k : ℕ) (x : X) → slice_get xs k ≡ Some x
      → Wrote a b (lead i ⧺ value_text (json k x)) → Wrote a b (placed_text json xs i k)
  unfolding placed_text
  Wrote-placed a b json xs i k x e w = rw e w

  pub Broke-placed : (a b : Told) (json : ℕ → X → Json) (xs : List X) (i k : ℕ) (x : X) → slice_get xs k ≡ Some x
      → Broke a b (lead i ⧺ value_text (json k x)) → Broke a b (placed_text json xs i k)
  unfolding placed_text
  Broke-placed a b json xs i k x e w = rw e w

pub ruleset placed_steps = (placed-none, Writes-placed, Wrote-placed, Broke-placed)

-- ---- the values of a range

module _ {X : Type 0} where
  none_at : (k : ℕ) (xs : List X) → xs ≡ [] → slice_get xs k ≡ None
  none_at zero [] e = refl
  none_at (suc k) [] e = refl
  none_at k (x ∷ xs) e = absurd cc

  get-drop : (a i : ℕ) (xs : List X) → slice_get (drop a xs) i ≡ slice_get xs (a + i)
  get-drop zero i xs = let e : i ≡ 0 + i = omega arith in ap (slice_get xs) e
  get-drop (suc a) i [] = none_at i [] refl ∙ sym (none_at (suc a + i) [] refl)
  get-drop (suc a) i (x ∷ xs) = let e : suc (a + i) ≡ suc a + i = omega arith in get-drop a i xs ∙ ap (slice_get (x ∷ xs)) e

  get-take : (b i : ℕ) (xs : List X) → i < b → slice_get (take b xs) i ≡ slice_get xs i
  get-take zero i xs h = absurd (omega (arith, h))
  get-take (suc b) i [] h = refl
  get-take (suc b) zero (x ∷ xs) h = refl
  get-take (suc b) (suc i) (x ∷ xs) h = get-take b i xs (omega (arith, h))

  get-between : (a b i : ℕ) (xs : List X) → a + i < b → slice_get (between a b xs) i ≡ slice_get xs (a + i)
  get-between a b i xs h = get-drop a i (take b xs) ∙ get-take b (a + i) xs h

  length-between : (a b : ℕ) (xs : List X) → b ≤ length xs → length (between a b xs) ≡ b - a
  length-between a b xs h = let n = length-take-le b xs h in omega (arith, length-drop a (take b xs), n)

each_below-same : (f g : ℕ → List ℕ) (n : ℕ) → ((i : ℕ) → i < n → f i ≡ g i) → each_below f n ≡ each_below g n
unfolding each_below
each_below-same f g zero h = refl
each_below-same f g (suc n) h =
    ap (λ (t : List ℕ). t ++ f n) (each_below-same f g n (λ i k. h i (omega (arith, k)))) ∙ ap (λ (t : List ℕ). each_below g n ++ t) (h n (omega arith))

module _ {X : Type 0} where
  -- a value of a range is that of its place
  nth-range : (json : ℕ → X → Json) (a b : ℕ) (xs : List X) (i : ℕ) → a + i < b → nth_text (λ (k : ℕ). json (a + k)) (between a b xs) i ≡ range_text json xs a i
  unfolding nth_text placed_text
  nth-range json a b xs i h = rw (get-between a b i xs h) refl

  range_is : (json : ℕ → X → Json) (a b : ℕ) (xs : List X) → a ≤ b → b ≤ length xs
      → codes "[" ⧺ each_below (range_text json xs a) (b - a) ⧺ codes "]" ≡ value_text (range_json json a b xs)
  unfolding range_json ◌⧺◌
  range_is json a b xs h w =
      let js : ℕ → X → Json = λ (k : ℕ). json (a + k) in
      let n : length (between a b xs) ≡ b - a = length-between a b xs w in
      let same : each_below (range_text json xs a) (b - a) ≡ each_below (nth_text js (between a b xs)) (length (between a b xs)) =
      each_below-same (range_text json xs a) (nth_text js (between a b xs)) (b - a) (λ i k. sym (nth-range json a b xs i (omega (arith, k, h))))
      ∙ ap (each_below (nth_text js (between a b xs))) (sym n) in
      ap (λ (t : List ℕ). (codes "[" ++ t) ++ codes "]") same ∙ array_is js (between a b xs)

  pub Writes-range : {A E : Type 0} (p q : Told) (r : Result A E) (json : ℕ → X → Json) (a b : ℕ) (xs : List X) → a ≤ b → b ≤ length xs
      → Writes p q r (codes "[" ⧺ each_below (range_text json xs a) (b - a) ⧺ codes "]") → Writes p q r (value_text (range_json json a b xs))
  Writes-range p q r json a b xs h k w = subst (λ (t : List ℕ). Writes p q r t) (range_is json a b xs h k) w

  pub Broke-range : (p q : Told) (json : ℕ → X → Json) (a b : ℕ) (xs : List X) → a ≤ b → b ≤ length xs
      → Broke p q (codes "[" ⧺ each_below (range_text json xs a) (b - a) ⧺ codes "]") → Broke p q (value_text (range_json json a b xs))
  Broke-range p q json a b xs h k w = subst (λ (t : List ℕ). Broke p q t) (range_is json a b xs h k) w

pub ruleset range_steps = (Writes-range, Broke-range, Wrote-none, Wrote-then, Broke-next, Broke-longer, Writes-next)

-- ---- a range that is cut, and the range of all

module _ {X : Type 0} where
  drop-past : (a : ℕ) (xs : List X) → length xs ≤ a → drop a xs ≡ []
  drop-past zero [] h = refl
  drop-past zero (x ∷ xs) h = absurd (omega (arith, h))
  drop-past (suc a) [] h = refl
  drop-past (suc a) (x ∷ xs) h = drop-past a xs (omega (arith, h))

  -- no value is in the range
  empty-range : (json : ℕ → X → Json) (a b : ℕ) (xs : List X) → between a b xs ≡ [] → range_json json a b xs ≡ array_json json []
  unfolding range_json array_json
  empty-range json a b xs e = rw e refl

  same-range : (json : ℕ → X → Json) (a b c : ℕ) (xs : List X) → take b xs ≡ take c xs → range_json json a b xs ≡ range_json json a c xs
  unfolding range_json
  same-range json a b c xs e = rw e refl

  pub range-cut : (json : ℕ → X → Json) (a b e s : ℕ) (xs : List X) → e ≡ min b (length xs) → s ≡ min a e → range_json json s e xs ≡ range_json json a b xs
  range-cut json a b e s xs is at = elim (cases_lt e a) [
    | inl past ↦
        let n : length (take e xs) ≡ e = length-take-le e xs (omega (arith, is)) in
        let here : s ≡ e = omega (arith, at, past) in
        let whole : take b xs ≡ take e xs = sym (ap (λ (k : ℕ). take k xs) is ∙ take_min b xs) in
        let none : between s e xs ≡ [] = drop-past s (take e xs) (omega (arith, n, here)) in
        let other : between a b xs ≡ [] = ap (drop a) whole ∙ drop-past a (take e xs) (omega (arith, n, past)) in
        empty-range json s e xs none ∙ sym (empty-range json a b xs other)
    | inr within ↦
        let here : s ≡ a = omega (arith, at, within) in
        let whole : take e xs ≡ take b xs = ap (λ (k : ℕ). take k xs) is ∙ take_min b xs in
        ap (λ (k : ℕ). range_json json k e xs) here ∙ same-range json a e b xs whole
  ]

  numbered-same : (f g : ℕ → X → Json) (xs : List X) → ((i : ℕ) (x : X) → f i x ≡ g i x) → numbered f xs ≡ numbered g xs
  numbered-same f g [] h = refl
  numbered-same f g (x ∷ xs) h = rw (h 0 x) (ap (λ (l : List Json). g 0 x ∷ l) (numbered-same (λ i. f (suc i)) (λ i. g (suc i)) xs (λ i y. h (suc i) y)))

  pub range-all : (json : ℕ → X → Json) (n : ℕ) (xs : List X) → n ≡ length xs → range_json json 0 n xs ≡ array_json json xs
  unfolding range_json array_json
  range-all json n xs e =
      let from : (i : ℕ) → 0 + i ≡ i = λ i. omega arith in
      let whole : take n xs ≡ xs = take_all n xs (omega (arith, e)) in
      let same : numbered (λ (i : ℕ). json (0 + i)) (take n xs) ≡ numbered json xs =
      ap (numbered (λ (i : ℕ). json (0 + i))) whole ∙ numbered-same (λ (i : ℕ). json (0 + i)) json xs (λ i x. ap (λ (k : ℕ). json k x) (from i)) in
      ap (λ (l : List Json). array (items_of l)) same

  pub Writes-cut : {A E : Type 0} (p q : Told) (r : Result A E) (json : ℕ → X → Json) (a b e s : ℕ) (xs : List X) → e ≡ min b (length xs) → s ≡ min a e
      → Writes p q r (value_text (range_json json s e xs)) → Writes p q r (value_text (range_json json a b xs))
  Writes-cut p q r json a b e s xs is at w = subst (λ (v : Json). Writes p q r (value_text v)) (range-cut json a b e s xs is at) w

  pub Writes-all : {A E : Type 0} (p q : Told) (r : Result A E) (json : ℕ → X → Json) (n : ℕ) (xs : List X) → n ≡ length xs
      → Writes p q r (value_text (range_json json 0 n xs)) → Writes p q r (value_text (array_json json xs))
  Writes-all p q r json n xs is w = subst (λ (v : Json). Writes p q r (value_text v)) (range-all json n xs is) w

pub ruleset cut_steps = (Writes-cut, Writes-all)
