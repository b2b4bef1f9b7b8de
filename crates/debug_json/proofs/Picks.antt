-- Arrays of the values that are found, one after another.
use Rattle.std.proofs.Common.{◌≡◌, ◌∙◌, ℕ, zero, suc, ◌+◌, ◌<◌, ◌≤◌, List, [], ◌∷◌, ◌++◌, length, Option, None, Some, Result, refl, sym, ap, subst, append-nil, append_assoc, length-append, option_to_list, arith}
use Rattle.std.specs.Prelude.{codes, map}
use Rattle.json.specs.Json.{Json}
use Rattle.json.specs.Value.{items_of}
use Rattle.json_lines.specs.Json.{value_text, items_text, more_items}
use Rattle.pickle_io.specs.Text.{◌⧺◌}
use Rattle.pickle_io.specs.Device.{Told, Wrote, Broke, Writes, each_below}
use Rattle.pickle_io.proofs.Devices.{Wrote-none, Wrote-then, Broke-next, Broke-longer, Writes-next, below-next, below-stopped}
use Rattle.debug_json.specs.Array.{lead, picked, picked_json, found_text, picked_text}

-- ---- a value

module _ {X : Type 0} where
  pub found-none : (a : Told) (json : X → Json) (count : ℕ) → Wrote a a (found_text json count None)
  unfolding found_text
  found-none a json count = Wrote-none a

  pub Wrote-found : (a b : Told) (json : X → Json) (count : ℕ) (x : X) → Wrote a b (lead count ⧺ value_text (json x)) → Wrote a b (found_text json count (Some x))
  unfolding found_text
  Wrote-found a b json count x w = w

  pub Broke-found : (a b : Told) (json : X → Json) (count : ℕ) (x : X) → Broke a b (lead count ⧺ value_text (json x)) → Broke a b (found_text json count (Some x))
  unfolding found_text
  Broke-found a b json count x w = w

pub ruleset found_steps = (found-none, Wrote-found, Broke-found)

-- ---- how many there are

module _ {X : Type 0} where
  pub count-next : (find : ℕ → Option X) (k count next : ℕ) → count ≡ length (picked find k) → next ≡ count + length (option_to_list (find k)) → next ≡ length (picked find (k + 1))
  count-next find k count next e n =
      let one : k + 1 ≡ suc k = omega arith in
      let all : length (picked find (suc k)) ≡ length (picked find k) + length (option_to_list (find k)) = length-append (picked find k) (option_to_list (find k)) in
      omega (arith, n, e, all, ap (λ (j : ℕ). length (picked find j)) one)

  pub count-few : (found : Option X) (k count next : ℕ) → count ≤ k → next ≡ count + length (option_to_list found) → next ≤ k + 1
  count-few None k count next h e = omega (arith, h, e)
  count-few (Some x) k count next h e = omega (arith, h, e)

-- ---- the array

module _ {X : Type 0} where
  more-last : (json : X → Json) (xs : List X) (x : X) → more_items (items_of (map json (xs ++ x ∷ []))) ≡ more_items (items_of (map json xs)) ++ (codes "," ++ value_text (json x))
  unfolding ◌⧺◌
  more-last json [] x = append-nil (codes "," ++ value_text (json x))
  more-last json (y ∷ xs) x =
      let front : List ℕ = codes "," ++ value_text (json y) in
      ap (λ (t : List ℕ). front ++ t) (more-last json xs x) ∙ sym (append_assoc front (more_items (items_of (map json xs))) (codes "," ++ value_text (json x)))

  text-last : (json : X → Json) (xs : List X) (x : X)
      → items_text (items_of (map json (xs ++ x ∷ []))) ≡ items_text (items_of (map json xs)) ++ (lead (length xs) ⧺ value_text (json x))
  unfolding lead ◌⧺◌
  text-last json [] x = append-nil (value_text (json x))
  text-last json (y ∷ xs) x =
      ap (λ (t : List ℕ). value_text (json y) ++ t) (more-last json xs x)
      ∙ sym (append_assoc (value_text (json y)) (more_items (items_of (map json xs))) (codes "," ++ value_text (json x)))

  text-more : (json : X → Json) (xs : List X) (found : Option X)
      → items_text (items_of (map json (xs ++ option_to_list found))) ≡ items_text (items_of (map json xs)) ++ found_text json (length xs) found
  unfolding found_text
  text-more json xs (Some x) = text-last json xs x
  text-more json xs None = ap (λ (ys : List X). items_text (items_of (map json ys))) (append-nil xs) ∙ sym (append-nil (items_text (items_of (map json xs))))

  all_picked : (json : X → Json) (find : ℕ → Option X) (n : ℕ) → each_below (picked_text json find) n ≡ items_text (items_of (map json (picked find n)))
  unfolding each_below
  all_picked json find zero = refl
  all_picked json find (suc n) =
      ap (λ (t : List ℕ). t ++ picked_text json find n) (all_picked json find n) ∙ sym (text-more json (picked find n) (find n))

  array_is : (json : X → Json) (find : ℕ → Option X) (n : ℕ) → codes "[" ⧺ each_below (picked_text json find) n ⧺ codes "]" ≡ value_text (picked_json json find n)
  unfolding ◌⧺◌ picked_json
  array_is json find n = ap (λ (t : List ℕ). (codes "[" ++ t) ++ codes "]") (all_picked json find n)

  pub Writes-picked : {A E : Type 0} (a b : Told) (r : Result A E) (json : X → Json) (find : ℕ → Option X) (n : ℕ)
      → Writes a b r (codes "[" ⧺ each_below (picked_text json find) n ⧺ codes "]") → Writes a b r (value_text (picked_json json find n))
  Writes-picked a b r json find n w = subst (λ (t : List ℕ). Writes a b r t) (array_is json find n) w

  pub Broke-picked : (a b : Told) (json : X → Json) (find : ℕ → Option X) (n : ℕ)
      → Broke a b (codes "[" ⧺ each_below (picked_text json find) n ⧺ codes "]") → Broke a b (value_text (picked_json json find n))
  Broke-picked a b json find n w = subst (λ (t : List ℕ). Broke a b t) (array_is json find n) w

pub ruleset array_steps = (Writes-picked, Broke-picked, Wrote-none, Wrote-then, Broke-next, Broke-longer, Writes-next)

-- ---- one number more, or the sink fails

module _ {X : Type 0} where
  at-length : (json : X → Json) (find : ℕ → Option X) (k count : ℕ) (found : Option X) → found ≡ find k → count ≡ length (picked find k)
      → found_text json count found ≡ picked_text json find k
  at-length json find k count found e is = ap (λ (x : Option X). found_text json count x) e ∙ ap (λ (n : ℕ). found_text json n (find k)) is

  pub picked-next : (json : X → Json) (find : ℕ → Option X) (a b c : Told) (k count : ℕ) (found : Option X) → found ≡ find k → count ≡ length (picked find k)
      → Wrote b c (found_text json count found) → Wrote a b (each_below (picked_text json find) k) → Wrote a c (each_below (picked_text json find) (k + 1))
  picked-next json find a b c k count found e is q p =
      below-next (picked_text json find) a b c k (subst (λ (t : List ℕ). Wrote b c t) (at-length json find k count found e is) q) p

  pub picked-stopped : (json : X → Json) (find : ℕ → Option X) (a b c : Told) (k n count : ℕ) (found : Option X) → found ≡ find k → count ≡ length (picked find k) → k < n
      → Broke b c (found_text json count found) → Wrote a b (each_below (picked_text json find) k) → Broke a c (each_below (picked_text json find) n)
  picked-stopped json find a b c k n count found e is h q p =
      below-stopped (picked_text json find) a b c k n h (subst (λ (t : List ℕ). Broke b c t) (at-length json find k count found e is) q) p

  pub picked-count : (find : ℕ → Option X) (k count next : ℕ) (found : Option X) → found ≡ find k → count ≡ length (picked find k) → next ≡ count + length (option_to_list found)
      → next ≡ length (picked find (k + 1))
  picked-count find k count next found e is n = count-next find k count next is (n ∙ ap (λ (x : Option X). count + length (option_to_list x)) e)
