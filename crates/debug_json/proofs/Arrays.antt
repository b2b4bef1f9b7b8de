-- Objects and arrays, value by value.
use Rattle.std.proofs.Common.{◌≡◌, ℕ, zero, suc, List, [], ◌∷◌, ◌++◌, length, Some, None, Result, refl, sym, ap, subst, ◌∙◌, append-nil, append_assoc, arith}
use Rattle.std.specs.Prelude.{codes, slice_get}
use Rattle.std.specs.Option.{option_map_or}
use Rattle.json.specs.Json.{Json}
use Rattle.json.specs.Value.{items_of}
use Rattle.json_lines.specs.Json.{value_text, items_text, more_items}
use Rattle.json_lines.specs.Line.{Field, begun, fields_text, line}
use Rattle.json_lines.proofs.Lines.{object_is, line_is, fields-none}
use Rattle.pickle_io.specs.Text.{◌⧺◌}
use Rattle.pickle_io.specs.Device.{Told, Wrote, Broke, Writes, each_below}
use Rattle.pickle_io.proofs.Devices.{Wrote-none, Wrote-then, Broke-next, Broke-longer, Writes-next}
use Rattle.pickle_ops.specs.Object.{Object}
use Rattle.objects_json.specs.ObjectFields.{object_line}
use Rattle.debug_json.specs.Array.{object_json, numbered, array_json, lead, nth_text}
use Rattle.debug_json.specs.ShownFields.{show_line}

-- ---- objects

object_text : (kind : List ℕ) (fs : List Field) → begun kind ⧺ fields_text fs ⧺ codes "}" ≡ value_text (object_json kind fs)
unfolding object_json
object_text kind fs = object_is kind fs

pub Writes-object : {A E : Type 0} (a b : Told) (r : Result A E) (kind : List ℕ) (fs : List Field)
    → Writes a b r (begun kind ⧺ fields_text fs ⧺ codes "}") → Writes a b r (value_text (object_json kind fs))
Writes-object a b r kind fs w = subst (λ (t : List ℕ). Writes a b r t) (object_text kind fs) w

pub Broke-object : (a b : Told) (kind : List ℕ) (fs : List Field)
    → Broke a b (begun kind ⧺ fields_text fs ⧺ codes "}") → Broke a b (value_text (object_json kind fs))
Broke-object a b kind fs w = subst (λ (t : List ℕ). Broke a b t) (object_text kind fs) w

pub ruleset object_steps = (Writes-object, Broke-object, Wrote-none, Wrote-then, Broke-next, Broke-longer, Writes-next)

-- ---- lines without a further field

bare_is : (kind : List ℕ) → begun kind ⧺ codes "}\n" ≡ line kind []
unfolding ◌⧺◌
bare_is kind = sym (line_is kind [] ∙ ap (λ (t : List ℕ). (begun kind ++ t) ++ codes "}\n") fields-none ∙ ap (λ (t : List ℕ). t ++ codes "}\n") (append-nil (begun kind)))

pub Writes-bare : {A E : Type 0} (a b : Told) (r : Result A E) (kind : List ℕ) → Writes a b r (begun kind ⧺ codes "}\n") → Writes a b r (line kind [])
Writes-bare a b r kind w = subst (λ (t : List ℕ). Writes a b r t) (bare_is kind) w

pub Broke-bare : (a b : Told) (kind : List ℕ) → Broke a b (begun kind ⧺ codes "}\n") → Broke a b (line kind [])
Broke-bare a b kind w = subst (λ (t : List ℕ). Broke a b t) (bare_is kind) w

pub ruleset bare_steps = (Writes-bare, Broke-bare, Wrote-none, Wrote-then, Broke-next, Broke-longer, Writes-next)

-- ---- commas

pub lead-first : (a : Told) (i : ℕ) → i ≡ 0 → Wrote a a (lead i)
unfolding lead
lead-first a zero e = Wrote-none a
lead-first a (suc i) e = absurd (omega (arith, e))

pub lead-later : {A E : Type 0} (a b : Told) (r : Result A E) (i : ℕ) → (i ≡ 0 → ⊥) → Writes a b r (codes ",") → Writes a b r (lead i)
unfolding lead
lead-later a b r zero n w = absurd (n refl)
lead-later a b r (suc i) n w = w

pub ruleset lead_steps = (lead-first, lead-later)

-- ---- a value that may be there

module _ {X : Type 0} where
  pub nth-none : (a : Told) (json : ℕ → X → Json) (xs : List X) (i : ℕ) → slice_get xs i ≡ None → Wrote a a (nth_text json xs i)
  unfolding nth_text
  nth-none a json xs i e = rw e (Wrote-none a)

  pub Writes-nth : {A E : Type 0} (a b : Told) (r : Result A E) (json : ℕ → X → Json) (xs : List X) (i : ℕ) (x : X) → slice_get xs i ≡ Some x
      → Writes a b r (lead i ⧺ value_text (json i x)) → Writes a b r (nth_text json xs i)
  unfolding nth_text
  Writes-nth a b r json xs i x e w = rw e w

  pub Wrote-nth : (a b : Told) (json : ℕ → X → Json) (xs : List X) (i : ℕ) (x : X) → slice_get xs i ≡ Some x
      → Wrote a b (lead i ⧺ value_text (json i x)) → Wrote a b (nth_text json xs i)
  unfolding nth_text
  Wrote-nth a b json xs i x e w = rw e w

  pub Broke-nth : (a b : Told) (json : ℕ → X → Json) (xs : List X) (i : ℕ) (x : X) → slice_get xs i ≡ Some x
      → Broke a b (lead i ⧺ value_text (json i x)) → Broke a b (nth_text json xs i)
  unfolding nth_text
  Broke-nth a b json xs i x e w = rw e w

pub ruleset nth_steps = (nth-none, Writes-nth, Wrote-nth, Broke-nth)

-- ---- arrays

-- a value behind others
next_text : {X : Type 0} → (ℕ → X → Json) → List X → ℕ → List ℕ
next_text json xs i = option_map_or (λ x. codes "," ++ value_text (json i x)) (slice_get xs i) []

-- the first of the texts, and then the others
below-shift : (text : ℕ → List ℕ) (n : ℕ) → each_below text (suc n) ≡ text 0 ++ each_below (λ i. text (suc i)) n
unfolding each_below
below-shift text zero = sym (append-nil (text 0))
below-shift text (suc n) =
    ap (λ (t : List ℕ). t ++ text (suc n)) (below-shift text n) ∙ append_assoc (text 0) (each_below (λ i. text (suc i)) n) (text (suc n))

module _ {X : Type 0} where
  nexts : (json : ℕ → X → Json) (xs : List X) → each_below (next_text json xs) (length xs) ≡ more_items (items_of (numbered json xs))
  unfolding ◌⧺◌ each_below next_text
  nexts json [] = refl
  nexts json (x ∷ xs) =
      below-shift (next_text json (x ∷ xs)) (length xs)
      ∙ ap (λ (t : List ℕ). (codes "," ++ value_text (json 0 x)) ++ t) (nexts (λ i. json (suc i)) xs)

  values : (json : ℕ → X → Json) (xs : List X) → each_below (nth_text json xs) (length xs) ≡ items_text (items_of (numbered json xs))
  unfolding ◌⧺◌ each_below nth_text lead next_text
  values json [] = refl
  values json (x ∷ xs) =
      below-shift (nth_text json (x ∷ xs)) (length xs)
      ∙ ap (λ (t : List ℕ). value_text (json 0 x) ++ t) (nexts (λ i. json (suc i)) xs)

  pub array_is : (json : ℕ → X → Json) (xs : List X) → codes "[" ⧺ each_below (nth_text json xs) (length xs) ⧺ codes "]" ≡ value_text (array_json json xs)
  unfolding ◌⧺◌ array_json
  array_is json xs = ap (λ (t : List ℕ). (codes "[" ++ t) ++ codes "]") (values json xs)

  pub Writes-array : {A E : Type 0} (a b : Told) (r : Result A E) (json : ℕ → X → Json) (xs : List X)
      → Writes a b r (codes "[" ⧺ each_below (nth_text json xs) (length xs) ⧺ codes "]") → Writes a b r (value_text (array_json json xs))
  Writes-array a b r json xs w = subst (λ (t : List ℕ). Writes a b r t) (array_is json xs) w

  pub Broke-array : (a b : Told) (json : ℕ → X → Json) (xs : List X)
      → Broke a b (codes "[" ⧺ each_below (nth_text json xs) (length xs) ⧺ codes "]") → Broke a b (value_text (array_json json xs))
  Broke-array a b json xs w = subst (λ (t : List ℕ). Broke a b t) (array_is json xs) w

pub ruleset array_steps = (Writes-array, Broke-array, Wrote-none, Wrote-then, Broke-next, Broke-longer, Writes-next)

-- ---- one object

pub show-none : (a : Told) (heap : List Object) (n : ℕ) → slice_get heap n ≡ None → Wrote a a (show_line heap n)
unfolding show_line
show-none a heap n e = rw e (Wrote-none a)

pub Writes-show : {A E : Type 0} (a b : Told) (r : Result A E) (heap : List Object) (n : ℕ) (o : Object) → slice_get heap n ≡ Some o
    → Writes a b r (object_line n o) → Writes a b r (show_line heap n)
unfolding show_line
Writes-show a b r heap n o e w = rw e w

pub ruleset show_steps = (show-none, Writes-show)
