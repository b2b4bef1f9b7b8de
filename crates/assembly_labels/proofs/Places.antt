-- Labels one after another, each with its place.
use Rattle.std.proofs.Common.{◌≡◌, ℕ, zero, suc, ◌+◌, ◌<◌, ◌≤◌, Bool, true, false, cond, List, [], ◌∷◌, ◌++◌, length, Option, Some, None, Bor, refl, sym, ap, subst, ◌∙◌, arith, inl, inr, eqb}
use Rattle.std.specs.Prelude.{nat_lt, not, is_some, if◌then◌else◌}
use Rattle.std.specs.BTreeMap as tree
use Rattle.std.specs.BTreeMap.{BTreeMap, btree_map_len}
use Rattle.std.specs.Cmp.Lexicographic.{slice_cmp}
use Rattle.std.specs.List.{position, position_or_len, prefix_len}
use Rattle.std.specs.Map.{update}
use Rattle.std.specs.Ordering.{nat_cmp}
use Rattle.std.specs.Str.{bytes_eq}
use Rattle.std.proofs.lemmas.Bool.{cases_Bool}
use Rattle.std.proofs.lemmas.List.{length-append}
use Rattle.std.proofs.lemmas.List.Folds.{position_or_len_push}
use Rattle.std.proofs.lemmas.Slice.Eq.{bytes_eq-Decides}
use Rattle.assembly_labels.specs.Labels.{place_in, noted}
use Rattle.assembly_labels.specs.Numbering.{IsNumbering}

within : {X : Type 0} (p : X → Bool) (xs : List X) → position_or_len p xs ≤ length xs
within p [] = omega arith
within p (x ∷ xs) = go (p x) (within p xs)
  where
    go : (t : Bool) → position_or_len p xs ≤ length xs → cond (not t) (1 + position_or_len p xs) 0 ≤ length (x ∷ xs)
    go true h = omega arith
    go false h = omega (arith, h)

-- the place among these that is the first of some, if it is one of them
abbrev first_place : ℕ → ℕ → Option ℕ
first_place at count = cond (nat_lt at count) (Some at) None

pushed : (at count : ℕ) (last : Bool) → at ≤ count
    → first_place (cond (eqb at count) (count + cond last 0 1) at) (count + 1) ≡ cond (is_some (first_place at count)) (first_place at count) (cond last (Some count) None)
pushed at count last h = grind arith

-- one more is found where it is, if none was found before
pub place_push : {X : Type 0} (p : X → Bool) (xs : List X) (y : X) → position p (xs ++ y ∷ []) ≡ cond (is_some (position p xs)) (position p xs) (cond (p y) (Some (length xs)) None)
place_push p xs y =
    let n : length (xs ++ y ∷ []) ≡ length xs + 1 = length-append xs (y ∷ []) in
    ap (λ (k : ℕ). first_place (position_or_len p (xs ++ y ∷ [])) k) n
    ∙ ap (λ (k : ℕ). first_place k (length xs + 1)) (position_or_len_push p xs y)
    ∙ pushed (position_or_len p xs) (length xs) (p y) (within p xs)

none_of : (o : Option ℕ) → is_some o ≡ false → o ≡ None
none_of None h = refl
none_of (Some n) h = absurd cc

keeps : (o : Option ℕ) → cond (is_some o) o None ≡ o
keeps None = refl
keeps (Some n) = refl

-- what was found, or else the last
abbrev pick : Option ℕ → Bool → ℕ → Option ℕ
pick found last count = cond (is_some found) found (cond last (Some count) None)

-- a label more, where there is none such
pub place_more : (names : List (List ℕ)) (label q : List ℕ) → is_some (place_in names label) ≡ false
    → cond (bytes_eq label q) (Some (length names)) (place_in names q) ≡ place_in (names ++ label ∷ []) q
place_more names label q h = elim (cases_Bool (bytes_eq label q)) [
  | inl hit ↦
      let same : label ≡ q = (bytes_eq-Decides label q).0 hit in
      let none : place_in names q ≡ None = none_of (place_in names q) (subst (λ (x : List ℕ). is_some (place_in names x) ≡ false) same h) in
      ap (λ (b : Bool). cond b (Some (length names)) (place_in names q)) hit
      ∙ sym (place_push (λ (name : List ℕ). bytes_eq name q) names label ∙ ap (λ (o : Option ℕ). pick o (bytes_eq label q) (length names)) none
      ∙ ap (λ (b : Bool). pick None b (length names)) hit)
  | inr miss ↦
      ap (λ (b : Bool). cond b (Some (length names)) (place_in names q)) miss
      ∙ sym (place_push (λ (name : List ℕ). bytes_eq name q) names label ∙ ap (λ (b : Bool). pick (place_in names q) b (length names)) miss ∙ keeps (place_in names q))
]

-- a label more is kept with the place behind all
pub noted_new : (names : List (List ℕ)) (label : List ℕ) (old new : BTreeMap (Bor (List ℕ)) ℕ) (place : ℕ) → place ≡ btree_map_len old
    → is_some (tree.get_by (λ k. slice_cmp nat_cmp label k.now) old) ≡ false → btree_map_len new ≡ btree_map_len old + 1
    → ((q : List ℕ) → tree.get_by (λ k. slice_cmp nat_cmp q k.now) new ≡ update bytes_eq (λ ds. tree.get_by (λ k. slice_cmp nat_cmp ds k.now) old) label (Some place) q)
    → IsNumbering names old → IsNumbering (noted names label) new
noted_new names label old new place at none more places n =
    let fresh : is_some (place_in names label) ≡ false = ap is_some (sym (n.places label)) ∙ none in
    let here : place ≡ length names = at ∙ n.count in
    rw fresh (record {
      count = omega (arith, more, n.count, length-append names (label ∷ []));
      places = λ q. places q ∙ ap (λ (k : ℕ). cond (bytes_eq label q) (Some k) (tree.get_by (λ k. slice_cmp nat_cmp q k.now) old)) here
          ∙ ap (λ (o : Option ℕ). cond (bytes_eq label q) (Some (length names)) o) (n.places q) ∙ place_more names label q fresh;
    })
