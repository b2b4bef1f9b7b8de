-- Lines, one after another.
use Rattle.std.proofs.Common.{◌≡◌, ℕ, zero, suc, ◌+◌, ◌<◌, ◌≤◌, Bool, true, false, cond, Option, Some, None, inl, inr, List, [], ◌∷◌, ◌++◌, length, take, get_or, map, Bor, refl, sym, ap, ◌∙◌, append-nil, arith}
use Rattle.std.specs.Prelude.{nat_lt}
use Rattle.std.specs.List.{fold, concat, position, position_or_len}
use Rattle.std.proofs.lemmas.List.{take_more, map-append}
use Rattle.std.proofs.lemmas.List.Folds.{concat-append}
use Rattle.std.proofs.lemmas.List.Sums.{fold-append, position_or_len_is}
use Rattle.std.proofs.lemmas.Bool.{cases_lt, lt-ltb}

-- what stands behind references
abbrev pub seen : List (Bor (List ℕ)) → List (List ℕ)
seen lines = map (λ (line : Bor (List ℕ)). line.now) lines

map_push : (xs : List (Bor (List ℕ))) (y : Bor (List ℕ)) → seen (xs ++ y ∷ []) ≡ seen xs ++ y.now ∷ []
map_push [] y = refl
map_push (x ∷ xs) y = ap (λ (ls : List (List ℕ)). x.now ∷ ls) (map_push xs y)

-- the lines up to the next
pub next_line : (lines : List (Bor (List ℕ))) (i : ℕ) (d : Bor (List ℕ)) → i < length lines → seen (take (i + 1) lines) ≡ seen (take i lines) ++ (get_or lines i d).now ∷ []
next_line lines i d h = ap seen (take_more lines i d h) ∙ map_push (take i lines) (get_or lines i d)

-- what is told of the lines up to it
pub next_fold : {A : Type 0} (f : A → List ℕ → A) (a : A) (lines : List (Bor (List ℕ))) (i : ℕ) (d : Bor (List ℕ)) → i < length lines
    → fold f a (seen (take (i + 1) lines)) ≡ f (fold f a (seen (take i lines))) (get_or lines i d).now
next_fold f a lines i d h = ap (fold f a) (next_line lines i d h) ∙ fold-append f a (seen (take i lines)) ((get_or lines i d).now ∷ [])

-- a line among those that are seen
pub seen_at : (lines : List (Bor (List ℕ))) (i : ℕ) (d : Bor (List ℕ)) → i < length lines → get_or (seen lines) i [] ≡ (get_or lines i d).now
seen_at [] i d h = absurd (omega (arith, h))
seen_at (x ∷ xs) zero d h = refl
seen_at (x ∷ xs) (suc i) d h = seen_at xs i d (omega (arith, h))

pub length_seen : (lines : List (Bor (List ℕ))) → length (seen lines) ≡ length lines
length_seen [] = refl
length_seen (x ∷ xs) = ap suc (length_seen xs)

-- the next line, with its newline
pub next_text : (f : List ℕ → List ℕ) (lines : List (Bor (List ℕ))) (i : ℕ) (d : Bor (List ℕ)) → i < length lines
    → concat (map f (seen (take (i + 1) lines))) ≡ concat (map f (seen (take i lines))) ++ f (get_or lines i d).now
next_text f lines i d h =
    let y : List ℕ = (get_or lines i d).now in
    ap (λ (ls : List (List ℕ)). concat (map f ls)) (next_line lines i d h) ∙ ap concat (map-append f (seen (take i lines)) (y ∷ []))
    ∙ concat-append (map f (seen (take i lines))) (f y ∷ []) ∙ ap (λ (t : List ℕ). concat (map f (seen (take i lines))) ++ t) (append-nil (f y))

-- a text that has the lines so far has the next
pub text_more : (f : List ℕ → List ℕ) (lines : List (Bor (List ℕ))) (i : ℕ) (d : Bor (List ℕ)) (old new : List ℕ) → i < length lines → old ≡ concat (map f (seen (take i lines)))
    → new ≡ old ++ f (get_or lines i d).now → new ≡ concat (map f (seen (take (i + 1) lines)))
text_more f lines i d old new h e n = n ∙ ap (λ (t : List ℕ). t ++ f (get_or lines i d).now) e ∙ sym (next_text f lines i d h)

-- ---- the first line that passes a test

-- where it is, if it is among these
abbrev first_of : ℕ → ℕ → Option ℕ
first_of at count = cond (nat_lt at count) (Some at) None

here_of : (at count : ℕ) → at < count → first_of at count ≡ Some at
here_of at count h = rw (lt-ltb at count h) refl

pub first_at : (p : List ℕ → Bool) (lines : List (Bor (List ℕ))) (i : ℕ) (d : Bor (List ℕ)) → i < length lines → ((k : ℕ) → k < i → p (get_or (seen lines) k []) ≡ false)
    → p (get_or lines i d).now ≡ true → position p (seen lines) ≡ Some i
first_at p lines i d h none hit =
    let n = length_seen lines in
    let at : position_or_len p (seen lines) ≡ i = position_or_len_is p (seen lines) i [] (omega (arith, h, n)) none (λ l. ap p (seen_at lines i d h) ∙ hit) in
    ap (λ (k : ℕ). first_of k (length (seen lines))) at ∙ here_of i (length (seen lines)) (omega (arith, h, n))

not_here : (count : ℕ) → first_of count count ≡ None
not_here count = grind arith

pub none_at : (p : List ℕ → Bool) (lines : List (Bor (List ℕ))) (i : ℕ) → length lines ≤ i → ((k : ℕ) → k < i → p (get_or (seen lines) k []) ≡ false) → position p (seen lines) ≡ None
none_at p lines i h none =
    let n = length_seen lines in
    let at : position_or_len p (seen lines) ≡ length (seen lines) =
    position_or_len_is p (seen lines) (length (seen lines)) [] (omega arith) (λ k l. none k (omega (arith, l, n, h))) (λ l. absurd (omega (arith, l))) in
    ap (λ (k : ℕ). first_of k (length (seen lines))) at ∙ not_here (length (seen lines))

pub none_more : (p : List ℕ → Bool) (lines : List (Bor (List ℕ))) (i : ℕ) (d : Bor (List ℕ)) → i < length lines → ((k : ℕ) → k < i → p (get_or (seen lines) k []) ≡ false)
    → p (get_or lines i d).now ≡ false → (k : ℕ) → k < i + 1 → p (get_or (seen lines) k []) ≡ false
none_more p lines i d h none miss k l = elim (cases_lt k i) [
  | inl less ↦ none k less
  | inr more ↦ let same : k ≡ i = omega (arith, l, more) in rw same (ap p (seen_at lines i d h) ∙ miss)
]
