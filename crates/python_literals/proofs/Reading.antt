-- A text that is read byte by byte.
use Rattle.std.proofs.Common.{◌≡◌, ℕ, zero, suc, ◌+◌, ◌-◌, ◌*◌, ◌<◌, ◌≤◌, Bool, true, false, List, [], ◌∷◌, ◌++◌, length, drop, get_or, Option, Some, None, Result, Ok, Err, refl, sym, ap, ◌∙◌, append_assoc, arith}
use Rattle.std.specs.Prelude.{◌==◌, if◌then◌else◌}
use Rattle.std.specs.Str.{chars, chars_after, continuation_len, lead_bits}
use Rattle.std.proofs.Math.Seq.{drop-cons}
use Rattle.std.proofs.lemmas.Bool.{ne_eqb, eq-eqb}
use Rattle.std.proofs.lemmas.List.{append-nil, drop_all}
use Rattle.pickle_io.specs.Device.{Told, Wrote, Broke, Writes, each}
use Rattle.pickle_io.proofs.Devices.{Wrote-none, Wrote-trans, Broke-after, Broke-more, each-append, each-nil, each-cons}
use Rattle.python_literals.specs.declared.signs.Pending.{Pending}
use Rattle.python_literals.specs.Inside.Turns.{chars_behind, finished, begun, goes_on, pending_after}

-- ---- one byte more

by_left : (left number b : ℕ) (rest : List ℕ)
    → chars_after left number (b ∷ rest) ≡ finished (Some (record { left = left; number = number })) ++ chars_behind (Some (pending_after (Some (record { left = left; number = number })) b)) rest
by_left zero number b rest = refl
by_left (suc n) number b rest =
    let e : suc n - 1 ≡ n = omega arith in
    let no : (suc n == 0) ≡ false = ne_eqb (suc n) 0 (λ h. omega (arith, h)) in
    rw (no, e) refl

step_is : (p : Option Pending) (b : ℕ) (rest : List ℕ) → chars_behind p (b ∷ rest) ≡ finished p ++ chars_behind (Some (pending_after p b)) rest
unfolding chars
step_is None b rest = refl
step_is (Some p) b rest = by_left p.left p.number b rest

end_by : (left number : ℕ) → chars_after left number [] ≡ finished (Some (record { left = left; number = number }))
end_by zero number = refl
end_by (suc n) number =
    let no : (suc n == 0) ≡ false = ne_eqb (suc n) 0 (λ h. omega (arith, h)) in
    rw no refl

end_is : (p : Option Pending) → chars_behind p [] ≡ finished p
unfolding chars
end_is None = refl
end_is (Some p) = end_by p.left p.number

-- ---- the characters so far

pub record SoFar (f : ℕ → List ℕ) (text : List ℕ) (i : ℕ) (p : Option Pending) (old new : Told) : Type 0 where
  pub done : List ℕ
  pub parts : chars text ≡ done ++ chars_behind p (drop i text)
  pub wrote : Wrote old new (each f done)

pub so_far_none : (f : ℕ → List ℕ) (text : List ℕ) (a : Told) → SoFar f text 0 None a a
so_far_none f text a = record { done = []; parts = refl; wrote = rw (each-nil f) (Wrote-none a) }

here_is : (text : List ℕ) (i : ℕ) (p : Option Pending) → i < length text
    → chars_behind p (drop i text) ≡ finished p ++ chars_behind (Some (pending_after p (get_or text i 0))) (drop (i + 1) text)
here_is text i p h =
    let next : suc i ≡ i + 1 = omega arith in
    let cut : drop i text ≡ get_or text i 0 ∷ drop (i + 1) text = drop-cons text i 0 h ∙ ap (λ (k : ℕ). get_or text i 0 ∷ drop k text) next in
    ap (chars_behind p) cut ∙ step_is p (get_or text i 0) (drop (i + 1) text)

pub so_far_next : (f : ℕ → List ℕ) (text : List ℕ) (i : ℕ) (p : Option Pending) (a x y : Told) → i < length text → SoFar f text i p a x → Wrote x y (each f (finished p))
    → SoFar f text (i + 1) (Some (pending_after p (get_or text i 0))) a y
so_far_next f text i p a x y h s w = record {
  done = s.done ++ finished p;
  parts = s.parts ∙ ap (λ (t : List ℕ). s.done ++ t) (here_is text i p h)
      ∙ sym (append_assoc s.done (finished p) (chars_behind (Some (pending_after p (get_or text i 0))) (drop (i + 1) text)));
  wrote = rw (each-append f s.done (finished p)) (Wrote-trans a x y (each f s.done) (each f (finished p)) s.wrote w);
}

pub so_far_stopped : (f : ℕ → List ℕ) (text : List ℕ) (i : ℕ) (p : Option Pending) (a x y : Told) → i < length text → SoFar f text i p a x → Broke x y (each f (finished p))
    → Broke a y (each f (chars text))
so_far_stopped f text i p a x y h s w =
    let rest : List ℕ = chars_behind (Some (pending_after p (get_or text i 0))) (drop (i + 1) text) in
    let whole : chars text ≡ (s.done ++ finished p) ++ rest =
    s.parts ∙ ap (λ (t : List ℕ). s.done ++ t) (here_is text i p h) ∙ sym (append_assoc s.done (finished p) rest) in
    let parts : each f (chars text) ≡ (each f s.done ++ each f (finished p)) ++ each f rest =
    ap (each f) whole ∙ each-append f (s.done ++ finished p) rest ∙ ap (λ (t : List ℕ). t ++ each f rest) (each-append f s.done (finished p)) in
    rw parts (Broke-more a y (each f s.done ++ each f (finished p)) (each f rest) (Broke-after a x y (each f s.done) (each f (finished p)) s.wrote w))

all_is : (f : ℕ → List ℕ) (text : List ℕ) (i : ℕ) (p : Option Pending) (a x : Told) → length text ≤ i → (s : SoFar f text i p a x)
    → each f (chars text) ≡ each f s.done ++ each f (finished p)
all_is f text i p a x h s =
    let whole : chars text ≡ s.done ++ finished p =
    s.parts ∙ ap (λ (t : List ℕ). s.done ++ chars_behind p t) (drop_all i text h) ∙ ap (λ (t : List ℕ). s.done ++ t) (end_is p) in
    ap (each f) whole ∙ each-append f s.done (finished p)

pub so_far_all : {A E : Type 0} (f : ℕ → List ℕ) (text : List ℕ) (i : ℕ) (p : Option Pending) (a x y : Told) (r : Result A E) → length text ≤ i → SoFar f text i p a x
    → Writes x y r (each f (finished p)) → Writes a y r (each f (chars text))
so_far_all f text i p a x y (Ok v) h s w = rw (all_is f text i p a x h s) (Wrote-trans a x y (each f s.done) (each f (finished p)) s.wrote w)
so_far_all f text i p a x y (Err e) h s w = rw (all_is f text i p a x h s) (Broke-after a x y (each f s.done) (each f (finished p)) s.wrote w)

-- ---- the character that is whole

pub finished_none : (f : ℕ → List ℕ) (a : Told) → Wrote a a (each f (finished None))
finished_none f a = rw (each-nil f) (Wrote-none a)

one_is : (f : ℕ → List ℕ) (n : ℕ) → each f (n ∷ []) ≡ f n
one_is f n = each-cons f n [] ∙ ap (λ (t : List ℕ). f n ++ t) (each-nil f) ∙ append-nil (f n)

pub finished_now : {A E : Type 0} (f : ℕ → List ℕ) (p : Pending) (a b : Told) (r : Result A E) → p.left ≡ 0 → Writes a b r (f p.number) → Writes a b r (each f (finished (Some p)))
finished_now f p a b r e w =
    let is : each f (finished (Some p)) ≡ f p.number = ap (λ (t : Bool). each f (if t then p.number ∷ [] else [])) (eq-eqb p.left 0 e) ∙ one_is f p.number in
    rw is w

pub finished_later : (f : ℕ → List ℕ) (p : Pending) (a : Told) → (p.left ≡ 0 → ⊥) → Wrote a a (each f (finished (Some p)))
finished_later f p a n =
    let is : each f (finished (Some p)) ≡ [] = ap (λ (t : Bool). each f (if t then p.number ∷ [] else [])) (ne_eqb p.left 0 n) ∙ each-nil f in
    rw is (Wrote-none a)

pub ruleset finished_steps = (finished_none, finished_now, finished_later)
