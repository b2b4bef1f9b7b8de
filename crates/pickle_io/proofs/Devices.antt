-- What a sink took, over several writes.
use Rattle.std.proofs.Common.{◌≡◌, ℕ, zero, suc, ◌+◌, ◌-◌, ◌<◌, ◌≤◌, List, [], ◌∷◌, ◌++◌, length, take, drop, get_or, Option, None, Some, Result, Ok, Err, refl, sym, ap, ◌∙◌, append_assoc, arith}
use Rattle.std.specs.Prelude.{IsErr}
use Rattle.std.specs.Io.KnownBytes.{Appends}
use Rattle.std.proofs.KnownBytes.{Appends-nil, Appends-trans}
use Rattle.std.proofs.lemmas.List.{append-nil, take-append-drop, take_more, take_all}
use Rattle.std.proofs.lemmas.List.Concat.{flat_map-append}
use Rattle.std.proofs.lemmas.Grind.{common_steps}
use Rattle.pickle_io.specs.Text.{◌⧺◌}
use Rattle.pickle_io.specs.Device.{Told, NoFewer, AppendsPrefix, Wrote, Broke, Writes, WroteAllBut, each, each_below}

-- ---- fronts

AppendsFront-then : (a b c : Option (List ℕ)) (front text : List ℕ) → Appends a b front → AppendsPrefix b c text → AppendsPrefix a c (front ++ text)
AppendsFront-then None b c front text p q = tt
AppendsFront-then (Some x) None c front text p q = absurd p
AppendsFront-then (Some x) (Some y) None front text p q = tt
AppendsFront-then (Some x) (Some y) (Some z) front text p q =
    (front ++ q.0, (q.1.0, ap (λ (t : List ℕ). front ++ t) q.1.1 ∙ sym (append_assoc front q.0 q.1.0)), q.2 ∙ ap (λ (t : List ℕ). t ++ q.0) p ∙ append_assoc x front q.0)

-- a front of a text is one of what is longer
pub AppendsFront-more : (a b : Option (List ℕ)) (text more : List ℕ) → AppendsPrefix a b text → AppendsPrefix a b (text ++ more)
AppendsFront-more None b text more p = tt
AppendsFront-more (Some x) None text more p = tt
AppendsFront-more (Some x) (Some y) text more p = (p.0, (p.1.0 ++ more, ap (λ (t : List ℕ). t ++ more) p.1.1 ∙ append_assoc p.0 p.1.0 more), p.2)

-- ---- what is handed on

NoFewer-same : (a : Option (List ℕ)) (held : ℕ) → NoFewer a held a held
NoFewer-same None held = tt
NoFewer-same (Some x) held = omega arith

NoFewer-then : (a b c : Option (List ℕ)) (i j k : ℕ) (text : List ℕ) → Appends a b text → NoFewer a i b j → NoFewer b j c k → NoFewer a i c k
NoFewer-then None b c i j k text e p q = tt
NoFewer-then (Some x) None c i j k text e p q = absurd e
NoFewer-then (Some x) (Some y) None i j k text e p q = tt
NoFewer-then (Some x) (Some y) (Some z) i j k text e p q = omega (arith, p, q)

-- ---- one write after another, with plain lists

pub Wrote-none : (a : Told) → Wrote a a []
Wrote-none a = record { taken = Appends-nil a.taken; stays = NoFewer-same a.taken a.held; calm = refl }

pub Wrote-trans : (a b c : Told) (front text : List ℕ) → Wrote a b front → Wrote b c text → Wrote a c (front ++ text)
Wrote-trans a b c front text p q = record {
  taken = Appends-trans a.taken b.taken c.taken front text p.taken q.taken;
  stays = NoFewer-then a.taken b.taken c.taken a.held b.held c.held front p.taken p.stays q.stays;
  calm = q.calm ∙ p.calm;
}

pub Broke-after : (a b c : Told) (front text : List ℕ) → Wrote a b front → Broke b c text → Broke a c (front ++ text)
Broke-after a b c front text p q = record {
  front = AppendsFront-then a.taken b.taken c.taken front text p.taken q.front;
  stays = NoFewer-then a.taken b.taken c.taken a.held b.held c.held front p.taken p.stays q.stays;
  rises = omega (arith, p.calm, q.rises);
  failed = λ h. omega (arith, p.calm, q.failed (omega (arith, p.calm, h)));
}

pub Broke-more : (a b : Told) (text more : List ℕ) → Broke a b text → Broke a b (text ++ more)
Broke-more a b text more p = record { front = AppendsFront-more a.taken b.taken text more p.front; stays = p.stays; rises = p.rises; failed = p.failed }

-- ---- a text that is written piece by piece

pub WroteAllBut-none : (a : Told) (text : List ℕ) → WroteAllBut a a text text
WroteAllBut-none a text = record { front = []; parts = refl; wrote = Wrote-none a }

pub WroteAllBut-sliced : (a b c : Told) (text rest : List ℕ) (n : ℕ) → WroteAllBut a b text rest → Wrote b c (take n rest) → n ≤ length rest → WroteAllBut a c text (take (length rest - n) (drop n rest))
WroteAllBut-sliced a b c text rest n w p h =
    let e : take (length rest - n) (drop n rest) ≡ drop n rest = grind (arith, common_steps) in
    rw e (record {
      front = w.front ++ take n rest;
      parts = w.parts ∙ ap (λ (t : List ℕ). w.front ++ t) (sym (take-append-drop n rest)) ∙ sym (append_assoc w.front (take n rest) (drop n rest));
      wrote = Wrote-trans a b c w.front (take n rest) w.wrote p;
    })

pub WroteAllBut-all : (a b : Told) (text rest : List ℕ) → WroteAllBut a b text rest → rest ≡ [] → Wrote a b text
WroteAllBut-all a b text rest w e = let whole : text ≡ w.front = w.parts ∙ ap (λ (t : List ℕ). w.front ++ t) e ∙ append-nil w.front in rw whole w.wrote

pub WroteAllBut-stopped : (a b c : Told) (text rest : List ℕ) → WroteAllBut a b text rest → Broke b c [] → Broke a c text
WroteAllBut-stopped a b c text rest w k = rw w.parts (Broke-after a b c w.front rest w.wrote (Broke-more b c [] rest k))

pub ruleset device_steps = (WroteAllBut-none, WroteAllBut-all, WroteAllBut-stopped)

-- ---- one text after another, the last one first

pub Wrote-then : (a b c : Told) (front text : List ℕ) → Wrote b c text → Wrote a b front → Wrote a c (front ⧺ text)
unfolding ◌⧺◌
Wrote-then a b c front text q p = Wrote-trans a b c front text p q

pub Broke-next : (a b c : Told) (front text : List ℕ) → Broke b c text → Wrote a b front → Broke a c (front ⧺ text)
unfolding ◌⧺◌
Broke-next a b c front text q p = Broke-after a b c front text p q

pub Broke-longer : (a b : Told) (text more : List ℕ) → Broke a b text → Broke a b (text ⧺ more)
unfolding ◌⧺◌
Broke-longer a b text more p = Broke-more a b text more p

pub Writes-next : {A E : Type 0} (a b c : Told) (r : Result A E) (front text : List ℕ) → Writes b c r text → Wrote a b front → Writes a c r (front ⧺ text)
unfolding ◌⧺◌
Writes-next a b c (Ok x) front text q p = Wrote-trans a b c front text p q
Writes-next a b c (Err e) front text q p = Broke-after a b c front text p q

-- after an error nothing more is written
pub Writes-stop : {A B E : Type 0} (a b : Told) (r : Result A E) (s : Result B E) (text : List ℕ) → IsErr s → Broke a b text → Writes a b s text
Writes-stop a b r (Ok x) text h p = absurd cc
Writes-stop a b r (Err e) text h p = p

pub ruleset text_steps = (Wrote-none, Wrote-then, Broke-next, Broke-longer, Writes-next)

-- ---- a text after what was held was handed on

pub Wrote-there : (a b c : Told) (text : List ℕ) → Wrote b c text → Wrote a b [] → Wrote a c text
Wrote-there a b c text q p = Wrote-trans a b c [] text p q

pub Broke-there : (a b c : Told) (text : List ℕ) → Broke b c text → Wrote a b [] → Broke a c text
Broke-there a b c text q p = Broke-after a b c [] text p q

pub Broke-first : (a b : Told) (text : List ℕ) → Broke a b [] → Broke a b text
Broke-first a b text p = Broke-more a b [] text p

pub Writes-there : {A E : Type 0} (a b c : Told) (r : Result A E) (text : List ℕ) → Writes b c r text → Wrote a b [] → Writes a c r text
Writes-there a b c (Ok x) text q p = Wrote-there a b c text q p
Writes-there a b c (Err e) text q p = Broke-there a b c text q p

pub ruleset page_steps = (Wrote-none, Wrote-then, Broke-next, Broke-longer, Writes-next, Wrote-there, Broke-there, Broke-first, Writes-there)

-- ---- the texts of things, one after another

module _ {X : Type 0} where
  pub each-append : (text : X → List ℕ) (xs ys : List X) → each text (xs ++ ys) ≡ each text xs ++ each text ys
  unfolding each
  each-append text xs ys = flat_map-append text xs ys

  each-one : (text : X → List ℕ) (x : X) → each text (x ∷ []) ≡ text x
  unfolding each
  each-one text x = append-nil (text x)

  each-take : (text : X → List ℕ) (xs : List X) (i : ℕ) (x : X) → i < length xs → each text (take (i + 1) xs) ≡ each text (take i xs) ++ text (get_or xs i x)
  each-take text xs i x h =
      ap (each text) (take_more xs i x h) ∙ each-append text (take i xs) (get_or xs i x ∷ []) ∙ ap (λ (t : List ℕ). each text (take i xs) ++ t) (each-one text (get_or xs i x))

  -- the text of the first thing, and of those after it
  pub each-cons : (text : X → List ℕ) (x : X) (xs : List X) → each text (x ∷ xs) ≡ text x ++ each text xs
  unfolding each
  each-cons text x xs = refl

  pub each-nil : (text : X → List ℕ) → each text [] ≡ []
  unfolding each
  each-nil text = refl

  pub each-none : (text : X → List ℕ) (a : Told) → Wrote a a (each text [])
  unfolding each
  each-none text a = Wrote-none a

  -- the text of the next thing was written; x is any thing
  pub each-next : (text : X → List ℕ) (a b c : Told) (xs : List X) (i : ℕ) (x : X) → i < length xs
      → Wrote b c (text (get_or xs i x)) → Wrote a b (each text (take i xs)) → Wrote a c (each text (take (i + 1) xs))
  each-next text a b c xs i x h q p = rw (each-take text xs i x h) (Wrote-trans a b c (each text (take i xs)) (text (get_or xs i x)) p q)

  -- of the next thing a front was written
  pub each-stopped : (text : X → List ℕ) (a b c : Told) (xs : List X) (i : ℕ) (x : X) → i < length xs
      → Broke b c (text (get_or xs i x)) → Wrote a b (each text (take i xs)) → Broke a c (each text xs)
  each-stopped text a b c xs i x h q p =
      let parts : each text xs ≡ (each text (take i xs) ++ text (get_or xs i x)) ++ each text (drop (i + 1) xs) =
      ap (each text) (sym (take-append-drop (i + 1) xs)) ∙ each-append text (take (i + 1) xs) (drop (i + 1) xs)
      ∙ ap (λ (t : List ℕ). t ++ each text (drop (i + 1) xs)) (each-take text xs i x h) in
      rw parts (Broke-more a c (each text (take i xs) ++ text (get_or xs i x)) (each text (drop (i + 1) xs))
      (Broke-after a b c (each text (take i xs)) (text (get_or xs i x)) p q))

  pub each-all : (text : X → List ℕ) (a b : Told) (xs : List X) (i : ℕ) → length xs ≤ i → Wrote a b (each text (take i xs)) → Wrote a b (each text xs)
  each-all text a b xs i h p = rw (take_all i xs h) at p

pub ruleset each_steps = (each-none, each-next, each-stopped, each-all)

-- ---- the texts of numbers below a count, one after another

more : (text : ℕ → List ℕ) (i : ℕ) → each_below text (i + 1) ≡ each_below text i ++ text i
unfolding each_below
more text i = let e : i + 1 ≡ suc i = omega arith in ap (each_below text) e

later : (text : ℕ → List ℕ) (i k : ℕ) → (rest : List ℕ) × (each_below text (k + i) ≡ each_below text i ++ rest)
unfolding each_below
later text i zero = let e : 0 + i ≡ i = omega arith in ([], ap (each_below text) e ∙ sym (append-nil (each_below text i)))
later text i (suc k) =
    let e : suc k + i ≡ suc (k + i) = omega arith in
    let so_far = later text i k in
    (so_far.0 ++ text (k + i), ap (each_below text) e ∙ ap (λ (t : List ℕ). t ++ text (k + i)) so_far.1 ∙ append_assoc (each_below text i) so_far.0 (text (k + i)))

pub below-none : (text : ℕ → List ℕ) (a : Told) → Wrote a a (each_below text 0)
unfolding each_below
below-none text a = Wrote-none a

pub below-next : (text : ℕ → List ℕ) (a b c : Told) (i : ℕ) → Wrote b c (text i) → Wrote a b (each_below text i) → Wrote a c (each_below text (i + 1))
below-next text a b c i q p = rw (more text i) (Wrote-trans a b c (each_below text i) (text i) p q)

pub below-stopped : (text : ℕ → List ℕ) (a b c : Told) (i n : ℕ) → i < n → Broke b c (text i) → Wrote a b (each_below text i) → Broke a c (each_below text n)
below-stopped text a b c i n h q p =
    let l = later text (i + 1) (n - (i + 1)) in
    let e : (n - (i + 1)) + (i + 1) ≡ n = omega (arith, h) in
    let whole : each_below text n ≡ (each_below text i ++ text i) ++ l.0 = ap (each_below text) (sym e) ∙ l.1 ∙ ap (λ (t : List ℕ). t ++ l.0) (more text i) in
    rw whole (Broke-more a c (each_below text i ++ text i) l.0 (Broke-after a b c (each_below text i) (text i) p q))

pub below-all : (text : ℕ → List ℕ) (a b : Told) (i n : ℕ) → i ≡ n → Wrote a b (each_below text i) → Wrote a b (each_below text n)
below-all text a b i n e p = rw e at p

pub ruleset below_steps = (below-none, below-next, below-stopped, below-all)
