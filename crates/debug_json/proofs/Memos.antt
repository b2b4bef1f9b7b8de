-- The entries of a memo, one after another.
use Rattle.std.proofs.Common.{◌≡◌, ℕ, ◌+◌, ◌<◌, ◌≤◌, Bool, true, false, List, [], ◌∷◌, ◌++◌, length, take, drop, get_or, Option, Some, None, Result, refl, sym, ap, subst, ◌∙◌, append-nil, append_assoc, arith}
use Rattle.std.specs.Prelude.{codes}
use Rattle.std.proofs.lemmas.List.{take_more, take_all, take-append-drop, length-take-le}
use Rattle.json.specs.Value.{items_of}
use Rattle.json_lines.specs.Json.{value_text, items_text, more_items}
use Rattle.pickle_io.specs.Text.{◌⧺◌}
use Rattle.pickle_io.specs.Device.{Told, Wrote, Broke, Writes}
use Rattle.pickle_io.proofs.Devices.{Wrote-none, Wrote-trans, Broke-after, Broke-more, Wrote-then, Broke-next, Broke-longer, Writes-next}
use Rattle.pickle_machine.specs.Kept.{kept}
use Rattle.debug_json.specs.Array.{numbered, array_json}
use Rattle.debug_json.specs.ShownFields.{entry_value, entry_json}
use Rattle.debug_json.specs.Inside.Led.{comma, led, still}

-- ---- slots and a map

kept-append : (k : ℕ) (xs : List (Option ℕ)) (es : List (ℕ × ℕ)) → kept k xs es ≡ kept k xs [] ++ es
kept-append k [] es = refl
kept-append k (None ∷ xs) es = kept-append (k + 1) xs es
kept-append k (Some x ∷ xs) es = ap (λ (l : List (ℕ × ℕ)). (k, x) ∷ l) (kept-append (k + 1) xs es)

kept-more : (k : ℕ) (xs ys : List (Option ℕ)) (j : ℕ) → j ≡ k + length xs → kept k (xs ++ ys) [] ≡ kept k xs [] ++ kept j ys []
kept-more k [] ys j e = ap (λ (n : ℕ). kept n ys []) (sym (omega (arith, e)))
kept-more k (None ∷ xs) ys j e = kept-more (k + 1) xs ys j (omega (arith, e))
kept-more k (Some x ∷ xs) ys j e = ap (λ (l : List (ℕ × ℕ)). (k, x) ∷ l) (kept-more (k + 1) xs ys j (omega (arith, e)))

-- ---- entries behind others

still-false : (es : List (ℕ × ℕ)) → still false es ≡ false
still-false [] = refl
still-false (e ∷ es) = refl

still-append : (first : Bool) (xs ys : List (ℕ × ℕ)) → still first (xs ++ ys) ≡ still (still first xs) ys
still-append first [] ys = refl
still-append first (x ∷ xs) ys = sym (still-false ys)

led-append : (first : Bool) (xs ys : List (ℕ × ℕ)) → led first (xs ++ ys) ≡ led first xs ++ led (still first xs) ys
unfolding led ◌⧺◌
led-append first [] ys = refl
led-append first (x ∷ xs) ys =
    let front : List ℕ = comma first ++ value_text (entry_value x) in
    let rest : led false (xs ++ ys) ≡ led false xs ++ led false ys =
    led-append false xs ys ∙ ap (λ (f : Bool). led false xs ++ led f ys) (still-false xs) in
    ap (λ (t : List ℕ). front ++ t) rest ∙ sym (append_assoc front (led false xs) (led false ys))

pub led-none : (first : Bool) → led first [] ≡ []
unfolding led
led-none first = refl

led-one : (first : Bool) (e : ℕ × ℕ) → led first (e ∷ []) ≡ comma first ⧺ value_text (entry_value e)
unfolding led ◌⧺◌
led-one first e = append-nil (comma first ++ value_text (entry_value e))

pub led-more : (first : Bool) (e : ℕ × ℕ) (es : List (ℕ × ℕ)) → led first (e ∷ es) ≡ (comma first ⧺ value_text (entry_value e)) ++ led false es
unfolding led ◌⧺◌
led-more first e es = refl

-- ---- a slot

pub slot-none : (a : Told) (first : Bool) → Wrote a a (led first [])
slot-none a first = rw (led-none first) (Wrote-none a)

pub Wrote-slot : (a b : Told) (first : Bool) (key id : ℕ) → Wrote a b (comma first ⧺ value_text (entry_value (key, id))) → Wrote a b (led first ((key, id) ∷ []))
Wrote-slot a b first key id w = rw (led-one first (key, id)) w

pub Broke-slot : (a b : Told) (first : Bool) (key id : ℕ) → Broke a b (comma first ⧺ value_text (entry_value (key, id))) → Broke a b (led first ((key, id) ∷ []))
Broke-slot a b first key id w = rw (led-one first (key, id)) w

pub ruleset slot_steps = (slot-none, Wrote-slot, Broke-slot)

-- ---- slots

slots_next : (xs : List (Option ℕ)) (i : ℕ) (x : Option ℕ) → i < length xs → kept 0 (take (i + 1) xs) [] ≡ kept 0 (take i xs) [] ++ kept i (get_or xs i x ∷ []) []
slots_next xs i x h =
    let n : length (take i xs) ≡ i = length-take-le i xs (omega (arith, h)) in
    ap (λ (l : List (Option ℕ)). kept 0 l []) (take_more xs i x h) ∙ kept-more 0 (take i xs) (get_or xs i x ∷ []) i (omega (arith, n))

pub slots-none : (a : Told) (xs : List (Option ℕ)) → Wrote a a (led true (kept 0 (take 0 xs) []))
slots-none a xs = rw (led-none true) (Wrote-none a)

pub slots-next : (a b c : Told) (xs : List (Option ℕ)) (i : ℕ) (x : Option ℕ) (first : Bool) → i < length xs → first ≡ still true (kept 0 (take i xs) [])
    → Wrote b c (led first (kept i (get_or xs i x ∷ []) [])) → Wrote a b (led true (kept 0 (take i xs) [])) → Wrote a c (led true (kept 0 (take (i + 1) xs) []))
slots-next a b c xs i x first h e q p =
    let front = kept 0 (take i xs) [] in
    let next = kept i (get_or xs i x ∷ []) [] in
    let text : led true (kept 0 (take (i + 1) xs) []) ≡ led true front ++ led first next =
    ap (led true) (slots_next xs i x h) ∙ led-append true front next ∙ ap (λ (f : Bool). led true front ++ led f next) (sym e) in
    rw text (Wrote-trans a b c (led true front) (led first next) p q)

pub slots-stopped : (a b c : Told) (xs : List (Option ℕ)) (i : ℕ) (x : Option ℕ) (first : Bool) → i < length xs → first ≡ still true (kept 0 (take i xs) [])
    → Broke b c (led first (kept i (get_or xs i x ∷ []) [])) → Wrote a b (led true (kept 0 (take i xs) [])) → Broke a c (led true (kept 0 xs []))
slots-stopped a b c xs i x first h e q p =
    let front = kept 0 (take i xs) [] in
    let next = kept i (get_or xs i x ∷ []) [] in
    let n : length (take (i + 1) xs) ≡ i + 1 = length-take-le (i + 1) xs (omega (arith, h)) in
    let last = kept (i + 1) (drop (i + 1) xs) [] in
    let parts : kept 0 xs [] ≡ (front ++ next) ++ last =
    ap (λ (l : List (Option ℕ)). kept 0 l []) (sym (take-append-drop (i + 1) xs)) ∙ kept-more 0 (take (i + 1) xs) (drop (i + 1) xs) (i + 1) (omega (arith, n))
    ∙ ap (λ (l : List (ℕ × ℕ)). l ++ last) (slots_next xs i x h) in
    let text : led true (kept 0 xs []) ≡ (led true front ++ led first next) ++ led (still true (front ++ next)) last =
    ap (led true) parts ∙ led-append true (front ++ next) last
    ∙ ap (λ (t : List ℕ). t ++ led (still true (front ++ next)) last) (led-append true front next ∙ ap (λ (f : Bool). led true front ++ led f next) (sym e)) in
    rw text (Broke-more a c (led true front ++ led first next) (led (still true (front ++ next)) last) (Broke-after a b c (led true front) (led first next) p q))

pub slots-all : (a b : Told) (xs : List (Option ℕ)) (i : ℕ) → length xs ≤ i → Wrote a b (led true (kept 0 (take i xs) [])) → Wrote a b (led true (kept 0 xs []))
slots-all a b xs i h p = rw (take_all i xs h) at p

pub still-next : (xs : List (Option ℕ)) (i : ℕ) (x : Option ℕ) (first next : Bool) → i < length xs → first ≡ still true (kept 0 (take i xs) [])
    → next ≡ still first (kept i (get_or xs i x ∷ []) []) → next ≡ still true (kept 0 (take (i + 1) xs) [])
still-next xs i x first next h e n =
    n ∙ ap (λ (f : Bool). still f (kept i (get_or xs i x ∷ []) [])) e ∙ sym (still-append true (kept 0 (take i xs) []) (kept i (get_or xs i x ∷ []) []))
    ∙ ap (still true) (sym (slots_next xs i x h))

-- ---- slots, and then a map

pub parts_text : (xs : List (Option ℕ)) (es : List (ℕ × ℕ)) (first : Bool) → first ≡ still true (kept 0 xs [])
    → led true (kept 0 xs []) ⧺ led first es ≡ led true (kept 0 xs es)
unfolding ◌⧺◌
parts_text xs es first e =
    ap (λ (f : Bool). led true (kept 0 xs []) ++ led f es) e ∙ sym (led-append true (kept 0 xs []) es) ∙ ap (led true) (sym (kept-append 0 xs es))

pub Writes-parts : {A E : Type 0} (a b : Told) (r : Result A E) (xs : List (Option ℕ)) (es : List (ℕ × ℕ)) (first : Bool) → first ≡ still true (kept 0 xs [])
    → Writes a b r (led true (kept 0 xs []) ⧺ led first es) → Writes a b r (led true (kept 0 xs es))
Writes-parts a b r xs es first e w = subst (λ (t : List ℕ). Writes a b r t) (parts_text xs es first e) w

pub Broke-slots : (a b : Told) (xs : List (Option ℕ)) (es : List (ℕ × ℕ)) → Broke a b (led true (kept 0 xs [])) → Broke a b (led true (kept 0 xs es))
Broke-slots a b xs es w =
    let text : led true (kept 0 xs es) ≡ led true (kept 0 xs []) ++ led (still true (kept 0 xs [])) es =
    ap (led true) (kept-append 0 xs es) ∙ led-append true (kept 0 xs []) es in
    rw text (Broke-more a b (led true (kept 0 xs [])) (led (still true (kept 0 xs [])) es) w)

pub ruleset parts_steps = (Writes-parts, Broke-slots, Wrote-none, Wrote-then, Broke-next, Broke-longer, Writes-next)

-- ---- the array

more_entries : (es : List (ℕ × ℕ)) → led false es ≡ more_items (items_of (numbered entry_json es))
unfolding led comma ◌⧺◌
more_entries [] = refl
more_entries (e ∷ es) = ap (λ (t : List ℕ). (codes "," ++ value_text (entry_value e)) ++ t) (more_entries es)

all_entries : (es : List (ℕ × ℕ)) → led true es ≡ items_text (items_of (numbered entry_json es))
unfolding led comma ◌⧺◌
all_entries [] = refl
all_entries (e ∷ es) = ap (λ (t : List ℕ). value_text (entry_value e) ++ t) (more_entries es)

array_is : (es : List (ℕ × ℕ)) → codes "[" ⧺ led true es ⧺ codes "]" ≡ value_text (array_json entry_json es)
unfolding ◌⧺◌ array_json
array_is es = ap (λ (t : List ℕ). (codes "[" ++ t) ++ codes "]") (all_entries es)

pub Writes-array : {A E : Type 0} (a b : Told) (r : Result A E) (es : List (ℕ × ℕ)) → Writes a b r (codes "[" ⧺ led true es ⧺ codes "]") → Writes a b r (value_text (array_json entry_json es))
Writes-array a b r es w = subst (λ (t : List ℕ). Writes a b r t) (array_is es) w

pub Broke-array : (a b : Told) (es : List (ℕ × ℕ)) → Broke a b (codes "[" ⧺ led true es ⧺ codes "]") → Broke a b (value_text (array_json entry_json es))
Broke-array a b es w = subst (λ (t : List ℕ). Broke a b t) (array_is es) w

pub ruleset array_steps = (Writes-array, Broke-array, Wrote-none, Wrote-then, Broke-next, Broke-longer, Writes-next)
