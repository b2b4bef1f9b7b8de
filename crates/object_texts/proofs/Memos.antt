-- The memo's line: the entries of slots, and then those of a map.
use Rattle.std.proofs.Common.{◌≡◌, ℕ, ◌+◌, ◌<◌, ◌≤◌, List, [], ◌∷◌, ◌++◌, length, take, drop, get_or, zero, suc, Option, Some, None, refl, sym, ap, ◌∙◌, arith, append-nil}
use Rattle.std.proofs.lemmas.List.{take_more, take_all, take-append-drop, length-take-le}
use Rattle.pickle_io.specs.Text.{◌⧺◌}
use Rattle.pickle_io.specs.Device.{Told, Wrote, Broke, each}
use Rattle.pickle_io.proofs.Devices.{Wrote-none, Wrote-trans, Broke-after, Broke-more, each-append, each-nil, each-cons}
use Rattle.pickle_machine.specs.Kept.{kept}
use Rattle.object_texts.specs.MemoText.{entry_text}

kept-append : (k : ℕ) (xs : List (Option ℕ)) (es : List (ℕ × ℕ)) → kept k xs es ≡ kept k xs [] ++ es
kept-append k [] es = refl
kept-append k (None ∷ xs) es = kept-append (k + 1) xs es
kept-append k (Some x ∷ xs) es = ap (λ (l : List (ℕ × ℕ)). (k, x) ∷ l) (kept-append (k + 1) xs es)

kept-more : (k : ℕ) (xs ys : List (Option ℕ)) (j : ℕ) → j ≡ k + length xs → kept k (xs ++ ys) [] ≡ kept k xs [] ++ kept j ys []
kept-more k [] ys j e = ap (λ (n : ℕ). kept n ys []) (sym (omega (arith, e)))
kept-more k (None ∷ xs) ys j e = kept-more (k + 1) xs ys j (omega (arith, e))
kept-more k (Some x ∷ xs) ys j e = ap (λ (l : List (ℕ × ℕ)). (k, x) ∷ l) (kept-more (k + 1) xs ys j (omega (arith, e)))

-- the text of the slots of the keys k, k + 1, ..
abbrev pub slots_text : ℕ → List (Option ℕ) → List ℕ
slots_text k xs = each entry_text (kept k xs [])

slots-parts : (xs ys : List (Option ℕ)) → slots_text 0 (xs ++ ys) ≡ slots_text 0 xs ++ slots_text (length xs) ys
slots-parts xs ys = ap (each entry_text) (kept-more 0 xs ys (length xs) (omega arith)) ∙ each-append entry_text (kept 0 xs []) (kept (length xs) ys [])

slots-next-text : (xs : List (Option ℕ)) (i : ℕ) (x : Option ℕ) → i < length xs → slots_text 0 (take (i + 1) xs) ≡ slots_text 0 (take i xs) ++ slots_text i (get_or xs i x ∷ [])
slots-next-text xs i x h =
    let n : length (take i xs) ≡ i = length-take-le i xs (omega (arith, h)) in
    ap (slots_text 0) (take_more xs i x h) ∙ slots-parts (take i xs) (get_or xs i x ∷ []) ∙ ap (λ (k : ℕ). slots_text 0 (take i xs) ++ slots_text k (get_or xs i x ∷ [])) n

pub slots-none : (a : Told) (xs : List (Option ℕ)) → Wrote a a (slots_text 0 (take 0 xs))
slots-none a xs = rw (each-nil entry_text) (Wrote-none a)

pub slots-next : (a b c : Told) (xs : List (Option ℕ)) (i : ℕ) (x : Option ℕ) → i < length xs
    → Wrote b c (slots_text i (get_or xs i x ∷ [])) → Wrote a b (slots_text 0 (take i xs)) → Wrote a c (slots_text 0 (take (i + 1) xs))
slots-next a b c xs i x h q p = rw (slots-next-text xs i x h) (Wrote-trans a b c (slots_text 0 (take i xs)) (slots_text i (get_or xs i x ∷ [])) p q)

pub slots-stopped : (a b c : Told) (xs : List (Option ℕ)) (i : ℕ) (x : Option ℕ) → i < length xs
    → Broke b c (slots_text i (get_or xs i x ∷ [])) → Wrote a b (slots_text 0 (take i xs)) → Broke a c (slots_text 0 xs)
slots-stopped a b c xs i x h q p =
    let rest = slots_text (length (take (i + 1) xs)) (drop (i + 1) xs) in
    let parts : slots_text 0 xs ≡ (slots_text 0 (take i xs) ++ slots_text i (get_or xs i x ∷ [])) ++ rest =
    ap (slots_text 0) (sym (take-append-drop (i + 1) xs)) ∙ slots-parts (take (i + 1) xs) (drop (i + 1) xs) ∙ ap (λ (t : List ℕ). t ++ rest) (slots-next-text xs i x h) in
    rw parts (Broke-more a c (slots_text 0 (take i xs) ++ slots_text i (get_or xs i x ∷ [])) rest
    (Broke-after a b c (slots_text 0 (take i xs)) (slots_text i (get_or xs i x ∷ [])) p q))

pub slots-all : (a b : Told) (xs : List (Option ℕ)) (i : ℕ) → length xs ≤ i → Wrote a b (slots_text 0 (take i xs)) → Wrote a b (slots_text 0 xs)
slots-all a b xs i h p = rw (take_all i xs h) at p

pub slot-one : (key id : ℕ) → entry_text (key, id) ≡ each entry_text ((key, id) ∷ [])
slot-one key id = sym (each-cons entry_text (key, id) [] ∙ ap (λ (t : List ℕ). entry_text (key, id) ++ t) (each-nil entry_text) ∙ append-nil (entry_text (key, id)))

pub slot-none : (a : Told) → Wrote a a (each entry_text [])
slot-none a = rw (each-nil entry_text) (Wrote-none a)

pub slots_then_map : (xs : List (Option ℕ)) (es all : List (ℕ × ℕ)) → kept 0 xs es ≡ all → each entry_text (kept 0 xs []) ⧺ each entry_text es ≡ each entry_text all
unfolding ◌⧺◌
slots_then_map xs es all e = sym (each-append entry_text (kept 0 xs []) es) ∙ ap (each entry_text) (sym (kept-append 0 xs es) ∙ e)

pub ruleset slot_steps = (slots-none, slots-next, slots-stopped, slots-all, slot-one, slot-none)
