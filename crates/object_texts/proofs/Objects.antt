-- The lines of objects, one after another.
use Rattle.std.proofs.Common.{◌≡◌, ℕ, suc, ◌+◌, ◌<◌, List, [], ◌∷◌, ◌++◌, length, take, drop, get_or, sym, ap, ◌∙◌, append_assoc, append-nil, arith}
use Rattle.std.proofs.lemmas.List.{take_more, take-append-drop, length-take-le}
use Rattle.pickle_io.specs.Text.{◌⧺◌}
use Rattle.pickle_ops.specs.Object.{Object}
use Rattle.pickle_io.specs.Device.{Told, Wrote, Broke}
use Rattle.pickle_io.proofs.Devices.{Wrote-none, Wrote-trans, Broke-after, Broke-more}
use Rattle.object_texts.specs.ObjectText.{object_line, lines_from}

lines-append : (id : ℕ) (xs ys : List Object) → lines_from id (xs ++ ys) ≡ lines_from id xs ++ lines_from (length xs + id) ys
unfolding lines_from ◌⧺◌
lines-append id [] ys =
    let e : id ≡ 0 + id = omega arith in
    ap (λ (n : ℕ). lines_from n ys) e
lines-append id (x ∷ xs) ys =
    let e : length xs + suc id ≡ suc (length xs) + id = omega arith in
    ap (λ (t : List ℕ). object_line id x ++ t) (lines-append (suc id) xs ys ∙ ap (λ (n : ℕ). lines_from (suc id) xs ++ lines_from n ys) e)
    ∙ sym (append_assoc (object_line id x) (lines_from (suc id) xs) (lines_from (suc (length xs) + id) ys))

lines-one : (id : ℕ) (x : Object) → lines_from id (x ∷ []) ≡ object_line id x
unfolding lines_from ◌⧺◌
lines-one id x = append-nil (object_line id x)

lines-take : (xs : List Object) (i : ℕ) (x : Object) → i < length xs → x ≡ get_or xs i x → lines_from 0 (take (i + 1) xs) ≡ lines_from 0 (take i xs) ++ object_line i x
lines-take xs i x h e =
    let n : length (take i xs) + 0 ≡ i = omega (arith, length-take-le i xs (omega (arith, h))) in
    ap (lines_from 0) (take_more xs i x h ∙ ap (λ (y : Object). take i xs ++ y ∷ []) (sym e)) ∙ lines-append 0 (take i xs) (x ∷ [])
    ∙ ap (λ (k : ℕ). lines_from 0 (take i xs) ++ lines_from k (x ∷ [])) n ∙ ap (λ (t : List ℕ). lines_from 0 (take i xs) ++ t) (lines-one i x)

pub objects-none : (a : Told) → Wrote a a (lines_from 0 [])
unfolding lines_from
objects-none a = Wrote-none a

-- the line of the next object was written
pub objects-next : (a b c : Told) (xs : List Object) (i : ℕ) (x : Object) → i < length xs → x ≡ get_or xs i x
    → Wrote b c (object_line i x) → Wrote a b (lines_from 0 (take i xs)) → Wrote a c (lines_from 0 (take (i + 1) xs))
objects-next a b c xs i x h e q p = rw (lines-take xs i x h e) (Wrote-trans a b c (lines_from 0 (take i xs)) (object_line i x) p q)

-- of the next line a front was written
pub objects-stopped : (a b c : Told) (xs : List Object) (i : ℕ) (x : Object) → i < length xs → x ≡ get_or xs i x
    → Broke b c (object_line i x) → Wrote a b (lines_from 0 (take i xs)) → Broke a c (lines_from 0 xs)
objects-stopped a b c xs i x h e q p =
    let rest = lines_from (length (take (i + 1) xs) + 0) (drop (i + 1) xs) in
    let parts : lines_from 0 xs ≡ (lines_from 0 (take i xs) ++ object_line i x) ++ rest =
    ap (lines_from 0) (sym (take-append-drop (i + 1) xs)) ∙ lines-append 0 (take (i + 1) xs) (drop (i + 1) xs) ∙ ap (λ (t : List ℕ). t ++ rest) (lines-take xs i x h e) in
    rw parts (Broke-more a c (lines_from 0 (take i xs) ++ object_line i x) rest (Broke-after a b c (lines_from 0 (take i xs)) (object_line i x) p q))
