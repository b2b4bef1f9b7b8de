-- What the reader of literals makes of the pieces of a header.
use Rattle.std.proofs.Common.{◌≡◌, ℕ, ◌+◌, ◌-◌, ◌*◌, ◌<◌, ◌≤◌, inl, inr, Bool, true, false, List, [], ◌∷◌, ◌++◌, length, refl, sym, ap, ◌∙◌, arith, length-append}
use Rattle.std.specs.Prelude.{◌⊎◌, ◌==◌, ◌&&◌, not, eqb, nat_lt, nat_le, codes, Some, None}
use Rattle.std.specs.List.{fold, list_all}
use Rattle.std.proofs.lemmas.Bool.{and_parts, not-true, eqb-true, eq-eqb, ne_eqb, leb-true, lt-ltb, cases_eq}
use Rattle.std.proofs.lemmas.List.{append_assoc, append-nil}
use Rattle.npy_form.specs.Text.{is_digit}
use Rattle.npy_form.specs.Npy.{front_word, order_word, true_word, false_word, shape_word, back_word}
use Rattle.npy_laws.specs.Written.{IsDecimal, value_behind, AreAxes, IsShape, flag_word, literal_of}
use Rattle.npy_laws.specs.Literal.{Told, Place, Start, Value, Axis, Next, End, Between, Quoted, Digits, Scan, scan, at, step, is_plain_sign, nothing_told, read_literal}

-- ---- a text

-- it may stand between the quotes of a header as it is
abbrev pub is_plain_text : ℕ → Bool
is_plain_text byte = is_plain_sign byte && not (byte == 39)

quoted : (byte : ℕ) (acc : List ℕ) (p : Place) (t : Told) → is_plain_sign byte ≡ true → (byte == 39) ≡ false
    → step (scan (Quoted 39 acc) (at p t)) byte ≡ scan (Quoted 39 (acc ++ byte ∷ [])) (at p t)
quoted byte acc p t plain other = rw (other, plain) refl

pub text_goes : (text rest acc : List ℕ) (p : Place) (t : Told) → list_all is_plain_text text ≡ true
    → fold step (scan (Quoted 39 acc) (at p t)) (text ++ rest) ≡ fold step (scan (Quoted 39 (acc ++ text)) (at p t)) rest
text_goes [] rest acc p t plain = ap (λ (x : List ℕ). fold step (scan (Quoted 39 x) (at p t)) rest) (sym (append-nil acc))
text_goes (b ∷ bs) rest acc p t plain =
    let parts = and_parts (is_plain_text b) (list_all is_plain_text bs) plain in
    let here = and_parts (is_plain_sign b) (not (b == 39)) parts.0 in
    ap (λ (s : Scan). fold step s (bs ++ rest)) (quoted b acc p t here.0 (not-true (b == 39) here.1))
    ∙ text_goes bs rest (acc ++ b ∷ []) p t parts.1
    ∙ ap (λ (x : List ℕ). fold step (scan (Quoted 39 x) (at p t)) rest) (append_assoc acc (b ∷ []) bs)

-- ---- numbers

digit_goes : (v b : ℕ) (p : Place) (t : Told) → is_digit b ≡ true → (v == 0) ≡ false → step (scan (Digits v) (at p t)) b ≡ scan (Digits (v * 10 + (b - 48))) (at p t)
digit_goes v b p t digit more = rw (digit, more) refl

digits_go : (digits rest : List ℕ) (v : ℕ) (p : Place) (t : Told) → list_all is_digit digits ≡ true → 0 < v
    → fold step (scan (Digits v) (at p t)) (digits ++ rest) ≡ fold step (scan (Digits (value_behind v digits)) (at p t)) rest
digits_go [] rest v p t all more = refl
digits_go (b ∷ bs) rest v p t all more =
    let parts = and_parts (is_digit b) (list_all is_digit bs) all in
    ap (λ (s : Scan). fold step s (bs ++ rest)) (digit_goes v b p t parts.0 (ne_eqb v 0 (λ (e : v ≡ 0). omega arith)))
    ∙ digits_go bs rest (v * 10 + (b - 48)) p t parts.1 (omega arith)

digit_bounds : (b : ℕ) → is_digit b ≡ true → (48 ≤ b) × (b ≤ 57)
digit_bounds b digit = let parts = and_parts (nat_le 48 b) (nat_le b 57) digit in (leb-true 48 b parts.0, leb-true b 57 parts.1)

first_goes : (b : ℕ) (p : Place) (t : Told) → is_digit b ≡ true → step (scan Between (at p t)) b ≡ scan (Digits (b - 48)) (at p t)
first_goes b p t digit =
    let bounds = digit_bounds b digit in
    let low : 48 ≤ b = bounds.0 in
    rw (
      ne_eqb b 32 (λ (e : b ≡ 32). omega arith),
      ne_eqb b 9 (λ (e : b ≡ 9). omega arith),
      ne_eqb b 12 (λ (e : b ≡ 12). omega arith),
      ne_eqb b 10 (λ (e : b ≡ 10). omega arith),
      ne_eqb b 39 (λ (e : b ≡ 39). omega arith),
      ne_eqb b 34 (λ (e : b ≡ 34). omega arith),
      digit,
    ) refl

above : (b : ℕ) → 48 ≤ b → (b ≡ 48 → ⊥) → 0 < b - 48
above b low apart = omega arith

pub decimal_goes : (text rest : List ℕ) (n : ℕ) (p : Place) (t : Told) → IsDecimal text n
    → fold step (scan Between (at p t)) (text ++ rest) ≡ fold step (scan (Digits n) (at p t)) rest
decimal_goes text rest n p t i =
    ap (λ (x : List ℕ). fold step (scan Between (at p t)) (x ++ rest)) i.spelled
    ∙ ap (λ (s : Scan). fold step s (i.others ++ rest)) (first_goes i.first p t i.digit)
    ∙ others (cases_eq i.first 48)
    ∙ ap (λ (v : ℕ). fold step (scan (Digits v) (at p t)) rest) i.value
  where
    others : (i.first ≡ 48) ⊎ (i.first ≡ 48 → ⊥)
        → fold step (scan (Digits (i.first - 48)) (at p t)) (i.others ++ rest) ≡ fold step (scan (Digits (value_behind (i.first - 48) i.others)) (at p t)) rest
    others (inl e) =
        let alone : i.others ≡ [] = i.plain e in
        ap (λ (x : List ℕ). fold step (scan (Digits (i.first - 48)) (at p t)) (x ++ rest)) alone
        ∙ ap (λ (x : List ℕ). fold step (scan (Digits (value_behind (i.first - 48) x)) (at p t)) rest) (sym alone)
    others (inr apart) =
        let low : 48 ≤ i.first = (digit_bounds i.first i.digit).0 in
        let more : 0 < i.first - 48 = above i.first low apart in
        digits_go i.others rest (i.first - 48) p t i.digits more

-- ---- words

abbrev pub told_descr : List ℕ → Told
told_descr d = record { descr = Some d; fortran_order = None; shape = None }

abbrev pub told_order : List ℕ → Bool → Told
told_order d f = record { descr = Some d; fortran_order = Some f; shape = None }

abbrev pub told_all : List ℕ → Bool → List ℕ → Told
told_all d f s = record { descr = Some d; fortran_order = Some f; shape = Some s }

front_goes : (rest : List ℕ) → fold step (scan Between (at Start nothing_told)) (front_word ++ (39 ∷ rest)) ≡ fold step (scan (Quoted 39 []) (at (Value (codes "descr")) nothing_told)) rest
front_goes rest = refl

order_goes : (d rest : List ℕ) → fold step (scan (Quoted 39 d) (at (Value (codes "descr")) nothing_told)) (order_word ++ rest) ≡ fold step (scan Between (at (Value (codes "fortran_order")) (told_descr d))) rest
order_goes d rest = refl

flag_goes : (d : List ℕ) (f : Bool) (rest : List ℕ)
    → fold step (scan Between (at (Value (codes "fortran_order")) (told_descr d))) (flag_word f ++ (shape_word ++ rest)) ≡ fold step (scan Between (at (Axis []) (told_order d f))) rest
flag_goes d true rest = refl
flag_goes d false rest = refl

-- ---- the shape

closed : (v : ℕ) (acc rest : List ℕ) (d : List ℕ) (f : Bool) → nat_lt 1 (length (acc ++ v ∷ [])) ≡ true
    → fold step (scan (Digits v) (at (Axis acc) (told_order d f))) (41 ∷ rest) ≡ fold step (scan Between (at Next (told_all d f (acc ++ v ∷ [])))) rest
closed v acc rest d f several = rw several refl

axes_go : (text rest : List ℕ) (v : ℕ) (acc ns : List ℕ) (d : List ℕ) (f : Bool) → AreAxes text ns → 1 ≤ length acc + length ns
    → fold step (scan (Digits v) (at (Axis acc) (told_order d f))) (text ++ (41 ∷ rest)) ≡ fold step (scan Between (at Next (told_all d f (acc ++ v ∷ ns)))) rest
axes_go text rest v acc [] d f are several =
    let long : 1 < length (acc ++ v ∷ []) = omega (arith, length-append acc (v ∷ [])) in
    ap (λ (x : List ℕ). fold step (scan (Digits v) (at (Axis acc) (told_order d f))) (x ++ (41 ∷ rest))) are ∙ closed v acc rest d f (lt-ltb 1 (length (acc ++ v ∷ [])) long)
axes_go text rest v acc (n ∷ ns) d f are several =
    ap (λ (x : List ℕ). fold step (scan (Digits v) (at (Axis acc) (told_order d f))) (x ++ (41 ∷ rest))) are.2
    ∙ ap (λ (x : List ℕ). fold step (scan Between (at (Axis (acc ++ v ∷ [])) (told_order d f))) x) (append_assoc are.0 are.1 (41 ∷ rest))
    ∙ decimal_goes are.0 (are.1 ++ (41 ∷ rest)) n (Axis (acc ++ v ∷ [])) (told_order d f) are.3
    ∙ axes_go are.1 rest n (acc ++ v ∷ []) ns d f are.4 (omega (arith, length-append acc (v ∷ [])))
    ∙ ap (λ (x : List ℕ). fold step (scan Between (at Next (told_all d f x))) rest) (append_assoc acc (v ∷ []) (n ∷ ns))

shape_goes : (text rest shape : List ℕ) (d : List ℕ) (f : Bool) → IsShape text shape
    → fold step (scan Between (at (Axis []) (told_order d f))) (text ++ (41 ∷ rest)) ≡ fold step (scan Between (at Next (told_all d f shape))) rest
shape_goes text rest [] d f is = ap (λ (x : List ℕ). fold step (scan Between (at (Axis []) (told_order d f))) (x ++ (41 ∷ rest))) is
shape_goes text rest (n ∷ []) d f is =
    ap (λ (x : List ℕ). fold step (scan Between (at (Axis []) (told_order d f))) (x ++ (41 ∷ rest))) is.1
    ∙ ap (λ (x : List ℕ). fold step (scan Between (at (Axis []) (told_order d f))) x) (append_assoc is.0 (44 ∷ []) (41 ∷ rest))
    ∙ decimal_goes is.0 (44 ∷ 41 ∷ rest) n (Axis []) (told_order d f) is.2
shape_goes text rest (n ∷ m ∷ ns) d f is =
    ap (λ (x : List ℕ). fold step (scan Between (at (Axis []) (told_order d f))) (x ++ (41 ∷ rest))) is.2
    ∙ ap (λ (x : List ℕ). fold step (scan Between (at (Axis []) (told_order d f))) x) (append_assoc is.0 is.1 (41 ∷ rest))
    ∙ decimal_goes is.0 (is.1 ++ (41 ∷ rest)) n (Axis []) (told_order d f) is.3
    ∙ axes_go is.1 rest n [] (m ∷ ns) d f is.4 (omega arith)

-- ---- the end

blank_goes : (b : ℕ) (t : Told) → eqb 32 b ≡ true → step (scan Between (at End t)) b ≡ scan Between (at End t)
blank_goes b t is = rw (eq-eqb b 32 (sym (eqb-true 32 b is))) refl

blanks_go : (blanks rest : List ℕ) (t : Told) → list_all (eqb 32) blanks ≡ true → fold step (scan Between (at End t)) (blanks ++ rest) ≡ fold step (scan Between (at End t)) rest
blanks_go [] rest t all = refl
blanks_go (b ∷ bs) rest t all =
    let parts = and_parts (eqb 32 b) (list_all (eqb 32) bs) all in
    ap (λ (s : Scan). fold step s (bs ++ rest)) (blank_goes b t parts.0) ∙ blanks_go bs rest t parts.1

back_goes : (rest : List ℕ) (t : Told) → fold step (scan Between (at Next t)) (back_word ++ rest) ≡ fold step (scan Between (at End t)) rest
back_goes rest t = refl

-- ---- the whole

spread : (d : List ℕ) (f : Bool) (axes tail : List ℕ)
    → literal_of d f axes ++ tail ≡ front_word ++ (39 ∷ (d ++ (order_word ++ (flag_word f ++ (shape_word ++ (axes ++ (41 ∷ (back_word ++ tail))))))))
spread d true axes tail =
    ap (λ (x : List ℕ). front_word ++ (39 ∷ x)) (append_assoc d (order_word ++ (true_word ++ (shape_word ++ (axes ++ (41 ∷ back_word))))) tail
    ∙ ap (λ (x : List ℕ). d ++ (order_word ++ (true_word ++ (shape_word ++ x)))) (append_assoc axes (41 ∷ back_word) tail))
spread d false axes tail =
    ap (λ (x : List ℕ). front_word ++ (39 ∷ x)) (append_assoc d (order_word ++ (false_word ++ (shape_word ++ (axes ++ (41 ∷ back_word))))) tail
    ∙ ap (λ (x : List ℕ). d ++ (order_word ++ (false_word ++ (shape_word ++ x)))) (append_assoc axes (41 ∷ back_word) tail))

all_goes : (d : List ℕ) (f : Bool) (axes shape blanks : List ℕ) → list_all is_plain_text d ≡ true → IsShape axes shape → list_all (eqb 32) blanks ≡ true
    → fold step (scan Between (at Start nothing_told)) (literal_of d f axes ++ (blanks ++ (10 ∷ []))) ≡ scan Between (at End (told_all d f shape))
all_goes d f axes shape blanks plain is all =
    let tail : List ℕ = blanks ++ (10 ∷ []) in
    let behind_shape : List ℕ = back_word ++ tail in
    let behind_flag : List ℕ = axes ++ (41 ∷ behind_shape) in
    let behind_order : List ℕ = flag_word f ++ (shape_word ++ behind_flag) in
    ap (λ (x : List ℕ). fold step (scan Between (at Start nothing_told)) x) (spread d f axes tail)
    ∙ front_goes (d ++ (order_word ++ behind_order))
    ∙ text_goes d (order_word ++ behind_order) [] (Value (codes "descr")) nothing_told plain
    ∙ order_goes d behind_order
    ∙ flag_goes d f behind_flag
    ∙ shape_goes axes behind_shape shape d f is
    ∙ back_goes tail (told_all d f shape)
    ∙ blanks_go blanks (10 ∷ []) (told_all d f shape) all

pub literal_read : (d : List ℕ) (f : Bool) (axes shape blanks : List ℕ) → list_all is_plain_text d ≡ true → IsShape axes shape → list_all (eqb 32) blanks ≡ true
    → read_literal (literal_of d f axes ++ (blanks ++ (10 ∷ []))) ≡ Some (told_all d f shape)
literal_read d f axes shape blanks plain is all = rw (all_goes d f axes shape blanks plain is all) refl
