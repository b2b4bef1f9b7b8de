-- What numpy's reader makes of an array in form.
use Rattle.std.proofs.Common.{◌≡◌, ℕ, ◌+◌, ◌-◌, ◌*◌, ◌<◌, ◌≤◌, inl, inr, Bool, true, false, List, [], ◌∷◌, ◌++◌, length, take, drop, get_or, refl, sym, ap, subst, ◌∙◌, arith, length-append}
use Rattle.std.specs.Prelude.{◌⊎◌, ◌==◌, ◌&&◌, ◌||◌, nat_le, if◌then◌else◌, is_some, Option, Some, None}
use Rattle.std.specs.List.{list_all}
use Rattle.std.proofs.lemmas.Bool.{and_parts, and_from, or_cases, or_right, eqb-true, ne_eqb, leb-true, le-leb, lt-ltb}
use Rattle.std.proofs.lemmas.List.{append_assoc, take_at, drop_at, take_all}
use Rattle.std.proofs.lemmas.List.Folds.{list_all-append}
use Rattle.npy_form.specs.Text.{is_digit}
use Rattle.npy_form.specs.Item.{is_order, is_plain, is_time, is_word}
use Rattle.npy_form.specs.Npy.{text_start, header_size, behind_header}
use Rattle.npy_laws.specs.Written.{Array, IsDecimal, value_behind, ends_unit, is_unit, IsSized, IsPlain, IsDescr, count_of, literal_of, IsFilled, IsNpy}
use Rattle.npy_laws.specs.Literal.{read_literal}
use Rattle.npy_laws.specs.Numpy.{Dtype, number_front, behind_number, is_nothing, numbered, dtype_behind, dtype_of, Loaded, loaded, with_dtype, with_told, header_text, numpy_reads}
use Rattle.npy_laws.specs.Laws.{loaded_of}
use Rattle.npy_laws.proofs.Scanning.{is_plain_text, told_all, literal_read}

-- ---- one of several bytes

pub of_order : (P : ℕ → Type 0) → P 60 → P 62 → P 124 → (b : ℕ) → is_order b ≡ true → P b
of_order P p q r b is = first (or_cases (b == 60) (b == 62 || b == 124) is)
  where
    as_is : (c : ℕ) → P c → (b == c) ≡ true → P b
    as_is c p e = subst P (sym (eqb-true b c e)) p

    second : (((b == 62) ≡ true) ⊎ ((b == 124) ≡ true)) → P b
    second (inl e) = as_is 62 q e
    second (inr e) = as_is 124 r e

    first : (((b == 60) ≡ true) ⊎ ((b == 62 || b == 124) ≡ true)) → P b
    first (inl e) = as_is 60 p e
    first (inr e) = second (or_cases (b == 62) (b == 124) e)

pub of_time : (P : ℕ → Type 0) → P 109 → P 77 → (b : ℕ) → is_time b ≡ true → P b
of_time P p q b is = first (or_cases (b == 109) (b == 77) is)
  where
    first : (((b == 109) ≡ true) ⊎ ((b == 77) ≡ true)) → P b
    first (inl e) = subst P (sym (eqb-true b 109 e)) p
    first (inr e) = subst P (sym (eqb-true b 77 e)) q

pub of_plain : (P : ℕ → Type 0) → P 98 → P 99 → P 102 → P 105 → P 117 → P 83 → P 86 → (b : ℕ) → is_plain b ≡ true → P b
of_plain P p98 p99 p102 p105 p117 p83 p86 b is = all (or_cases (b == 98 || (b == 99 || b == 102)) ((b == 105 || b == 117) || (b == 83 || b == 86)) is)
  where
    as_is : (c : ℕ) → P c → (b == c) ≡ true → P b
    as_is c p e = subst P (sym (eqb-true b c e)) p

    two : (c d : ℕ) → P c → P d → (((b == c) ≡ true) ⊎ ((b == d) ≡ true)) → P b
    two c d p q (inl e) = as_is c p e
    two c d p q (inr e) = as_is d q e

    three : (((b == 98) ≡ true) ⊎ ((b == 99 || b == 102) ≡ true)) → P b
    three (inl e) = as_is 98 p98 e
    three (inr e) = two 99 102 p99 p102 (or_cases (b == 99) (b == 102) e)

    four : (((b == 105 || b == 117) ≡ true) ⊎ ((b == 83 || b == 86) ≡ true)) → P b
    four (inl e) = two 105 117 p105 p117 (or_cases (b == 105) (b == 117) e)
    four (inr e) = two 83 86 p83 p86 (or_cases (b == 83) (b == 86) e)

    all : (((b == 98 || (b == 99 || b == 102)) ≡ true) ⊎ (((b == 105 || b == 117) || (b == 83 || b == 86)) ≡ true)) → P b
    all (inl e) = three (or_cases (b == 98) (b == 99 || b == 102) e)
    all (inr e) = four (or_cases (b == 105 || b == 117) (b == 83 || b == 86) e)

-- ---- the letters of a type may stand between quotes

plain_between : (b : ℕ) → 40 ≤ b → b < 127 → (b ≡ 92 → ⊥) → is_plain_text b ≡ true
plain_between b low high other = rw (le-leb 32 b (omega arith), lt-ltb b 127 high, ne_eqb b 92 other, ne_eqb b 39 (λ (e : b ≡ 39). omega arith)) refl

plain_digit : (b : ℕ) → is_digit b ≡ true → is_plain_text b ≡ true
plain_digit b digit =
    let parts = and_parts (nat_le 48 b) (nat_le b 57) digit in
    let low : 48 ≤ b = leb-true 48 b parts.0 in
    let high : b ≤ 57 = leb-true b 57 parts.1 in
    plain_between b (omega arith) (omega arith) (λ (e : b ≡ 92). omega arith)

plain_word : (b : ℕ) → is_word b ≡ true → is_plain_text b ≡ true
plain_word b word = by (or_cases (is_digit b) ((nat_le 65 b && nat_le b 90) || (nat_le 97 b && nat_le b 122)) word)
  where
    range : (low high : ℕ) → 65 ≤ low → high ≤ 122 → (b ≡ 92 → low ≤ b → b ≤ high → ⊥) → (nat_le low b && nat_le b high) ≡ true → is_plain_text b ≡ true
    range low high l h apart is =
        let parts = and_parts (nat_le low b) (nat_le b high) is in
        let above : low ≤ b = leb-true low b parts.0 in
        let below : b ≤ high = leb-true b high parts.1 in
        plain_between b (omega arith) (omega arith) (λ (e : b ≡ 92). apart e above below)

    letter : (((nat_le 65 b && nat_le b 90) ≡ true) ⊎ ((nat_le 97 b && nat_le b 122) ≡ true)) → is_plain_text b ≡ true
    letter (inl e) = range 65 90 (omega arith) (omega arith) (λ (e : b ≡ 92) (l : 65 ≤ b) (h : b ≤ 90). omega arith) e
    letter (inr e) = range 97 122 (omega arith) (omega arith) (λ (e : b ≡ 92) (l : 97 ≤ b) (h : b ≤ 122). omega arith) e

    by : ((is_digit b ≡ true) ⊎ (((nat_le 65 b && nat_le b 90) || (nat_le 97 b && nat_le b 122)) ≡ true)) → is_plain_text b ≡ true
    by (inl e) = plain_digit b e
    by (inr e) = letter (or_cases (nat_le 65 b && nat_le b 90) (nat_le 97 b && nat_le b 122) e)

plain_digits : (digits : List ℕ) → list_all is_digit digits ≡ true → list_all is_plain_text digits ≡ true
plain_digits [] all = refl
plain_digits (b ∷ bs) all =
    let parts = and_parts (is_digit b) (list_all is_digit bs) all in
    and_from (is_plain_text b) (list_all is_plain_text bs) (plain_digit b parts.0) (plain_digits bs parts.1)

plain_unit : (unit : List ℕ) → ends_unit unit ≡ true → list_all is_plain_text unit ≡ true
plain_unit [] ends = refl
plain_unit (b ∷ []) ends = subst (λ (x : ℕ). list_all is_plain_text (x ∷ []) ≡ true) (sym (eqb-true b 93 ends)) refl
plain_unit (b ∷ c ∷ rest) ends =
    let parts = and_parts (is_word b) (ends_unit (c ∷ rest)) ends in
    and_from (is_plain_text b) (list_all is_plain_text (c ∷ rest)) (plain_word b parts.0) (plain_unit (c ∷ rest) parts.1)

plain_whole : (behind : List ℕ) → is_unit behind ≡ true → list_all is_plain_text behind ≡ true
plain_whole [] is = refl
plain_whole (b ∷ rest) is =
    let parts = and_parts (b == 91) (ends_unit rest) is in
    and_from (is_plain_text b) (list_all is_plain_text rest) (subst (λ (x : ℕ). is_plain_text x ≡ true) (sym (eqb-true b 91 parts.0)) refl) (plain_unit rest parts.1)

-- the digits of a number
decimal_digits : (text : List ℕ) (n : ℕ) → IsDecimal text n → list_all is_digit text ≡ true
decimal_digits text n i = ap (list_all is_digit) i.spelled ∙ and_from (is_digit i.first) (list_all is_digit i.others) i.digit i.digits

-- ---- what stands behind the number of a type

abbrev MayStand : ℕ → List ℕ → Type 0
MayStand kind behind = (is_nothing behind || (is_time kind && is_unit behind)) ≡ true

pub record Numbered (kind n : ℕ) (behind : List ℕ) (size : ℕ) : Type 0 where
  pub no_object : (kind == 79) ≡ false
  pub known : (is_plain kind || (kind == 85 || is_time kind)) ≡ true
  pub plain : is_plain_text kind ≡ true
  pub stands : MayStand kind behind
  pub no_digit : is_digit (get_or behind 0 0) ≡ false
  pub plain_behind : list_all is_plain_text behind ≡ true
  pub sized : (if kind == 85 then n * 4 else n) ≡ size

abbrev IsKnown : ℕ → Type 0
IsKnown kind = ((kind == 79) ≡ false) × (((is_plain kind || (kind == 85 || is_time kind)) ≡ true) × ((is_plain_text kind ≡ true) × ((kind == 85) ≡ false)))

unit_first : (behind : List ℕ) → is_unit behind ≡ true → is_digit (get_or behind 0 0) ≡ false
unit_first [] is = refl
unit_first (b ∷ rest) is = subst (λ (x : ℕ). is_digit x ≡ false) (sym (eqb-true b 91 (and_parts (b == 91) (ends_unit rest) is).0)) refl

with_unit : (kind n size : ℕ) (behind : List ℕ) → IsKnown kind → is_time kind ≡ true → ((behind ≡ []) ⊎ (is_unit behind ≡ true)) → size ≡ n → Numbered kind n behind size
with_unit kind n size behind k time (inl none) e =
    record {
      no_object = k.0;
      known = k.1.0;
      plain = k.1.1.0;
      stands = subst (MayStand kind) (sym none) refl;
      no_digit = subst (λ (x : List ℕ). is_digit (get_or x 0 0) ≡ false) (sym none) refl;
      plain_behind = subst (λ (x : List ℕ). list_all is_plain_text x ≡ true) (sym none) refl;
      sized = rw (k.1.1.1) (sym e);
    }
with_unit kind n size behind k time (inr unit) e =
    record {
      no_object = k.0;
      known = k.1.0;
      plain = k.1.1.0;
      stands = or_right (is_nothing behind) (is_time kind && is_unit behind) (and_from (is_time kind) (is_unit behind) time unit);
      no_digit = unit_first behind unit;
      plain_behind = plain_whole behind unit;
      sized = rw (k.1.1.1) (sym e);
    }

alone : (kind n size : ℕ) (behind : List ℕ) → behind ≡ [] → (kind == 79) ≡ false → (is_plain kind || (kind == 85 || is_time kind)) ≡ true → is_plain_text kind ≡ true
    → (if kind == 85 then n * 4 else n) ≡ size → Numbered kind n behind size
alone kind n size behind none other known plain sized =
    record {
      no_object = other;
      known = known;
      plain = plain;
      stands = subst (MayStand kind) (sym none) refl;
      no_digit = subst (λ (x : List ℕ). is_digit (get_or x 0 0) ≡ false) (sym none) refl;
      plain_behind = subst (λ (x : List ℕ). list_all is_plain_text x ≡ true) (sym none) refl;
      sized = sized;
    }

numbered_so : (kind n size : ℕ) (behind : List ℕ) → IsSized kind n behind size → Numbered kind n behind size
numbered_so kind n size behind (inl s) =
    let k = of_plain IsKnown (refl, (refl, (refl, refl))) (refl, (refl, (refl, refl))) (refl, (refl, (refl, refl))) (refl, (refl, (refl, refl))) (refl, (refl, (refl, refl)))
    (refl, (refl, (refl, refl))) (refl, (refl, (refl, refl))) kind s.0 in
    alone kind n size behind s.1.0 k.0 k.1.0 k.1.1.0 (rw (k.1.1.1) (sym s.1.1))
numbered_so kind n size behind (inr (inl s)) =
    alone kind n size behind s.1.0 (rw (s.0) refl) (rw (s.0) refl) (rw (s.0) refl) (rw (s.0) (sym s.1.1))
numbered_so kind n size behind (inr (inr s)) =
    with_unit kind n size behind (of_time IsKnown (refl, (refl, (refl, refl))) (refl, (refl, (refl, refl))) kind s.0) s.0 s.1.0 s.1.1

-- ---- the type of items

number_goes : (digits behind : List ℕ) (v : ℕ) → list_all is_digit digits ≡ true → is_digit (get_or behind 0 0) ≡ false → number_front v (digits ++ behind) ≡ value_behind v digits
number_goes [] [] v all none = refl
number_goes [] (b ∷ rest) v all none = rw (none) refl
number_goes (d ∷ ds) behind v all none =
    let parts = and_parts (is_digit d) (list_all is_digit ds) all in
    rw (parts.0) (number_goes ds behind (v * 10 + (d - 48)) parts.1 none)

behind_goes : (digits behind : List ℕ) → list_all is_digit digits ≡ true → is_digit (get_or behind 0 0) ≡ false → behind_number (digits ++ behind) ≡ behind
behind_goes [] [] all none = refl
behind_goes [] (b ∷ rest) all none = rw (none) refl
behind_goes (d ∷ ds) behind all none = let parts = and_parts (is_digit d) (list_all is_digit ds) all in rw (parts.0) (behind_goes ds behind parts.1 none)

decimal_value : (text behind : List ℕ) (n : ℕ) → IsDecimal text n → is_digit (get_or behind 0 0) ≡ false → number_front 0 (text ++ behind) ≡ n
decimal_value text behind n i none =
    let none_before : 0 * 10 + (i.first - 48) ≡ i.first - 48 = omega arith in
    number_goes text behind 0 (decimal_digits text n i) none ∙ ap (value_behind 0) i.spelled ∙ ap (λ (v : ℕ). value_behind v i.others) none_before ∙ i.value

decimal_first : (text behind : List ℕ) (n : ℕ) → IsDecimal text n → is_digit (get_or (text ++ behind) 0 0) ≡ true
decimal_first text behind n i = ap (λ (x : List ℕ). is_digit (get_or (x ++ behind) 0 0)) i.spelled ∙ i.digit

abbrev numbers : ℕ → Dtype
numbers size = record { size = size; is_object = false }

numbered_is : (kind n size : ℕ) (text behind : List ℕ) → IsDecimal text n → Numbered kind n behind size → numbered kind (text ++ behind) ≡ Some (numbers size)
numbered_is kind n size text behind i k =
    let rest : behind_number (text ++ behind) ≡ behind = behind_goes text behind (decimal_digits text n i) k.no_digit in
    let value : number_front 0 (text ++ behind) ≡ n = decimal_value text behind n i k.no_digit in
    rw (rest, value, k.stands) (ap (λ (s : ℕ). Some (numbers s)) k.sized)

plain_type : (descr : List ℕ) (size : ℕ) → IsPlain descr size → dtype_of descr ≡ Some (numbers size)
plain_type descr size p =
    let k = numbered_so p.kind p.told size p.behind p.sized in
    ap dtype_of p.spelled ∙ ordered ∙ kind_told k.no_object k.known ∙ numbered_is p.kind p.told size p.digits p.behind p.number k
  where
    ordered : dtype_of (p.order ∷ p.kind ∷ (p.digits ++ p.behind)) ≡ dtype_behind (p.kind ∷ (p.digits ++ p.behind))
    ordered = rw (p.ordered) refl

    kind_told : (p.kind == 79) ≡ false → (is_plain p.kind || (p.kind == 85 || is_time p.kind)) ≡ true
        → dtype_behind (p.kind ∷ (p.digits ++ p.behind)) ≡ numbered p.kind (p.digits ++ p.behind)
    kind_told other known = rw (other, known, decimal_first p.digits p.behind p.told p.number) refl

pub type_is : (descr : List ℕ) (size : ℕ) (is_object : Bool) → IsDescr descr size is_object → dtype_of descr ≡ Some (record { size = size; is_object = is_object })
type_is descr size true is = ap dtype_of is.0 ∙ ap (λ (s : ℕ). Some (record { size = s; is_object = true })) (sym is.1)
type_is descr size false is = plain_type descr size is

pub plain_descr : (descr : List ℕ) (size : ℕ) (is_object : Bool) → IsDescr descr size is_object → list_all is_plain_text descr ≡ true
plain_descr descr size true is = ap (list_all is_plain_text) is.0
plain_descr descr size false p =
    let k = numbered_so p.kind p.told size p.behind p.sized in
    let digits : list_all is_plain_text (p.digits ++ p.behind) ≡ true =
    list_all-append is_plain_text p.digits p.behind
    ∙ and_from (list_all is_plain_text p.digits) (list_all is_plain_text p.behind) (plain_digits p.digits (decimal_digits p.digits p.told p.number)) k.plain_behind in
    ap (list_all is_plain_text) p.spelled
    ∙ and_from (is_plain_text p.order) (is_plain_text p.kind && list_all is_plain_text (p.digits ++ p.behind)) (of_order (λ (b : ℕ). is_plain_text b ≡ true) refl refl refl p.order p.ordered)
    (and_from (is_plain_text p.kind) (list_all is_plain_text (p.digits ++ p.behind)) k.plain digits)

-- ---- the whole

loaded_is : (a : Array) (o : Bool) → a.is_object ≡ o → IsFilled o a
    → loaded a.descr a.fortran_order a.shape (record { size = a.size; is_object = o }) a.content
    ≡ record { descr = a.descr; fortran_order = a.fortran_order; shape = a.shape; size = a.size; unpickled = if o then Some a.content else None; items = if o then [] else a.content }
loaded_is a true is filled = refl
loaded_is a false is filled =
    let whole : take (count_of a.shape * a.size) a.content ≡ a.content = take_all (count_of a.shape * a.size) a.content (omega (arith, filled)) in
    ap (λ (x : List ℕ). record { descr = a.descr; fortran_order = a.fortran_order; shape = a.shape; size = a.size; unpickled = None; items = x }) whole

-- the literal with what is behind it up to the newline, and the content
regrouped : (text blanks content : List ℕ) → text ++ (blanks ++ (10 ∷ content)) ≡ (text ++ (blanks ++ (10 ∷ []))) ++ content
regrouped text blanks content =
    sym (append_assoc text (blanks ++ (10 ∷ [])) content ∙ ap (λ (x : List ℕ). text ++ x) (append_assoc blanks (10 ∷ []) content))

header_cut : (bytes front text blanks content : List ℕ) (start end : ℕ) → bytes ≡ front ++ (text ++ (blanks ++ (10 ∷ content))) → length front ≡ start
    → length front + (length text + (length blanks + 1)) ≡ end → take (end - start) (drop start bytes) ≡ text ++ (blanks ++ (10 ∷ []))
header_cut bytes front text blanks content start end is starts ends =
    let long : length (text ++ (blanks ++ (10 ∷ []))) ≡ end - start = omega (arith, length-append text (blanks ++ (10 ∷ [])), length-append blanks (10 ∷ [])) in
    ap (take (end - start)) (ap (drop start) is ∙ drop_at front (text ++ (blanks ++ (10 ∷ content))) start starts ∙ regrouped text blanks content)
    ∙ take_at (text ++ (blanks ++ (10 ∷ []))) content (end - start) long

behind_cut : (bytes front text blanks content : List ℕ) (end : ℕ) → bytes ≡ front ++ (text ++ (blanks ++ (10 ∷ content)))
    → length front + (length text + (length blanks + 1)) ≡ end → (drop end bytes ≡ content) × (end ≤ length bytes)
behind_cut bytes front text blanks content end is ends =
    let header : List ℕ = front ++ (text ++ (blanks ++ (10 ∷ []))) in
    let all : bytes ≡ header ++ content =
    is ∙ ap (λ (x : List ℕ). front ++ x) (regrouped text blanks content) ∙ sym (append_assoc front (text ++ (blanks ++ (10 ∷ []))) content) in
    let long : length header ≡ end =
    length-append front (text ++ (blanks ++ (10 ∷ []))) ∙ ap (λ (n : ℕ). length front + n) (length-append text (blanks ++ (10 ∷ [])) ∙ ap (λ (n : ℕ). length text + n) (length-append blanks (10 ∷ []))) ∙ ends in
    (ap (drop end) all ∙ drop_at header content end long, omega (arith, ap length all, length-append header content, long))

header_is : (bytes : List ℕ) (a : Array) (n : IsNpy bytes a) → header_text bytes ≡ literal_of a.descr a.fortran_order n.axes ++ (n.blanks ++ (10 ∷ []))
header_is bytes a n = header_cut bytes n.front (literal_of a.descr a.fortran_order n.axes) n.blanks a.content (text_start bytes) (header_size bytes) n.spelled n.front_size n.size_told

pub behind_is : (bytes : List ℕ) (a : Array) → IsNpy bytes a → behind_header bytes ≡ a.content
behind_is bytes a n = (behind_cut bytes n.front (literal_of a.descr a.fortran_order n.axes) n.blanks a.content (header_size bytes) n.spelled n.size_told).0

long_enough : (bytes : List ℕ) (a : Array) → IsNpy bytes a → header_size bytes ≤ length bytes
long_enough bytes a n = (behind_cut bytes n.front (literal_of a.descr a.fortran_order n.axes) n.blanks a.content (header_size bytes) n.spelled n.size_told).1

pub numpy_agrees : (bytes : List ℕ) (a : Array) → IsNpy bytes a → numpy_reads bytes ≡ Some (loaded_of a)
unfolding numpy_reads
numpy_agrees bytes a n =
    let told : read_literal (header_text bytes) ≡ Some (told_all a.descr a.fortran_order a.shape) =
    ap read_literal (header_is bytes a n) ∙ literal_read a.descr a.fortran_order n.axes a.shape n.blanks (plain_descr a.descr a.size a.is_object n.items) n.shaped n.blank in
    rw (n.begins, n.version, le-leb (header_size bytes) (length bytes) (long_enough bytes a n))
    (ap (with_told bytes) told ∙ ap (with_dtype bytes a.descr a.fortran_order a.shape) (type_is a.descr a.size a.is_object n.items)
    ∙ ap (λ (x : List ℕ). Some (loaded a.descr a.fortran_order a.shape (record { size = a.size; is_object = a.is_object }) x)) (behind_is bytes a n)
    ∙ ap (λ (x : Loaded). Some x) (loaded_is a a.is_object refl n.filled))

-- ---- one array

array_of : List ℕ → Bool → List ℕ → ℕ → Bool → List ℕ → Array
array_of d f s n o c = record { descr = d; size = n; is_object = o; fortran_order = f; shape = s; content = c }

as_array : (a : Array) → array_of a.descr a.fortran_order a.shape a.size a.is_object a.content ≡ a
unfolding array_of
as_array a = refl

same_parts : (d d' : List ℕ) (f f' : Bool) (s s' : List ℕ) (n n' : ℕ) (o o' : Bool) (c c' : List ℕ) → d ≡ d' → f ≡ f' → s ≡ s' → n ≡ n' → o ≡ o' → c ≡ c'
    → array_of d f s n o c ≡ array_of d' f' s' n' o' c'
same_parts d d' f f' s s' n n' o o' c c' p q r t u v = cc

same_array : (a b : Array) → a.descr ≡ b.descr → a.fortran_order ≡ b.fortran_order → a.shape ≡ b.shape → a.size ≡ b.size → a.is_object ≡ b.is_object → a.content ≡ b.content → a ≡ b
same_array a b d f s n o c =
    sym (as_array a)
    ∙ same_parts a.descr b.descr a.fortran_order b.fortran_order a.shape b.shape a.size b.size a.is_object b.is_object a.content b.content d f s n o c
    ∙ as_array b

pub one_npy : (bytes : List ℕ) (a b : Array) → IsNpy bytes a → IsNpy bytes b → a ≡ b
one_npy bytes a b n m =
    let same : Some (loaded_of a) ≡ Some (loaded_of b) = sym (numpy_agrees bytes a n) ∙ numpy_agrees bytes b m in
    let d : a.descr ≡ b.descr = ap (part [] (λ (l : Loaded). l.descr)) same in
    let f : a.fortran_order ≡ b.fortran_order = ap (part false (λ (l : Loaded). l.fortran_order)) same in
    let s : a.shape ≡ b.shape = ap (part [] (λ (l : Loaded). l.shape)) same in
    let z : a.size ≡ b.size = ap (part 0 (λ (l : Loaded). l.size)) same in
    let o : a.is_object ≡ b.is_object = sym (type_kind a.is_object a.content) ∙ ap (part false (λ (l : Loaded). is_some l.unpickled)) same ∙ type_kind b.is_object b.content in
    same_array a b d f s z o (sym (behind_is bytes a n) ∙ behind_is bytes b m)
  where
    part : {A : Type 0} → A → (Loaded → A) → Option Loaded → A
    part other f None = other
    part other f (Some l) = f l

    type_kind : (o : Bool) (c : List ℕ) → is_some (if o then Some c else None) ≡ o
    type_kind true c = refl
    type_kind false c = refl
