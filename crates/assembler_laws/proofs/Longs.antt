-- Long numbers are read back, if their bytes are the fewest.
use Rattle.std.proofs.Common.{◌≡◌, ℕ, zero, suc, ◌+◌, ◌-◌, ◌*◌, ◌^◌, ◌<◌, ◌≤◌, Bool, true, false, List, [], ◌∷◌, ◌++◌, length, take, replicate, None, Ok, refl, sym, ap, subst, ◌∙◌, inl, inr, arith, length-append, take_at}
use Rattle.std.specs.Prelude.{nat_le, codes, decimal, slice_index, if◌then◌else◌}
use Rattle.std.specs.Fmt.{signed_decimal}
use Rattle.std.specs.List.{list_all, prefix_len}
use Rattle.std.specs.Option.{option_map_or}
use Rattle.std.proofs.Math.Nat.{pow-succ', pow-le-pow_right, mul-add, mul_assoc}
use Rattle.std.proofs.lemmas.Bool.{cases_lt, eq-eqb, lt-ltb, le-leb, leb-true, leb-false, or_left, or_right, and_from, not-true}
use Rattle.std.proofs.lemmas.List.{get_or_append_left, get_or-append-add, get_or-replicate, length-replicate}
use Rattle.std.proofs.lemmas.Nat.{pow-add}
use Rattle.hex.specs.Hex.{IsBytes}
use Rattle.byteorder.specs.Endian.{little_bytes, twos_complement}
use Rattle.pickle_io.specs.Text.{◌⧺◌, hexadecimal}
use Rattle.pickle_ops.specs.Argument.{long_of}
use Rattle.pickle_ops.specs.Text.{long_text}
use Rattle.opcode_assembler.specs.Words.{is_blank, is_letter, word, after_word, behind}
use Rattle.opcode_assembler.specs.Numbers.{hex_first, signed_word, says_no_more, least_len, shortest}
use Rattle.opcode_assembler.specs.Arguments.{shortened, long_first}
use Rattle.assembler_laws.proofs.Canonical.{has_shortest, IsShortest}
use Rattle.assembler_laws.proofs.Spans.{Spans, word_is, after_is, gap_before}
use Rattle.assembler_laws.proofs.Decimals.{some_digits, all_digits, digits_letters}
use Rattle.assembler_laws.proofs.Littles.{number, number_is, back, below}
use Rattle.assembler_laws.proofs.Fronts.{Head, at_head, digits_apart}
use Rattle.assembler_laws.proofs.Hexes.{hex_read}
use Rattle.assembler_laws.proofs.Signs.{plain_word, minus_word, low_text, high_text, decimal_head, minus_head, minus_letters}

-- ---- bytes behind bytes

filled : List ℕ → ℕ → List ℕ
filled bs v = bs ++ replicate (16 - length bs) v

filled_length : (bs : List ℕ) (v : ℕ) → length bs ≤ 16 → length (filled bs v) ≡ 16
unfolding filled
filled_length bs v h = omega (arith, h, length-append bs (replicate (16 - length bs) v), length-replicate (16 - length bs) v)

bytes_then : (xs ys : List ℕ) → IsBytes xs → IsBytes ys → IsBytes (xs ++ ys)
bytes_then [] ys h k i = k i
bytes_then (x ∷ xs) ys h k zero = h 0
bytes_then (x ∷ xs) ys h k (suc i) = bytes_then xs ys (λ j. h (suc j)) k i

bytes_of : (n v : ℕ) → v < 256 → IsBytes (replicate n v)
bytes_of zero v h i = omega arith
bytes_of (suc n) v h zero = h
bytes_of (suc n) v h (suc i) = bytes_of n v h i

filled_bytes : (bs : List ℕ) (v : ℕ) → IsBytes bs → v < 256 → IsBytes (filled bs v)
unfolding filled
filled_bytes bs v h k = bytes_then bs (replicate (16 - length bs) v) h (bytes_of (16 - length bs) v k)

number_then : (xs ys : List ℕ) → number (xs ++ ys) ≡ number xs + 256 ^ length xs * number ys
number_then [] ys = omega arith
number_then (x ∷ xs) ys =
    let rest = number_then xs ys in
    let power : 256 ^ suc (length xs) * number ys ≡ 256 * (256 ^ length xs * number ys) =
    ap (λ (p : ℕ). p * number ys) (pow-succ' 256 (length xs)) ∙ mul_assoc 256 (256 ^ length xs) (number ys) in
    omega (arith, rest, power)

number_zeros : (n : ℕ) → number (replicate n 0) ≡ 0
number_zeros zero = refl
number_zeros (suc n) = let rest = number_zeros n in omega (arith, rest)

number_full : (n : ℕ) → number (replicate n 255) + 1 ≡ 256 ^ n
number_full zero = refl
number_full (suc n) = let rest = number_full n in let power = pow-succ' 256 n in omega (arith, rest, power)

low_number : (bs : List ℕ) → number (filled bs 0) ≡ number bs
unfolding filled
low_number bs =
    let zeros : 256 ^ length bs * number (replicate (16 - length bs) 0) ≡ 256 ^ length bs * 0 = ap (λ (n : ℕ). 256 ^ length bs * n) (number_zeros (16 - length bs)) in
    let all = number_then bs (replicate (16 - length bs) 0) in
    omega (arith, zeros, all)

high_number : (bs : List ℕ) → length bs ≤ 16 → number (filled bs 255) + 256 ^ length bs ≡ number bs + 256 ^ 16
unfolding filled
high_number bs h =
    let p = 256 ^ length bs in
    let n = number (replicate (16 - length bs) 255) in
    let all : number (bs ++ replicate (16 - length bs) 255) ≡ number bs + p * n = number_then bs (replicate (16 - length bs) 255) in
    let one : p * (n + 1) ≡ p * n + p * 1 = mul-add p n 1 in
    let power : p * (n + 1) ≡ 256 ^ 16 =
    ap (λ (m : ℕ). p * m) (number_full (16 - length bs)) ∙ sym (pow-add 256 (length bs) (16 - length bs))
    ∙ ap (λ (k : ℕ). 256 ^ k) (let e : length bs + (16 - length bs) ≡ 16 = omega (arith, h) in e) in
    omega (arith, all, one, power)

-- ---- the last byte is the sign

last : ℕ → List ℕ → ℕ
last b [] = b
last b (c ∷ bs) = last c bs

last_is : (b : ℕ) (bs : List ℕ) → slice_index (b ∷ bs) (length bs) ≡ last b bs
unfolding last
last_is b [] = refl
last_is b (c ∷ bs) = last_is c bs

half : (n : ℕ) → 2 ^ (8 * suc (suc n) - 1) ≡ 256 * 2 ^ (8 * suc n - 1)
half n =
    let e : 8 * suc (suc n) - 1 ≡ 8 + (8 * suc n - 1) = omega arith in
    ap (λ (k : ℕ). 2 ^ k) e ∙ pow-add 2 8 (8 * suc n - 1)

low_half : (b : ℕ) (bs : List ℕ) → IsBytes (b ∷ bs) → last b bs < 128 → number (b ∷ bs) < 2 ^ (8 * suc (length bs) - 1)
unfolding last
low_half b [] h l = omega (arith, l)
low_half b (c ∷ bs) h l =
    let rest = low_half c bs (λ i. h (suc i)) l in
    let byte : b < 256 = h 0 in
    let power = half (length bs) in
    omega (arith, rest, byte, power)

high_half : (b : ℕ) (bs : List ℕ) → 128 ≤ last b bs → 2 ^ (8 * suc (length bs) - 1) ≤ number (b ∷ bs)
unfolding last
high_half b [] l = omega (arith, l)
high_half b (c ∷ bs) l =
    let rest = high_half c bs l in
    let power = half (length bs) in
    omega (arith, rest, power)

power_8 : (n : ℕ) → 256 ^ n ≡ 2 ^ (8 * n)
power_8 zero = refl
power_8 (suc n) =
    let e : 8 * suc n ≡ 8 + 8 * n = omega arith in
    pow-succ' 256 n ∙ ap (λ (p : ℕ). 256 * p) (power_8 n) ∙ sym (ap (λ (k : ℕ). 2 ^ k) e ∙ pow-add 2 8 (8 * n))

-- ---- how many bytes say something

zero_says : (xs : List ℕ) (n : ℕ) → slice_index xs n ≡ 0 → slice_index xs (n - 1) < 128 → says_no_more xs n ≡ true
zero_says xs n e h =
    or_left _ _ (and_from _ _ (eq-eqb (slice_index xs n) 0 e) (or_right _ _ (lt-ltb (slice_index xs (n - 1)) 128 h)))

full_says : (xs : List ℕ) (n : ℕ) → slice_index xs n ≡ 255 → 0 < n → 128 ≤ slice_index xs (n - 1) → says_no_more xs n ≡ true
full_says xs n e p h =
    or_right _ _ (and_from _ _ (and_from _ _ (eq-eqb (slice_index xs n) 255 e) (lt-ltb 0 n p)) (le-leb 128 (slice_index xs (n - 1)) h))

one_less : (xs : List ℕ) (m : ℕ) → says_no_more xs m ≡ true → least_len xs (suc m) ≡ least_len xs m
unfolding least_len
one_less xs m t = rw t refl

-- bytes that say no more are passed over
passed : (xs : List ℕ) (n k : ℕ) → ((i : ℕ) → i < k → says_no_more xs (n + i) ≡ true) → least_len xs (n + k) ≡ least_len xs n
passed xs n zero h = let e : n + 0 ≡ n = omega arith in ap (least_len xs) e
passed xs n (suc k) h =
    let e : n + suc k ≡ suc (n + k) = omega arith in
    ap (least_len xs) e ∙ one_less xs (n + k) (h k (omega arith)) ∙ passed xs n k (λ i l. h i (omega (arith, l)))

stays : (xs : List ℕ) (n : ℕ) → says_no_more xs n ≡ false → least_len xs (suc n) ≡ suc n
unfolding least_len
stays xs n e = rw e refl

none : (xs : List ℕ) → least_len xs 0 ≡ 0
unfolding least_len
none xs = refl

in_front : (bs : List ℕ) (v i : ℕ) → i < length bs → slice_index (filled bs v) i ≡ slice_index bs i
unfolding filled
in_front bs v i h = get_or_append_left bs (replicate (16 - length bs) v) 0 i h

after_them : (bs : List ℕ) (v i : ℕ) → i < 16 - length bs → slice_index (filled bs v) (length bs + i) ≡ v
unfolding filled
after_them bs v i h = get_or-append-add bs (replicate (16 - length bs) v) i 0 ∙ get_or-replicate (16 - length bs) i v 0 h

-- what a last byte says is said by itself and the one before it
same_said : (b : ℕ) (bs : List ℕ) (v : ℕ) → says_no_more (filled (b ∷ bs) v) (length bs) ≡ says_no_more (b ∷ bs) (length bs)
same_said b bs v =
    let here = in_front (b ∷ bs) v (length bs) (omega arith) in
    let before = in_front (b ∷ bs) v (length bs - 1) (omega arith) in
    rw (here, before) refl

counted : (bs : List ℕ) (v : ℕ) → has_shortest bs ≡ true → least_len (filled bs v) (length bs) ≡ length bs
counted [] v h = none (filled [] v)
counted (b ∷ bs) v h = stays (filled (b ∷ bs) v) (length bs) (same_said b bs v ∙ not-true (says_no_more (b ∷ bs) (length bs)) h)

front : (bs : List ℕ) (v : ℕ) → take (length bs) (filled bs v) ≡ bs
unfolding filled
front bs v = take_at bs (replicate (16 - length bs) v) (length bs) refl

shortest_by : (bs : List ℕ) (v : ℕ) → length bs ≤ 16 → has_shortest bs ≡ true → ((i : ℕ) → i < 16 - length bs → says_no_more (filled bs v) (length bs + i) ≡ true) → shortest (filled bs v) ≡ bs
shortest_by bs v l h s =
    let e : length bs + (16 - length bs) ≡ 16 = omega (arith, l) in
    let count : least_len (filled bs v) 16 ≡ length bs =
    ap (least_len (filled bs v)) (sym e) ∙ passed (filled bs v) (length bs) (16 - length bs) s ∙ counted bs v h in
    ap (λ (n : ℕ). take n (filled bs v)) count ∙ front bs v

zeros_say : (b : ℕ) (bs : List ℕ) → last b bs < 128 → (i : ℕ) → i < 16 - length (b ∷ bs) → says_no_more (filled (b ∷ bs) 0) (length (b ∷ bs) + i) ≡ true
zeros_say b bs l zero h =
    let e : length (b ∷ bs) + 0 - 1 ≡ length bs = omega arith in
    let there : slice_index (filled (b ∷ bs) 0) (length (b ∷ bs) + 0 - 1) ≡ last b bs =
    ap (slice_index (filled (b ∷ bs) 0)) e ∙ in_front (b ∷ bs) 0 (length bs) (omega arith) ∙ last_is b bs in
    zero_says (filled (b ∷ bs) 0) (length (b ∷ bs) + 0) (after_them (b ∷ bs) 0 0 h) (omega (arith, there, l))
zeros_say b bs l (suc i) h =
    let e : length (b ∷ bs) + suc i - 1 ≡ length (b ∷ bs) + i = omega arith in
    let there : slice_index (filled (b ∷ bs) 0) (length (b ∷ bs) + suc i - 1) ≡ 0 =
    ap (slice_index (filled (b ∷ bs) 0)) e ∙ after_them (b ∷ bs) 0 i (omega (arith, h)) in
    zero_says (filled (b ∷ bs) 0) (length (b ∷ bs) + suc i) (after_them (b ∷ bs) 0 (suc i) h) (omega (arith, there))

ones_say : (b : ℕ) (bs : List ℕ) → 128 ≤ last b bs → (i : ℕ) → i < 16 - length (b ∷ bs) → says_no_more (filled (b ∷ bs) 255) (length (b ∷ bs) + i) ≡ true
ones_say b bs l zero h =
    let e : length (b ∷ bs) + 0 - 1 ≡ length bs = omega arith in
    let there : slice_index (filled (b ∷ bs) 255) (length (b ∷ bs) + 0 - 1) ≡ last b bs =
    ap (slice_index (filled (b ∷ bs) 255)) e ∙ in_front (b ∷ bs) 255 (length bs) (omega arith) ∙ last_is b bs in
    full_says (filled (b ∷ bs) 255) (length (b ∷ bs) + 0) (after_them (b ∷ bs) 255 0 h) (omega arith) (omega (arith, there, l))
ones_say b bs l (suc i) h =
    let e : length (b ∷ bs) + suc i - 1 ≡ length (b ∷ bs) + i = omega arith in
    let there : slice_index (filled (b ∷ bs) 255) (length (b ∷ bs) + suc i - 1) ≡ 255 =
    ap (slice_index (filled (b ∷ bs) 255)) e ∙ after_them (b ∷ bs) 255 i (omega (arith, h)) in
    full_says (filled (b ∷ bs) 255) (length (b ∷ bs) + suc i) (after_them (b ∷ bs) 255 (suc i) h) (omega arith) (omega (arith, there))

nothing_says : (i : ℕ) → i < 16 - 0 → says_no_more (filled [] 0) (0 + i) ≡ true
nothing_says zero h = zero_says (filled [] 0) (0 + 0) (after_them [] 0 0 h) (omega (arith, after_them [] 0 0 h))
nothing_says (suc i) h =
    let e : 0 + suc i - 1 ≡ 0 + i = omega arith in
    let there : slice_index (filled [] 0) (0 + suc i - 1) ≡ 0 = ap (slice_index (filled [] 0)) e ∙ after_them [] 0 i (omega (arith, h)) in
    zero_says (filled [] 0) (0 + suc i) (after_them [] 0 (suc i) h) (omega (arith, there))

-- ---- the word of a number

-- a word, and the bytes that it stands for
pub record IsSaid (bs text : List ℕ) : Type 0 where
  pub head : Head text
  pub dark : list_all is_letter text ≡ true
  pub apart : (rest : List ℕ) → behind (codes "le:") (text ++ rest) ≡ None
  pub bytes : List ℕ
  pub read : signed_word 16 text ≡ Ok bytes
  pub short : shortest bytes ≡ bs

filled_back : (bs : List ℕ) (v : ℕ) → IsBytes bs → v < 256 → length bs ≤ 16 → little_bytes 16 (number (filled bs v)) ≡ filled bs v
filled_back bs v h k l =
    ap (λ (n : ℕ). little_bytes n (number (filled bs v))) (sym (filled_length bs v l)) ∙ back (filled bs v) (filled_bytes bs v h k)

power_half : (n : ℕ) → 2 ^ (8 * suc n) ≡ 2 * 2 ^ (8 * suc n - 1)
power_half n =
    let e : 8 * suc n ≡ 1 + (8 * suc n - 1) = omega arith in
    ap (λ (k : ℕ). 2 ^ k) e ∙ pow-add 2 1 (8 * suc n - 1)

most_half : (k : ℕ) → k ≤ 16 → 2 ^ (8 * k - 1) ≤ 2 ^ 127
most_half k h = pow-le-pow_right {n = 2} (omega arith) {i = 8 * k - 1} {j = 127} (omega (arith, h))

plain_said : (bs : List ℕ) → IsBytes bs → length bs ≤ 16 → number bs < 2 ^ (8 * length bs - 1) → shortest (filled bs 0) ≡ bs
    → IsSaid bs (signed_decimal (twos_complement (length bs) (number bs)))
plain_said bs h l low s =
    let n = number bs in
    let most = most_half (length bs) l in
    let below_half : n < 2 ^ 127 = omega (arith, low, most) in
    let digits : n < 10 ^ 64 = omega (arith, below_half) in
    subst (IsSaid bs) (sym (low_text (length bs) n low)) (record {
      head = decimal_head n digits;
      dark = digits_letters (decimal n) (all_digits n digits);
      apart = λ rest. digits_apart 108 (101 ∷ 58 ∷ []) (decimal n) rest (all_digits n digits) (some_digits n digits) refl;
      bytes = filled bs 0;
      read = plain_word 16 n below_half (omega (arith, below_half)) ∙ ap Ok (ap (little_bytes 16) (sym (low_number bs)) ∙ filled_back bs 0 h (omega arith) l);
      short = s;
    })

minus_said : (b : ℕ) (cs : List ℕ) → IsBytes (b ∷ cs) → length (b ∷ cs) ≤ 16 → 2 ^ (8 * length (b ∷ cs) - 1) ≤ number (b ∷ cs) → number (b ∷ cs) < 2 ^ (8 * length (b ∷ cs))
    → shortest (filled (b ∷ cs) 255) ≡ b ∷ cs → IsSaid (b ∷ cs) (signed_decimal (twos_complement (length (b ∷ cs)) (number (b ∷ cs))))
minus_said b cs h l high whole s =
    let bs = b ∷ cs in
    let n = number bs in
    let p = 2 ^ (8 * length bs) in
    let m = p - n in
    let most = most_half (length bs) l in
    let twice : p ≡ 2 * 2 ^ (8 * length bs - 1) = power_half (length cs) in
    let some : 0 < m = omega (arith, whole) in
    let below_half : m ≤ 2 ^ 127 = omega (arith, high, most, twice) in
    let digits : m < 10 ^ 64 = omega (arith, below_half) in
    let power : 256 ^ length bs ≡ p = power_8 (length bs) in
    let all = high_number bs l in
    let same : 2 ^ 128 - m ≡ number (filled bs 255) = omega (arith, all, power, whole) in
    subst (IsSaid bs) (sym (high_text (length bs) n high whole)) (record {
      head = minus_head (decimal m);
      dark = minus_letters m digits;
      apart = λ rest. refl;
      bytes = filled bs 255;
      read = minus_word 16 m some below_half (omega (arith, below_half)) ∙ ap Ok (ap (little_bytes 16) same ∙ filled_back bs 255 h (omega arith) l);
      short = s;
    })

said : (bs : List ℕ) → IsBytes bs → length bs ≤ 16 → has_shortest bs ≡ true → IsSaid bs (signed_decimal (twos_complement (length bs) (number bs)))
said [] h l s = plain_said [] h l (omega arith) (shortest_by [] 0 l s nothing_says)
said (b ∷ bs) h l s = elim (cases_lt (last b bs) 128) [
  | inl low ↦ plain_said (b ∷ bs) h l (low_half b bs h low) (shortest_by (b ∷ bs) 0 l s (zeros_say b bs low))
  | inr high ↦
      let top = below (length (b ∷ bs)) (b ∷ bs) h in
      let whole : number (b ∷ bs) < 2 ^ (8 * length (b ∷ bs)) = omega (arith, top, number_is (b ∷ bs), power_8 (length (b ∷ bs))) in
      minus_said b bs h l (high_half b bs high) whole (shortest_by (b ∷ bs) 255 l s (ones_say b bs high))
]

long_said : (bs : List ℕ) → IsBytes bs → length bs ≤ 16 → has_shortest bs ≡ true → IsSaid bs (signed_decimal (long_of bs))
long_said bs h l s = subst (λ (n : ℕ). IsSaid bs (signed_decimal (twos_complement (length bs) n))) (sym (number_is bs)) (said bs h l s)

-- ---- and of more than sixteen bytes

le_is : (bs rest : List ℕ) → (codes "le:" ⧺ hexadecimal bs) ++ rest ≡ 108 ∷ 101 ∷ 58 ∷ (hexadecimal bs ++ rest)
unfolding ◌⧺◌
le_is bs rest = refl

le_head : (bs : List ℕ) → Head (codes "le:" ⧺ hexadecimal bs)
unfolding ◌⧺◌
le_head bs = record { first = 108; more = 101 ∷ 58 ∷ hexadecimal bs; is = refl; letter = refl; other = refl }

le_read : (gap bs rest : List ℕ) → list_all is_blank gap ≡ true → IsBytes bs → 0 < length bs → prefix_len is_letter rest ≡ 0
    → long_first (gap ++ ((codes "le:" ⧺ hexadecimal bs) ++ rest)) ≡ Ok (bs, rest)
le_read gap bs rest g h l e =
    let text = gap ++ ((codes "le:" ⧺ hexadecimal bs) ++ rest) in
    ap (λ (x : List ℕ). option_map_or hex_first (behind (codes "le:") x) (shortened (signed_word 16 (word text)) (after_word text)))
    (at_head gap (codes "le:" ⧺ hexadecimal bs) rest g (le_head bs) ∙ le_is bs rest)
    ∙ hex_read bs rest h l e

said_read : (gap bs t rest : List ℕ) → list_all is_blank gap ≡ true → IsSaid bs t → prefix_len is_letter rest ≡ 0 → long_first (gap ++ (t ++ rest)) ≡ Ok (bs, rest)
said_read gap bs t rest g s e =
    let text = gap ++ (t ++ rest) in
    let h = s.head in
    let some : 0 < length t = subst (λ (x : List ℕ). 0 < length x) (sym h.is) (omega arith) in
    let span : Spans is_letter t rest = record { all = s.dark; stops = e } in
    let gaps = gap_before gap t rest g s.dark some in
    ap (λ (x : List ℕ). option_map_or hex_first (behind (codes "le:") x) (shortened (signed_word 16 (word text)) (after_word text))) (at_head gap t rest g h)
    ∙ ap (λ x. option_map_or hex_first x (shortened (signed_word 16 (word text)) (after_word text))) (s.apart rest)
    ∙ ap (λ (w : List ℕ). shortened (signed_word 16 w) (after_word text)) (word_is gap t rest gaps span)
    ∙ ap (λ (x : List ℕ). shortened (signed_word 16 t) x) (after_is gap t rest gaps span)
    ∙ ap (λ r. shortened r rest) s.read ∙ ap (λ (x : List ℕ). Ok (x, rest)) s.short

pub long_read : (gap bs rest : List ℕ) → list_all is_blank gap ≡ true → IsBytes bs → IsShortest bs → prefix_len is_letter rest ≡ 0
    → long_first (gap ++ (long_text bs ++ rest)) ≡ Ok (bs, rest)
unfolding long_text
long_read gap bs rest g h s e = go (nat_le (length bs) 16) refl
  where
    go : (b : Bool) → nat_le (length bs) 16 ≡ b
        → long_first (gap ++ ((if b then signed_decimal (long_of bs) else (codes "le:" ⧺ hexadecimal bs)) ++ rest)) ≡ Ok (bs, rest)
    go true k = let l = leb-true (length bs) 16 k in said_read gap bs (signed_decimal (long_of bs)) rest g (long_said bs h l (s l)) e
    go false k = le_read gap bs rest g h (omega (arith, leb-false (length bs) 16 k)) e

pub long_head : (bs : List ℕ) → IsBytes bs → IsShortest bs → Head (long_text bs)
unfolding long_text
long_head bs h s = go (nat_le (length bs) 16) refl
  where
    go : (b : Bool) → nat_le (length bs) 16 ≡ b → Head (if b then signed_decimal (long_of bs) else (codes "le:" ⧺ hexadecimal bs))
    go true k = let l = leb-true (length bs) 16 k in (long_said bs h l (s l)).head
    go false k = le_head bs
