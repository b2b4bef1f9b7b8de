-- CRC-32 of several bytes in one step: what is left behind bits is a sum of what is left of each.
use Rattle.std.proofs.Common.{◌≡◌, ℕ, zero, suc, ◌+◌, ◌*◌, ◌/◌, ◌%◌, ◌^◌, ◌<◌, ◌≤◌, List, [], ◌∷◌, length, drop, get_or, inl, inr, refl, sym, ap, ◌∙◌, arith}
use Rattle.std.specs.Prelude.{bit_xor, if◌then◌else◌, ◌==◌, ◌-◌, ◌⊎◌, set}
use Rattle.std.proofs.lemmas.Bool.{cases_lt}
use Rattle.std.proofs.lemmas.List.{get_or-set_same, get_or-set_other, drop_more}
use Rattle.byteorder.specs.Endian.{little_number}
use Rattle.zip_archive.specs.Field.{u32_at}
use Rattle.std.specs.List.{fold}
use Rattle.std.proofs.lemmas.Nat.{xor_comm, xor_shr, xor_mod, xor_block}
use lib.Bits.{xor_assoc, xor_self, xor_zero_r}
use Rattle.zip_archive.specs.Checksum.{bit_behind, bits_behind, byte_behind}
use Rattle.zip_archive.specs.Table.{zeros_behind, entry, IsTable}

-- ---- sums of bits

swapped : (a b c : ℕ) → bit_xor (bit_xor a b) c ≡ bit_xor (bit_xor a c) b
swapped a b c = xor_assoc a b c ∙ ap (bit_xor a) (xor_comm b c) ∙ sym (xor_assoc a c b)

-- twice the same is nothing
cancelled : (a b p : ℕ) → bit_xor (bit_xor a p) (bit_xor b p) ≡ bit_xor a b
cancelled a b p =
    sym (xor_assoc (bit_xor a p) b p) ∙ ap (λ (x : ℕ). bit_xor x p) (swapped a p b) ∙ xor_assoc (bit_xor a b) p p ∙ ap (bit_xor (bit_xor a b)) (xor_self p) ∙ xor_zero_r (bit_xor a b)

-- ---- one bit

abbrev with_lowest : ℕ → ℕ → ℕ
with_lowest lowest rest = if lowest == 1 then bit_xor rest 3988292384 else rest

lowest_adds : (p q a b : ℕ) → p < 2 → q < 2 → with_lowest (bit_xor p q) (bit_xor a b) ≡ bit_xor (with_lowest p a) (with_lowest q b)
lowest_adds zero zero a b h k = refl
lowest_adds zero (suc zero) a b h k = xor_assoc a b 3988292384
lowest_adds zero (suc (suc q)) a b h k = absurd (omega arith)
lowest_adds (suc zero) zero a b h k = swapped a b 3988292384
lowest_adds (suc zero) (suc zero) a b h k = sym (cancelled a b 3988292384)
lowest_adds (suc zero) (suc (suc q)) a b h k = absurd (omega arith)
lowest_adds (suc (suc p)) q a b h k = absurd (omega arith)

bit_adds : (a b : ℕ) → bit_behind (bit_xor a b) ≡ bit_xor (bit_behind a) (bit_behind b)
bit_adds a b =
    let low : bit_xor a b % 2 ≡ bit_xor (a % 2) (b % 2) = xor_mod a b 1 in
    let high : bit_xor a b / 2 ≡ bit_xor (a / 2) (b / 2) = xor_shr a b 1 in
    ap (λ (x : ℕ). with_lowest x (bit_xor a b / 2)) low ∙ ap (with_lowest (bit_xor (a % 2) (b % 2))) high ∙ lowest_adds (a % 2) (b % 2) (a / 2) (b / 2) (omega arith) (omega arith)

bit_of_twice : (n : ℕ) → bit_behind (n * 2) ≡ n
bit_of_twice n =
    let low : n * 2 % 2 ≡ 0 = omega arith in
    let high : n * 2 / 2 ≡ n = omega arith in
    ap (λ (x : ℕ). with_lowest x (n * 2 / 2)) low ∙ high

-- ---- eight bits

abbrev eight : ℕ → ℕ
eight c = bits_behind (bits_behind c)

bits_add : (a b : ℕ) → bits_behind (bit_xor a b) ≡ bit_xor (bits_behind a) (bits_behind b)
bits_add a b =
    ap (λ (x : ℕ). bit_behind (bit_behind (bit_behind x))) (bit_adds a b)
    ∙ ap (λ (x : ℕ). bit_behind (bit_behind x)) (bit_adds (bit_behind a) (bit_behind b))
    ∙ ap bit_behind (bit_adds (bit_behind (bit_behind a)) (bit_behind (bit_behind b)))
    ∙ bit_adds (bit_behind (bit_behind (bit_behind a))) (bit_behind (bit_behind (bit_behind b)))

eight_adds : (a b : ℕ) → eight (bit_xor a b) ≡ bit_xor (eight a) (eight b)
eight_adds a b = ap bits_behind (bits_add a b) ∙ bits_add (bits_behind a) (bits_behind b)

bits_of_sixteen : (n : ℕ) → bits_behind (n * 16) ≡ n
bits_of_sixteen n =
    let whole : n * 16 ≡ n * 2 * 2 * 2 * 2 = omega arith in
    ap bits_behind whole
    ∙ ap (λ (x : ℕ). bit_behind (bit_behind (bit_behind x))) (bit_of_twice (n * 2 * 2 * 2))
    ∙ ap (λ (x : ℕ). bit_behind (bit_behind x)) (bit_of_twice (n * 2 * 2))
    ∙ ap bit_behind (bit_of_twice (n * 2)) ∙ bit_of_twice n

eight_of_many : (n : ℕ) → eight (n * 256) ≡ n
eight_of_many n =
    let whole : n * 256 ≡ n * 16 * 16 = omega arith in
    ap eight whole ∙ ap bits_behind (bits_of_sixteen (n * 16)) ∙ bits_of_sixteen n

-- a number is its lowest byte and the rest
apart : (x : ℕ) → x ≡ bit_xor (x % 256) (x / 256 * 256)
apart x =
    let parts : bit_xor (0 * 256 + x % 256) (x / 256 * 256 + 0) ≡ bit_xor 0 (x / 256) * 256 + bit_xor (x % 256) 0 = xor_block 8 0 (x / 256) (x % 256) 0 (omega arith) (omega arith) in
    let low : 0 * 256 + x % 256 ≡ x % 256 = omega arith in
    let high : x / 256 * 256 + 0 ≡ x / 256 * 256 = omega arith in
    let whole : x / 256 * 256 + x % 256 ≡ x = omega arith in
    sym (ap (λ (y : ℕ). bit_xor y (x / 256 * 256)) (sym low) ∙ ap (bit_xor (0 * 256 + x % 256)) (sym high) ∙ parts ∙ ap (λ (y : ℕ). x / 256 * 256 + y) (xor_zero_r (x % 256)) ∙ whole)

eight_apart : (x : ℕ) → eight x ≡ bit_xor (eight (x % 256)) (x / 256)
eight_apart x = ap eight (apart x) ∙ eight_adds (x % 256) (x / 256 * 256) ∙ ap (bit_xor (eight (x % 256))) (eight_of_many (x / 256))

-- ---- bytes that are 0

abbrev pub zeros : ℕ → ℕ → ℕ
zeros zero x = x
zeros (suc n) x = zeros n (eight x)

byte_is : (c b : ℕ) → byte_behind c b ≡ eight (bit_xor c b)
unfolding byte_behind
byte_is c b = refl

zero_is_eight : (c : ℕ) → byte_behind c 0 ≡ eight c
zero_is_eight c = byte_is c 0 ∙ ap eight (xor_zero_r c)

eight_last : (n x : ℕ) → eight (zeros n x) ≡ zeros n (eight x)
eight_last zero x = refl
eight_last (suc n) x = eight_last n (eight x)

pub zeros_are : (n x : ℕ) → zeros_behind n x ≡ zeros n x
unfolding zeros_behind
zeros_are zero x = refl
zeros_are (suc n) x = zero_is_eight (zeros_behind n x) ∙ ap eight (zeros_are n x) ∙ eight_last n x

zeros_add : (n a b : ℕ) → zeros n (bit_xor a b) ≡ bit_xor (zeros n a) (zeros n b)
zeros_add zero a b = refl
zeros_add (suc n) a b = ap (zeros n) (eight_adds a b) ∙ zeros_add n (eight a) (eight b)

zeros_apart : (n x : ℕ) → zeros (suc n) x ≡ bit_xor (zeros (suc n) (x % 256)) (zeros n (x / 256))
zeros_apart n x = ap (zeros n) (eight_apart x) ∙ zeros_add n (eight (x % 256)) (x / 256)

-- ---- a number of bytes

byte_step : (n c b w : ℕ) → b < 256 → zeros (suc n) (bit_xor c (b + 256 * w)) ≡ zeros n (bit_xor (byte_behind c b) w)
byte_step n c b w small =
    let low : (b + 256 * w) % 256 ≡ b = omega arith in
    let high : (b + 256 * w) / 256 ≡ w = omega arith in
    let word : eight (b + 256 * w) ≡ bit_xor (eight b) w =
    eight_apart (b + 256 * w) ∙ ap (λ (x : ℕ). bit_xor (eight x) ((b + 256 * w) / 256)) low ∙ ap (bit_xor (eight b)) high in
    ap (zeros n) (eight_adds c (b + 256 * w) ∙ ap (bit_xor (eight c)) word ∙ sym (xor_assoc (eight c) (eight b) w) ∙ ap (λ (x : ℕ). bit_xor x w) (sym (eight_adds c b) ∙ sym (byte_is c b)))

abbrev word : ℕ → ℕ → ℕ → ℕ → ℕ
word a b c d = a + 256 * (b + 256 * (c + 256 * (d + 256 * 0)))

four_behind : (s a b c d : ℕ) → a < 256 → b < 256 → c < 256 → d < 256 → zeros 4 (bit_xor s (word a b c d)) ≡ fold byte_behind s (a ∷ b ∷ c ∷ d ∷ [])
four_behind s a b c d ha hb hc hd =
    byte_step 3 s a (b + 256 * (c + 256 * (d + 256 * 0))) ha
    ∙ byte_step 2 (byte_behind s a) b (c + 256 * (d + 256 * 0)) hb
    ∙ byte_step 1 (byte_behind (byte_behind s a) b) c (d + 256 * 0) hc
    ∙ byte_step 0 (byte_behind (byte_behind (byte_behind s a) b) c) d 0 hd
    ∙ xor_zero_r (byte_behind (byte_behind (byte_behind (byte_behind s a) b) c) d)

-- two numbers of four bytes
pub two_words : (s w v : ℕ) → zeros 4 (bit_xor (zeros 4 (bit_xor s w)) v) ≡ bit_xor (zeros 8 (bit_xor s w)) (zeros 4 v)
two_words s w v = zeros_add 4 (zeros 4 (bit_xor s w)) v

-- ---- by the table

pub front_is : (x : ℕ) → zeros 8 x ≡ bit_xor (bit_xor (zeros 8 (x % 256)) (zeros 7 (x / 256 % 256))) (bit_xor (zeros 6 (x / 256 / 256 % 256)) (zeros 5 (x / 256 / 256 / 256)))
front_is x =
    zeros_apart 7 x ∙ ap (bit_xor (zeros 8 (x % 256))) (zeros_apart 6 (x / 256) ∙ ap (bit_xor (zeros 7 (x / 256 % 256))) (zeros_apart 5 (x / 256 / 256)))
    ∙ sym (xor_assoc (zeros 8 (x % 256)) (zeros 7 (x / 256 % 256)) (bit_xor (zeros 6 (x / 256 / 256 % 256)) (zeros 5 (x / 256 / 256 / 256))))

pub back_is : (x : ℕ) → zeros 4 x ≡ bit_xor (bit_xor (zeros 4 (x % 256)) (zeros 3 (x / 256 % 256))) (bit_xor (zeros 2 (x / 256 / 256 % 256)) (zeros 1 (x / 256 / 256 / 256)))
back_is x =
    zeros_apart 3 x ∙ ap (bit_xor (zeros 4 (x % 256))) (zeros_apart 2 (x / 256) ∙ ap (bit_xor (zeros 3 (x / 256 % 256))) (zeros_apart 1 (x / 256 / 256)))
    ∙ sym (xor_assoc (zeros 4 (x % 256)) (zeros 3 (x / 256 % 256)) (bit_xor (zeros 2 (x / 256 / 256 % 256)) (zeros 1 (x / 256 / 256 / 256))))

-- ---- the table is filled from the front

pub first_row : (place : ℕ) → place < 256 → byte_behind place 0 ≡ entry place
unfolding zeros_behind
first_row place small =
    let row : place / 256 ≡ 0 = omega arith in
    let column : place % 256 ≡ place = omega arith in
    sym (ap (λ (n : ℕ). zeros_behind (n + 1) (place % 256)) row ∙ ap (zeros_behind 1) column)

pub next_row : (place : ℕ) → 256 ≤ place → byte_behind (entry (place - 256)) 0 ≡ entry place
unfolding zeros_behind
next_row place large =
    let row : place / 256 ≡ suc ((place - 256) / 256) = omega arith in
    let column : place % 256 ≡ (place - 256) % 256 = omega arith in
    let rows : (place - 256) / 256 + 1 ≡ suc ((place - 256) / 256) = omega arith in
    let before : entry (place - 256) ≡ zeros_behind (suc ((place - 256) / 256)) ((place - 256) % 256) = ap (λ (n : ℕ). zeros_behind n ((place - 256) % 256)) rows in
    let more : place / 256 + 1 ≡ suc (suc ((place - 256) / 256)) = omega arith in
    ap (λ (n : ℕ). byte_behind n 0) before ∙ sym (ap (λ (n : ℕ). zeros_behind n (place % 256)) more ∙ ap (zeros_behind (suc (suc ((place - 256) / 256)))) column)

pub filled_more : (entries : List ℕ) (place v : ℕ) → place < length entries → ((k : ℕ) → k < place → get_or entries k 0 ≡ entry k) → v ≡ entry place
    → (k : ℕ) → k < place + 1 → get_or (set entries place v) k 0 ≡ entry k
filled_more entries place v inside before is k below = go (cases_lt k place)
  where
    go : (k < place) ⊎ (place ≤ k) → get_or (set entries place v) k 0 ≡ entry k
    go (inl less) = get_or-set_other entries place k v 0 (λ e. omega (arith, e, less)) ∙ before k less
    go (inr more) = let here : k ≡ place = omega (arith, more, below) in ap (λ (n : ℕ). get_or (set entries place v) n 0) here ∙ get_or-set_same entries place v 0 inside ∙ is ∙ ap entry (sym here)

-- ---- what the table says

at_row : (t : List ℕ) (k b : ℕ) → IsTable t → k < 8 → b < 256 → get_or t (k * 256 + b) 0 ≡ zeros (suc k) b
at_row t k b is below small =
    let row : (k * 256 + b) / 256 + 1 ≡ suc k = omega arith in
    let column : (k * 256 + b) % 256 ≡ b = omega arith in
    is.each (k * 256 + b) (omega arith) ∙ ap (λ (n : ℕ). zeros_behind n ((k * 256 + b) % 256)) row ∙ ap (zeros_behind (suc k)) column ∙ zeros_are (suc k) b

first_entry : (t : List ℕ) (b : ℕ) → IsTable t → b < 256 → get_or t b 0 ≡ zeros 1 b
first_entry t b is small =
    let place : b ≡ 0 * 256 + b = omega arith in
    ap (λ (n : ℕ). get_or t n 0) place ∙ at_row t 0 b is (omega arith) small

-- what the table gives for two numbers of four bytes
pub by_table : (t : List ℕ) (x y : ℕ) → IsTable t → x < 2 ^ 32 → y < 2 ^ 32
    → bit_xor
    (bit_xor (bit_xor (get_or t (1792 + x % 256) 0) (get_or t (1536 + x / 256 % 256) 0)) (bit_xor (get_or t (1280 + x / 256 / 256 % 256) 0) (get_or t (1024 + x / 256 / 256 / 256) 0)))
    (bit_xor (bit_xor (get_or t (768 + y % 256) 0) (get_or t (512 + y / 256 % 256) 0)) (bit_xor (get_or t (256 + y / 256 / 256 % 256) 0) (get_or t (y / 256 / 256 / 256) 0)))
    ≡ bit_xor (zeros 8 x) (zeros 4 y)
by_table t x y is hx hy =
    let e1 = at_row t 7 (x % 256) is (omega arith) (omega arith) in
    let e2 = at_row t 6 (x / 256 % 256) is (omega arith) (omega arith) in
    let e3 = at_row t 5 (x / 256 / 256 % 256) is (omega arith) (omega arith) in
    let e4 = at_row t 4 (x / 256 / 256 / 256) is (omega arith) (omega arith) in
    let e5 = at_row t 3 (y % 256) is (omega arith) (omega arith) in
    let e6 = at_row t 2 (y / 256 % 256) is (omega arith) (omega arith) in
    let e7 = at_row t 1 (y / 256 / 256 % 256) is (omega arith) (omega arith) in
    let e8 = first_entry t (y / 256 / 256 / 256) is (omega arith) in
    rw (front_is x, back_is y, e1, e2, e3, e4, e5, e6, e7, e8) refl

-- ---- eight bytes of a list

next : (xs : List ℕ) (p q : ℕ) → q ≡ p + 1 → p < length xs → drop p xs ≡ get_or xs p 0 ∷ drop q xs
next xs p q is inside = drop_more xs p 0 inside ∙ ap (λ (n : ℕ). get_or xs p 0 ∷ drop n xs) (sym is)

four_at : (xs : List ℕ) (p q : ℕ) → q ≡ p + 4 → p + 4 ≤ length xs
    → drop p xs ≡ get_or xs p 0 ∷ (get_or xs (p + 1) 0 ∷ (get_or xs (p + 2) 0 ∷ (get_or xs (p + 3) 0 ∷ drop q xs)))
four_at xs p q is inside =
    next xs p (p + 1) refl (omega arith)
    ∙ ap (λ (l : List ℕ). get_or xs p 0 ∷ l) (next xs (p + 1) (p + 2) (omega arith) (omega arith)
    ∙ ap (λ (l : List ℕ). get_or xs (p + 1) 0 ∷ l) (next xs (p + 2) (p + 3) (omega arith) (omega arith)
    ∙ ap (λ (l : List ℕ). get_or xs (p + 2) 0 ∷ l) (next xs (p + 3) q (omega arith) (omega arith))))

word_at : (xs : List ℕ) (p : ℕ) → p + 4 ≤ length xs → u32_at xs p ≡ word (get_or xs p 0) (get_or xs (p + 1) 0) (get_or xs (p + 2) 0) (get_or xs (p + 3) 0)
unfolding u32_at
word_at xs p inside = ap (little_number 4) (four_at xs p (p + 4) refl inside)

four_step : (s : ℕ) (xs : List ℕ) (p q : ℕ) → ((i : ℕ) → get_or xs i 0 < 256) → q ≡ p + 4 → p + 4 ≤ length xs
    → fold byte_behind (zeros 4 (bit_xor s (u32_at xs p))) (drop q xs) ≡ fold byte_behind s (drop p xs)
four_step s xs p q small is inside =
    ap (λ (w : ℕ). fold byte_behind (zeros 4 (bit_xor s w)) (drop q xs)) (word_at xs p inside)
    ∙ ap (λ (c : ℕ). fold byte_behind c (drop q xs)) (four_behind s (get_or xs p 0) (get_or xs (p + 1) 0) (get_or xs (p + 2) 0) (get_or xs (p + 3) 0) (small p) (small (p + 1)) (small (p + 2)) (small (p + 3)))
    ∙ sym (ap (fold byte_behind s) (four_at xs p q is inside))

pub eight_step : (s : ℕ) (xs : List ℕ) (p : ℕ) → ((i : ℕ) → get_or xs i 0 < 256) → p + 8 ≤ length xs
    → fold byte_behind (bit_xor (zeros 8 (bit_xor s (u32_at xs p))) (zeros 4 (u32_at xs (p + 4)))) (drop (p + 8) xs) ≡ fold byte_behind s (drop p xs)
eight_step s xs p small inside =
    ap (λ (c : ℕ). fold byte_behind c (drop (p + 8) xs)) (sym (two_words s (u32_at xs p) (u32_at xs (p + 4))))
    ∙ four_step (zeros 4 (bit_xor s (u32_at xs p))) xs (p + 4) (p + 8) small (omega arith) (omega arith)
    ∙ four_step s xs p (p + 4) small refl (omega arith)
