-- Where words end.
use Rattle.std.proofs.Common.{◌≡◌, ℕ, zero, suc, ◌<◌, Bool, true, List, [], ◌∷◌, ◌++◌, length, take, drop, refl, ap, ◌∙◌, arith, take_at, drop_at}
use Rattle.std.specs.Prelude.{replicate}
use Rattle.std.specs.List.{list_all, prefix_len}
use Rattle.std.proofs.lemmas.Bool.{and_parts, and_from, not-true}
use Rattle.opcode_assembler.specs.Words.{is_blank, is_letter, trimmed, word, after_word}

-- all of the first bytes pass a test, and what comes next does not
pub record Spans (p : ℕ → Bool) (a b : List ℕ) : Type 0 where
  pub all : list_all p a ≡ true
  pub stops : prefix_len p b ≡ 0

pub span : (p : ℕ → Bool) (a b : List ℕ) → list_all p a ≡ true → prefix_len p b ≡ 0 → prefix_len p (a ++ b) ≡ length a
span p [] b h s = s
span p (x ∷ a) b h s =
    let both = and_parts (p x) (list_all p a) h in
    let rest = span p a b both.1 s in
    rw both.0 (omega (arith, rest))

pub front_of : (p : ℕ → Bool) (a b : List ℕ) → Spans p a b → take (prefix_len p (a ++ b)) (a ++ b) ≡ a
front_of p a b s = ap (λ (n : ℕ). take n (a ++ b)) (span p a b s.all s.stops) ∙ take_at a b (length a) refl

pub back_of : (p : ℕ → Bool) (a b : List ℕ) → Spans p a b → drop (prefix_len p (a ++ b)) (a ++ b) ≡ b
back_of p a b s = ap (λ (n : ℕ). drop n (a ++ b)) (span p a b s.all s.stops) ∙ drop_at a b (length a) refl

-- ---- words

-- blanks, and then a byte that is none, or nothing
pub trimmed_is : (gap t : List ℕ) → Spans is_blank gap t → trimmed (gap ++ t) ≡ t
trimmed_is gap t s = back_of is_blank gap t s

pub word_is : (gap w rest : List ℕ) → Spans is_blank gap (w ++ rest) → Spans is_letter w rest → word (gap ++ (w ++ rest)) ≡ w
word_is gap w rest s t =
    ap (λ (x : List ℕ). take (prefix_len is_letter x) x) (trimmed_is gap (w ++ rest) s) ∙ front_of is_letter w rest t

pub after_is : (gap w rest : List ℕ) → Spans is_blank gap (w ++ rest) → Spans is_letter w rest → after_word (gap ++ (w ++ rest)) ≡ rest
after_is gap w rest s t =
    ap (λ (x : List ℕ). drop (prefix_len is_letter x) x) (trimmed_is gap (w ++ rest) s) ∙ back_of is_letter w rest t

-- a byte that is no blank is in front
pub dark_byte : (byte : ℕ) (rest : List ℕ) → is_letter byte ≡ true → prefix_len is_blank (byte ∷ rest) ≡ 0
dark_byte byte rest h = let no = not-true (is_blank byte) h in rw no refl

pub dark : (w rest : List ℕ) → list_all is_letter w ≡ true → 0 < length w → prefix_len is_blank (w ++ rest) ≡ 0
dark [] rest h l = absurd (omega (arith, l))
dark (byte ∷ w) rest h l = dark_byte byte (w ++ rest) (and_parts (is_letter byte) (list_all is_letter w) h).0

pub gap_before : (gap w rest : List ℕ) → list_all is_blank gap ≡ true → list_all is_letter w ≡ true → 0 < length w → Spans is_blank gap (w ++ rest)
gap_before gap w rest g h l = record { all = g; stops = dark w rest h l }

-- ---- tests of all bytes

pub all_also : (p q : ℕ → Bool) (xs : List ℕ) → ((x : ℕ) → p x ≡ true → q x ≡ true) → list_all p xs ≡ true → list_all q xs ≡ true
all_also p q [] f h = refl
all_also p q (x ∷ xs) f h =
    let both = and_parts (p x) (list_all p xs) h in
    and_from (q x) (list_all q xs) (f x both.0) (all_also p q xs f both.1)

pub all_append : (p : ℕ → Bool) (xs ys : List ℕ) → list_all p xs ≡ true → list_all p ys ≡ true → list_all p (xs ++ ys) ≡ true
all_append p [] ys h k = k
all_append p (x ∷ xs) ys h k =
    let both = and_parts (p x) (list_all p xs) h in
    and_from (p x) (list_all p (xs ++ ys)) both.0 (all_append p xs ys both.1 k)

pub all_blanks : (n : ℕ) → list_all is_blank (replicate n 32) ≡ true
all_blanks zero = refl
all_blanks (suc n) = all_blanks n
