-- The first word of a line, and the words after it.
use Rattle.std.proofs.Common.{◌≡◌, ℕ, suc, ◌+◌, ◌<◌, ◌≤◌, Bool, true, false, cond, List, [], ◌∷◌, length, take, drop, refl, sym, ap, subst, ◌∙◌, arith}
use Rattle.std.specs.Prelude.{filter, not}
use Rattle.std.specs.List.{slice_split, prefix_len}
use Rattle.pickle_script.specs.Grammar.{is_blank, has_byte, words_of}

abbrev blanks : List ℕ → ℕ
blanks bs = prefix_len is_blank bs

abbrev letters : List ℕ → ℕ
letters bs = prefix_len (λ b. not (is_blank b)) bs

one_more : (n : ℕ) → 1 + n ≡ suc n
one_more n = omega arith

pub prefix_len-within : (p : ℕ → Bool) (bs : List ℕ) → prefix_len p bs ≤ length bs
prefix_len-within p [] = omega arith
prefix_len-within p (b ∷ bs) = go (p b) (prefix_len-within p bs)
  where
    go : (t : Bool) → prefix_len p bs ≤ length bs → cond t (1 + prefix_len p bs) 0 ≤ length (b ∷ bs)
    go true h = omega (arith, h)
    go false h = omega arith

-- no blank stands at the front of bytes
abbrev pub BeginsWord : List ℕ → Type 0
BeginsWord [] = Unit {0}
BeginsWord (b ∷ bs) = is_blank b ≡ false

-- blanks in front are no words
record Skips (bs : List ℕ) (n : ℕ) : Type 0 where
  words : words_of (drop n bs) ≡ words_of bs
  begins : BeginsWord (drop n bs)

skips : (bs : List ℕ) → Skips bs (blanks bs)
skips [] = record { words = refl; begins = tt }
skips (b ∷ bs) = go (is_blank b) refl (skips bs)
  where
    go : (t : Bool) → is_blank b ≡ t → Skips bs (blanks bs) → Skips (b ∷ bs) (cond t (1 + blanks bs) 0)
    go true h s = rw (one_more (blanks bs)) (record { words = rw h s.words; begins = s.begins })
    go false h s = record { words = refl; begins = h }

-- what stands between the blanks: the bytes before the first blank, and the words after them
record Parts (bs : List ℕ) (n : ℕ) : Type 0 where
  rest : List (List ℕ)
  whole : slice_split is_blank bs ≡ take n bs ∷ rest
  words : filter has_byte rest ≡ words_of (drop n bs)

parts : (bs : List ℕ) → Parts bs (letters bs)
parts [] = record { rest = []; whole = refl; words = refl }
parts (b ∷ bs) = go (is_blank b) refl (parts bs)
  where
    go : (t : Bool) → is_blank b ≡ t → Parts bs (letters bs) → Parts (b ∷ bs) (cond (not t) (1 + letters bs) 0)
    go true h p = record { rest = slice_split is_blank bs; whole = rw h refl; words = rw h refl }
    go false h p = rw (one_more (letters bs)) (record { rest = p.rest; whole = rw (h, p.whole) refl; words = p.words })

-- at the front of bytes without a blank there: no word, or the first
pub no_word : (bytes rest : List ℕ) (n : ℕ) → n ≡ blanks bytes → rest ≡ drop n bytes → length rest ≡ 0 → words_of bytes ≡ []
no_word bytes rest n e r none = sym (skips bytes).words ∙ ap words_of (subst (λ (k : ℕ). drop k bytes ≡ rest) e (sym r)) ∙ go rest none
  where
    go : (bs : List ℕ) → length bs ≡ 0 → words_of bs ≡ []
    go [] h = refl
    go (b ∷ bs) h = absurd (omega (arith, h))

kept : (b : ℕ) (bs : List ℕ) (n m : ℕ) (rest : List (List ℕ)) → n ≡ suc m → filter has_byte (take n (b ∷ bs) ∷ rest) ≡ take n (b ∷ bs) ∷ filter has_byte rest
kept b bs n m rest e = rw e refl

some_letters : (b : ℕ) (bs : List ℕ) → is_blank b ≡ false → letters (b ∷ bs) ≡ suc (letters bs)
some_letters b bs h = rw h (one_more (letters bs))

first : (bs : List ℕ) → BeginsWord bs → 0 < length bs → words_of bs ≡ take (letters bs) bs ∷ words_of (drop (letters bs) bs)
first [] h some = absurd (omega (arith, some))
first (b ∷ bs) h some =
    let p = parts (b ∷ bs) in
    ap (λ (w : List (List ℕ)). filter has_byte w) p.whole
    ∙ kept b bs (letters (b ∷ bs)) (letters bs) p.rest (some_letters b bs h)
    ∙ ap (λ (w : List (List ℕ)). take (letters (b ∷ bs)) (b ∷ bs) ∷ w) p.words

pub one_word : (bytes rest : List ℕ) (n : ℕ) → n ≡ blanks bytes → rest ≡ drop n bytes → 0 < length rest → words_of bytes ≡ take (letters rest) rest ∷ words_of (drop (letters rest) rest)
one_word bytes rest n e r some =
    let is : drop (blanks bytes) bytes ≡ rest = subst (λ (k : ℕ). drop k bytes ≡ rest) e (sym r) in
    let begins : BeginsWord rest = subst BeginsWord is (skips bytes).begins in
    sym (skips bytes).words ∙ ap words_of is ∙ first rest begins some
