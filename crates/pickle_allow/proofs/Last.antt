-- A pattern whose last byte is no star stands for texts alone that end in this byte.
use Rattle.std.proofs.Common.{◌≡◌, ℕ, Bool, true, false, List, [], ◌∷◌, ◌++◌, refl, sym, ◌∙◌}
use Rattle.std.specs.Prelude.{◌==◌, ◌&&◌, if◌then◌else◌}
use Rattle.std.proofs.lemmas.Bool.{and_left, and_right, or_from, eqb-false, ne_eqb}
use Rattle.pickle_allow.specs.Allow.{some_rest, byte_then, is_nothing, is_star, under_star, fits}

abbrev ends_with : ℕ → List ℕ → Bool
ends_with c [] = false
ends_with c (d ∷ []) = c == d
ends_with c (d ∷ e ∷ text) = ends_with c (e ∷ text)

ends_behind : (c d : ℕ) (text : List ℕ) → ends_with c (d ∷ text) ≡ false → ends_with c text ≡ false
ends_behind c d [] h = refl
ends_behind c d (e ∷ text) h = h

ends_last : (c : ℕ) (front : List ℕ) (d : ℕ) → ends_with c (front ++ d ∷ []) ≡ (c == d)
ends_last c [] d = refl
ends_last c (b ∷ []) d = refl
ends_last c (b ∷ e ∷ front) d = ends_last c (e ∷ front) d

-- behind a star
behind_star : (out : ℕ → Bool) (test : List ℕ → Bool) (c : ℕ) → ((text : List ℕ) → ends_with c text ≡ false → test text ≡ false) → (text : List ℕ) → ends_with c text ≡ false → some_rest out test text ≡ false
behind_star out test c never [] h = never [] h
behind_star out test c never (d ∷ text) h = or_from (test (d ∷ text)) (out d && some_rest out test text) (never (d ∷ text) h) (and_right (out d) (some_rest out test text) (behind_star out test c never text (ends_behind c d text h)))

behind_byte : (b : ℕ) (test : List ℕ → Bool) (c : ℕ) → ((text : List ℕ) → ends_with c text ≡ false → test text ≡ false) → (text : List ℕ) → ends_with c text ≡ false → byte_then b test text ≡ false
behind_byte b test c never [] h = refl
behind_byte b test c never (d ∷ text) h = and_right (b == d) (test text) (never text (ends_behind c d text h))

one_byte : (c : ℕ) (text : List ℕ) → ends_with c text ≡ false → byte_then c is_nothing text ≡ false
one_byte c [] h = refl
one_byte c (d ∷ []) h = and_left (c == d) true h
one_byte c (d ∷ e ∷ text) h = and_right (c == d) false refl

ends_other : (pattern : List ℕ) (c : ℕ) → is_star c ≡ false → (text : List ℕ) → ends_with c text ≡ false → fits (pattern ++ c ∷ []) text ≡ false
ends_other [] c s text h = go (is_star c) s
  where
    go : (t : Bool) → t ≡ false → (if t then some_rest (under_star []) is_nothing text else byte_then c is_nothing text) ≡ false
    go true e = absurd cc
    go false e = one_byte c text h
ends_other (p ∷ pattern) c s text h = go (is_star p) (ends_other pattern c s)
  where
    go : (t : Bool) → ((rest : List ℕ) → ends_with c rest ≡ false → fits (pattern ++ c ∷ []) rest ≡ false)
        → (if t then some_rest (under_star (pattern ++ c ∷ [])) (fits (pattern ++ c ∷ [])) text else byte_then p (fits (pattern ++ c ∷ [])) text) ≡ false
    go true never = behind_star (under_star (pattern ++ c ∷ [])) (fits (pattern ++ c ∷ [])) c never text h
    go false never = behind_byte p (fits (pattern ++ c ∷ [])) c never text h

pub last_differs : (pattern front : List ℕ) (c d : ℕ) → is_star c ≡ false → (d == c) ≡ false → fits (pattern ++ c ∷ []) (front ++ d ∷ []) ≡ false
last_differs pattern front c d s h = ends_other pattern c s (front ++ d ∷ []) (ends_last c front d ∙ other_way c d h)
  where
    other_way : (c d : ℕ) → (d == c) ≡ false → (c == d) ≡ false
    other_way c d h = ne_eqb c d (λ e. eqb-false d c h (sym e))

pub no_last : (pattern : List ℕ) (c : ℕ) → is_star c ≡ false → fits (pattern ++ c ∷ []) [] ≡ false
no_last pattern c s = ends_other pattern c s [] refl
