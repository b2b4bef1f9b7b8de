-- How it is found whether a pattern stands for a text: for each rest of the pattern, the longest first, whether it stands for a rest of the text, which
-- grows from the end on. These are no definitions of what a list allows.
use Rattle.std.specs.Prelude.{ℕ, ◌==◌, ◌&&◌, ◌||◌, if◌then◌else◌, Bool, false, List, [], ◌∷◌}
use Rattle.pickle_allow.specs.Allow.{is_star, under_star, fits}

abbrev pub rests_fit : List ℕ → List ℕ → List Bool
rests_fit [] text = fits [] text ∷ []
rests_fit (p ∷ pattern) text = fits (p ∷ pattern) text ∷ rests_fit pattern text

-- before the same of more of the pattern: of the same rest for less of the text, of a shorter rest for less of the text, and for the text
abbrev pub in_front : ℕ → List ℕ → ℕ → Bool → Bool → Bool → Bool
in_front p pattern c same both star = if is_star p then star || (under_star pattern c && same) else p == c && both

abbrev pub first_of_rests : List Bool → Bool
first_of_rests [] = false
first_of_rests (b ∷ bs) = b

-- for a text with one byte more in front
abbrev pub next_rests : List ℕ → Bool → ℕ → List Bool → List Bool
next_rests [] end c old = end ∷ []
next_rests (p ∷ pattern) end c [] = []
next_rests (p ∷ pattern) end c (same ∷ old) = in_front p pattern c same (first_of_rests old) (first_of_rests (next_rests pattern end c old)) ∷ next_rests pattern end c old
