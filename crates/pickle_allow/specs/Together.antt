-- The law of lists that stand one after another.
-- Source: own.
use Rattle.std.specs.Prelude.{◌≡◌, ℕ, List, ◌∷◌, ◌++◌, Ok}
use Rattle.pickle_allow.specs.Grammar.{Row, text_lists}

-- a list, a newline and another list are a list, of the entries of both
abbrev pub ListsTogether : Type 0
ListsTogether = (a b : List ℕ) (rows more : List Row) → text_lists a ≡ Ok rows → text_lists b ≡ Ok more → text_lists (a ++ 10 ∷ b) ≡ Ok (rows ++ more)
