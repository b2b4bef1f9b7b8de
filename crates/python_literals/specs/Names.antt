-- Names that a statement of Python can have as they are.
-- Source: The Python Language Reference, Lexical analysis, Identifiers and Keywords, of Python 3.8 to 3.13; `keyword.kwlist` of 3.9 has
-- `__peg_parser__` besides. Nothing can be bound to `__debug__` (Built-in Constants). Python takes some letters beyond ASCII for one another, so that
-- names with such letters are not taken here.
use Rattle.std.specs.Prelude.{ℕ, ◌==◌, ◌&&◌, ◌||◌, not, nat_le, Bool, false, List, [], ◌∷◌}
use Rattle.std.specs.List.{list_all, list_any}
use Rattle.std.specs.Str.{bytes_eq}
use Rattle.python_literals.specs.declared.names.TheConstants.{RESERVED}

abbrev pub is_within : ℕ → ℕ → ℕ → Bool
is_within low high b = nat_le low b && nat_le b high

-- a letter or an underscore
abbrev pub may_begin : ℕ → Bool
may_begin b = is_within 65 90 b || (is_within 97 122 b || b == 95)

-- or a digit
abbrev pub may_follow : ℕ → Bool
may_follow b = may_begin b || is_within 48 57 b

abbrev pub is_word : List ℕ → Bool
is_word [] = false
is_word (b ∷ rest) = may_begin b && list_all may_follow rest

unfoldable pub is_reserved : List ℕ → Bool
is_reserved text = list_any (λ w. bytes_eq text w.now) RESERVED

unfoldable pub is_identifier : List ℕ → Bool
is_identifier text = is_word text && not (is_reserved text)
