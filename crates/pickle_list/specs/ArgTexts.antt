-- Which texts a listing has of arguments.
-- Source: own.
use Rattle.std.specs.Prelude.{◌≡◌, refl, ℕ, List, Option, is_some}
use Rattle.pickle_ops.specs.Spelling.{Operation}
use Rattle.pickle_ops.specs.Text.{arg_text}

pub record ArgTexts : Type 0 where
  -- of an operation's argument
  pub text : Operation → Option (List ℕ)
  -- there is one where the argument has a text of its own
  pub there : (o : Operation) → is_some (text o) ≡ is_some (arg_text o)

-- its own text
abbrev pub short_args : ArgTexts
short_args = record { text = arg_text; there = λ o. refl }
