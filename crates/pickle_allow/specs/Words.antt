-- The law of words and imports.
-- Source: own.
use Rattle.std.specs.Prelude.{◌≡◌, ℕ, true, false, List}
use Rattle.pickle_names.specs.Renamed.{Import}
use Rattle.pickle_allow.specs.Allow.{fits}
use Rattle.pickle_allow.specs.Source.{dotted}
use Rattle.pickle_allow.specs.Grammar.{is_word}

-- a word that stands in a list for what is no import stands for no import
abbrev pub NoWordIsAnImport : Type 0
NoWordIsAnImport = (word : List ℕ) → is_word word ≡ true → (i : Import) → fits word (dotted i) ≡ false
