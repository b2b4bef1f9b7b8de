-- Which lines are looked at closely. This is no definition of what a label is.
use Rattle.std.specs.Prelude.{ℕ, ◌-◌, ◌==◌, ◌||◌, Bool, List, length, slice_index}
use Rattle.opcode_assembler.specs.Words.{trimmed, word, after_word, unnumbered}

-- a word ends in T, as the names do of all opcodes whose argument is a key
abbrev pub may_have_key : List ℕ → Bool
may_have_key w = slice_index w (length w - 1) == 84

-- the name is the first word behind an offset, or the second
abbrev pub may_have_label : List ℕ → Bool
may_have_label line = may_have_key (word (unnumbered (trimmed line))) || may_have_key (word (after_word (unnumbered (trimmed line))))
