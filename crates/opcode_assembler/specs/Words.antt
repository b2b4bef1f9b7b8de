-- The words of a line.
-- Source: own.
use Rattle.std.specs.Prelude.{ℕ, ◌+◌, ◌-◌, ◌==◌, ◌||◌, not, if◌then◌else◌, Bool, true, List, [], ◌∷◌, length, take, drop, slice_index, Option, Some, None, is_some}
use Rattle.std.specs.List.{prefix_len, position}
use Rattle.std.specs.Option.{option_map_or}
use Rattle.std.specs.Str.{bytes_eq}
use Rattle.pickle_ops.specs.Shape.{decimal_of}

-- the bytes that separate words: blank, tab, carriage return
abbrev pub is_blank : ℕ → Bool
is_blank byte = byte == 32 || byte == 9 || byte == 13

abbrev pub is_letter : ℕ → Bool
is_letter byte = not (is_blank byte)

-- without the blanks in front
abbrev pub trimmed : List ℕ → List ℕ
trimmed text = drop (prefix_len is_blank text) text

-- the first word, empty where there is none, and what comes after it
abbrev pub word : List ℕ → List ℕ
word text = take (prefix_len is_letter (trimmed text)) (trimmed text)

abbrev pub after_word : List ℕ → List ℕ
after_word text = drop (prefix_len is_letter (trimmed text)) (trimmed text)

-- what comes after a beginning, where a text has it
abbrev pub behind : List ℕ → List ℕ → Option (List ℕ)
behind front text = if bytes_eq (take (length front) text) front then Some (drop (length front) text) else None

-- nothing, or a comment
abbrev pub is_end : List ℕ → Bool
is_end [] = true
is_end (byte ∷ text) = byte == 35

abbrev pub is_over : List ℕ → Bool
is_over text = is_end (trimmed text)

-- `(` and `)`
abbrev pub is_open : ℕ → Bool
is_open byte = byte == 40

abbrev pub is_close : ℕ → Bool
is_close byte = byte == 41

-- a note in parentheses says nothing, if it ends
abbrev pub unnoted : List ℕ → List ℕ
unnoted text = if is_open (slice_index text 0) then option_map_or (λ (n : ℕ). drop (n + 1) text) (position is_close text) text else text

abbrev pub after_note : List ℕ → List ℕ
after_note text = unnoted (trimmed text)

-- ---- places

-- a word without the colon at its end
abbrev pub uncoloned : List ℕ → List ℕ
uncoloned w = if slice_index w (length w - 1) == 58 then take (length w - 1) w else w

-- an offset in decimal digits, with a colon or without
abbrev pub is_place : List ℕ → Bool
is_place w = is_some (decimal_of (uncoloned w))

-- what is behind an offset in front, if there is one
abbrev pub unnumbered : List ℕ → List ℕ
unnumbered text = if is_place (word text) then after_word text else text
