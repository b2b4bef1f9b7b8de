-- Labels in the lines of a text of opcodes, where keys of the memo stand.
-- Source: own. A line is read as `opcode_assembler/specs/Assembly.antt` says.
use Rattle.std.specs.Prelude.{ℕ, suc, ◌+◌, ◌==◌, ◌&&◌, ◌||◌, nat_le, max, if◌then◌else◌, Bool, true, false, List, [], ◌∷◌, ◌++◌, Option, Some, None, is_some}
use Rattle.std.specs.List.{list_all, fold, position}
use Rattle.std.specs.Option.{option_map, option_map_or, unwrap_or}
use Rattle.std.specs.Str.{bytes_eq}
use Rattle.pickle_ops.specs.declared.opcode.Opcode.{Opcode}
use Rattle.pickle_ops.specs.declared.opcode.Opcode.TheVariants as op
use Rattle.pickle_ops.specs.Shape.{is_digit, decimal_of}
use Rattle.pickle_ops.specs.Table.{opcode_named}
use Rattle.opcode_assembler.specs.Words.{trimmed, word, after_word, is_over, unnumbered}
use Rattle.opcode_assembler.specs.Assembly.{unplaced}

-- ---- what a label is: a word of letters, digits and `_`, of which the first is no digit

abbrev pub begins_label : ℕ → Bool
begins_label byte = (nat_le 65 byte && nat_le byte 90) || (nat_le 97 byte && nat_le byte 122) || byte == 95

abbrev pub goes_on_label : ℕ → Bool
goes_on_label byte = begins_label byte || is_digit byte

abbrev pub is_label : List ℕ → Bool
is_label [] = false
is_label (byte ∷ rest) = begins_label byte && list_all goes_on_label rest

-- ---- what a line has

-- an opcode in front, and what stands behind its name
abbrev pub named : List ℕ → Option (Opcode × List ℕ)
named text = option_map (λ (o : Opcode). (o, after_word text)) (opcode_named (word text))

-- the opcode of a line, if it has one; behind an offset a comment may stand in its place
unfoldable pub opcode_in : List ℕ → Option (Opcode × List ℕ)
opcode_in line = if is_over (unnumbered (trimmed line)) then None else named (unplaced (trimmed line))

-- the opcodes whose argument is a key of the memo
abbrev pub has_key : Opcode → Bool
has_key op.Get = true
has_key op.BinGet = true
has_key op.LongBinGet = true
has_key op.Put = true
has_key op.BinPut = true
has_key op.LongBinPut = true
has_key _ = false

-- the opcode that counts keys by itself
abbrev pub counts_keys : Opcode → Bool
counts_keys op.Memoize = true
counts_keys _ = false

-- the word behind the name of an opcode, if a key stands there
abbrev pub key_word : Opcode × List ℕ → Option (List ℕ)
key_word p = if has_key p.0 then Some (word p.1) else None

abbrev pub if_label : List ℕ → Option (List ℕ)
if_label w = if is_label w then Some w else None

-- the label of a line
abbrev pub label_of : List ℕ → Option (List ℕ)
label_of line = option_map_or (λ (p : Opcode × List ℕ). option_map_or if_label (key_word p) None) (opcode_in line) None

-- its key, where that is written in digits
abbrev pub key_of : List ℕ → Option ℕ
key_of line = option_map_or (λ (p : Opcode × List ℕ). option_map_or decimal_of (key_word p) None) (opcode_in line) None

-- whether it is MEMOIZE
abbrev pub is_counting : List ℕ → Bool
is_counting line = option_map_or (λ (p : Opcode × List ℕ). counts_keys p.0) (opcode_in line) false

-- ---- what the lines of a text have

-- the place of a label among others
abbrev pub place_in : List (List ℕ) → List ℕ → Option ℕ
place_in names label = position (λ (name : List ℕ). bytes_eq name label) names

-- one label more, unless it was there
abbrev pub noted : List (List ℕ) → List ℕ → List (List ℕ)
noted names label = if is_some (place_in names label) then names else names ++ label ∷ []

-- and the label of a line, if it has one
abbrev pub noted_in : List (List ℕ) → List ℕ → List (List ℕ)
noted_in names line = option_map_or (noted names) (label_of line) names

-- the labels of a text, each where it comes first
abbrev pub labels_of : List (List ℕ) → List (List ℕ)
labels_of lines = fold noted_in [] lines

-- a key that is above that of a line
abbrev pub raised : ℕ → List ℕ → ℕ
raised key line = max key (option_map_or suc (key_of line) 0)

-- the least key that is above all that are written in digits
abbrev pub first_key : List (List ℕ) → ℕ
first_key lines = fold raised 0 lines

-- the key of a label: they count up from there, in the order in which labels come first
abbrev pub key_of_label : List (List ℕ) → List ℕ → ℕ
key_of_label lines label = first_key lines + unwrap_or (place_in (labels_of lines) label) 0
