-- What a text with labels is assembled to: what the text is, in which each label is a key in digits.
-- Source: own.
use Rattle.std.specs.Prelude.{◌≡◌, ⊤, ℕ, suc, nat_lt, if◌then◌else◌, Bool, List, [], ◌∷◌, ◌++◌, length, map, decimal, Option, Some, None}
use Rattle.std.specs.List.{slice_split, concat, position}
use Rattle.std.specs.Option.{option_map, option_map_or}
use Rattle.pickle_ops.specs.declared.opcode.Opcode.{Opcode}
use Rattle.opcode_assembler.specs.declared.fault.Reason.{Reason}
use Rattle.opcode_assembler.specs.Words.{trimmed, word, after_word}
use Rattle.opcode_assembler.specs.Assembly.{unplaced, is_newline, Assembles, IsRefused}
use Rattle.assembly_labels.specs.declared.refusal.LabelRefusal.{LabelRefusal}
use Rattle.assembly_labels.specs.declared.refusal.LabelRefusal.TheVariants as refusal
use Rattle.assembly_labels.specs.Labels.{opcode_in, label_of, is_counting, labels_of, key_of_label}

abbrev pub lines_of : List ℕ → List (List ℕ)
lines_of text = slice_split is_newline text

-- whether a text has a label
abbrev pub has_labels : List ℕ → Bool
has_labels text = nat_lt 0 (length (labels_of (lines_of text)))

-- a line with this key in place of its label: the name of the opcode, the key, and what stands behind the label
abbrev pub with_key : ℕ → List ℕ → List ℕ
with_key key line = option_map_or (λ (p : Opcode × List ℕ). word (unplaced (trimmed line)) ++ 32 ∷ (decimal key ++ after_word p.1)) (opcode_in line) line

-- a line of a text: as it is, or with the key of its label
abbrev pub in_digits : List (List ℕ) → List ℕ → List ℕ
in_digits lines line = option_map_or (λ (label : List ℕ). with_key (key_of_label lines label) line) (label_of line) line

abbrev pub ended : List ℕ → List ℕ
ended line = line ++ 10 ∷ []

-- the text of all lines so, each with its newline
abbrev pub digits_text : List (List ℕ) → List ℕ
digits_text lines = concat (map (λ (line : List ℕ). ended (in_digits lines line)) lines)

-- what is assembled of a text; one without labels stays as it is
abbrev pub digits_of : List ℕ → List ℕ
digits_of text = if has_labels text then digits_text (lines_of text) else text

-- MEMOIZE takes keys that a label could have: the number of the first such line of a text with labels, from 1
abbrev pub counting_line : List ℕ → Option ℕ
counting_line text = if has_labels text then option_map suc (position is_counting (lines_of text)) else None

-- a text is assembled to these bytes
abbrev pub AssemblesLabelled : List ℕ → List ℕ → Type 0
AssemblesLabelled text bytes = (counting_line text ≡ None) × Assembles (digits_of text) bytes

-- a text that is assembled as it is, is refused
abbrev pub RefusesPlain : List ℕ → LabelRefusal → Type 0
RefusesPlain text (refusal.Line m r) = IsRefused text m r
RefusesPlain text (refusal.Counting m) = ⊥
RefusesPlain text refusal.Memory = ⊤

-- or it is refused
abbrev pub RefusesLabelled : List ℕ → LabelRefusal → Type 0
RefusesLabelled text (refusal.Line m r) = (counting_line text ≡ None) × IsRefused (digits_of text) m r
RefusesLabelled text (refusal.Counting m) = counting_line text ≡ Some m
RefusesLabelled text refusal.Memory = ⊤
