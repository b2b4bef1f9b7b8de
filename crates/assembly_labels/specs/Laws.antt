-- What was assembled before stays: a text that has bytes as it is has no label.
-- Source: own.
use Rattle.std.specs.Prelude.{◌≡◌, ℕ, List, false}
use Rattle.opcode_assembler.specs.Assembly.{Assembles}
use Rattle.assembly_labels.specs.Labelled.{has_labels, AssemblesLabelled}

-- a text without labels is assembled to what it was
abbrev pub LabelsAddNothing : Type 0
LabelsAddNothing = (text bytes : List ℕ) → has_labels text ≡ false → Assembles text bytes → AssemblesLabelled text bytes

-- no text of bytes has a label
abbrev pub BytesHaveNoLabels : Type 0
BytesHaveNoLabels = (text bytes : List ℕ) → Assembles text bytes → has_labels text ≡ false

-- so each text keeps its bytes
abbrev pub BytesStay : Type 0
BytesStay = (text bytes : List ℕ) → Assembles text bytes → AssemblesLabelled text bytes
