-- The bytes that a text is assembled to, with labels or without, or the line that says why there are none.
-- Source: own.
use Rattle.std.specs.Prelude.{◌≡◌, ◌≢◌, ◌⊎◌, ℕ, List, codes, decimal, Option, Some, None, Result, Err, IfOk, IfErr}
use Rattle.pickle_io.specs.Text.{◌⧺◌}
use Rattle.pickle_io.specs.Device.{Told}
use Rattle.pickle_text.specs.Column.{newline}
use Rattle.pickle_text.specs.Output.{Output}
use Rattle.opcode_assembler.specs.declared.fault.Reason.{Reason}
use Rattle.opcode_assembler.specs.declared.fault.Reason.TheVariants as why
use Rattle.assembly_labels.specs.declared.refusal.LabelRefusal.{LabelRefusal}
use Rattle.assembly_labels.specs.declared.refusal.LabelRefusal.TheVariants as refusal
use Rattle.assembly_labels.specs.Labelled.{AssemblesLabelled, RefusesLabelled}
use Rattle.pickle_script.specs.GateText.{WroteText, StopsGate}
use Rattle.pickle_script.specs.declared.stop.Stop.{Stop}
use Rattle.pickle_script.specs.declared.stop.Stop.TheVariants as stop

unfoldable pub sentence_of : Reason → List ℕ
sentence_of why.UnknownName = codes "no opcode has this name"
sentence_of why.NoNumber = codes "the opcode wants a whole number"
sentence_of why.NumberTooLarge = codes "the number does not fit into the opcode's bytes"
sentence_of why.NoText = codes "the opcode wants a text in quotes"
sentence_of why.TextTooLong = codes "the text is too long for the opcode"
sentence_of why.NoFloat = codes "the opcode wants a number, or f8: and hexadecimal digits"
sentence_of why.NoHex = codes "these are no pairs of hexadecimal digits"
sentence_of why.BadArgument = codes "the bytes are no argument of the opcode"
sentence_of why.ExtraText = codes "the line goes on behind the argument"
sentence_of why.LeftOut = codes "the listing does not show all bytes of its pickle"

unfoldable pub counting_words : List ℕ
counting_words = codes "MEMOIZE counts keys by itself, and the text has labels"

unfoldable pub line_words : List ℕ
line_words = codes "refused: line "

unfoldable pub refused_line : ℕ → List ℕ → List ℕ
refused_line number why = line_words ⧺ decimal number ⧺ codes ": " ⧺ why ⧺ newline

abbrev pub assembled_output : List ℕ → Output
assembled_output bytes = record { text = bytes; status = 0 }

abbrev pub line_output : ℕ → List ℕ → Output
line_output number why = record { text = refused_line number why; status = 1 }

-- the line of a refusal
abbrev pub refused_output : LabelRefusal → Option Output
refused_output (refusal.Line number r) = Some (line_output number (sentence_of r))
refused_output (refusal.Counting number) = Some (line_output number counting_words)
refused_output refusal.Memory = None

-- each line is one of the definition, with keys in place of labels, and these are their bytes
pub record IsAssembled (text : List ℕ) (o : Output) : Type 0 where
  pub bytes : List ℕ
  pub assembles : AssemblesLabelled text bytes
  pub text_is : o ≡ assembled_output bytes

-- or there is a first line that is none
pub record IsUnassembled (text : List ℕ) (o : Output) : Type 0 where
  pub refusal : LabelRefusal
  pub refused : RefusesLabelled text refusal
  pub text_is : refused_output refusal ≡ Some o

abbrev pub IsAssemblyText : List ℕ → Output → Type 0
IsAssemblyText text o = IsAssembled text o ⊎ IsUnassembled text o

-- what is answered where that was to be written to a sink, of which `told` says what it reports
pub record AnswersAssembly (text : List ℕ) {S : Type 0} (told : S → Told) (old new : S) (answer : Result ℕ Stop) : Type 0 where
  pub whole : IfOk answer (WroteText (IsAssemblyText text) (told old) (told new))
  pub stopped : IfErr answer (StopsGate (IsAssemblyText text) (told old) (told new))
  pub fits : answer ≢ Err stop.TooLarge
