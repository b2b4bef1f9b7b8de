-- The number that is kept with an opcode, so that its line is read once.
use Rattle.std.specs.Prelude.{ℕ, List}
use Rattle.pickle_ops.specs.declared.form.Form.{Form}
use Rattle.pickle_ops.specs.declared.form.Form.TheVariants as form
use Rattle.pickle_ops.specs.Shape.{text_of, value_of}

-- the number of a decimal line, 0 of any other form
abbrev pub decimal_number : Form → List ℕ → ℕ
decimal_number form.Decimal arg = value_of (text_of arg)
decimal_number _ arg = 0
