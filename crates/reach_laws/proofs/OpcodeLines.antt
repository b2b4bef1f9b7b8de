-- The line of an opcode that a loader may take which mixes frames is one line: no name and no argument ends it.
use Rattle.std.proofs.Common.{ℕ, Bool, true, false, List, length, Option, Some, None, refl}
use Rattle.std.specs.Prelude.{codes, decimal, nat_le, if◌then◌else◌}
use Rattle.std.specs.Fmt.{signed_decimal}
use Rattle.pickle_io.specs.Text.{◌⧺◌, hexadecimal, quoted}
use Rattle.pickle_ops.specs.declared.form.Form.{Form}
use Rattle.pickle_ops.specs.declared.form.Form.TheVariants as form
use Rattle.pickle_ops.specs.declared.opcode.Opcode.{Opcode}
use Rattle.pickle_ops.specs.declared.opcode.Opcode.TheVariants as op
use Rattle.pickle_ops.specs.Argument.{number_of, signed_of, long_of, payload, first_text, second_text}
use Rattle.pickle_ops.specs.Spelling.{Operation}
use Rattle.pickle_ops.specs.Table.{name_of, form_of}
use Rattle.pickle_ops.specs.Text.{float_text, long_text, two_texts, form_text, is_long, arg_text}
use Rattle.pickle_text.specs.Column.{right_aligned}
use Rattle.calls_laws.proofs.LinesApart.{quotes_stay}
use Rattle.calls_laws.proofs.WithinLines.{Stays, then_stays, if_stays, decimal_stays, signed_stays, hexadecimal_stays, right_stays}
use Rattle.calls_laws.proofs.TextLines.{IsLine, line_of_body}
use Rattle.mixes_text.specs.MixText.{behind_name, op_text, taken_line}

-- ---- arguments

-- a text, if there is one
abbrev AnyStays : Option (List ℕ) → Type 0
AnyStays None = Unit {0}
AnyStays (Some t) = Stays t

float_stays : (bytes : List ℕ) → Stays (float_text bytes)
unfolding float_text
float_stays bytes = then_stays (codes "f8:") (hexadecimal bytes) refl (hexadecimal_stays bytes)

long_stays : (bytes : List ℕ) → Stays (long_text bytes)
unfolding long_text
long_stays bytes = if_stays (nat_le (length bytes) 16) (signed_decimal (long_of bytes)) (codes "le:" ⧺ hexadecimal bytes) (signed_stays (long_of bytes)) (then_stays (codes "le:") (hexadecimal bytes) refl (hexadecimal_stays bytes))

two_stay : (arg : List ℕ) → Stays (two_texts arg)
unfolding two_texts
two_stay arg = then_stays (quoted (first_text arg) ⧺ codes " ") (quoted (second_text arg)) (then_stays (quoted (first_text arg)) (codes " ") (quotes_stay (first_text arg)) refl) (quotes_stay (second_text arg))

form_stays : (f : Form) (arg : List ℕ) → AnyStays (form_text f arg)
form_stays form.Empty arg = tt
form_stays form.Uint1 arg = decimal_stays (number_of form.Uint1 arg)
form_stays form.Uint2 arg = decimal_stays (number_of form.Uint2 arg)
form_stays form.Uint4 arg = decimal_stays (number_of form.Uint4 arg)
form_stays form.Uint8 arg = decimal_stays (number_of form.Uint8 arg)
form_stays form.Int4 arg = signed_stays (signed_of arg)
form_stays form.Float8 arg = float_stays arg
form_stays form.Line arg = quotes_stay (payload form.Line arg)
form_stays form.Quoted arg = quotes_stay (payload form.Quoted arg)
form_stays form.Decimal arg = decimal_stays (number_of form.Decimal arg)
form_stays form.Two arg = two_stay arg
form_stays form.Bytes1 arg = quotes_stay (payload form.Bytes1 arg)
form_stays form.Bytes4 arg = quotes_stay (payload form.Bytes4 arg)
form_stays form.Bytes8 arg = quotes_stay (payload form.Bytes8 arg)
form_stays form.String4 arg = quotes_stay (payload form.String4 arg)

arg_stays : (o : Operation) → AnyStays (arg_text o)
unfolding arg_text
arg_stays o = go (is_long o.opcode)
  where
    go : (b : Bool) → AnyStays (if b then Some (long_text (payload (form_of o.opcode) o.arg)) else form_text (form_of o.opcode) o.arg)
    go true = long_stays (payload (form_of o.opcode) o.arg)
    go false = form_stays (form_of o.opcode) o.arg

-- ---- the line

name_stays : (o : Opcode) → Stays (name_of o)
name_stays op.Int = refl
name_stays _ = refl

behind_stays : (name : List ℕ) (arg : Option (List ℕ)) → Stays name → AnyStays arg → Stays (behind_name name arg)
behind_stays name None p q = p
behind_stays name (Some t) p q = then_stays (name ⧺ codes " ") t (then_stays name (codes " ") p refl) q

op_stays : (o : Operation) → Stays (op_text o)
unfolding op_text
op_stays o = behind_stays (name_of o.opcode) (arg_text o) (name_stays o.opcode) (arg_stays o)

pub taken_is_line : (offset : ℕ) (o : Operation) → IsLine (taken_line offset o)
unfolding taken_line
taken_is_line offset o =
    line_of_body (right_aligned 5 (decimal offset) ⧺ codes ": " ⧺ op_text o)
    (then_stays (right_aligned 5 (decimal offset) ⧺ codes ": ") (op_text o) (then_stays (right_aligned 5 (decimal offset)) (codes ": ") (right_stays 5 (decimal offset) (decimal_stays offset)) refl) (op_stays o))
