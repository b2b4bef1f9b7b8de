-- The text of an argument that is read back.
use Rattle.std.proofs.Common.{◌≡◌, ◌∙◌, Bool, true, false, List, ℕ, Option, Some, None, refl, ap}
use Rattle.std.specs.Prelude.{if◌then◌else◌, is_some, unwrap_or, []}
use Rattle.pickle_ops.specs.declared.form.Form.{Form}
use Rattle.pickle_ops.specs.declared.form.Form.TheVariants as form
use Rattle.pickle_ops.specs.Argument.{payload}
use Rattle.pickle_ops.specs.Spelling.{Operation}
use Rattle.pickle_ops.specs.Table.{form_of}
use Rattle.pickle_ops.specs.Text.{long_text, form_text, is_long, arg_text}
use Rattle.opcode_assembler.specs.Canonical.{has_plain_digits, has_one_number, is_canonical, hex_text, text_or, whole_text}

-- an argument that has no text has no bytes, and is the one that nothing stands for
form_some : (f : Form) (arg : List ℕ) → has_plain_digits f arg ≡ false → is_some (form_text f arg) ≡ true
form_some form.Decimal arg e = refl
form_some form.Empty arg e = absurd cc
form_some form.Uint1 arg e = refl
form_some form.Uint2 arg e = refl
form_some form.Uint4 arg e = refl
form_some form.Uint8 arg e = refl
form_some form.Int4 arg e = refl
form_some form.Float8 arg e = refl
form_some form.Line arg e = refl
form_some form.Quoted arg e = refl
form_some form.Two arg e = refl
form_some form.Bytes1 arg e = refl
form_some form.Bytes4 arg e = refl
form_some form.Bytes8 arg e = refl
form_some form.String4 arg e = refl

has_text : (o : Operation) → is_canonical o ≡ false → is_some (arg_text o) ≡ true
unfolding is_canonical arg_text
has_text o e = go (is_long o.opcode) e
  where
    go : (b : Bool) → (if b then has_one_number (payload (form_of o.opcode) o.arg) else has_plain_digits (form_of o.opcode) o.arg) ≡ false
        → is_some (if b then Some (long_text (payload (form_of o.opcode) o.arg)) else form_text (form_of o.opcode) o.arg) ≡ true
    go true k = refl
    go false k = form_some (form_of o.opcode) o.arg k

-- its own
pub own_text : (o : Operation) → is_canonical o ≡ true → unwrap_or (whole_text o) [] ≡ unwrap_or (arg_text o) []
unfolding whole_text
own_text o e = ap (λ (b : Bool). unwrap_or (text_or b (arg_text o) (hex_text o.arg)) []) e

-- or all bytes
bytes_by : (text : Option (List ℕ)) (bytes : List ℕ) → is_some text ≡ true → unwrap_or (text_or false text bytes) [] ≡ bytes
bytes_by (Some text) bytes e = refl
bytes_by None bytes e = absurd cc

pub all_bytes : (o : Operation) → is_canonical o ≡ false → unwrap_or (whole_text o) [] ≡ hex_text o.arg
unfolding whole_text
all_bytes o e = ap (λ (b : Bool). unwrap_or (text_or b (arg_text o) (hex_text o.arg)) []) e ∙ bytes_by (arg_text o) (hex_text o.arg) (has_text o e)
