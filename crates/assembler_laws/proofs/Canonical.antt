-- What is known of an argument that is the one that its text stands for.
use Rattle.std.proofs.Common.{◌≡◌, ℕ, ◌-◌, ◌≤◌, ◌==◌, Bool, true, false, List, [], ◌∷◌, length, refl, sym, ap, ◌∙◌, arith}
use Rattle.std.specs.Prelude.{◌||◌, ⊤, not, nat_lt, decimal, if◌then◌else◌}
use Rattle.std.proofs.lemmas.Bool.{le-ltb, ne_eqb}
use Rattle.std.proofs.lemmas.Slice.Eq.{bytes_eq-Decides}
use Rattle.pickle_ops.specs.declared.form.Form.{Form}
use Rattle.pickle_ops.specs.declared.form.Form.TheVariants as form
use Rattle.pickle_ops.specs.Argument.{payload, number_of}
use Rattle.pickle_ops.specs.Shape.{text_of}
use Rattle.pickle_ops.specs.Spelling.{Operation}
use Rattle.pickle_ops.specs.Table.{form_of}
use Rattle.pickle_ops.specs.Text.{is_long}
use Rattle.opcode_assembler.specs.Numbers.{says_no_more}
use Rattle.opcode_assembler.specs.Canonical.{has_plain_digits, has_last_byte, has_one_number, is_canonical}

-- a line of digits has no zeros in front
abbrev pub HasPlainDigits : Form → List ℕ → Type 0
HasPlainDigits form.Decimal arg = text_of arg ≡ decimal (number_of form.Decimal arg)
HasPlainDigits _ arg = ⊤

-- the last byte of a long number says something
abbrev pub has_shortest : List ℕ → Bool
has_shortest [] = true
has_shortest (byte ∷ bytes) = not (says_no_more (byte ∷ bytes) (length bytes))

abbrev pub IsShortest : List ℕ → Type 0
IsShortest bytes = length bytes ≤ 16 → has_shortest bytes ≡ true

abbrev pub HasOneText : Bool → Form → List ℕ → Type 0
HasOneText true f arg = IsShortest (payload f arg)
HasOneText false f arg = HasPlainDigits f arg

abbrev pub IsCanonical : Operation → Type 0
IsCanonical op = HasOneText (is_long op.opcode) (form_of op.opcode) op.arg

plain : (f : Form) (arg : List ℕ) → has_plain_digits f arg ≡ true → HasPlainDigits f arg
plain form.Decimal arg h = (bytes_eq-Decides (text_of arg) (decimal (number_of form.Decimal arg))).0 h
plain form.Empty arg h = tt
plain form.Uint1 arg h = tt
plain form.Uint2 arg h = tt
plain form.Uint4 arg h = tt
plain form.Uint8 arg h = tt
plain form.Int4 arg h = tt
plain form.Float8 arg h = tt
plain form.Line arg h = tt
plain form.Quoted arg h = tt
plain form.Two arg h = tt
plain form.Bytes1 arg h = tt
plain form.Bytes4 arg h = tt
plain form.Bytes8 arg h = tt
plain form.String4 arg h = tt

or_right : (a b : Bool) → (a || b) ≡ true → a ≡ false → b ≡ true
or_right true b h e = absurd cc
or_right false b h e = h

last : (bytes : List ℕ) → has_last_byte bytes ≡ true → has_shortest bytes ≡ true
last [] h = refl
last (byte ∷ bytes) h =
    let n = length (byte ∷ bytes) in
    let some : (n == 0) ≡ false = ne_eqb n 0 (λ e. absurd (omega (arith, e))) in
    let e : n - 1 ≡ length bytes = omega arith in
    ap (λ (k : ℕ). not (says_no_more (byte ∷ bytes) k)) (sym e) ∙ or_right (n == 0) (not (says_no_more (byte ∷ bytes) (n - 1))) h some

shortest : (bytes : List ℕ) → has_one_number bytes ≡ true → IsShortest bytes
shortest bytes h l = last bytes (or_right (nat_lt 16 (length bytes)) (has_last_byte bytes) h (le-ltb 16 (length bytes) l))

pub canonical : (op : Operation) → is_canonical op ≡ true → IsCanonical op
unfolding is_canonical
canonical op h = go (is_long op.opcode) h
  where
    go : (b : Bool) → (if b then has_one_number (payload (form_of op.opcode) op.arg) else has_plain_digits (form_of op.opcode) op.arg) ≡ true → HasOneText b (form_of op.opcode) op.arg
    go true k = shortest (payload (form_of op.opcode) op.arg) k
    go false k = plain (form_of op.opcode) op.arg k
