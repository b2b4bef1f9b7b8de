-- Texts of arguments that are read back: their own, or all their bytes.
use Rattle.std.proofs.Common.{◌≡◌, ℕ, ◌<◌, Bool, true, false, List, [], ◌∷◌, ◌++◌, length, Option, Some, None, Ok, refl, ap, subst, ◌∙◌, arith, length-append}
use Rattle.std.specs.Prelude.{codes, if◌then◌else◌}
use Rattle.std.specs.Option.{option_map_or}
use Rattle.hex.specs.Hex.{IsBytes}
use Rattle.pickle_io.specs.Text.{◌⧺◌, hexadecimal}
use Rattle.pickle_ops.specs.declared.form.Form.{Form}
use Rattle.pickle_ops.specs.declared.form.Form.TheVariants as form
use Rattle.pickle_ops.specs.declared.opcode.Opcode.{Opcode}
use Rattle.pickle_ops.specs.declared.opcode.Opcode.TheVariants as op
use Rattle.pickle_ops.specs.Argument.{payload}
use Rattle.pickle_ops.specs.Shape.{IsArg, IsLine}
use Rattle.pickle_ops.specs.Spelling.{Operation, IsSpelled}
use Rattle.pickle_ops.specs.Table.{form_of}
use Rattle.pickle_ops.specs.Text.{is_long, arg_text}
use Rattle.pickle_list.specs.ArgTexts.{short_args}
use Rattle.opcode_assembler.specs.Words.{trimmed, behind}
use Rattle.opcode_assembler.specs.Numbers.{hex_first}
use Rattle.opcode_assembler.specs.Arguments.{spelled_first, argument_first}
use Rattle.opcode_assembler.specs.Canonical.{has_plain_digits, has_one_number, is_canonical, hex_text, text_or, whole_text}
use Rattle.whole_listing.specs.WholeArgs.{whole_args}
use Rattle.calls_laws.proofs.WithinLines.{Stays, then_stays, hexadecimal_stays}
use Rattle.assembler_laws.proofs.Spans.{trimmed_is}
use Rattle.assembler_laws.proofs.Hexes.{hex_read}
use Rattle.assembler_laws.proofs.Arguments.{Ends, AreBlanks, argument_read}
use Rattle.assembler_laws.proofs.Canonical.{canonical}
use Rattle.assembler_laws.proofs.ItemLines.{IsReadAt, IsReadIn}
use Rattle.assembler_laws.proofs.Stays.{AnyStays, arg_stays}

pub short_read : (o : Operation) → IsSpelled o → IsBytes o.arg → is_canonical o ≡ true → IsReadIn short_args o
short_read o s h c t e gap rest g k = (argument_read o.opcode o.arg t s h (canonical o c) e).back gap rest g k

-- ---- all bytes

hex_is : (arg rest : List ℕ) → hex_text arg ++ rest ≡ 104 ∷ 101 ∷ 120 ∷ 58 ∷ (hexadecimal arg ++ rest)
unfolding hex_text ◌⧺◌
hex_is arg rest = refl

hex_there : (gap arg rest : List ℕ) → AreBlanks gap → behind (codes "hex:") (trimmed (gap ++ (hex_text arg ++ rest))) ≡ Some (hexadecimal arg ++ rest)
hex_there gap arg rest g =
    ap (λ (t : List ℕ). behind (codes "hex:") (trimmed (gap ++ t))) (hex_is arg rest)
    ∙ ap (behind (codes "hex:")) (trimmed_is gap (104 ∷ 101 ∷ 120 ∷ 58 ∷ (hexadecimal arg ++ rest)) (record { all = g; stops = refl }))

bytes_read : (o : Opcode) (arg : List ℕ) → IsBytes arg → 0 < length arg → IsReadAt o arg (hex_text arg)
bytes_read o arg h l gap rest g k =
    ap (λ (x : Option (List ℕ)). option_map_or hex_first x (spelled_first o (gap ++ (hex_text arg ++ rest)))) (hex_there gap arg rest g) ∙ hex_read arg rest h l k

-- an argument without bytes is the one that nothing stands for
line_some : (arg : List ℕ) → IsLine arg → 0 < length arg
line_some arg l = omega (arith, ap (λ (x : List ℕ). length x) l.2, length-append l.0 (10 ∷ []))

form_some : (f : Form) (arg : List ℕ) → has_plain_digits f arg ≡ false → IsArg f arg → 0 < length arg
form_some form.Decimal arg e a = line_some arg a
form_some form.Empty arg e a = absurd cc
form_some form.Uint1 arg e a = absurd cc
form_some form.Uint2 arg e a = absurd cc
form_some form.Uint4 arg e a = absurd cc
form_some form.Uint8 arg e a = absurd cc
form_some form.Int4 arg e a = absurd cc
form_some form.Float8 arg e a = absurd cc
form_some form.Line arg e a = absurd cc
form_some form.Quoted arg e a = absurd cc
form_some form.Two arg e a = absurd cc
form_some form.Bytes1 arg e a = absurd cc
form_some form.Bytes4 arg e a = absurd cc
form_some form.Bytes8 arg e a = absurd cc
form_some form.String4 arg e a = absurd cc

long_some : (o : Opcode) (arg : List ℕ) → is_long o ≡ true → IsArg (form_of o) arg → 0 < length arg
long_some op.Long1 arg e a = omega (arith, a.0)
long_some op.Long4 arg e a = omega (arith, a.0)
long_some _ arg e a = absurd cc

some_bytes : (o : Operation) → is_canonical o ≡ false → IsArg (form_of o.opcode) o.arg → 0 < length o.arg
unfolding is_canonical
some_bytes o e a = go (is_long o.opcode) refl e
  where
    go : (b : Bool) → is_long o.opcode ≡ b → (if b then has_one_number (payload (form_of o.opcode) o.arg) else has_plain_digits (form_of o.opcode) o.arg) ≡ false → 0 < length o.arg
    go true l k = long_some o.opcode o.arg l a
    go false l k = form_some (form_of o.opcode) o.arg k a

-- ---- the one or the other

bytes_by : (o : Operation) (x : Option (List ℕ)) (t : List ℕ) → text_or false x (hex_text o.arg) ≡ Some t → IsReadAt o.opcode o.arg (hex_text o.arg) → IsReadAt o.opcode o.arg t
bytes_by o None t e r = absurd cc
bytes_by o (Some u) t e r = let same : hex_text o.arg ≡ t = cc in subst (IsReadAt o.opcode o.arg) same r

pub whole_read : (o : Operation) → IsSpelled o → IsBytes o.arg → IsReadIn whole_args o
unfolding whole_text
whole_read o s h t e = go (is_canonical o) refl e
  where
    go : (b : Bool) → is_canonical o ≡ b → text_or b (arg_text o) (hex_text o.arg) ≡ Some t → IsReadAt o.opcode o.arg t
    go true c k = short_read o s h c t k
    go false c k = bytes_by o (arg_text o) t k (bytes_read o.opcode o.arg h (some_bytes o c s.arg))

hex_stays : (arg : List ℕ) → Stays (hex_text arg)
unfolding hex_text
hex_stays arg = then_stays (codes "hex:") (hexadecimal arg) refl (hexadecimal_stays arg)

stays_by : (b : Bool) (x : Option (List ℕ)) (bytes : List ℕ) → AnyStays x → Stays bytes → AnyStays (text_or b x bytes)
stays_by true x bytes a s = a
stays_by false None bytes a s = a
stays_by false (Some t) bytes a s = s

pub whole_stays : (o : Operation) → AnyStays (whole_args.text o)
unfolding whole_text
whole_stays o = stays_by (is_canonical o) (arg_text o) (hex_text o.arg) (arg_stays o) (hex_stays o.arg)
