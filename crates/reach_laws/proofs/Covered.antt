-- What loaders take of an opcode that is whole, beside what the unpickler in C does with it.
use Rattle.std.proofs.Common.{◌≡◌, ℕ, ◌+◌, Bool, true, false, List, ◌∷◌, ◌++◌, length, take, drop, Option, Some, None, Ok, refl, sym, ap, subst, ◌∙◌, arith}
use Rattle.std.specs.Prelude.{if◌then◌else◌}
use Rattle.std.proofs.lemmas.List.{take-append-drop, length-take-le}
use Rattle.pickle_ops.specs.declared.fault.FrontFault.{FrontFault}
use Rattle.pickle_ops.specs.declared.fault.FrontFault.TheVariants as fault
use Rattle.pickle_ops.specs.declared.opcode.Opcode.{Opcode}
use Rattle.pickle_ops.specs.declared.opcode.Opcode.TheVariants as op
use Rattle.pickle_ops.specs.declared.form.Form.{Form}
use Rattle.pickle_ops.specs.declared.form.Form.TheVariants as form
use Rattle.pickle_ops.specs.declared.kind.Kind.TheVariants as kind
use Rattle.pickle_ops.specs.declared.row.Row.{Row}
use Rattle.pickle_ops.specs.declared.row.Row.TheVariants as row
use Rattle.pickle_ops.specs.Table.{code_of, form_of}
use Rattle.pickle_ops.specs.Shape.{is_negative, is_quoted, text_of, IsLine, IsArg, value_fault}
use Rattle.pickle_ops.specs.Spelling.{Operation, Whole}
use Rattle.pickle_ops.specs.Row.{row_of}
use Rattle.pickle_ops.specs.Inside.Sizes.{arg_size}
use Rattle.pickle_ops.proofs.Measures.{measures}
use Rattle.pickle_doc.specs.DocUnit.{frame_op, is_frame, is_stop}
use Rattle.pickle_lenient.specs.Key.{key_of}
use Rattle.pickle_lenient.specs.Lenient.{Lenient, lenient, odd, odd_so, keyed_by}
use Rattle.pickle_loader.specs.Environment.{World}
use Rattle.pickle_loader.specs.CUnpickler.{CUnpickler, CRaised, load_literal, with_key, load_get, load_put, dispatch}
use Rattle.pickle_loader.specs.CLoad.{load_keyed}
use Rattle.pickle_loader.proofs.Plain.{whole_front, at_front, odd_is, text_is, line_length, refused, bad_decimal, negative}

-- the operation is taken as it is; or of GET and PUT as a FRAME with the row of the key
pub data IsOf (o op : Operation) (r : Row) : Type 0 where
  Itself : op ≡ o → r ≡ row_of o → IsOf o op r
  Keyed : op ≡ frame_op 0 → is_stop o.opcode ≡ false → is_frame o.opcode ≡ false → ((w : World) (c : CUnpickler) → load_keyed w r c ≡ dispatch w o.opcode o.arg c) → IsOf o op r

-- loaders take the first opcode of bytes, which has this size; or the unpickler in C raises at it
pub data Covered (bytes : List ℕ) (o : Operation) (size : ℕ) : Type 0 where
  Takes : (l : Lenient) → lenient bytes ≡ Ok l → IsOf o l.op l.row → l.size ≡ size → Covered bytes o size
  Fails : ((w : World) (c : CUnpickler) → dispatch w o.opcode o.arg c ≡ CRaised c.acts) → Covered bytes o size

good : (c : Opcode) (rest : List ℕ) (n : ℕ) → arg_size (form_of c) rest ≡ Some n → value_fault (form_of c) (take n rest) ≡ None → Covered (code_of c ∷ rest) (record { opcode = c; arg = take n rest }) (n + 1)
good c rest n size value =
    let o : Operation = record { opcode = c; arg = take n rest } in
    let found = (measures (form_of c)).found rest n size in
    Takes (record { op = o; row = row_of o; size = length (take n rest) + 1 })
    (at_front (code_of c ∷ rest) (Whole c (take n rest) (drop n rest)) None (whole_front c rest n size) value)
    (Itself refl refl) (ap (λ (m : ℕ). m + 1) (length-take-le n rest found.0))

-- a key that is spelled otherwise: one that is read, or none
keyed : (c : Opcode) (rest : List ℕ) (n : ℕ) (r : ℕ → Row) (key : ℕ) → arg_size (form_of c) rest ≡ Some n → form_of c ≡ form.Decimal → value_fault (form_of c) (take n rest) ≡ Some fault.BadArgument
    → ((size : ℕ) → odd_so (keyed_by (code_of c) size (Some key)) ≡ Ok (record { op = frame_op 0; row = r key; size = size }))
    → is_stop c ≡ false → is_frame c ≡ false → ((w : World) (u : CUnpickler) → load_keyed w (r key) u ≡ dispatch w c (take n rest) u) → key_of (text_of (take n rest)) ≡ Some key
    → Covered (code_of c ∷ rest) (record { opcode = c; arg = take n rest }) (n + 1)
keyed c rest n r key size decimal bad reads_so stops frames loads is =
    let found = (measures (form_of c)).found rest n size in
    let long : length (take n rest) ≡ n = length-take-le n rest found.0 in
    let line : IsLine (take n rest) = subst (λ (f : Form). IsArg f (take n rest)) decimal found.1 in
    let key_is : key_of line.0 ≡ Some key = ap key_of (sym (text_is (take n rest) line)) ∙ is in
    let all : take n rest ++ drop n rest ≡ rest = take-append-drop n rest in
    let m : ℕ = length line.0 + 2 in
    Takes (record { op = frame_op 0; row = r key; size = m })
    (at_front (code_of c ∷ rest) (Whole c (take n rest) (drop n rest)) (Some fault.BadArgument) (whole_front c rest n size) bad
    ∙ ap (λ (l : List ℕ). odd (code_of c ∷ l)) (sym all)
    ∙ odd_is (code_of c) (take n rest) (drop n rest) line
    ∙ ap (λ (x : Option ℕ). odd_so (keyed_by (code_of c) m x)) key_is
    ∙ reads_so m)
    (Keyed refl stops frames loads) (omega (arith, long, line_length (take n rest) line))

get : (rest : List ℕ) (n : ℕ) (x : Option ℕ) → arg_size form.Decimal rest ≡ Some n → value_fault form.Decimal (take n rest) ≡ Some fault.BadArgument → key_of (text_of (take n rest)) ≡ x
    → Covered (code_of op.Get ∷ rest) (record { opcode = op.Get; arg = take n rest }) (n + 1)
get rest n None size bad is = Fails (λ w c. ap (λ (y : Option ℕ). with_key y c (λ key. load_get key c)) is)
get rest n (Some key) size bad is = keyed op.Get rest n (λ (k : ℕ). row.Get k) key size refl bad (λ m. refl) refl refl (λ w c. sym (ap (λ (y : Option ℕ). with_key y c (λ k. load_get k c)) is)) is

put : (rest : List ℕ) (n : ℕ) (x : Option ℕ) → arg_size form.Decimal rest ≡ Some n → value_fault form.Decimal (take n rest) ≡ Some fault.BadArgument → key_of (text_of (take n rest)) ≡ x
    → Covered (code_of op.Put ∷ rest) (record { opcode = op.Put; arg = take n rest }) (n + 1)
put rest n None size bad is = Fails (λ w c. ap (λ (y : Option ℕ). with_key y c (λ key. load_put w key c)) is)
put rest n (Some key) size bad is = keyed op.Put rest n (λ (k : ℕ). row.Put k) key size refl bad (λ m. refl) refl refl (λ w c. sym (ap (λ (y : Option ℕ). with_key y c (λ k. load_put w k c)) is)) is

no_sign : (b : Bool) (A : Type 0) → b ≡ true → b ≡ false → A
no_sign true A e f = absurd cc
no_sign false A e f = absurd cc

-- a whole opcode whose length, if it has one, is not below 0
pub covers : (c : Opcode) (rest : List ℕ) (n : ℕ) (x : Option FrontFault) → arg_size (form_of c) rest ≡ Some n → value_fault (form_of c) (take n rest) ≡ x → (form_of c ≡ form.String4 → is_negative (take n rest) ≡ false)
    → Covered (code_of c ∷ rest) (record { opcode = c; arg = take n rest }) (n + 1)
covers c rest n None size e v = good c rest n size e
covers op.Get rest n (Some g) size e v = get rest n (key_of (text_of (take n rest))) size (bad_decimal (take n rest) g e) refl
covers op.Put rest n (Some g) size e v = put rest n (key_of (text_of (take n rest))) size (bad_decimal (take n rest) g e) refl
covers op.String rest n (Some g) size e v =
    Fails (λ w c. ap (λ (b : Bool). if b then load_literal (kind.LegacyLine (text_of (take n rest))) c else CRaised c.acts) (refused (is_quoted (text_of (take n rest))) fault.BadArgument g e))
covers op.BinString rest n (Some g) size e v = no_sign (is_negative (take n rest)) _ (negative (is_negative (take n rest)) g e) (v refl)
covers op.Long4 rest n (Some g) size e v = no_sign (is_negative (take n rest)) _ (negative (is_negative (take n rest)) g e) (v refl)
covers _ rest n (Some g) size e v = absurd cc
