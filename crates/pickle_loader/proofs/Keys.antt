-- A key of decimal digits is the number that int() and PyLong_FromString read; and each argument of a document passes the checks of its value.
use Rattle.std.proofs.Common.{◌≡◌, ℕ, zero, suc, ◌+◌, ◌^◌, ◌≤◌, Bool, true, false, List, [], ◌∷◌, ◌++◌, Some, None, refl, ap, subst, arith}
use Rattle.std.specs.Prelude.{◌&&◌, nat_le, nat_lt, fold, length, slice_get, if◌then◌else◌}
use Rattle.std.specs.List.{AllByRecursion, list_any, list_all}
use Rattle.std.proofs.lemmas.Bool.{leb-true, ne_eqb}
use Rattle.pickle_ops.specs.declared.fault.FrontFault.TheVariants as fault
use Rattle.pickle_ops.specs.declared.form.Form.TheVariants as form
use Rattle.pickle_ops.specs.Argument.{number_of}
use Rattle.pickle_ops.specs.Shape.{text_of, is_digit, add_digit, value_of, is_decimal, is_quoted, value_fault}
use Rattle.pickle_ops.specs.Spelling.{Operation}
use Rattle.pickle_doc.specs.declared.item.Item.{Item}
use Rattle.pickle_doc.specs.DocUnit.{DocUnit, Loose, Frame, frame_item, flat, operations, sizes}
use Rattle.pickle_doc.specs.Document.{Contents, IsFormed, IsPlain, IsUnit}
use Rattle.pickle_doc.specs.Place.{ops_of}
use Rattle.pickle_lenient.specs.declared.key.KeyPart.TheVariants as part
use Rattle.pickle_lenient.specs.declared.key.KeyState.{KeyState}
use Rattle.pickle_lenient.specs.Key.{after_byte, no_byte, key_in, key_of}
use Rattle.pickle_loader.specs.Dispatch.{is_nul, int_key}
use Rattle.pickle_loader.specs.Beyond.{HasValue, KeysAgree}

-- ---- digits

abbrev read_to : ℕ → KeyState
read_to n = record { part = part.Digits; number = n; negative = false }

both : (a b : Bool) → (a && b) ≡ true → (a ≡ true) × (b ≡ true)
both true b e = (refl, e)
both false b e = absurd cc

digits_read : (xs : List ℕ) (n : ℕ) → list_all is_digit xs ≡ true → fold after_byte (read_to n) xs ≡ read_to (fold add_digit n xs)
digits_read [] n e = refl
digits_read (d ∷ xs) n e =
    let is = both (is_digit d) (list_all is_digit xs) e in
    rw is.0 (digits_read xs (add_digit n d) is.1)

digits_begin : (d : ℕ) (xs : List ℕ) → list_all is_digit (d ∷ xs) ≡ true → fold after_byte no_byte (d ∷ xs) ≡ read_to (fold add_digit 0 (d ∷ xs))
digits_begin d xs e =
    let is = both (is_digit d) (list_all is_digit xs) e in
    rw is.0 (digits_read xs (add_digit 0 d) is.1)

-- one digit at least
some_digits : (xs : List ℕ) → is_decimal xs ≡ true → (list_all is_digit xs ≡ true) × (fold after_byte no_byte xs ≡ read_to (value_of xs))
some_digits [] e = absurd cc
some_digits (d ∷ xs) e =
    let two = both (nat_lt 0 (length (d ∷ xs)) && list_all is_digit (d ∷ xs)) (nat_lt (value_of (d ∷ xs)) (2 ^ 64)) e in
    let one = both (nat_lt 0 (length (d ∷ xs))) (list_all is_digit (d ∷ xs)) two.0 in
    (one.1, digits_begin d xs one.1)

no_digit : (d : ℕ) → is_digit d ≡ true → is_nul d ≡ false
no_digit d e =
    let low : 48 ≤ d = leb-true 48 d (both (nat_le 48 d) (nat_le d 57) e).0 in
    ne_eqb d 0 (λ none. omega (arith, low, none))

no_nul : (xs : List ℕ) → list_all is_digit xs ≡ true → list_any is_nul xs ≡ false
no_nul [] e = refl
no_nul (d ∷ xs) e =
    let is = both (is_digit d) (list_all is_digit xs) e in
    rw (no_digit d is.0) (no_nul xs is.1)

-- ---- an accepted key

accepted : (b : Bool) → (if b then None else Some fault.BadArgument) ≡ None → b ≡ true
accepted true e = refl
accepted false e = absurd cc

pub plain_key : (arg : List ℕ) → value_fault form.Decimal arg ≡ None → key_of (text_of arg) ≡ Some (number_of form.Decimal arg)
plain_key arg e = ap key_in (some_digits (text_of arg) (accepted (is_decimal (text_of arg)) e)).1

pub plain_int : (arg : List ℕ) → value_fault form.Decimal arg ≡ None → int_key (text_of arg) ≡ Some (number_of form.Decimal arg)
plain_int arg e = rw (no_nul (text_of arg) (some_digits (text_of arg) (accepted (is_decimal (text_of arg)) e)).0) (plain_key arg e)

pub keys_agree : KeysAgree
keys_agree arg e = (plain_int arg e, plain_key arg e)

-- ---- an accepted text

pub quoted_text : (arg : List ℕ) → value_fault form.Quoted arg ≡ None → is_quoted (text_of arg) ≡ true
quoted_text arg e = accepted (is_quoted (text_of arg)) e

-- ---- the arguments of a document

member_value : (loose : Bool) (members more : List Item) → AllByRecursion (IsPlain loose) members → ((n : ℕ) (o : Operation) → slice_get (operations more) n ≡ Some o → HasValue o)
    → (n : ℕ) (o : Operation) → slice_get (operations (members ++ more)) n ≡ Some o → HasValue o
member_value loose [] more plain go n o e = go n o e
member_value loose (i ∷ members) more plain go zero o e = let same : i.op ≡ o = cc in subst (λ (x : Operation). HasValue x) same plain.0.spelled.value
member_value loose (i ∷ members) more plain go (suc n) o e = member_value loose members more plain.1 go n o e

unit_value : (loose : Bool) (units : List DocUnit) → AllByRecursion (IsUnit loose) units → (n : ℕ) (o : Operation) → slice_get (operations (flat units)) n ≡ Some o → HasValue o
unit_value loose [] plain n o e = absurd cc
unit_value loose (Loose i ∷ units) plain zero o e = let same : i.op ≡ o = cc in subst (λ (x : Operation). HasValue x) same plain.0.spelled.value
unit_value loose (Loose i ∷ units) plain (suc n) o e = unit_value loose units plain.1 n o e
unit_value loose (Frame id members extra ∷ units) plain zero o e =
    let same : (frame_item id (sizes members + extra)).op ≡ o = cc in subst (λ (x : Operation). HasValue x) same refl
unit_value loose (Frame id members extra ∷ units) plain (suc n) o e = member_value loose members (flat units) plain.0.0 (unit_value loose units plain.1) n o e

pub has_value : (d : Contents) → IsFormed d → (n : ℕ) (o : Operation) → slice_get (ops_of d) n ≡ Some o → HasValue o
has_value d formed n o e = unit_value d.loose d.units formed.units n o e
