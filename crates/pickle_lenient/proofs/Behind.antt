-- What is at the front of bytes, with others behind them.
use Rattle.std.proofs.Common.{◌≡◌, ◌≢◌, ℕ, ◌+◌, ◌≤◌, true, false, List, [], ◌∷◌, ◌++◌, length, take, drop, Option, Some, None, Ok, Err, refl, sym, ap, ◌∙◌, inl, inr, arith, length-append, append_assoc}
use Rattle.std.specs.Prelude.{Result, IfOk, IfErr, MatchOption}
use Rattle.std.specs.List.{position, position_or_len, list_any}
use Rattle.std.proofs.lemmas.Bool.{cases_Bool, lt-ltb}
use Rattle.std.proofs.lemmas.List.{take_at, take-append-drop}
use Rattle.pickle_ops.specs.declared.opcode.Opcode.{Opcode}
use Rattle.pickle_ops.specs.declared.form.Form.{Form}
use Rattle.pickle_ops.specs.declared.form.Form.TheVariants as form
use Rattle.pickle_ops.specs.declared.fault.FrontFault.{FrontFault}
use Rattle.pickle_ops.specs.declared.fault.FrontFault.TheVariants as fault
use Rattle.pickle_ops.specs.Shape.{is_newline, is_negative, is_quoted, is_decimal, text_of, IsLine, IsArg, value_fault}
use Rattle.pickle_ops.specs.Table.{code_of, form_of, opcode_of}
use Rattle.pickle_ops.specs.Spelling.{Operation, Front, Ended, Unknown, Cut, Whole, IsFront, front_fault, HasFault, Reads}
use Rattle.pickle_ops.specs.Front.{front_of}
use Rattle.pickle_ops.proofs.Fronts.{one_front}
use Rattle.pickle_ops.proofs.TableLemmas.{opcode_of-code, code-opcode_of}
use Rattle.pickle_lenient.specs.declared.lenient.LenientOp.{LenientOp}
use Rattle.pickle_lenient.specs.declared.fault.NotTaken.{NotTaken}
use Rattle.pickle_lenient.specs.declared.fault.NotTaken.TheVariants as stop
use Rattle.pickle_lenient.specs.Key.{key_of}
use Rattle.pickle_lenient.specs.Reading.{IsLenient, IsNotLenient, ends_at}
use Rattle.pickle_lenient.specs.Lenient.{lenient, lenient_at, faulty, odd, odd_so, keyed_by}
use Rattle.pickle_lenient.specs.Stream.{ends_in}
use Rattle.pickle_lenient.proofs.Lenients.{at_front, no_front}

-- ---- opcodes by their codes

pub code_is : (code : ℕ) (r : Option Opcode) → MatchOption r ((o : Opcode) → code_of o ≢ code) (λ o. code_of o ≡ code) → r ≡ opcode_of code
code_is code None none = go (opcode_of code) refl
  where
    go : (r : Option Opcode) → opcode_of code ≡ r → None ≡ r
    go None e = refl
    go (Some o) e = absurd (none o (code-opcode_of code o e))
code_is code (Some o) e = rw (← e) (sym (opcode_of-code o))

-- ---- faults of values

-- a value that is no good is a line's
bad_line : (f : Form) (arg : List ℕ) → value_fault f arg ≡ Some fault.BadArgument → IsArg f arg → IsLine arg
bad_line form.Line arg e i = i
bad_line form.Quoted arg e i = i
bad_line form.Decimal arg e i = i
bad_line form.String4 arg e i = elim (cases_Bool (is_negative arg)) [
  | inl hit ↦ let f : Some fault.NegativeLength ≡ Some fault.BadArgument = rw hit at e in cc
  | inr miss ↦ let f : None ≡ Some fault.BadArgument = rw miss at e in cc
]
bad_line form.Empty arg e i = let f : None ≡ Some fault.BadArgument = e in cc
bad_line form.Uint1 arg e i = let f : None ≡ Some fault.BadArgument = e in cc
bad_line form.Uint2 arg e i = let f : None ≡ Some fault.BadArgument = e in cc
bad_line form.Uint4 arg e i = let f : None ≡ Some fault.BadArgument = e in cc
bad_line form.Uint8 arg e i = let f : None ≡ Some fault.BadArgument = e in cc
bad_line form.Int4 arg e i = let f : None ≡ Some fault.BadArgument = e in cc
bad_line form.Float8 arg e i = let f : None ≡ Some fault.BadArgument = e in cc
bad_line form.Two arg e i = let f : None ≡ Some fault.BadArgument = e in cc
bad_line form.Bytes1 arg e i = let f : None ≡ Some fault.BadArgument = e in cc
bad_line form.Bytes4 arg e i = let f : None ≡ Some fault.BadArgument = e in cc
bad_line form.Bytes8 arg e i = let f : None ≡ Some fault.BadArgument = e in cc

-- the fault of a value is none of bytes that end
value_ends : (f : Form) (arg : List ℕ) (g : FrontFault) → value_fault f arg ≡ Some g → ends_at g ≡ true
value_ends form.Quoted arg g e = elim (cases_Bool (is_quoted (text_of arg))) [
  | inl hit ↦ let f : None ≡ Some g = rw hit at e in cc
  | inr miss ↦ let f : Some fault.BadArgument ≡ Some g = rw miss at e in let same : fault.BadArgument ≡ g = cc in rw (← same) refl
]
value_ends form.Decimal arg g e = elim (cases_Bool (is_decimal (text_of arg))) [
  | inl hit ↦ let f : None ≡ Some g = rw hit at e in cc
  | inr miss ↦ let f : Some fault.BadArgument ≡ Some g = rw miss at e in let same : fault.BadArgument ≡ g = cc in rw (← same) refl
]
value_ends form.String4 arg g e = elim (cases_Bool (is_negative arg)) [
  | inl hit ↦ let f : Some fault.NegativeLength ≡ Some g = rw hit at e in let same : fault.NegativeLength ≡ g = cc in rw (← same) refl
  | inr miss ↦ let f : None ≡ Some g = rw miss at e in cc
]
value_ends form.Empty arg g e = let f : None ≡ Some g = e in cc
value_ends form.Uint1 arg g e = let f : None ≡ Some g = e in cc
value_ends form.Uint2 arg g e = let f : None ≡ Some g = e in cc
value_ends form.Uint4 arg g e = let f : None ≡ Some g = e in cc
value_ends form.Uint8 arg g e = let f : None ≡ Some g = e in cc
value_ends form.Int4 arg g e = let f : None ≡ Some g = e in cc
value_ends form.Float8 arg g e = let f : None ≡ Some g = e in cc
value_ends form.Line arg g e = let f : None ≡ Some g = e in cc
value_ends form.Two arg g e = let f : None ≡ Some g = e in cc
value_ends form.Bytes1 arg g e = let f : None ≡ Some g = e in cc
value_ends form.Bytes4 arg g e = let f : None ≡ Some g = e in cc
value_ends form.Bytes8 arg g e = let f : None ≡ Some g = e in cc

front_ends : (front : Front) (f : FrontFault) → front_fault front ≡ Some f → ends_at f ≡ ends_in front
front_ends Ended f e = let same : fault.Ended ≡ f = cc in rw (← same) refl
front_ends (Unknown byte) f e = let same : fault.UnknownOpcode byte ≡ f = cc in rw (← same) refl
front_ends (Cut o) f e = let same : fault.Truncated ≡ f = cc in rw (← same) refl
front_ends (Whole o arg rest) f e = value_ends (form_of o) arg f e

pub fault_ends : (bytes : List ℕ) (f : FrontFault) → HasFault bytes f → ends_at f ≡ ends_in (front_of bytes)
fault_ends bytes f h = front_ends (front_of bytes) f (no_front bytes f h)

pub op_ends : (bytes : List ℕ) (o : Operation) (n : ℕ) → Reads bytes o n → true ≡ ends_in (front_of bytes)
op_ends bytes o n r = let a = at_front bytes o n r in rw a.is refl

-- ---- lines

line_at : (text more : List ℕ) → list_any is_newline text ≡ false → position_or_len is_newline (text ++ 10 ∷ more) ≡ length text
line_at [] more h = refl
line_at (b ∷ bs) more h = elim (cases_Bool (is_newline b)) [
  | inl hit ↦ let f : true ≡ false = rw hit at h in cc
  | inr miss ↦ let g : list_any is_newline bs ≡ false = rw miss at h in rw (miss, line_at bs more g) (omega arith)
]

line_found : (text more : List ℕ) → list_any is_newline text ≡ false → position is_newline (text ++ 10 ∷ more) ≡ Some (length text)
line_found text more h =
    rw (lt-ltb (position_or_len is_newline (text ++ 10 ∷ more)) (length (text ++ 10 ∷ more)) (omega (arith, line_at text more h, length-append text (10 ∷ more)))) (ap Some (line_at text more h))

odd_line_is : (code : ℕ) (text more : List ℕ) → list_any is_newline text ≡ false
    → odd (code ∷ (text ++ 10 ∷ more)) ≡ odd_so (keyed_by code (length text + 2) (key_of text))
odd_line_is code text more h = rw (line_found text more h, take_at text (10 ∷ more) (length text) refl) refl

odd_is : (code : ℕ) (arg more : List ℕ) (l : IsLine arg) → odd (code ∷ (arg ++ more)) ≡ odd_so (keyed_by code (length l.0 + 2) (key_of l.0))
odd_is code arg more (text, none, is) = rw (is, append_assoc text (10 ∷ []) more) (odd_line_is code text more none)

-- ---- bytes behind

whole_more : (x y : List ℕ) (o : Opcode) (arg rest : List ℕ) → IsFront x (Whole o arg rest) → front_of (x ++ y) ≡ Whole o arg (rest ++ y)
whole_more x y o arg rest (e, i) =
    (one_front (x ++ y)).1 (Whole o arg (rest ++ y)) (ap (λ (s : List ℕ). s ++ y) e ∙ ap (λ (s : List ℕ). code_of o ∷ s) (append_assoc arg rest y), i)

unknown_more : (x y : List ℕ) (byte : ℕ) → IsFront x (Unknown byte) → front_of (x ++ y) ≡ Unknown byte
unknown_more x y byte (rest, e, none) = (one_front (x ++ y)).1 (Unknown byte) (rest ++ y, ap (λ (s : List ℕ). s ++ y) e, none)

-- a whole argument with this fault is the same to loaders whatever is behind it
whole_faulty : (x y : List ℕ) (o : Opcode) (arg rest : List ℕ) (f : FrontFault) → IsFront x (Whole o arg rest) → value_fault (form_of o) arg ≡ Some f
    → faulty (x ++ y) f ≡ faulty x f
whole_faulty x y o arg rest fault.BadArgument (e, i) bad =
    let l : IsLine arg = bad_line (form_of o) arg bad i in
    ap (λ (s : List ℕ). odd (s ++ y)) e ∙ ap (λ (s : List ℕ). odd (code_of o ∷ s)) (append_assoc arg rest y) ∙ odd_is (code_of o) arg (rest ++ y) l
    ∙ sym (odd_is (code_of o) arg rest l) ∙ ap odd (sym e)
whole_faulty x y o arg rest fault.Truncated is bad = let f : false ≡ true = value_ends (form_of o) arg fault.Truncated bad in cc
whole_faulty x y o arg rest fault.Ended is bad = refl
whole_faulty x y o arg rest fault.NegativeLength is bad = refl
whole_faulty x y o arg rest (fault.UnknownOpcode byte) is bad = refl

-- loaders read the same of bytes in which an opcode ends, whatever is behind them
pub lenient_more : (x y : List ℕ) → ends_in (front_of x) ≡ true → lenient (x ++ y) ≡ lenient x
unfolding lenient
lenient_more x y ends = go (front_of x) refl
  where
    value : (o : Opcode) (arg rest : List ℕ) (r : Option FrontFault) → IsFront x (Whole o arg rest) → value_fault (form_of o) arg ≡ r
        → lenient_at (x ++ y) (Whole o arg (rest ++ y)) r ≡ lenient_at x (Whole o arg rest) r
    value o arg rest None is e = refl
    value o arg rest (Some f) is e = whole_faulty x y o arg rest f is e

    go : (front : Front) → front_of x ≡ front → lenient_at (x ++ y) (front_of (x ++ y)) (front_fault (front_of (x ++ y))) ≡ lenient_at x (front_of x) (front_fault (front_of x))
    go Ended e = let f : false ≡ true = rw e at ends in cc
    go (Cut o) e = let f : false ≡ true = rw e at ends in cc
    go (Unknown byte) e =
        let is : IsFront x (Unknown byte) = rw e at (one_front x).0 in
        rw (unknown_more x y byte is, e) refl
    go (Whole o arg rest) e =
        let is : IsFront x (Whole o arg rest) = rw e at (one_front x).0 in
        rw (whole_more x y o arg rest is, e) (value o arg rest (value_fault (form_of o) arg) is refl)

-- ---- the first bytes of others

parted : (first behind : List ℕ) (n : ℕ) → (first ++ take n behind) ++ drop n behind ≡ first ++ behind
parted first behind n = append_assoc first (take n behind) (drop n behind) ∙ ap (λ (s : List ℕ). first ++ s) (take-append-drop n behind)

begin_is : (first behind some : List ℕ) (n : ℕ) → some ≡ first ++ take n behind → ends_in (front_of some) ≡ true → lenient (first ++ behind) ≡ lenient some
begin_is first behind some n is ends =
    ap lenient (sym (parted first behind n) ∙ ap (λ (s : List ℕ). s ++ drop n behind) (sym is)) ∙ lenient_more some (drop n behind) ends

begin_size : (first behind some : List ℕ) (n : ℕ) → some ≡ first ++ take n behind → length some ≤ length (first ++ behind)
begin_size first behind some n is =
    omega (arith, ap length is, ap length (parted first behind n), length-append (first ++ take n behind) (drop n behind))

pub begin_ok : (first behind some : List ℕ) (n : ℕ) (r : Result LenientOp NotTaken) → some ≡ first ++ take n behind → ends_in (front_of some) ≡ true
    → IfOk r (λ x. IsLenient some x.op x.row x.size) → IfOk r (λ x. IsLenient (first ++ behind) x.op x.row x.size)
begin_ok first behind some n (Ok x) is ends w = record { is = begin_is first behind some n is ends ∙ w.is; some = w.some; within = omega (arith, w.within, begin_size first behind some n is); far = w.far }
begin_ok first behind some n (Err x) is ends w = tt

pub begin_err : (first behind some : List ℕ) (n : ℕ) (r : Result LenientOp NotTaken) → some ≡ first ++ take n behind → ends_in (front_of some) ≡ true
    → IfErr r (IsNotLenient some) → IfErr r (IsNotLenient (first ++ behind))
begin_err first behind some n (Ok x) is ends w = tt
begin_err first behind some n (Err (stop.Fault g)) is ends w = begin_is first behind some n is ends ∙ w
begin_err first behind some n (Err stop.Memory) is ends w = tt
