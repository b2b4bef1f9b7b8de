-- What is at the front of bytes, as a function of them.
use Rattle.std.proofs.Common.{◌≡◌, ℕ, ◌≤◌, Bool, true, false, sym, List, [], ◌∷◌, length, Some, None, Ok, Err, refl, ap, ◌∙◌, arith, length-append}
use Rattle.std.specs.Prelude.{Result, IfOk, IfErr}
use Rattle.pickle_ops.specs.declared.fault.FrontFault.{FrontFault}
use Rattle.pickle_ops.specs.declared.fault.FrontFault.TheVariants as fault
use Rattle.pickle_ops.specs.Row.{row_of}
use Rattle.pickle_ops.specs.Spelling.{Operation, spelling, size_of, Whole, front_fault, HasFault, Reads}
use Rattle.pickle_ops.specs.Front.{front_of}
use Rattle.pickle_ops.proofs.Fronts.{one_front}
use Rattle.pickle_lenient.specs.declared.lenient.LenientOp.{LenientOp}
use Rattle.pickle_lenient.specs.declared.fault.NotTaken.{NotTaken}
use Rattle.pickle_lenient.specs.declared.fault.NotTaken.TheVariants as stop
use Rattle.pickle_lenient.specs.Reading.{IsLenient, IsNotLenient, IsFaulty, IsNotFaulty}
use Rattle.pickle_doc.specs.DocUnit.{frame_op}
use Rattle.pickle_lenient.specs.Row.{is_far}
use Rattle.pickle_lenient.specs.Lenient.{lenient, faulty, mended, cut_line}

-- an operation at the front
pub record AtFront (bytes : List ℕ) (o : Operation) : Type 0 where
  pub rest : List ℕ
  pub is : front_of bytes ≡ Whole o.opcode o.arg rest
  pub good : front_fault (front_of bytes) ≡ None

pub at_front : (bytes : List ℕ) (o : Operation) (n : ℕ) → Reads bytes o n → AtFront bytes o
at_front bytes o n r =
    let is : front_of bytes ≡ Whole o.opcode o.arg r.front.0 = (one_front bytes).1 (Whole o.opcode o.arg r.front.0) (r.front.1, r.spelled.arg) in
    record { rest = r.front.0; is = is; good = rw is r.spelled.value }

pub no_front : (bytes : List ℕ) (f : FrontFault) → HasFault bytes f → front_fault (front_of bytes) ≡ Some f
no_front bytes f h = ap front_fault ((one_front bytes).1 h.0 h.1) ∙ h.2

-- ---- what loaders read

pub read_so : (bytes : List ℕ) (o : Operation) (n : ℕ) → Reads bytes o n → lenient bytes ≡ Ok (record { op = o; row = row_of o; size = size_of o })
unfolding lenient
read_so bytes o n r = let a = at_front bytes o n r in rw (a.good, a.is) refl

pub faulty_so : (bytes : List ℕ) (f : FrontFault) → HasFault bytes f → lenient bytes ≡ faulty bytes f
unfolding lenient
faulty_so bytes f h = rw (no_front bytes f h) refl

pub mended_reads : (bytes : List ℕ) (o : Operation) (n : ℕ) → Reads (mended bytes) o n → cut_line bytes ≡ Ok (record { op = o; row = row_of o; size = length bytes })
mended_reads bytes o n r = let a = at_front (mended bytes) o n r in rw (a.good, a.is) refl

pub mended_faults : (bytes : List ℕ) (f : FrontFault) → HasFault (mended bytes) f → cut_line bytes ≡ Err fault.Truncated
mended_faults bytes f h = rw (no_front (mended bytes) f h) refl

-- ---- sizes

pub reads_within : (bytes : List ℕ) (o : Operation) (n : ℕ) → Reads bytes o n → size_of o ≤ length bytes
reads_within bytes o n r = omega (arith, ap length r.front.1, length-append (spelling o) r.front.0)

-- ---- answers

pub lenient_none : lenient [] ≡ Err fault.Ended
unfolding lenient
lenient_none = refl

not_far : (b : Bool) (X : Type 0) → b ≡ false → b ≡ true → X
not_far b X e f = let two : false ≡ true = sym e ∙ f in absurd cc

pub found_so : (bytes : List ℕ) (o : Operation) → Reads bytes o (size_of o) → is_far (row_of o) ≡ false → IsLenient bytes o (row_of o) (size_of o)
found_so bytes o r near = record { is = read_so bytes o (size_of o) r; some = omega arith; within = reads_within bytes o (size_of o) r; far = not_far (is_far (row_of o)) (o ≡ frame_op 0) near }

pub faulty_ok : (bytes all : List ℕ) (f : FrontFault) (r : Result LenientOp NotTaken) → HasFault bytes f → bytes ≡ all
    → IfOk r (λ x. IsFaulty all f x.op x.row x.size) → IfOk r (λ x. IsLenient bytes x.op x.row x.size)
faulty_ok bytes all f (Ok x) h e w = record { is = faulty_so bytes f h ∙ ap (λ (b : List ℕ). faulty b f) e ∙ w.is; some = w.some; within = omega (arith, w.within, ap length e); far = w.far }
faulty_ok bytes all f (Err x) h e w = tt

pub faulty_err : (bytes all : List ℕ) (f : FrontFault) (r : Result LenientOp NotTaken) → HasFault bytes f → bytes ≡ all
    → IfErr r (IsNotFaulty all f) → IfErr r (IsNotLenient bytes)
faulty_err bytes all f (Ok x) h e w = tt
faulty_err bytes all f (Err (stop.Fault g)) h e w = faulty_so bytes f h ∙ ap (λ (b : List ℕ). faulty b f) e ∙ w
faulty_err bytes all f (Err stop.Memory) h e w = tt

pub lenient_short : (bytes : List ℕ) → length bytes ≡ 0 → lenient bytes ≡ Err fault.Ended
lenient_short [] e = lenient_none
lenient_short (b ∷ bs) e = absurd (omega (arith, e))
