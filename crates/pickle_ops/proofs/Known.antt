-- What is known to be at the front of bytes.
use Rattle.std.proofs.Common.{◌≡◌, ℕ, ◌-◌, ◌+◌, List, ◌∷◌, ◌++◌, length, take, sym, ap, ◌∙◌, arith}
use Rattle.std.proofs.Math.Seq.{take-append_seam}
use Rattle.pickle_ops.specs.declared.opcode.Opcode.{Opcode}
use Rattle.pickle_ops.specs.Spelling.{Operation, Reads}
use Rattle.pickle_ops.specs.Table.{code_of}
use Rattle.pickle_ops.proofs.TableLemmas.{one_code}

pub known_op : (bytes rest : List ℕ) (code size : ℕ) (o : Opcode) (op : Operation) → bytes ≡ code ∷ rest → code_of o ≡ code → Reads bytes op size
    → record { opcode = o; arg = take (size - 1) rest } ≡ op
known_op bytes rest code size o op e f r =
    let front : code ∷ rest ≡ code_of op.opcode ∷ op.arg ++ r.front.0 = sym e ∙ r.front.1 in
    let code_is : code ≡ code_of op.opcode = cc in
    let rest_is : rest ≡ op.arg ++ r.front.0 = cc in
    let opcode_is : o ≡ op.opcode = one_code o op.opcode (f ∙ code_is) in
    let len : size - 1 ≡ length op.arg = omega (arith, r.size) in
    let arg_is : take (size - 1) rest ≡ op.arg =
    ap (λ (n : ℕ). take n rest) len ∙ ap (λ (l : List ℕ). take (length op.arg) l) rest_is ∙ take-append_seam op.arg r.front.0 in
    ap (λ (x : Opcode). record { opcode = x; arg = take (size - 1) rest }) opcode_is ∙ ap (λ (a : List ℕ). record { opcode = op.opcode; arg = a }) arg_is
