-- The sizes that are kept of long opcodes.
use Rattle.std.proofs.Common.{◌≡◌, ℕ, zero, suc, List, [], ◌∷◌, ◌++◌, drop, Some, subst}
use Rattle.std.specs.Prelude.{slice_get}
use Rattle.pickle_ops.specs.Spelling.{Operation, Reads}
use Rattle.pickle_machine.specs.declared.again.LongOp.{LongOp}
use Rattle.pickle_machine.specs.Inside.LongOps.{IsLong, AreLong}

pub long_snoc : (bytes : List ℕ) (ls : List LongOp) (l : LongOp) → AreLong bytes ls → IsLong bytes l → AreLong bytes (ls ++ l ∷ [])
long_snoc bytes [] l h k = (k, h)
long_snoc bytes (x ∷ ls) l h k = (h.0, long_snoc bytes ls l h.1 k)

pub long_kept : (bytes : List ℕ) (ls : List LongOp) (i : ℕ) (l : LongOp) → AreLong bytes ls → slice_get ls i ≡ Some l → IsLong bytes l
long_kept bytes [] i l h e = absurd cc
long_kept bytes (x ∷ ls) zero l h e = let same : x ≡ l = cc in subst (IsLong bytes) same h.0
long_kept bytes (x ∷ ls) (suc i) l h e = long_kept bytes ls i l h.1 e

pub long_reads : (bytes : List ℕ) (l : LongOp) → IsLong bytes l → (op : Operation) × Reads (drop l.offset bytes) op l.size
long_reads bytes l k = (k.op, record { size = k.size; spelled = k.spelled; front = (k.rest, k.stands) })
