-- The sizes that are kept of long opcodes.
use Rattle.std.specs.Prelude.{◌≡◌, ℕ, List, [], ◌∷◌, ◌++◌, drop, ⊤}
use Rattle.pickle_ops.specs.Spelling.{Operation, IsSpelled, spelling, size_of}
use Rattle.pickle_machine.specs.declared.again.LongOp.{LongOp}

-- an opcode of this size stands at this offset
pub record IsLong (bytes : List ℕ) (l : LongOp) : Type 0 where
  pub op : Operation
  pub rest : List ℕ
  pub spelled : IsSpelled op
  pub stands : drop l.offset bytes ≡ spelling op ++ rest
  pub size : l.size ≡ size_of op

abbrev pub AreLong : List ℕ → List LongOp → Type 0
AreLong bytes [] = ⊤
AreLong bytes (l ∷ ls) = IsLong bytes l × AreLong bytes ls
