-- The one thing that is at the front of bytes, as a function, and the law that it is there and nothing else.
use Rattle.std.specs.Prelude.{◌≡◌, ℕ, List, [], ◌∷◌, take, drop, Option, Some, None}
use Rattle.pickle_ops.specs.declared.opcode.Opcode.{Opcode}
use Rattle.pickle_ops.specs.Table.{form_of, opcode_of}
use Rattle.pickle_ops.specs.Spelling.{Front, Ended, Unknown, Cut, Whole, IsFront}
use Rattle.pickle_ops.specs.Inside.Sizes.{arg_size}

abbrev pub front_behind : Opcode → List ℕ → Option ℕ → Front
front_behind o rest None = Cut o
front_behind o rest (Some n) = Whole o (take n rest) (drop n rest)

abbrev pub front_at : ℕ → List ℕ → Option Opcode → Front
front_at byte rest None = Unknown byte
front_at byte rest (Some o) = front_behind o rest (arg_size (form_of o) rest)

abbrev pub front_of : List ℕ → Front
front_of [] = Ended
front_of (byte ∷ rest) = front_at byte rest (opcode_of byte)

-- at the front of any bytes is what the function says and no other thing, and so one fault or one spelling
abbrev pub OneFront : Type 0
OneFront = (bytes : List ℕ) → IsFront bytes (front_of bytes) × ((other : Front) → IsFront bytes other → front_of bytes ≡ other)
