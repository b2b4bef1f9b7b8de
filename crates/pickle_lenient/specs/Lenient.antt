-- What loaders read at the front of bytes, where an opcode is spelled otherwise than `pickletools` says.
-- Source: Lib/pickle.py, class `_Unpickler`: `load_get`, `load_put` (`int(self.readline()[:-1])`), `load_global`, `load_inst`,
-- `load_persid` (`self.readline()[:-1]`, which at the end of a file loses a byte). What more a payload or a number may be at the end of
-- a file tells nothing, since there is nothing after it. FRAME is an opcode that does nothing here.
use Rattle.std.specs.Prelude.{ℕ, ◌+◌, ◌-◌, ◌==◌, ◌||◌, if◌then◌else◌, Bool, List, [], ◌∷◌, ◌++◌, length, take, position, Option, Some, None, Result, Ok, Err}
use Rattle.std.specs.Option.{option_map}
use Rattle.pickle_ops.specs.declared.row.Row.{Row}
use Rattle.pickle_ops.specs.declared.row.Row.TheVariants as row
use Rattle.pickle_ops.specs.declared.fault.FrontFault.{FrontFault}
use Rattle.pickle_ops.specs.declared.fault.FrontFault.TheVariants as fault
use Rattle.pickle_ops.specs.Shape.{is_newline}
use Rattle.pickle_ops.specs.Row.{row_of}
use Rattle.pickle_ops.specs.Spelling.{Operation, Front, Whole, front_fault}
use Rattle.pickle_ops.specs.Front.{front_of}
use Rattle.pickle_doc.specs.DocUnit.{frame_op}
use Rattle.pickle_lenient.specs.Key.{key_of}

-- ---- a line that the end of the file cuts

-- the last byte is lost, and every line ends
abbrev pub mended : List ℕ → List ℕ
mended [] = []
mended (code ∷ rest) = code ∷ (take (length rest - 1) rest ++ 10 ∷ 10 ∷ [])

-- only these tell something of a line: GLOBAL, INST, PERSID
abbrev pub tells_line : ℕ → Bool
tells_line code = code == 99 || (code == 105 || code == 80)

-- ---- the front

-- an operation, the row as which it moves, and how many bytes it takes
pub record Lenient : Type 0 where
  pub op : Operation
  pub row : Row
  pub size : ℕ

-- GET and PUT of a key; they make no object, and so the operation is any that makes none
abbrev pub keyed_row : ℕ → ℕ → Option Row
keyed_row code key =
    if code == 103 then Some (row.Get key)
    else if code == 112 then Some (row.Put key)
    else None

abbrev pub sized : ℕ → Row → Row × ℕ
sized size r = (r, size)

abbrev pub keyed_by : ℕ → ℕ → Option ℕ → Option (Row × ℕ)
keyed_by code size None = None
keyed_by code size (Some key) = option_map (sized size) (keyed_row code key)

-- the line after the code ends before this place
abbrev pub odd_to : ℕ → List ℕ → Option ℕ → Option (Row × ℕ)
odd_to code rest None = None
odd_to code rest (Some end) = keyed_by code (end + 2) (key_of (take end rest))

abbrev pub odd_line : ℕ → List ℕ → Option (Row × ℕ)
odd_line code rest = odd_to code rest (position is_newline rest)

abbrev pub odd_so : Option (Row × ℕ) → Result Lenient FrontFault
odd_so (Some r) = Ok (record { op = frame_op 0; row = r.0; size = r.1 })
odd_so None = Err fault.BadArgument

abbrev pub odd : List ℕ → Result Lenient FrontFault
odd [] = Err fault.BadArgument
odd (code ∷ rest) = odd_so (odd_line code rest)

-- a front without a fault is an operation
abbrev pub taken_so : ℕ → Front → Result Lenient FrontFault
taken_so size (Whole o arg rest) = Ok (record { op = record { opcode = o; arg = arg }; row = row_of (record { opcode = o; arg = arg }); size = size })
taken_so size _ = Err fault.Truncated

-- the mended bytes are read, and there is nothing after them
abbrev pub mended_so : ℕ → Front → Option FrontFault → Result Lenient FrontFault
mended_so size front None = taken_so size front
mended_so size front (Some f) = Err fault.Truncated

abbrev pub cut_line : List ℕ → Result Lenient FrontFault
cut_line bytes = mended_so (length bytes) (front_of (mended bytes)) (front_fault (front_of (mended bytes)))

abbrev pub cut : List ℕ → Result Lenient FrontFault
cut [] = Err fault.Truncated
cut (code ∷ rest) = if tells_line code then cut_line (code ∷ rest) else Err fault.Truncated

-- a front with this fault
abbrev pub faulty : List ℕ → FrontFault → Result Lenient FrontFault
faulty bytes fault.BadArgument = odd bytes
faulty bytes fault.Truncated = cut bytes
faulty bytes f = Err f

abbrev pub front_size : Front → ℕ
front_size (Whole o arg rest) = length arg + 1
front_size _ = 0

abbrev pub lenient_at : List ℕ → Front → Option FrontFault → Result Lenient FrontFault
lenient_at bytes front None = taken_so (front_size front) front
lenient_at bytes front (Some f) = faulty bytes f

-- what loaders read at the front of bytes, or the fault at which they end
unfoldable pub lenient : List ℕ → Result Lenient FrontFault
lenient bytes = lenient_at bytes (front_of bytes) (front_fault (front_of bytes))
