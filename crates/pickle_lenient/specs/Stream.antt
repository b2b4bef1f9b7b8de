-- What loaders take from the front of bytes that are read as a stream, where frames are ignored, and where they are buffered.
-- Ignored: the bytes are read one after another, and FRAME does nothing.
-- Source: Lib/pickle.py, class `_Unframer`: it never changes what is read, but only ends some readings.
-- Buffered: the first `left` bytes are in a buffer. A read of n bytes (an opcode's code, an argument of fixed length, the bytes of a
-- length, those that it counts) is made in the buffer if it has so many; else what is left of it is lost, and the n bytes are those
-- behind it. A line ends in the buffer if a newline is there; else what is left is lost, and the line is read behind it. Only the bytes
-- of a byte string (BINBYTES, BYTEARRAY8 and their like) are read from the buffer and go on behind it. After FRAME so many bytes as it
-- says are in the buffer: those that are there, if they are enough; else they are lost, and the buffer is filled anew, at the end of the
-- file with what there is (Lib/pickle.py, `_Unframer.load_frame`). STOP loses what is left, since the next load has a buffer of its own
-- (`pickle.load`; in Python each `load`). Held: the same, but STOP leaves the buffer, as where one `Unpickler` in C loads again.
-- Source: Modules/_pickle.c: `_Unpickler_ReadImpl`, `_Unpickler_ReadInto`, `_Unpickler_Readline`, `_Unpickler_ReadFromFile`,
-- `load_frame`, of a file without `peek`.
use Rattle.std.specs.Prelude.{◌≡◌, ℕ, ◌+◌, ◌-◌, ◌<◌, ◌≤◌, ◌&&◌, ◌||◌, nat_lt, nat_le, if◌then◌else◌, Bool, true, false, List, [], ◌∷◌, ◌++◌, length, take, drop, position, Option, Some, None, Result, Ok, Err, ⊤}
use Rattle.pickle_ops.specs.declared.opcode.Opcode.{Opcode}
use Rattle.pickle_ops.specs.declared.opcode.Opcode.TheVariants as op
use Rattle.pickle_ops.specs.declared.form.Form.{Form}
use Rattle.pickle_ops.specs.declared.form.Form.TheVariants as form
use Rattle.pickle_ops.specs.declared.fault.FrontFault.{FrontFault}
use Rattle.pickle_ops.specs.Shape.{is_newline}
use Rattle.pickle_ops.specs.Table.{form_of, opcode_of}
use Rattle.pickle_ops.specs.Spelling.{Front, Unknown, Whole}
use Rattle.pickle_ops.specs.Front.{front_of}
use Rattle.pickle_ops.specs.Inside.Sizes.{length_bytes}
use Rattle.pickle_doc.specs.DocUnit.{frame_op, is_frame, is_stop, frame_number}
use Rattle.pickle_lenient.specs.Row.{is_far}
use Rattle.pickle_lenient.specs.declared.taken.Frames.{Frames}
use Rattle.pickle_lenient.specs.declared.taken.Frames.TheVariants as frames
use Rattle.pickle_lenient.specs.declared.taken.Taken.{Taken}
use Rattle.pickle_lenient.specs.declared.fault.NotTaken.{NotTaken}
use Rattle.pickle_lenient.specs.declared.fault.NotTaken.TheVariants as stop
use Rattle.pickle_lenient.specs.Lenient.{Lenient, lenient}

-- ---- what is read in the buffer, where an opcode does not end there

-- a line, with its newline
abbrev pub line_read : Option ℕ → ℕ
line_read None = 0
line_read (Some end) = end + 1

-- the bytes of a length, if all are there
abbrev pub width_read : ℕ → ℕ → ℕ
width_read width size = if nat_le width size then width else 0

-- of an argument: the first of two lines, or the bytes of a length
abbrev pub form_read : Form → List ℕ → ℕ
form_read form.Two rest = line_read (position is_newline rest)
form_read f rest = width_read (length_bytes f) (length rest)

-- byte strings, whose bytes go on behind the buffer
abbrev pub is_filled : Opcode → Bool
is_filled op.ShortBinBytes = true
is_filled op.BinBytes = true
is_filled op.BinBytes8 = true
is_filled op.ByteArray8 = true
is_filled _ = false

abbrev pub arg_read : Opcode → List ℕ → ℕ
arg_read o rest = if is_filled o && nat_le (length_bytes (form_of o)) (length rest) then length rest else form_read (form_of o) rest

-- of an opcode of this code, if it is one
abbrev pub code_read : List ℕ → Option Opcode → ℕ
code_read rest None = 0
code_read rest (Some o) = 1 + arg_read o rest

abbrev pub first_read : List ℕ → ℕ
first_read [] = 0
first_read (code ∷ rest) = code_read rest (opcode_of code)

-- what is read of the buffer, and what is behind it
abbrev pub joined : ℕ → List ℕ → List ℕ
joined left bytes = take (first_read (take left bytes)) (take left bytes) ++ drop left bytes

-- an opcode ends in these bytes, or what is no opcode is there
abbrev pub ends_in : Front → Bool
ends_in (Whole o arg rest) = true
ends_in (Unknown byte) = true
ends_in _ = false

-- ---- the buffer after an opcode

-- what is left of the buffer is lost, and this many bytes are in it
abbrev pub refilled : ℕ → Taken → Taken
refilled left t = record { op = t.op; row = t.row; size = t.size + t.left; left = left; lost = t.lost || nat_lt 0 t.left }

-- after FRAME of this number
abbrev pub framed : List ℕ → Taken → ℕ → Taken
framed bytes t number =
    if nat_le number t.left then t
    else if nat_le number (length bytes - (t.size + t.left)) then refilled number t
    else refilled (length bytes - (t.size + t.left)) t

-- `ends` says whether STOP loses what is left
abbrev pub settled : Bool → List ℕ → Taken → Taken
settled ends bytes t =
    if ends && is_stop t.op.opcode then refilled 0 t
    else if is_frame t.op.opcode then framed bytes t (frame_number t.op)
    else t

-- ---- what is taken

-- bytes are lost in front of it, and this many in the buffer were not read
abbrev pub taken_as : ℕ → ℕ → Lenient → Taken
taken_as gap left l = record { op = l.op; row = l.row; size = l.size + gap; left = left; lost = nat_lt 0 gap }

abbrev pub plain : Result Lenient FrontFault → Result Taken FrontFault
plain (Ok l) = Ok (taken_as 0 0 l)
plain (Err f) = Err f

-- it is in the buffer, which has so many bytes
abbrev pub within : Bool → List ℕ → ℕ → Result Lenient FrontFault → Result Taken FrontFault
within ends bytes size (Ok l) = Ok (settled ends bytes (taken_as 0 (size - l.size) l))
within ends bytes size (Err f) = Err f

-- it goes on behind the buffer, of which this many bytes are lost
abbrev pub across : Bool → List ℕ → ℕ → Result Lenient FrontFault → Result Taken FrontFault
across ends bytes gap (Ok l) = Ok (settled ends bytes (taken_as gap 0 l))
across ends bytes gap (Err f) = Err f

abbrev pub buffered : Bool → ℕ → List ℕ → Result Taken FrontFault
buffered ends left bytes =
    if ends_in (front_of (take left bytes)) then within ends bytes (length (take left bytes)) (lenient (take left bytes))
    else across ends bytes (length (take left bytes) - first_read (take left bytes)) (lenient (joined left bytes))

-- what loaders take from the front of bytes, the first `left` of which are in the buffer, or the fault at which they end
unfoldable pub taken : Frames → ℕ → List ℕ → Result Taken FrontFault
taken frames.Ignored left bytes = plain (lenient bytes)
taken frames.Buffered left bytes = buffered true left bytes
taken frames.Held left bytes = buffered false left bytes

-- ---- what the reader answers

-- this is taken: some bytes, and no more than there are with what is left of the buffer
pub record IsAnswer (bytes : List ℕ) (want : Result Taken FrontFault) (t : Taken) : Type 0 where
  pub is : want ≡ Ok t
  pub some : 0 < t.size
  pub within : t.size + t.left ≤ length bytes
  pub far : is_far t.row ≡ true → t.op ≡ frame_op 0

-- nothing is, by this fault, or memory ran out
abbrev pub IsNoAnswer : Result Taken FrontFault → NotTaken → Type 0
IsNoAnswer want (stop.Fault f) = want ≡ Err f
IsNoAnswer want stop.Memory = ⊤

abbrev pub IsTaken : Frames → ℕ → List ℕ → Taken → Type 0
IsTaken f left bytes = IsAnswer bytes (taken f left bytes)

abbrev pub IsNotTaken : Frames → ℕ → List ℕ → NotTaken → Type 0
IsNotTaken f left bytes = IsNoAnswer (taken f left bytes)
