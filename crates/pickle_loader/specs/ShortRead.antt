-- What the unpickler in Python does with a raw pipe or a raw socket (`buffering=0`), whose `read(n)` answers what has come so far.
-- Source: Lib/pickle.py, class _Unframer, and what each `load_..` does with the answer of `read` (CPython 3.11): `struct.unpack` and `[0]` raise
-- at too few bytes; a text, a byte string, the bytes of a LONG1 or LONG4, and a frame are what came, and what comes later is read as opcodes.
-- `readline` of a raw file reads byte by byte, and so answers a whole line. Of a file that answers all that it has, `Reader` is the definition.
-- Modules/_pickle.c raises at a short answer.
use Rattle.std.specs.Prelude.{◌≡◌, ℕ, zero, suc, ◌+◌, ◌^◌, ◌<◌, ◌≤◌, ◌||◌, Bool, true, false, List, [], ◌∷◌, ◌++◌, length, take, drop, nat_le, nat_lt, if◌then◌else◌, Option, Some, None}
use Rattle.byteorder.specs.Endian.{little_number}
use Rattle.pickle_ops.specs.declared.opcode.Opcode.{Opcode}
use Rattle.pickle_ops.specs.declared.opcode.Opcode.TheVariants as op
use Rattle.pickle_ops.specs.declared.form.Form.{Form}
use Rattle.pickle_ops.specs.declared.form.Form.TheVariants as form
use Rattle.pickle_ops.specs.Table.{form_of, opcode_of}
use Rattle.pickle_ops.specs.Shape.{is_negative}
use Rattle.pickle_ops.specs.Spelling.{Operation}
use Rattle.pickle_lenient.specs.declared.taken.Frames.{Frames}
use Rattle.pickle_calls.specs.Manner.{Manner}
use Rattle.pickle_text.specs.Output.{Output}
use Rattle.pickle_further.specs.declared.way.Pickles.{Pickles}
use Rattle.pickle_further.specs.CallsText.{IsCallsText}
use Rattle.pickle_loader.specs.Environment.{Value, Act, World}
use Rattle.pickle_loader.specs.Dispatch.{Loaded, Going, Failed, acts_of, new_unpickler}
use Rattle.pickle_loader.specs.Reader as whole
use Rattle.pickle_loader.specs.Reader.{Reader, Piece, from_file, from_frame, first_byte}
use Rattle.pickle_loader.specs.Listed.{listed_of}
use Rattle.pickle_loader.specs.Onward.{reads_on}
use Rattle.pickle_loader.specs.ByFrames.{load_once, load_framed, tells_frames, IsAct, HasLine}

-- ---- reads

-- self.current_frame, what is left of it; the bytes that are still to come; how often the file was asked for bytes; and whether no opcode is made
-- of a short answer yet
pub record Pipe : Type 0 where
  pub frame : Option (List ℕ)
  pub file : List ℕ
  pub turn : ℕ
  pub all_came : Bool

abbrev pub plain : Pipe → Reader
plain r = record { frame = r.frame; file = r.file }

-- what was read, and the pipe after it
pub record Part : Type 0 where
  pub bytes : List ℕ
  pub after : Pipe

-- as `Reader` reads it
abbrev pub as_whole : Pipe → Option Piece → Option Part
as_whole r None = None
as_whole r (Some p) = Some (record { bytes = p.bytes; after = record r { frame = p.after.frame; file = p.after.file } })

-- fewer bytes than were asked for, and others are to come
abbrev pub short : ℕ → Pipe → Option Part
short n r = if nat_lt n (length r.file) then Some (record { bytes = take n r.file; after = record { frame = None; file = drop n r.file; turn = r.turn + 1; all_came = false } }) else None

-- self.file_read(n): at a turn so many bytes and one more have come
abbrev pub file_read : (ℕ → ℕ) → ℕ → Pipe → Option Part
file_read comes n r = if nat_le n (comes r.turn + 1) then as_whole (record r { turn = r.turn + 1 }) (from_file n r.file) else short (comes r.turn + 1) r

-- self.read(n): a frame at its end is left where something is asked for
abbrev pub read_in : (ℕ → ℕ) → ℕ → Option (List ℕ) → Pipe → Option Part
read_in comes n None r = file_read comes n r
read_in comes zero (Some frame) r = as_whole r (from_frame zero frame r.file)
read_in comes (suc n) (Some []) r = file_read comes (suc n) r
read_in comes (suc n) (Some (b ∷ frame)) r = as_whole r (from_frame (suc n) (b ∷ frame) r.file)

abbrev pub read : (ℕ → ℕ) → ℕ → Pipe → Option Part
read comes n r = read_in comes n r.frame r

-- struct.unpack(.., self.read(n)), self.read(1)[0]: it raises where fewer bytes came
abbrev pub if_all : ℕ → Option Part → Option Part
if_all n None = None
if_all n (Some p) = if nat_le n (length p.bytes) then Some p else None

abbrev pub unpack : (ℕ → ℕ) → ℕ → Pipe → Option Part
unpack comes n r = if_all n (read comes n r)

-- self.readline()
abbrev pub read_line : Pipe → Option Part
read_line r = as_whole r (whole.read_line (plain r))

-- ---- arguments

abbrev pub joined : List ℕ → Option Part → Option Part
joined front None = None
joined front (Some p) = Some (record p { bytes = front ++ p.bytes })

abbrev pub and_then : Option Part → (List ℕ → Pipe → Option Part) → Option Part
and_then None more = None
and_then (Some p) more = joined p.bytes (more p.bytes p.after)

-- a length, and what came of so many bytes
abbrev pub read_counted : (ℕ → ℕ) → ℕ → Pipe → Option Part
read_counted comes width r = and_then (unpack comes width r) (λ size q. read comes (little_number width size) q)

-- "negative byte count"
abbrev pub read_signed : (ℕ → ℕ) → Pipe → Option Part
read_signed comes r = and_then (unpack comes 4 r) (λ size q. if is_negative size then None else read comes (little_number 4 size) q)

-- what a method reads, by the form of its argument
abbrev pub read_arg : (ℕ → ℕ) → Form → Pipe → Option Part
read_arg comes form.Empty r = Some (record { bytes = []; after = r })
read_arg comes form.Uint1 r = unpack comes 1 r
read_arg comes form.Uint2 r = unpack comes 2 r
read_arg comes form.Uint4 r = unpack comes 4 r
read_arg comes form.Uint8 r = unpack comes 8 r
read_arg comes form.Int4 r = unpack comes 4 r
read_arg comes form.Float8 r = unpack comes 8 r
read_arg comes form.Line r = read_line r
read_arg comes form.Quoted r = read_line r
read_arg comes form.Decimal r = read_line r
read_arg comes form.Two r = and_then (read_line r) (λ first q. read_line q)
read_arg comes form.Bytes1 r = read_counted comes 1 r
read_arg comes form.Bytes4 r = read_counted comes 4 r
read_arg comes form.Bytes8 r = read_counted comes 8 r
read_arg comes form.String4 r = read_signed comes r

-- ---- opcodes

-- self.current_frame = io.BytesIO(self.file_read(frame_size)), of all that there are, or of what came
abbrev pub frame_as_whole : Pipe → Option Reader → Option Pipe
frame_as_whole r None = None
frame_as_whole r (Some q) = Some (record r { frame = q.frame; file = q.file; turn = r.turn + 1 })

abbrev pub short_frame : ℕ → Pipe → Pipe
short_frame n r = record { frame = Some (take n r.file); file = drop n r.file; turn = r.turn + 1; all_came = false }

abbrev pub load_frame_in : (ℕ → ℕ) → Option (List ℕ) → ℕ → Pipe → Option Pipe
load_frame_in comes (Some (b ∷ frame)) size r = None
load_frame_in comes frame size r =
    if nat_le size (comes r.turn + 1) || nat_le (length r.file) (comes r.turn + 1) then frame_as_whole r (whole.load_frame_in frame size r.file)
    else Some (short_frame (comes r.turn + 1) r)

-- what an opcode does to the pipe, as `Reader` says
abbrev pub behind : (ℕ → ℕ) → Opcode → List ℕ → Pipe → Option Pipe
behind comes op.Frame arg r = load_frame_in comes r.frame (little_number 8 arg) r
behind comes op.Stop arg r = Some (record r { frame = None })
behind comes _ arg r = Some r

pub data PFetched : Type 0 where
  PFetch : (op : Operation) (after : Pipe) → PFetched
  PNoFetch : PFetched

abbrev pub fetched : Operation → Option Pipe → PFetched
fetched o None = PNoFetch
fetched o (Some r) = PFetch o r

abbrev pub with_arg : (ℕ → ℕ) → Opcode → Option Part → PFetched
with_arg comes o None = PNoFetch
with_arg comes o (Some p) = fetched (record { opcode = o; arg = p.bytes }) (behind comes o p.bytes p.after)

abbrev pub with_code : (ℕ → ℕ) → Option Opcode → Pipe → PFetched
with_code comes None r = PNoFetch
with_code comes (Some o) r = with_arg comes o (read_arg comes (form_of o) r)

abbrev pub with_key : (ℕ → ℕ) → Option Part → PFetched
with_key comes None = PNoFetch
with_key comes (Some p) = with_code comes (opcode_of (first_byte p.bytes)) p.after

abbrev pub fetch : (ℕ → ℕ) → Pipe → PFetched
fetch comes r = with_key comes (unpack comes 1 r)

-- ---- a load

pub record PLoading : Type 0 where
  pub now : Loaded
  pub pipe : Pipe

abbrev pub load_found : World → Pickles → PLoading → PFetched → PLoading
load_found w p x (PFetch o after) = record { now = load_once w p o x.now; pipe = after }
load_found w p x PNoFetch = record x { now = Failed (acts_of x.now) }

abbrev pub load_next : World → (ℕ → ℕ) → Pickles → PLoading → PLoading
load_next w comes p x = if reads_on p x.now then load_found w p x (fetch comes x.pipe) else x

-- after n opcodes, at most
unfoldable pub load_pipe : World → (ℕ → ℕ) → Pickles → List ℕ → ℕ → PLoading
load_pipe w comes p bytes zero = record { now = Going (new_unpickler []); pipe = record { frame = None; file = bytes; turn = 0; all_came = true } }
load_pipe w comes p bytes (suc n) = load_next w comes p (load_pipe w comes p bytes n)

-- ---- laws

-- in every environment, for any bytes, however many of them come at each turn: as long as no opcode is made of a short answer, the unpickler did
-- just what it does with a file of these bytes, after so many opcodes or fewer. Of what it does after that nothing is said here
abbrev pub PipeIsFile : Type 0
PipeIsFile = (w : World) (comes : ℕ → ℕ) (p : Pickles) (bytes : List ℕ) (n : ℕ) → (load_pipe w comes p bytes n).pipe.all_came ≡ true
    → (m : ℕ) × (m ≤ n) × (acts_of (load_pipe w comes p bytes n).now ≡ acts_of (load_framed w p bytes m).now)

-- and so each act that is listed of it up to there has its line in the text of `calls`
abbrev pub EachActOfAPipeHasItsLine : Type 0
EachActOfAPipeHasItsLine = (how : Manner) (w : World) (comes : ℕ → ℕ) (p : Pickles) (f : Frames) (bytes : List ℕ) (o : Output) → IsCallsText how p bytes o
    → length bytes < 2 ^ 64 → tells_frames p f ≡ true
    → (V : ℕ → Value)
    × ((n : ℕ) (a : Act) → (load_pipe w comes p bytes n).pipe.all_came ≡ true → IsAct a (listed_of (acts_of (load_pipe w comes p bytes n).now)) → HasLine how V p f bytes o a)
