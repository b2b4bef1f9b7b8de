-- How the unpickler in C reads from a file: an input buffer with bytes that the file gave, or that it only showed; and what it does with the
-- opcodes that it reads so.
-- Source: Modules/_pickle.c (CPython 3.11): `_Unpickler_SetStringInput`, `_Unpickler_SkipConsumed`, `_Unpickler_ReadFromFile`,
-- `_Unpickler_Read`, `_Unpickler_ReadImpl`, `_Unpickler_ReadInto`, `_Unpickler_Readline`, `load_frame`, `load`, and what each `load_..` reads.
-- The file: `read(n)` and `readinto` give n bytes, and fewer only at the end of the file; `readline()` gives a line; `peek` shows bytes that
-- stay where they are, as many as it likes. So are `open(f, "rb")`, gzip, members of zip files, `makefile("rb")` of a socket, and BytesIO.
-- A file without `peek` is one that shows nothing, and one that the unpickler does not ask (for PREFETCH bytes or more) shows nothing then.
-- Bytes (`pickle.loads`) are read as a file that shows all. Where a read comes short it raises.
use Rattle.std.specs.Prelude.{◌≡◌, ℕ, zero, suc, ◌+◌, ◌-◌, ◌^◌, ◌<◌, ◌≤◌, Bool, true, false, List, [], ◌∷◌, ◌++◌, length, take, drop, nat_le, if◌then◌else◌, Option, Some, None}
use Rattle.byteorder.specs.Endian.{little_number}
use Rattle.pickle_ops.specs.declared.opcode.Opcode.{Opcode}
use Rattle.pickle_ops.specs.declared.opcode.Opcode.TheVariants as op
use Rattle.pickle_ops.specs.declared.form.Form.{Form}
use Rattle.pickle_ops.specs.declared.form.Form.TheVariants as form
use Rattle.pickle_ops.specs.Table.{form_of, opcode_of}
use Rattle.pickle_ops.specs.Shape.{is_negative}
use Rattle.pickle_ops.specs.Spelling.{Operation}
use Rattle.pickle_doc.specs.Document.{Contents, ReadsAs}
use Rattle.pickle_doc.specs.Place.{ops_of}
use Rattle.pickle_machine.specs.State.{State, start}
use Rattle.pickle_machine.specs.Run.{run}
use Rattle.pickle_lenient.specs.Stream.{is_filled}
use Rattle.pickle_calls.specs.Manner.{Manner}
use Rattle.pickle_text.specs.Output.{Output}
use Rattle.pickle_calls.specs.Calls.{calls_end, calls}
use Rattle.pickle_further.specs.declared.way.Pickles.{Pickles}
use Rattle.pickle_further.specs.declared.way.Pickles.TheVariants as pickles
use Rattle.pickle_further.specs.Parts.{ignoring, are_many, standing_first}
use Rattle.pickle_further.specs.CallsText.{IsCallsText}
use Rattle.pickle_loader.specs.Environment.{Value, Act, World}
use Rattle.pickle_loader.specs.Dispatch.{acts_of}
use Rattle.pickle_loader.specs.Reader.{Line, line_at, first_byte}
use Rattle.pickle_loader.specs.Listed.{listed_of, listed}
use Rattle.pickle_loader.specs.Laws.{Holds, AreListedOf}
use Rattle.pickle_loader.specs.Onward.{reads_on, AreListedFrom, begins_anew}
use Rattle.pickle_loader.specs.CUnpickler.{CUnpickler, CStep, CRaised, dispatch, seen}
use Rattle.pickle_loader.specs.CLoad.{CLoaded, CGoing, CEnded, CFailed, c_loaded, seen_loaded, c_new, c_again}

-- ---- the input

-- self->input_buffer, self->next_read_idx and self->prefetched_idx; the bytes from where the file stands; how often the file was asked
pub record Input : Type 0 where
  pub buffer : List ℕ
  pub next : ℕ
  pub prefetched : ℕ
  pub file : List ℕ
  pub turn : ℕ

-- self->input_len - self->next_read_idx
abbrev pub in_buffer : Input → ℕ
in_buffer i = length i.buffer - i.next

-- _Unpickler_SkipConsumed: what was read of bytes that the file only showed is now read from the file
abbrev pub skip_consumed : Input → Input
skip_consumed i = if nat_le i.next i.prefetched then i else record i { prefetched = i.next; file = drop (i.next - i.prefetched) i.file }

-- _Unpickler_ReadFromFile: `peek` shows so many bytes, which the file still has; `read(n)` gives n
abbrev pub shown : ℕ → Input → Input
shown count i = record i { buffer = take count i.file; next = 0; prefetched = 0 }

abbrev pub given : ℕ → Input → Input
given n i = record i { buffer = take n i.file; next = 0; prefetched = length (take n i.file); file = drop n i.file }

-- what is shown, where that is enough
abbrev pub filled : ℕ → ℕ → Input → Input
filled count n i = if nat_le n (length (take count i.file)) then shown count i else given n i

-- the file shows so many bytes at each of its turns
abbrev pub read_from_file : (ℕ → ℕ) → ℕ → Input → Input
read_from_file shows n i = record (filled (shows i.turn) n (skip_consumed i)) { turn = i.turn + 1 }

-- ---- reads

-- what was read, and the input after it
pub record Chunk : Type 0 where
  pub bytes : List ℕ
  pub after : Input

abbrev pub next_bytes : ℕ → Input → Chunk
next_bytes n i = record { bytes = take n (drop i.next i.buffer); after = record i { next = i.next + n } }

abbrev pub read_in : ℕ → Input → Option Chunk
read_in n i = if nat_le n (in_buffer i) then Some (next_bytes n i) else None

-- _Unpickler_Read: from the buffer; where that has too few bytes it is filled anew. "pickle data was truncated"
abbrev pub read : (ℕ → ℕ) → ℕ → Input → Option Chunk
read shows n i = if nat_le n (in_buffer i) then Some (next_bytes n i) else read_in n (read_from_file shows n i)

-- _Unpickler_ReadInto: what the buffer has, and the others from the file
abbrev pub rest_into : List ℕ → ℕ → Input → Option Chunk
rest_into front n i = if nat_le n (length i.file) then Some (record { bytes = front ++ take n i.file; after = record i { file = drop n i.file } }) else None

abbrev pub read_into : ℕ → Input → Option Chunk
read_into n i =
    if nat_le n (in_buffer i) then Some (next_bytes n i)
    else rest_into (drop i.next i.buffer) (n - in_buffer i) (skip_consumed (record i { next = length i.buffer }))

-- _Unpickler_Readline: a line of the buffer; where that has no newline, one that the file gives
abbrev pub line_given : Option Line → Input → Option Chunk
line_given None i = None
line_given (Some l) i =
    Some (record { bytes = l.text ++ 10 ∷ []; after = record i { buffer = l.text ++ 10 ∷ []; next = length (l.text ++ 10 ∷ []); prefetched = length (l.text ++ 10 ∷ []); file = l.rest } })

abbrev pub line_from_file : Input → Option Chunk
line_from_file i = line_given (line_at i.file) i

abbrev pub line_in : Option Line → Input → Option Chunk
line_in None i = line_from_file (skip_consumed i)
line_in (Some l) i = Some (record { bytes = l.text ++ 10 ∷ []; after = record i { next = i.next + length (l.text ++ 10 ∷ []) } })

abbrev pub read_line : Input → Option Chunk
read_line i = line_in (line_at (drop i.next i.buffer)) i

-- ---- arguments

abbrev pub joined : List ℕ → Option Chunk → Option Chunk
joined front None = None
joined front (Some c) = Some (record c { bytes = front ++ c.bytes })

abbrev pub and_then : Option Chunk → (List ℕ → Input → Option Chunk) → Option Chunk
and_then None more = None
and_then (Some c) more = joined c.bytes (more c.bytes c.after)

-- load_counted_long: "LONG pickle has negative byte count". The length of BINSTRING has no sign here
abbrev pub is_below : Opcode → List ℕ → Bool
is_below op.Long4 size = is_negative size
is_below _ size = false

-- load_counted_binbytes, load_counted_bytearray; and load_counted_binstring, load_counted_binunicode, load_counted_long
abbrev pub read_payload : (ℕ → ℕ) → Opcode → ℕ → Input → Option Chunk
read_payload shows o n i = if is_filled o then read_into n i else read shows n i

-- a length, and so many bytes
abbrev pub read_counted : (ℕ → ℕ) → Opcode → ℕ → Input → Option Chunk
read_counted shows o width i = and_then (read shows width i) (λ size j. if is_below o size then None else read_payload shows o (little_number width size) j)

-- what a function reads, by the form of its argument
abbrev pub read_arg : (ℕ → ℕ) → Opcode → Form → Input → Option Chunk
read_arg shows o form.Empty i = Some (record { bytes = []; after = i })
read_arg shows o form.Uint1 i = read shows 1 i
read_arg shows o form.Uint2 i = read shows 2 i
read_arg shows o form.Uint4 i = read shows 4 i
read_arg shows o form.Uint8 i = read shows 8 i
read_arg shows o form.Int4 i = read shows 4 i
read_arg shows o form.Float8 i = read shows 8 i
read_arg shows o form.Line i = read_line i
read_arg shows o form.Quoted i = read_line i
read_arg shows o form.Decimal i = read_line i
read_arg shows o form.Two i = and_then (read_line i) (λ first j. read_line j)
read_arg shows o form.Bytes1 i = read_counted shows o 1 i
read_arg shows o form.Bytes4 i = read_counted shows o 4 i
read_arg shows o form.Bytes8 i = read_counted shows o 8 i
read_arg shows o form.String4 i = read_counted shows o 4 i

-- ---- opcodes

-- load_frame: the bytes of the frame are read, and are then the next ones again
abbrev pub rewound : ℕ → Option Chunk → Option Input
rewound n None = None
rewound n (Some c) = Some (record c.after { next = c.after.next - n })

-- a new unpickler, whose buffer is empty; or the same, which keeps it
abbrev pub input_again : Pickles → Input → Input
input_again pickles.OneMemo i = i
input_again pickles.First i = record i { buffer = []; next = 0; prefetched = 0 }
input_again pickles.All i = record i { buffer = []; next = 0; prefetched = 0 }

-- what an opcode does to the input: FRAME reads its bytes; after STOP `load` skips what was consumed
abbrev pub behind : (ℕ → ℕ) → Pickles → Opcode → List ℕ → Input → Option Input
behind shows p op.Frame arg i = rewound (little_number 8 arg) (read shows (little_number 8 arg) i)
behind shows p op.Stop arg i = Some (input_again p (skip_consumed i))
behind shows p _ arg i = Some i

-- an opcode was read; or it raises
pub data CFetched : Type 0 where
  CFetch : (op : Operation) (after : Input) → CFetched
  CNoFetch : CFetched

abbrev pub fetched : Operation → Option Input → CFetched
fetched o None = CNoFetch
fetched o (Some i) = CFetch o i

abbrev pub with_arg : (ℕ → ℕ) → Pickles → Opcode → Option Chunk → CFetched
with_arg shows p o None = CNoFetch
with_arg shows p o (Some c) = fetched (record { opcode = o; arg = c.bytes }) (behind shows p o c.bytes c.after)

abbrev pub with_code : (ℕ → ℕ) → Pickles → Option Opcode → Input → CFetched
with_code shows p None i = CNoFetch
with_code shows p (Some o) i = with_arg shows p o (read_arg shows o (form_of o) i)

abbrev pub with_key : (ℕ → ℕ) → Pickles → Option Chunk → CFetched
with_key shows p None = CNoFetch
with_key shows p (Some c) = with_code shows p (opcode_of (first_byte c.bytes)) c.after

-- _Unpickler_Read(self, &s, 1); switch (s[0])
abbrev pub fetch : (ℕ → ℕ) → Pickles → Input → CFetched
fetch shows p i = with_key shows p (read shows 1 i)

-- ---- a load

-- a file from its beginning
abbrev pub opened : List ℕ → Input
opened bytes = record { buffer = []; next = 0; prefetched = 0; file = bytes; turn = 0 }

-- an unpickler, or the last of a loop of them, and its input
pub record CLoading : Type 0 where
  pub now : CLoaded
  pub input : Input

-- it may raise before it does anything
abbrev pub c_load_op : World → Operation → CUnpickler → CStep
c_load_op w o c = if w.fails (seen c) o then CRaised c.acts else dispatch w o.opcode o.arg c

abbrev pub c_load_once : World → Pickles → Operation → CLoaded → CLoaded
c_load_once w p o (CGoing c) = c_loaded (c_load_op w o c)
c_load_once w p o (CEnded v c) = c_loaded (c_load_op w o (c_again p c))
c_load_once w p o (CFailed acts) = CFailed acts

abbrev pub c_load_found : World → Pickles → CLoading → CFetched → CLoading
c_load_found w p x (CFetch o after) = record { now = c_load_once w p o x.now; input = after }
c_load_found w p x CNoFetch = record x { now = CFailed (acts_of (seen_loaded x.now)) }

abbrev pub c_load_next : World → (ℕ → ℕ) → Pickles → CLoading → CLoading
c_load_next w shows p x = if reads_on p (seen_loaded x.now) then c_load_found w p x (fetch shows p x.input) else x

-- after n opcodes, at most: one load, a loop of loads, or one unpickler that loads again
unfoldable pub c_load_file : World → (ℕ → ℕ) → Pickles → List ℕ → ℕ → CLoading
c_load_file w shows p bytes zero = record { now = CGoing (c_new []); input = opened bytes }
c_load_file w shows p bytes (suc n) = c_load_next w shows p (c_load_file w shows p bytes n)

-- ---- the laws

-- in every environment, and however many bytes the file shows at each of its turns: where the lines of one pickle or of several end with status
-- 0, all that is listed of the unpickler in C, however long it runs, is a beginning of what the lines list, of the values that it holds
abbrev pub NothingElseInAFile : Type 0
NothingElseInAFile = (how : Manner) (w : World) (shows : ℕ → ℕ) (p : Pickles) (bytes : List ℕ) (d : Contents) → begins_anew p ≡ true
    → ReadsAs (are_many p) bytes d → length bytes < 2 ^ 64 → (calls how d).status ≡ 0
    → (V : ℕ → Value) × AreListedOf w V d (λ n. seen_loaded (c_load_file w shows p bytes n).now)

-- and so of one unpickler that loads again: where the lines of `calls --memo kept` end with status 0, and the bytes are whole opcodes, and their
-- frames hold whole opcodes
abbrev pub NothingElseInAFileWithOneMemo : Type 0
NothingElseInAFileWithOneMemo = (how : Manner) (w : World) (shows : ℕ → ℕ) (bytes : List ℕ) (d : Contents) (o : Output) → ReadsAs true bytes d → d.tail ≡ []
    → length bytes < 2 ^ 64 → IsCallsText how pickles.OneMemo bytes o → o.status ≡ 0
    → (V : ℕ → Value)
    × AreListedFrom w V (ignoring pickles.OneMemo) (standing_first how.detail pickles.OneMemo bytes) (λ n. seen_loaded (c_load_file w shows pickles.OneMemo bytes n).now)

-- where they end early: after no more opcodes than come before that end, all that is listed of it is a beginning of what the lines of as many items
-- list, of the values that it holds
abbrev pub UpToTheEndInAFile : Type 0
UpToTheEndInAFile = (w : World) (shows : ℕ → ℕ) (p : Pickles) (bytes : List ℕ) (d : Contents) → begins_anew p ≡ true → ReadsAs (are_many p) bytes d
    → length bytes < 2 ^ 64
    → (V : ℕ → Value)
    × ((n : ℕ) (s : State) → run (start d.many) (ops_of d) n ≡ Some s → n ≤ (calls_end d).place
    → ((rest : List Act) × (listed_of (acts_of (seen_loaded (c_load_file w shows p bytes n).now)) ++ rest ≡ listed V d.many (ops_of d) n))
    × Holds w V s (seen_loaded (c_load_file w shows p bytes n).now))
