-- What an unpickler does with the bytes of a file that it reads as loaders do, behind an end of the lines too; and which acts the lines tell.
-- Source: Lib/pickle.py, `load`, `load_get`, `load_put` (CPython 3.11). What loaders read at the front of bytes, frames ignored or kept in a
-- buffer, `taken` says, with its sources.
use Rattle.std.specs.Prelude.{◌≡◌, ℕ, zero, suc, ◌^◌, ◌<◌, Bool, true, false, List, [], ◌++◌, length, drop, if◌then◌else◌, Option, Some, None, is_some, Result, Ok, Err}
use Rattle.pickle_ops.specs.declared.opcode.Opcode.{Opcode}
use Rattle.pickle_ops.specs.declared.opcode.Opcode.TheVariants as op
use Rattle.pickle_ops.specs.declared.row.Row.{Row}
use Rattle.pickle_ops.specs.declared.row.Row.TheVariants as row
use Rattle.pickle_ops.specs.declared.fault.FrontFault.{FrontFault}
use Rattle.pickle_doc.specs.Document.{Contents, IsFormed, document_bytes}
use Rattle.pickle_doc.specs.Place.{ops_of}
use Rattle.pickle_machine.specs.State.{State, start}
use Rattle.pickle_machine.specs.Move.{fresh}
use Rattle.pickle_machine.specs.Run.{run}
use Rattle.pickle_lenient.specs.declared.taken.Taken.{Taken}
use Rattle.pickle_lenient.specs.Stream.{taken}
use Rattle.pickle_text.specs.declared.closing.Closing.{Closing}
use Rattle.pickle_text.specs.declared.closing.Closing.TheVariants as closing
use Rattle.pickle_calls.specs.declared.naming.Detail.{Detail}
use Rattle.pickle_calls.specs.declared.naming.Detail.TheVariants as detail
use Rattle.pickle_further.specs.declared.seek.Sought.TheVariants as sought
use Rattle.pickle_further.specs.declared.way.Pickles.{Pickles}
use Rattle.pickle_further.specs.declared.way.Pickles.TheVariants as pickles
use Rattle.pickle_further.specs.declared.way.Way.{Way}
use Rattle.pickle_further.specs.Going.{Standing, Going as Gone, going, stands_after, search}
use Rattle.pickle_further.specs.Parts.{ignoring, are_many, standing_at, standing_first}
use Rattle.pickle_loader.specs.Environment.{Value, Act, Unpickler, World}
use Rattle.pickle_loader.specs.Unpickler.{Step, Raised, load_frame, load_get, load_put}
use Rattle.pickle_loader.specs.Dispatch.{dispatch, Loaded, Going, Ended, Failed, loaded, acts_of, new_unpickler}
use Rattle.pickle_loader.specs.Listed.{acts_listed, listed, protocol_after}
use Rattle.pickle_loader.specs.Laws.{AreListed}

-- ---- an item

-- GET and PUT whose key only int() reads come as a FRAME with the row of that key
abbrev pub load_keyed : World → Row → Unpickler → Step
load_keyed w (row.Get key) u = load_get key u
load_keyed w (row.Put key) u = load_put w key u
load_keyed w _ u = load_frame u

abbrev pub dispatch_as : World → Row → Opcode → List ℕ → Unpickler → Step
dispatch_as w r op.Frame arg u = load_keyed w r u
dispatch_as w r o arg u = dispatch w o arg u

-- it may raise before it does anything
abbrev pub load_taken : World → Taken → Unpickler → Step
load_taken w item u = if w.fails u item.op then Raised u.acts else dispatch_as w item.row item.op.opcode item.op.arg u

-- ---- a file

-- what is loaded, the bytes that are not read yet, and how many of them are in a buffer
pub record Onward : Type 0 where
  pub now : Loaded
  pub rest : List ℕ
  pub left : ℕ

-- the unpickler that reads on after STOP: a new one; or the same, whose stack and protocol begin anew
abbrev pub again : Pickles → Unpickler → Unpickler
again pickles.OneMemo u = record u { stack = []; metastack = []; proto = 0 }
again pickles.First u = new_unpickler u.acts
again pickles.All u = new_unpickler u.acts

-- whether more is read
abbrev pub reads_on : Pickles → Loaded → Bool
reads_on p (Going u) = true
reads_on pickles.First (Ended v u) = false
reads_on pickles.All (Ended v u) = true
reads_on pickles.OneMemo (Ended v u) = true
reads_on p (Failed acts) = false

abbrev pub load_more : World → Pickles → Taken → Loaded → Loaded
load_more w p item (Going u) = loaded (load_taken w item u)
load_more w p item (Ended v u) = loaded (load_taken w item (again p u))
load_more w p item (Failed acts) = Failed acts

abbrev pub load_read : World → Pickles → Onward → Result Taken FrontFault → Onward
load_read w p x (Ok item) = record { now = load_more w p item x.now; rest = drop item.size x.rest; left = item.left }
load_read w p x (Err f) = record x { now = Failed (acts_of x.now) }

abbrev pub load_on : World → Way → Onward → Onward
load_on w way x = if reads_on way.pickles x.now then load_read w way.pickles x (taken way.frames x.left x.rest) else x

-- after n opcodes, at most
unfoldable pub load_way : World → Way → List ℕ → ℕ → Onward
load_way w way bytes zero = record { now = Going (new_unpickler []); rest = bytes; left = 0 }
load_way w way bytes (suc n) = load_on w way (load_way w way bytes n)

-- ---- the lines

-- where they stand before item n, if they did not end before it
abbrev pub stands_behind : Standing → Gone → Option Standing
stands_behind p g = if is_some g.gone.closing then None else Some (stands_after p g)

abbrev pub stands_on : Way → Option Standing → Option Standing
stands_on way None = None
stands_on way (Some p) = stands_behind p (going way p)

unfoldable pub stands : Way → Standing → ℕ → Option Standing
stands way p zero = Some p
stands way p (suc n) = stands_on way (stands way p n)

-- the state behind n items, if they did not end before the last of them, or with it other than by STOP
abbrev pub state_by : Option Closing → State → Option State
state_by None s = Some s
state_by (Some closing.Stopped) s = Some s
state_by (Some (closing.Refused place r)) s = None
state_by (Some (closing.Fault f offset)) s = None

abbrev pub state_on : Way → Option Standing → Option State
state_on way None = None
state_on way (Some p) = state_by (going way p).gone.closing (going way p).state

unfoldable pub state_behind : Way → Standing → ℕ → Option State
state_behind way p zero = Some p.state
state_behind way p (suc n) = state_on way (stands way p n)

-- the protocol there: that of the last PROTO of the same pickle
abbrev pub protocol_read : Result Taken FrontFault → ℕ → ℕ
protocol_read (Ok item) before = protocol_after item.op.opcode item.op.arg before
protocol_read (Err f) before = before

abbrev pub protocol_on : Way → Option Standing → ℕ → ℕ
protocol_on way None before = before
protocol_on way (Some p) before = protocol_read (taken way.frames p.at.left p.rest) before

unfoldable pub protocol : Way → Standing → ℕ → ℕ
protocol way p zero = 0
protocol way p (suc n) = protocol_on way (stands way p n) (protocol way p n)

-- the acts of the event whose line item n has
abbrev pub acts_gone : (ℕ → Value) → ℕ → Standing → Gone → List Act
acts_gone V proto p g = acts_listed V proto (fresh p.state) g.state g.gone.event

abbrev pub acts_on : (ℕ → Value) → Way → ℕ → Option Standing → List Act
acts_on V way proto None = []
acts_on V way proto (Some p) = acts_gone V proto p (going way p)

-- those of the first n items
unfoldable pub acts_before : (ℕ → Value) → Way → Standing → ℕ → List Act
acts_before V way p zero = []
acts_before V way p (suc n) = acts_before V way p n ++ acts_on V way (protocol way p n) (stands way p n)

-- that the lines of a reading list what is loaded, and which values it holds
abbrev pub AreListedFrom : World → (ℕ → Value) → Way → Standing → (ℕ → Loaded) → Type 0
AreListedFrom w V way p loads = AreListed w V (acts_before V way p) (state_behind way p) loads

-- ---- the law

-- in every environment, for any bytes, read as one pickle, as several, or by one Unpickler that loads again, with frames ignored or
-- buffered, there is a map from the numbers of objects to values under which, after any number of opcodes, all that is listed of the
-- unpickler is a beginning of what the lines of that reading list, of the values that it holds
abbrev pub NothingBeyond : Type 0
NothingBeyond = (w : World) (way : Way) (bytes : List ℕ)
    → (V : ℕ → Value) × AreListedFrom w V way (standing_first detail.Cut way.pickles bytes) (λ n. (load_way w way bytes n).now)

-- ---- the lines of a document

-- whether each pickle is read by an unpickler that begins anew
abbrev pub begins_anew : Pickles → Bool
begins_anew pickles.First = true
begins_anew pickles.All = true
begins_anew pickles.OneMemo = false

-- the reading of a document's bytes with frames ignored, where it did not end before, stands at each place that the machine reaches where
-- the part behind an end at that place begins, and did up to there what the lines list: the lines and the part behind their end are those
-- of one reading
abbrev pub LinesAreRead : Type 0
LinesAreRead = (how : Detail) (V : ℕ → Value) (p : Pickles) (d : Contents) → IsFormed d → length (document_bytes d) < 2 ^ 64 → begins_anew p ≡ true
    → d.many ≡ are_many p
    → (k : ℕ) (s : State) (q : Standing) → run (start d.many) (ops_of d) k ≡ Some s → stands (ignoring p) (standing_first how p (document_bytes d)) k ≡ Some q
    → (q ≡ standing_at how d k s) × (acts_before V (ignoring p) (standing_first how p (document_bytes d)) k ≡ listed V d.many (ops_of d) k)

-- ---- frames in a buffer

-- where a standing is without its buffer
abbrev pub unbuffered : Standing → Standing
unbuffered q = record { state = q.state; rest = q.rest; at = record { offset = q.at.offset; place = q.at.place; left = 0 }; naming = q.naming }

-- of the first k items none loses bytes
abbrev pub NoneLost : Way → Standing → ℕ → Type 0
NoneLost way p k = (j : ℕ) (q : Standing) → j < k → stands way p j ≡ Some q → (going way q).gone.lost ≡ false

-- up to the first item that loses bytes a reading with a buffer is the one in which frames are ignored: it stands where that does, and did
-- the same, so that what is shown of it from there on is all that it has more
abbrev pub BufferedIsRead : Type 0
BufferedIsRead = (how : Detail) (V : ℕ → Value) (w : Way) (bytes : List ℕ) (k : ℕ) (q : Standing) → stands w (standing_first how w.pickles bytes) k ≡ Some q
    → NoneLost w (standing_first how w.pickles bytes) k
    → (stands (ignoring w.pickles) (standing_first how w.pickles bytes) k ≡ Some (unbuffered q))
    × (acts_before V w (standing_first how w.pickles bytes) k ≡ acts_before V (ignoring w.pickles) (standing_first how w.pickles bytes) k)

-- what is found among the first n items: none that loses bytes, or the first that does
abbrev pub IsFound : Way → Standing → ℕ → Option Standing → Type 0
IsFound way p n None = NoneLost way p n
IsFound way p n (Some q) = (k : ℕ) × (stands way p k ≡ Some q) × NoneLost way p k × ((going way q).gone.lost ≡ true)

-- from where the part of the reading with a buffer is shown
abbrev pub LossIsFound : Type 0
LossIsFound = (n : ℕ) (way : Way) (p : Standing) → IsFound way p n (search sought.Lost n way p)
