-- A whole load by the unpickler in C, that it is one by the unpickler in Python but for what is named here, and that the lines tell it.
-- Source: Modules/_pickle.c, `load` (CPython 3.11). What it reads at the front of bytes, frames ignored or kept in a buffer, `taken` says, with
-- its sources. That ends at a BINSTRING of 2^31 bytes or more, whose length is below 0 to the unpickler in Python. C reads this length without
-- a sign, and raises where fewer bytes follow: so these definitions are of C where fewer than 2^31 bytes are read.
use Rattle.std.specs.Prelude.{◌≡◌, ℕ, zero, suc, ◌^◌, ◌<◌, pos, int_lt, ◌||◌, Bool, true, false, List, [], length, drop, if◌then◌else◌, Result, Ok, Err}
use Rattle.pickle_ops.specs.declared.opcode.Opcode.{Opcode}
use Rattle.pickle_ops.specs.declared.opcode.Opcode.TheVariants as op
use Rattle.pickle_ops.specs.declared.form.Form.TheVariants as form
use Rattle.pickle_ops.specs.declared.row.Row.{Row}
use Rattle.pickle_ops.specs.declared.row.Row.TheVariants as row
use Rattle.pickle_ops.specs.declared.fault.FrontFault.{FrontFault}
use Rattle.pickle_ops.specs.Argument.{integer_of}
use Rattle.pickle_doc.specs.Document.{Contents, ReadsAs}
use Rattle.pickle_lenient.specs.declared.taken.Taken.{Taken}
use Rattle.pickle_lenient.specs.Stream.{taken}
use Rattle.pickle_calls.specs.Manner.{Manner}
use Rattle.pickle_calls.specs.declared.naming.Detail.TheVariants as detail
use Rattle.pickle_calls.specs.Calls.{calls}
use Rattle.pickle_further.specs.declared.way.Pickles.{Pickles}
use Rattle.pickle_further.specs.declared.way.Pickles.TheVariants as pickles
use Rattle.pickle_further.specs.declared.way.Way.{Way}
use Rattle.pickle_further.specs.Parts.{ignoring, buffering, are_many, standing_first}
use Rattle.pickle_loader.specs.Environment.{Value, is_elsewhere, Act, Unpickler, World}
use Rattle.pickle_loader.specs.Unpickler.{Step, Ran, Raised, item, pop, pop_mark}
use Rattle.pickle_loader.specs.Dispatch.{Loaded, Going, Ended, Failed, acts_of}
use Rattle.pickle_loader.specs.Laws.{AreListedOf}
use Rattle.pickle_loader.specs.Onward.{Onward, reads_on, load_way, AreListedFrom, begins_anew}
use Rattle.pickle_loader.specs.CUnpickler.{CUnpickler, CStep, CRan, CStopped, CRaised, are_call, are_call_with, are_pairs, load_frame, load_get, load_put, dispatch, seen}

-- ---- an item

-- GET and PUT whose key only PyLong_FromString reads come as a FRAME with the row of that key
abbrev pub load_keyed : World → Row → CUnpickler → CStep
load_keyed w (row.Get key) c = load_get key c
load_keyed w (row.Put key) c = load_put w key c
load_keyed w _ c = load_frame c

abbrev pub dispatch_as : World → Row → Opcode → List ℕ → CUnpickler → CStep
dispatch_as w r op.Frame arg c = load_keyed w r c
dispatch_as w r o arg c = dispatch w o arg c

-- it may raise before it does anything
abbrev pub c_load_taken : World → Taken → CUnpickler → CStep
c_load_taken w item c = if w.fails (seen c) item.op then CRaised c.acts else dispatch_as w item.row item.op.opcode item.op.arg c

-- ---- a file

pub data CLoaded : Type 0 where
  CGoing : (now : CUnpickler) → CLoaded
  CEnded : (value : Value) (last : CUnpickler) → CLoaded
  CFailed : (acts : List Act) → CLoaded

abbrev pub c_loaded : CStep → CLoaded
c_loaded (CRan c) = CGoing c
c_loaded (CStopped v c) = CEnded v c
c_loaded (CRaised acts) = CFailed acts

-- what is loaded, as the unpickler in Python holds it
abbrev pub seen_loaded : CLoaded → Loaded
seen_loaded (CGoing c) = Going (seen c)
seen_loaded (CEnded v c) = Ended v (seen c)
seen_loaded (CFailed acts) = Failed acts

pub record COnward : Type 0 where
  pub now : CLoaded
  pub rest : List ℕ
  pub left : ℕ

abbrev pub c_new : List Act → CUnpickler
c_new acts = record { stack = record { cells = []; marks = [] }; memo = []; proto = 0; buffers = 0; acts = acts }

-- the unpickler that reads on after STOP: a new one; or the same, whose stack, marks and protocol begin anew
abbrev pub c_again : Pickles → CUnpickler → CUnpickler
c_again pickles.OneMemo c = record c { stack = record { cells = []; marks = [] }; proto = 0 }
c_again pickles.First c = c_new c.acts
c_again pickles.All c = c_new c.acts

abbrev pub c_load_more : World → Pickles → Taken → CLoaded → CLoaded
c_load_more w p item (CGoing c) = c_loaded (c_load_taken w item c)
c_load_more w p item (CEnded v c) = c_loaded (c_load_taken w item (c_again p c))
c_load_more w p item (CFailed acts) = CFailed acts

abbrev pub c_load_read : World → Pickles → COnward → Result Taken FrontFault → COnward
c_load_read w p x (Ok item) = record { now = c_load_more w p item x.now; rest = drop item.size x.rest; left = item.left }
c_load_read w p x (Err f) = record x { now = CFailed (acts_of (seen_loaded x.now)) }

abbrev pub c_load_on : World → Way → COnward → COnward
c_load_on w way x = if reads_on way.pickles (seen_loaded x.now) then c_load_read w way.pickles x (taken way.frames x.left x.rest) else x

-- after n opcodes, at most
unfoldable pub c_load_way : World → Way → List ℕ → ℕ → COnward
c_load_way w way bytes zero = record { now = CGoing (c_new []); rest = bytes; left = 0 }
c_load_way w way bytes (suc n) = c_load_on w way (c_load_way w way bytes n)

-- ---- what differs

-- what the unpickler in C asks before it does anything, where the one in Python does not, or does so later: INST for its mark, DICT and
-- SETITEMS for pairs, a call for a tuple of arguments, a dictionary of keywords and something from elsewhere to call, EXT for a code above 0
abbrev pub only_if : Bool → Unpickler → Step
only_if good u = if good then Ran u else Raised u.acts

abbrev pub asked : World → Opcode → List ℕ → Unpickler → Step
asked w op.Inst arg u = pop_mark u (λ items q. Ran q)
asked w op.Dict arg u = pop_mark u (λ items q. only_if (are_pairs items) q)
asked w op.SetItems arg u = pop_mark u (λ items q. only_if (are_pairs items) q)
asked w op.Obj arg u = pop_mark u (λ items q. only_if (is_elsewhere (item 0 items)) q)
asked w op.Reduce arg u = pop 2 u (λ vs q. only_if (are_call vs) q)
asked w op.NewObj arg u = pop 2 u (λ vs q. only_if (are_call vs) q)
asked w op.NewObjEx arg u = pop 3 u (λ vs q. only_if (are_call_with w u.acts vs) q)
asked w op.Ext1 arg u = only_if (int_lt (pos 0) (integer_of form.Uint1 arg)) u
asked w op.Ext2 arg u = only_if (int_lt (pos 0) (integer_of form.Uint2 arg)) u
asked w op.Ext4 arg u = only_if (int_lt (pos 0) (integer_of form.Int4 arg)) u
asked w _ arg u = Ran u

abbrev pub raises : Step → Bool
raises (Raised acts) = true
raises _ = false

-- the environment in which the unpickler in Python raises there too, and in which nothing is looked up where nothing is put in
abbrev pub as_in_c : World → World
as_in_c w = record w { fails = λ (u : Unpickler) o. w.fails u o || raises (asked w o.opcode o.arg u); looks_up_for_nothing = false }

-- ---- laws

abbrev pub seen_onward : COnward → Onward
seen_onward x = record { now = seen_loaded x.now; rest = x.rest; left = x.left }

-- in every environment, for any bytes and each way of reading them, after any number of opcodes: a load by the unpickler in C is, but for these
-- differences, one by the unpickler in Python: stack and metastack, memo, protocol, buffers, all that was done, the value, and where it raised.
-- Of what the pickle writes out a value is the kind with its bytes, and not what each unpickler makes of them: from the INT `I+1` C makes True
-- and Python 1, and from `I010` C makes 8, where Python raises
abbrev pub OneLoad : Type 0
OneLoad = (w : World) (way : Way) (bytes : List ℕ) (n : ℕ) → seen_onward (c_load_way w way bytes n) ≡ load_way (as_in_c w) way bytes n

-- and so there is a map from the numbers of objects to values under which all that is listed of it is a beginning of what the lines of that
-- reading list, of the values that it holds
abbrev pub NothingBeyondInC : Type 0
NothingBeyondInC = (w : World) (way : Way) (bytes : List ℕ)
    → (V : ℕ → Value) × AreListedFrom w V way (standing_first detail.Cut way.pickles bytes) (λ n. seen_loaded (c_load_way w way bytes n).now)

-- where the lines of one pickle or of several end with status 0, it is a beginning of what they tell: of bytes that are there whole, from which
-- frames are ignored
abbrev pub NothingElseInC : Type 0
NothingElseInC = (how : Manner) (w : World) (p : Pickles) (bytes : List ℕ) (d : Contents) → begins_anew p ≡ true → ReadsAs (are_many p) bytes d
    → length bytes < 2 ^ 64 → (calls how d).status ≡ 0
    → (V : ℕ → Value) × AreListedOf w V d (λ n. seen_loaded (c_load_way w (ignoring p) bytes n).now)

-- nor does a stream change that: there the unpickler in C keeps frames in a buffer, and loses nothing of it
abbrev pub NothingElseInAStream : Type 0
NothingElseInAStream = (how : Manner) (w : World) (p : Pickles) (bytes : List ℕ) (d : Contents) → begins_anew p ≡ true → ReadsAs (are_many p) bytes d
    → length bytes < 2 ^ 64 → (calls how d).status ≡ 0
    → (V : ℕ → Value) × AreListedOf w V d (λ n. seen_loaded (c_load_way w (buffering p) bytes n).now)
