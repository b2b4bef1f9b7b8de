-- What the unpickler in Python does with the bytes of a file, whose frames it keeps as class _Unframer does, behind an end of the lines too; and
-- which readings tell it.
-- Source: Lib/pickle.py, class _Unframer, `load` (CPython 3.11).
use Rattle.std.specs.Prelude.{◌≡◌, ◌⊎◌, ℕ, zero, suc, ◌^◌, ◌<◌, Bool, true, false, List, [], ◌∷◌, ◌++◌, length, if◌then◌else◌, Option, Some, None}
use Rattle.pickle_ops.specs.Spelling.{Operation}
use Rattle.pickle_machine.specs.State.{State}
use Rattle.pickle_lenient.specs.declared.taken.Frames.{Frames}
use Rattle.pickle_lenient.specs.declared.taken.Frames.TheVariants as frames
use Rattle.calls_laws.specs.LineLaws.{cut_lines}
use Rattle.pickle_calls.specs.Manner.{Manner}
use Rattle.pickle_text.specs.Output.{Output}
use Rattle.pickle_calls.specs.declared.naming.Detail.TheVariants as detail
use Rattle.pickle_further.specs.declared.way.Pickles.{Pickles}
use Rattle.pickle_further.specs.declared.way.Pickles.TheVariants as pickles
use Rattle.pickle_further.specs.declared.way.Way.{Way}
use Rattle.pickle_further.specs.Going.{Standing, going}
use Rattle.pickle_further.specs.Parts.{ignoring, are_many, standing_first}
use Rattle.pickle_further.specs.CallsText.{IsCallsText}
use Rattle.pickle_loader.specs.Environment.{Value, Act, World}
use Rattle.pickle_loader.specs.Dispatch.{Loaded, Going, Ended, Failed, loaded, acts_of, new_unpickler, load_op}
use Rattle.pickle_loader.specs.Reader.{Fetched, Fetch, NoFetch, fetch, opened, all_left}
use Rattle.pickle_loader.specs.Listed.{listed_of}
use Rattle.pickle_loader.specs.Laws.{AreListed}
use Rattle.pickle_loader.specs.Onward.{again, reads_on, stands, state_behind, protocol, acts_gone, acts_before, AreListedFrom, begins_anew}
use Rattle.pickle_loader.specs.Bytes.{Loading, load_bytes}
use Rattle.pickle_loader.specs.CLoad.{seen_loaded, c_load_way}
use Rattle.pickle_loader.specs.Text.{IsAmong, line_gone, way_of, is_in_text}

-- one load, a loop of loads, or one unpickler that loads again, which keeps its memo
abbrev pub load_once : World → Pickles → Operation → Loaded → Loaded
load_once w p o (Going u) = loaded (load_op w o u)
load_once w p o (Ended v u) = loaded (load_op w o (again p u))
load_once w p o (Failed acts) = Failed acts

abbrev pub load_found : World → Pickles → Loading → Fetched → Loading
load_found w p x (Fetch o after) = record { now = load_once w p o x.now; reader = after }
load_found w p x NoFetch = record x { now = Failed (acts_of x.now) }

abbrev pub load_frames : World → Pickles → Loading → Loading
load_frames w p x = if reads_on p x.now then load_found w p x (fetch x.reader) else x

-- after n opcodes, at most
unfoldable pub load_framed : World → Pickles → List ℕ → ℕ → Loading
load_framed w p bytes zero = record { now = Going (new_unpickler []); reader = opened bytes }
load_framed w p bytes (suc n) = load_frames w p (load_framed w p bytes n)

-- ---- laws

-- one load, and a loop of loads, are those of `load_bytes`
abbrev pub FramedIsBytes : Type 0
FramedIsBytes = (w : World) (p : Pickles) (bytes : List ℕ) (n : ℕ) → begins_anew p ≡ true → load_framed w p bytes n ≡ load_bytes w (are_many p) bytes n

-- the readings that tell it: with a buffer, which STOP ends as it ends a frame; and of one pickle, behind which nothing is read, that without
abbrev pub tells_frames : Pickles → Frames → Bool
tells_frames p frames.Buffered = true
tells_frames pickles.First frames.Ignored = true
tells_frames p f = false

-- a state behind which bytes are left. Of a line that the end of the file cuts off the unpickler in Python may hold a value, and at the next
-- opcode it raises
abbrev pub state_left : List ℕ → Option State → Option State
state_left [] s = None
state_left (b ∷ bytes) s = s

-- that the lines of a reading tell it, and which values it holds as long as bytes are left
abbrev pub TellsWay : World → (ℕ → Value) → Pickles → List ℕ → Way → Standing → Type 0
TellsWay w V p bytes way q =
    AreListed w V (acts_before V way q) (λ n. state_left (all_left (load_framed w p bytes n).reader) (state_behind way q n))
    (λ n. (load_framed w p bytes n).now)

abbrev pub TellsFrames : World → (ℕ → Value) → Pickles → Frames → List ℕ → Type 0
TellsFrames w V p f bytes = TellsWay w V p bytes (way_of p f) (standing_first detail.Cut p bytes)

-- in every environment, for any bytes, be it one load, a loop of loads or one unpickler that loads again: after any number of opcodes all that is
-- listed of the unpickler is a beginning of what the lines of such a reading list, of the values that it holds
abbrev pub NothingBeyondByFrames : Type 0
NothingBeyondByFrames = (w : World) (p : Pickles) (f : Frames) (bytes : List ℕ) → tells_frames p f ≡ true → (V : ℕ → Value) × TellsFrames w V p f bytes

-- where the lines of `calls --memo kept` end with status 0, one unpickler that loads again does nothing else
abbrev pub NothingElseByFrames : Type 0
NothingElseByFrames = (how : Manner) (w : World) (bytes : List ℕ) (o : Output) → IsCallsText how pickles.OneMemo bytes o → o.status ≡ 0
    → (V : ℕ → Value) × TellsWay w V pickles.OneMemo bytes (ignoring pickles.OneMemo) (standing_first how.detail pickles.OneMemo bytes)

-- ---- its lines

-- an act is one of these
abbrev pub IsAct : Act → List Act → Type 0
IsAct a [] = ⊥
IsAct a (b ∷ acts) = (a ≡ b) ⊎ IsAct a acts

-- an item of this reading lists it, and the line of that is one of the text
abbrev pub HasLine : Manner → (ℕ → Value) → Pickles → Frames → List ℕ → Output → Act → Type 0
HasLine how V p f bytes o a = (k : ℕ) × (q : Standing) × (stands (way_of p f) (standing_first how.detail p bytes) k ≡ Some q)
    × IsAct a (acts_gone V (protocol (way_of p f) (standing_first how.detail p bytes) k) q (going (way_of p f) q))
    × IsAmong (line_gone how.holes q (going (way_of p f) q)) (cut_lines o.text)

-- whatever is listed of the unpickler in Python, over any bytes, in any environment, has its line in the text of `calls`: where the lines end with
-- status 0, and behind every other end
abbrev pub EachActHasItsLine : Type 0
EachActHasItsLine = (how : Manner) (w : World) (p : Pickles) (f : Frames) (bytes : List ℕ) (o : Output) → IsCallsText how p bytes o → length bytes < 2 ^ 64
    → tells_frames p f ≡ true
    → (V : ℕ → Value) × TellsFrames w V p f bytes
    × ((n : ℕ) (a : Act) → IsAct a (listed_of (acts_of (load_framed w p bytes n).now)) → HasLine how V p f bytes o a)

-- and so has whatever is listed of the unpickler in C, in each reading that is in the text: frames ignored, in a buffer that STOP ends, or in one
-- that STOP leaves
abbrev pub EachActInCHasItsLine : Type 0
EachActInCHasItsLine = (how : Manner) (w : World) (p : Pickles) (f : Frames) (bytes : List ℕ) (o : Output) → IsCallsText how p bytes o
    → length bytes < 2 ^ 64 → is_in_text p f ≡ true
    → (V : ℕ → Value) × AreListedFrom w V (way_of p f) (standing_first detail.Cut p bytes) (λ n. seen_loaded (c_load_way w (way_of p f) bytes n).now)
    × ((n : ℕ) (a : Act) → IsAct a (listed_of (acts_of (seen_loaded (c_load_way w (way_of p f) bytes n).now))) → HasLine how V p f bytes o a)
