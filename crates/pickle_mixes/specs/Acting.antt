-- At which items loaders may act that do with frames at each item what any loader does, and go on behind what they reach.
-- Source: what a loader takes at the front of bytes `taken` says, with its sources. Modules/_pickle.c: `_Unpickler_ReadFromFile`: what a file shows
-- ahead (`peek`) stays in the file, so that of a frame that is shown nothing is lost. Which opcodes act: Lib/pickle.py, `dispatch`: the methods that
-- import, call, ask for a persistent object, an extension or a buffer, set a state, or put something into an object.
use Rattle.std.specs.Prelude.{ℕ, zero, suc, ◌+◌, ◌*◌, ◌==◌, ◌&&◌, ◌||◌, not, nat_lt, if◌then◌else◌, Bool, true, false, List, [], ◌∷◌, length, drop, Option, Some, None, Result, Ok, Err}
use Rattle.std.specs.List.{list_any, insert}
use Rattle.std.specs.Option.{option_map}
use Rattle.pickle_ops.specs.declared.opcode.Opcode.{Opcode}
use Rattle.pickle_ops.specs.declared.opcode.Opcode.TheVariants as op
use Rattle.pickle_ops.specs.declared.fault.FrontFault.{FrontFault}
use Rattle.pickle_ops.specs.Spelling.{Operation}
use Rattle.pickle_doc.specs.DocUnit.{is_stop}
use Rattle.pickle_lenient.specs.declared.taken.Frames.{Frames}
use Rattle.pickle_lenient.specs.declared.taken.Frames.TheVariants as frames
use Rattle.pickle_lenient.specs.declared.taken.Taken.{Taken}
use Rattle.pickle_lenient.specs.Stream.{taken}
use Rattle.pickle_mixes.specs.declared.place.Place.{Place}

-- ---- which opcodes act

abbrev pub may_act : Opcode → Bool
may_act op.Global = true
may_act op.Inst = true
may_act op.StackGlobal = true
may_act op.Ext1 = true
may_act op.Ext2 = true
may_act op.Ext4 = true
may_act op.PersId = true
may_act op.BinPersId = true
may_act op.NextBuffer = true
may_act op.Reduce = true
may_act op.NewObj = true
may_act op.NewObjEx = true
may_act op.Obj = true
may_act op.Build = true
may_act op.Append = true
may_act op.Appends = true
may_act op.SetItem = true
may_act op.SetItems = true
may_act op.AddItems = true
may_act _ = false

-- ---- places

abbrev pub first_place : Place
first_place = record { offset = 0; left = 0 }

-- what a loader takes there
abbrev pub item_at : List ℕ → Frames → Place → Result Taken FrontFault
item_at bytes f p = taken f p.left (drop p.offset bytes)

-- behind an item, of so many bytes, with so many in the buffer
abbrev pub place_behind : Place → ℕ → ℕ → Place
place_behind p size left = record { offset = p.offset + size; left = left }

-- an item acts there. One that is read alike with nothing in the buffer, since nothing of that is lost, acts at the place without
abbrev pub acts_by : Place → Result Taken FrontFault → Bool
acts_by p (Ok t) = may_act t.op.opcode && (p.left == 0 || t.lost)
acts_by p (Err f) = false

unfoldable pub acts_at : List ℕ → Place → Bool
acts_at bytes p = acts_by p (item_at bytes frames.Held p)

-- ---- in rising order, none twice

abbrev pub comes_before : Place → Place → Bool
comes_before p q = nat_lt p.offset q.offset || (p.offset == q.offset && nat_lt p.left q.left)

abbrev pub is_same : Place → Place → Bool
is_same p q = p.offset == q.offset && p.left == q.left

-- how many come before it, from the first on
unfoldable pub rank : Place → List Place → ℕ
rank p [] = 0
rank p (q ∷ places) = if comes_before q p then suc (rank p places) else 0

unfoldable pub with_place : Place → List Place → List Place
with_place p places = if list_any (is_same p) places then places else insert places (rank p places) p

-- ---- behind a place

-- a load is over at STOP, unless it reads all pickles
abbrev pub is_over : Bool → Operation → Bool
is_over many o = not many && is_stop o.opcode

-- behind an item that is taken there, with what is in the buffer only shown, or not
abbrev pub with_item : Bool → Place → Operation → ℕ → ℕ → List Place → List Place
with_item many p o size left places = if is_over many o then places else with_place (place_behind p size left) (with_place (place_behind p size 0) places)

abbrev pub with_taken : Bool → Place → Result Taken FrontFault → List Place → List Place
with_taken many p (Ok t) places = with_item many p t.op t.size t.left places
with_taken many p (Err f) places = places

abbrev pub with_way : Bool → List ℕ → Place → Frames → List Place → List Place
with_way many bytes p f places = with_taken many p (item_at bytes f p) places

-- whatever is done with frames
unfoldable pub with_next : Bool → List ℕ → Place → List Place → List Place
with_next many bytes p places = with_way many bytes p frames.Ignored (with_way many bytes p frames.Buffered (with_way many bytes p frames.Held places))

-- ---- all places

abbrev pub with_acting : Bool → Place → List Place → List Place
with_acting true p places = p ∷ places
with_acting false p places = places

-- the most places that may be ahead, and how many are looked at in so many bytes
abbrev pub most_ahead : ℕ
most_ahead = 256

abbrev pub most_visits : ℕ → ℕ
most_visits size = 4 * size + 1024

-- of those that loaders come to from these, the ones at which they may act; none is said where there are too many
unfoldable pub acting_from : Bool → List ℕ → ℕ → List Place → Option (List Place)
acting_from many bytes zero places = None
acting_from many bytes (suc n) [] = Some []
acting_from many bytes (suc n) (p ∷ places) =
    if nat_lt most_ahead (length (p ∷ places)) then None else option_map (with_acting (acts_at bytes p) p) (acting_from many bytes n (with_next many bytes p places))

abbrev pub acting_places : Bool → List ℕ → Option (List Place)
acting_places many bytes = acting_from many bytes (most_visits (length bytes)) (first_place ∷ [])
