-- What a machine keeps of its objects that reads them again from the bytes: where the opcode of each is, and which numbers it was given.
use Rattle.std.specs.Prelude.{◌≡◌, ℕ, zero, suc, ◌≤◌, ◌<◌, ◌+◌, ◌^◌, not, if◌then◌else◌, Bool, true, false, List, [], ◌∷◌, ◌++◌, length, drop, slice_index, map, ⊤}
use Rattle.std.specs.List.{between}
use Rattle.pickle_ops.specs.declared.kind.Kind.{Kind}
use Rattle.pickle_ops.specs.declared.kind.Kind.TheVariants as kind
use Rattle.pickle_ops.specs.declared.class.Class.{Class}
use Rattle.pickle_ops.specs.declared.class.Class.TheVariants as class
use Rattle.pickle_ops.specs.declared.class.Demand.TheVariants as demand
use Rattle.pickle_ops.specs.declared.row.Row.{Row}
use Rattle.pickle_ops.specs.declared.row.Row.TheVariants as row
use Rattle.pickle_ops.specs.Spelling.{Operation, IsSpelled, spelling}
use Rattle.pickle_ops.specs.Row.{row_of, kind_of, count_of}
use Rattle.pickle_ops.specs.Object.{Object}
use Rattle.pickle_ops.specs.KindRef.{shown}
use Rattle.pickle_machine.specs.declared.slim.Origin.{Origin}
use Rattle.pickle_machine.specs.State.{State}
use Rattle.pickle_machine.specs.Move.{object_meets, deep, last_of}
use Rattle.pickle_machine.specs.Outline.{outline}
use Rattle.pickle_machine.specs.Reading.{Reading}

-- ---- what is kept

-- the kind of the object that an operation makes of which these numbers are kept: of a buffer its own number
abbrev pub kept_kind : Row → Kind → List ℕ → Kind
kept_kind row.Buffer k kept = kind.Buffer (slice_index kept 0)
kept_kind row.ReadOnly k kept = kind.ReadOnly
kept_kind _ k kept = k

abbrev pub kept_object : Operation → List ℕ → Object
kept_object o kept = record { kind = kept_kind (row_of o) (kind_of o) kept; parts = kept; changes = [] }

-- what is shown of an object is what the opcode at this offset makes of the numbers that are kept
pub record IsKept (bytes kept : List ℕ) (offset : ℕ) (o : Object) : Type 0 where
  pub op : Operation
  pub rest : List ℕ
  pub spelled : IsSpelled op
  pub stands : drop offset bytes ≡ spelling op ++ rest
  pub same : o ≡ shown (kept_object op kept)

-- the numbers of the objects are kept one behind the other, those of the first from here on
abbrev pub AreKept : List ℕ → List ℕ → ℕ → List Origin → List Object → Type 0
AreKept bytes parts from [] [] = ⊤
AreKept bytes parts from (d ∷ ds) (o ∷ os) =
    (from ≤ d.end) × (d.end ≤ length parts) × IsKept bytes (between from d.end parts) d.offset o × AreKept bytes parts d.end ds os
AreKept bytes parts from [] (o ∷ os) = ⊥
AreKept bytes parts from (d ∷ ds) [] = ⊥

-- where the numbers of the object of this number begin
abbrev pub start_of : ℕ → List Origin → ℕ → ℕ
start_of from ds zero = from
start_of from [] (suc i) = from
start_of from (d ∷ ds) (suc i) = start_of d.end ds i

-- where the numbers of the last object end
abbrev pub last_end : ℕ → List Origin → ℕ
last_end from [] = from
last_end from (d ∷ ds) = last_end d.end ds

-- ---- what a move keeps

-- the parts of an object of this class that is made of what is above a mark, where they may be shown
abbrev pub if_parted : Class → List ℕ → List ℕ
if_parted class.Tuple parts = parts
if_parted class.Opaque parts = parts
if_parted class.ReadOnly parts = parts
if_parted _ parts = []

-- the numbers that are kept of the object that a row makes of this class
abbrev pub kept_of : Row → Class → ℕ → State → List ℕ
kept_of row.Buffer c buffers s = buffers ∷ []
kept_of row.ReadOnly c buffers s = last_of 1 s
kept_of (row.Take t) c buffers s = last_of (count_of t) s
kept_of (row.Cut cutting) c buffers s = if_parted c s.top
kept_of _ c buffers s = []

-- whether a row makes an object
abbrev pub makes : Row → State → Bool
makes row.Push s = true
makes (row.Extension n) s = true
makes row.Buffer s = true
makes row.ReadOnly s = not (object_meets demand.ReadOnly s (deep 0 s.top))
makes (row.Take t) s = true
makes (row.Cut c) s = true
makes _ s = false

-- what is kept after a row
abbrev pub more_parts : Row → Class → ℕ → State → List ℕ → List ℕ
more_parts r c buffers s parts = if makes r s then parts ++ kept_of r c buffers s else parts

abbrev pub more_origins : Row → State → ℕ → ℕ → List Origin → List Origin
more_origins r s offset end origins = if makes r s then origins ++ record { offset = offset; end = end } ∷ [] else origins

abbrev pub more_buffers : Row → ℕ → ℕ
more_buffers row.Buffer n = n + 1
more_buffers _ n = n

abbrev pub fresh_buffers : Bool → ℕ → ℕ
fresh_buffers true n = 0
fresh_buffers false n = n

-- ---- the machine

-- what the machine keeps is what it needs to show where its run over the bytes stands
pub record Keeps (bytes : List ℕ) (offset place : ℕ) (lean : State) (buffers : ℕ) (origins : List Origin) (parts : List ℕ) (r : Reading) : Type 0 where
  pub outline : lean ≡ outline r.state
  pub numbered : buffers ≡ r.state.buffers
  pub unread : r.rest ≡ drop offset bytes
  pub moved : r.place ≡ place
  pub counted : place ≤ offset
  pub within : offset ≤ length bytes
  pub small : length bytes < 2 ^ 32
  pub ends : last_end 0 origins ≡ length parts
  pub heap : AreKept bytes parts 0 origins (map shown r.state.heap)
