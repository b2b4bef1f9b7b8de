-- Whether a loader of some bytes reaches something, as a line.
-- Source: own. What an opcode reaches is what the definition of reaches says of it.
use Rattle.std.specs.Prelude.{ℕ, Bool, List, codes}
use Rattle.json.specs.Json.{string, boolean}
use Rattle.pickle_ops.specs.declared.opcode.Opcode.{Opcode}
use Rattle.pickle_ops.specs.declared.opcode.Opcode.TheVariants as op
use Rattle.pickle_ops.specs.Spelling.{Operation}
use Rattle.pickle_lenient.specs.declared.taken.Frames.{Frames}
use Rattle.pickle_lenient.specs.declared.taken.Frames.TheVariants as frames
use Rattle.pickle_reach.specs.declared.spot.Spot.{Spot}
use Rattle.json_lines.specs.Line.{Field, field, ◌⊕◌, whole, line}
use Rattle.pickle_json.specs.ItemFields.{head_fields, arg_fields}
use Rattle.pickle_json.specs.EndFields.{how_fields}

-- ---- something is reached

-- what is reached by an opcode that reaches something
unfoldable pub reach_name : Opcode → List ℕ
reach_name op.Ext1 = codes "extension"
reach_name op.Ext2 = codes "extension"
reach_name op.Ext4 = codes "extension"
reach_name op.PersId = codes "persistent"
reach_name op.BinPersId = codes "persistent"
reach_name op.NextBuffer = codes "buffer"
reach_name _ = codes "import"

-- what a loader does with frames
unfoldable pub frames_name : Frames → List ℕ
frames_name frames.Ignored = codes "ignored"
frames_name frames.Buffered = codes "buffered"
frames_name frames.Held = codes "held"

-- what is reached; and by which loader: what it does with frames, and how many bytes are in its buffer
unfoldable pub loader_fields : Spot → Frames → Opcode → List Field
loader_fields s f o =
    field (codes "reach") (string (reach_name o)) ⊕ field (codes "frames") (string (frames_name f)) ⊕ field (codes "in_buffer") (whole s.left)

-- where the opcode is by which it is, and this opcode
unfoldable pub by_fields : ℕ → Operation → List Field
by_fields offset o = how_fields (codes "reached") ⊕ head_fields o offset ⊕ arg_fields o

abbrev pub reached_fields : Spot → Frames → Operation → List Field
reached_fields s f o = by_fields s.offset o ⊕ loader_fields s f o.opcode

unfoldable pub reached_line : Spot → Frames → Operation → List ℕ
reached_line s f o = line (codes "end") (reached_fields s f o)

-- ---- nothing is

-- whether this is so whatever bytes follow
unfoldable pub follows_fields : Bool → List Field
follows_fields settled = field (codes "whatever_follows") (boolean settled)

-- the greatest offset at which a loader may stand, and whether nothing is reached whatever bytes follow
abbrev pub nothing_fields : ℕ → Bool → List Field
nothing_fields offset settled = how_fields (codes "nothing") ⊕ field (codes "offset") (whole offset) ⊕ follows_fields settled

unfoldable pub nothing_line : ℕ → Bool → List ℕ
nothing_line offset settled = line (codes "end") (nothing_fields offset settled)

-- ---- there are too many ways to read the bytes

abbrev pub ways_fields : List Field
ways_fields = how_fields (codes "too_many_ways")

unfoldable pub ways_line : List ℕ
ways_line = line (codes "end") ways_fields
