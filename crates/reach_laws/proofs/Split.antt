-- Reads from bytes of which some are in a buffer: what does not fit into what is left of it is read behind it, and that is lost.
use Rattle.std.specs.Prelude.{ℕ, ◌-◌, List, [], ◌∷◌, ◌++◌, length, take, drop, nat_le, if◌then◌else◌, Option, Some, None}
use Rattle.byteorder.specs.Endian.{little_number}
use Rattle.pickle_ops.specs.declared.opcode.Opcode.{Opcode}
use Rattle.pickle_ops.specs.declared.form.Form.{Form}
use Rattle.pickle_ops.specs.declared.form.Form.TheVariants as form
use Rattle.pickle_lenient.specs.Stream.{is_filled}
use Rattle.pickle_loader.specs.Reader.{Line, line_at}
use Rattle.pickle_loader.specs.ShownFile.{is_below}

-- in the buffer, and behind it
pub record Split : Type 0 where
  pub inside : List ℕ
  pub outside : List ℕ

abbrev pub all : Split → List ℕ
all s = s.inside ++ s.outside

-- what was read, and what is left
pub record Got : Type 0 where
  pub bytes : List ℕ
  pub after : Split

abbrev pub got_inside : ℕ → Split → Got
got_inside n s = record { bytes = take n s.inside; after = record s { inside = drop n s.inside } }

abbrev pub from_outside : ℕ → List ℕ → Option Got
from_outside n outside = if nat_le n (length outside) then Some (record { bytes = take n outside; after = record { inside = []; outside = drop n outside } }) else None

abbrev pub reads : ℕ → Split → Option Got
reads n s = if nat_le n (length s.inside) then Some (got_inside n s) else from_outside n s.outside

-- what is in the buffer, and the others behind it
abbrev pub rest_outside : List ℕ → ℕ → List ℕ → Option Got
rest_outside front n outside = if nat_le n (length outside) then Some (record { bytes = front ++ take n outside; after = record { inside = []; outside = drop n outside } }) else None

abbrev pub reads_into : ℕ → Split → Option Got
reads_into n s = if nat_le n (length s.inside) then Some (got_inside n s) else rest_outside s.inside (n - length s.inside) s.outside

abbrev pub line_outside : Option Line → Option Got
line_outside None = None
line_outside (Some l) = Some (record { bytes = l.text ++ 10 ∷ []; after = record { inside = []; outside = l.rest } })

abbrev pub line_by : Option Line → List ℕ → Option Got
line_by None outside = line_outside (line_at outside)
line_by (Some l) outside = Some (record { bytes = l.text ++ 10 ∷ []; after = record { inside = l.rest; outside = outside } })

abbrev pub reads_line : Split → Option Got
reads_line s = line_by (line_at s.inside) s.outside

abbrev pub joined : List ℕ → Option Got → Option Got
joined front None = None
joined front (Some g) = Some (record g { bytes = front ++ g.bytes })

abbrev pub and_then : Option Got → (List ℕ → Split → Option Got) → Option Got
and_then None more = None
and_then (Some g) more = joined g.bytes (more g.bytes g.after)

abbrev pub reads_payload : Opcode → ℕ → Split → Option Got
reads_payload o n s = if is_filled o then reads_into n s else reads n s

abbrev pub counts : Opcode → ℕ → List ℕ → Split → Option Got
counts o width size s = if is_below o size then None else reads_payload o (little_number width size) s

abbrev pub reads_counted : Opcode → ℕ → Split → Option Got
reads_counted o width s = and_then (reads width s) (counts o width)

abbrev pub reads_arg : Opcode → Form → Split → Option Got
reads_arg o form.Empty s = Some (record { bytes = []; after = s })
reads_arg o form.Uint1 s = reads 1 s
reads_arg o form.Uint2 s = reads 2 s
reads_arg o form.Uint4 s = reads 4 s
reads_arg o form.Uint8 s = reads 8 s
reads_arg o form.Int4 s = reads 4 s
reads_arg o form.Float8 s = reads 8 s
reads_arg o form.Line s = reads_line s
reads_arg o form.Quoted s = reads_line s
reads_arg o form.Decimal s = reads_line s
reads_arg o form.Two s = and_then (reads_line s) (λ first q. reads_line q)
reads_arg o form.Bytes1 s = reads_counted o 1 s
reads_arg o form.Bytes4 s = reads_counted o 4 s
reads_arg o form.Bytes8 s = reads_counted o 8 s
reads_arg o form.String4 s = reads_counted o 4 s
