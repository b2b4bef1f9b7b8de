-- The form that picklers write: the first place of a document at which it is in another, and why.
-- Source: own; each rule has its source where it is.
use Rattle.std.specs.Prelude.{◌≡◌, ℕ, ◌+◌, nat_lt, if◌then◌else◌, false, List, [], ◌∷◌, length, Option, Some, None}
use Rattle.pickle_ops.specs.Spelling.{Operation, size_of}
use Rattle.pickle_ops.specs.Row.{row_of}
use Rattle.pickle_doc.specs.declared.fault.TailFault.{TailFault}
use Rattle.pickle_doc.specs.declared.fault.TailFault.TheVariants as tail
use Rattle.pickle_doc.specs.Document.{Contents, ReadsAs, ended_by}
use Rattle.pickle_doc.specs.Place.{ops_of}
use Rattle.pickle_form.specs.declared.reason.Reason.{Reason}
use Rattle.pickle_form.specs.declared.reason.Reason.TheVariants as reason
use Rattle.pickle_form.specs.declared.reason.Other.{Other}
use Rattle.pickle_form.specs.Spelled.{or_else, other_argument}
use Rattle.pickle_form.specs.Run.{Run, begin_run, other_run, after_run, first_here}
use Rattle.pickle_form.specs.Held.{Held, nothing_held, role_of, other_behind_two, other_row, next}

-- what the opcodes before a place come to
pub record Before : Type 0 where
  pub run : Run
  pub held : Held

abbrev pub begin : Before
begin = record { run = begin_run; held = nothing_held }

-- why no pickler writes this opcode here: the first rule that it breaks
abbrev pub reason_of : Operation → Before → Option Reason
reason_of o b =
    or_else (other_argument o.opcode o.arg)
    (or_else (other_run o b.run) (or_else (other_behind_two o.opcode b.held) (other_row (first_here o b.run) (row_of o) (role_of o.opcode o.arg) b.held)))

abbrev pub after : Operation → Before → Before
after o b = record { run = after_run o b.run; held = next (first_here o b.run) (row_of o) (role_of o.opcode o.arg) b.held }

-- ---- the end

-- why bytes are no further opcode
abbrev pub fault_reason : TailFault → Reason
fault_reason (tail.Front f) = reason.Unreadable
fault_reason tail.FrameInFrame = reason.FrameInFrame
fault_reason tail.FramePastEnd = reason.FramePastEnd
fault_reason tail.FrameCrossed = reason.FrameCrossed

-- STOP ends the bytes
abbrev pub end_reason : Option TailFault → ℕ → Option Reason
end_reason (Some f) behind = Some (fault_reason f)
end_reason None behind = if nat_lt 0 behind then Some reason.Behind else None

-- ---- the first place

abbrev pub at_place : ℕ → ℕ → Reason → Other
at_place place offset why = record { place = place; offset = offset; reason = why }

abbrev pub other_here : ℕ → ℕ → Option Reason → Option Other → Option Other
other_here place offset (Some why) rest = Some (at_place place offset why)
other_here place offset None rest = rest

-- the first from an item on: its place and offset, and what the opcodes before it come to
abbrev pub first_from : Contents → Before → ℕ → ℕ → List Operation → Option Other
first_from d b place offset [] = other_here place offset (end_reason (ended_by d) (length d.tail)) None
first_from d b place offset (o ∷ ops) = other_here place offset (reason_of o b) (first_from d (after o b) (place + 1) (offset + size_of o) ops)

-- the first of a document of one pickle; none where it is in the form
unfoldable pub first_other : Contents → Option Other
first_other d = first_from d begin 0 0 (ops_of d)

-- this is the first of the document that the bytes read as
abbrev pub IsFirstOther : List ℕ → Option Other → Type 0
IsFirstOther bytes first = (d : Contents) × ReadsAs false bytes d × (first ≡ first_other d)
