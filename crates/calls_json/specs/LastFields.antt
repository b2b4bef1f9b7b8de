-- The other lines of calls: what the bytes begin like, counts, endings, warnings, headings, and what loaders disagree about. Each but the last has
-- the line for people, which is cited here by its own definition.
-- Source: own.
use Rattle.std.specs.Prelude.{ℕ, List, [], codes, Option, Some, None}
use Rattle.json.specs.Json.{string}
use Rattle.json_lines.specs.Line.{Field, field, ◌⊕◌, whole, line}
use Rattle.pickle_io.specs.Text.{◌⧺◌}
use Rattle.pickle_io.specs.declared.hole.Hole.{Hole}
use Rattle.pickle_doc.specs.declared.fault.TailFault.{TailFault}
use Rattle.pickle_machine.specs.declared.refusal.Refusal.{Refusal}
use Rattle.pickle_lenient.specs.declared.taken.Frames.{Frames}
use Rattle.pickle_lenient.specs.declared.taken.Frames.TheVariants as frames
use Rattle.pickle_text.specs.declared.closing.Closing.{Closing}
use Rattle.pickle_text.specs.declared.closing.Closing.TheVariants as closing
use Rattle.pickle_calls.specs.declared.end.Ending.{Ending}
use Rattle.pickle_calls.specs.declared.end.Ending.TheVariants as ending
use Rattle.pickle_calls.specs.Begins.{begins_like, begins_line}
use Rattle.pickle_calls.specs.CallsLine.{totals_line, ending_lines}
use Rattle.pickle_further.specs.Leads.{warning_line}
use Rattle.pickle_further.specs.Deep.{deep_line as nested_line}
use Rattle.pickle_further.specs.Parts.{header, ends_line, loss_line as lost_line, mixed_line as mixing_line}
use Rattle.line_buffer.specs.Line.{line_text}
use Rattle.pickle_json.specs.EndFields.{how_fields, coded_fields, stopped_fields, refused_fields, tail_fields}
use Rattle.calls_json.specs.NameFields.{id_fields}
use Rattle.pickle_json.specs.ShownFields.{shown_fields}

-- ---- what the bytes begin like

abbrev pub like_fields : List ℕ → List Field
like_fields name = field (codes "like") (string name) ⊕ shown_fields (line_text (begins_line name))

unfoldable pub like_line : List ℕ → List ℕ
like_line name = line (codes "begins") (like_fields name)

abbrev pub like_text : Option (List ℕ) → List ℕ
like_text None = []
like_text (Some name) = like_line name

unfoldable pub begins_text : List ℕ → List ℕ
begins_text bytes = like_text (begins_like bytes)

-- ---- how many

abbrev pub counts_fields : ℕ → ℕ → List Field
counts_fields imports calls = field (codes "imports") (whole imports) ⊕ field (codes "calls") (whole calls) ⊕ shown_fields (line_text (totals_line imports calls))

unfoldable pub counts_line : ℕ → ℕ → List ℕ
counts_line imports calls = line (codes "counts") (counts_fields imports calls)

-- ---- how reading ended

unfoldable pub at_fields : ℕ → List Field
at_fields offset = field (codes "offset") (whole offset)

unfoldable pub item_fields : ℕ → List Field
item_fields place = field (codes "item") (whole place)

-- the words of what loaders disagree about
unfoldable pub unsure_words : List ℕ
unsure_words = codes "frame goes on behind STOP"

unfoldable pub loss_words : List ℕ
loss_words = codes "rest of a frame is lost"

unfoldable pub mixed_words : List ℕ
mixed_words = codes "frames may be mixed"

unfoldable pub stopped_line : ℕ → Option (List ℕ) → List ℕ
stopped_line kept shown = line (codes "ending") (stopped_fields kept None ⊕ shown_fields shown)

unfoldable pub refused_line : ℕ → Refusal → Option (List ℕ) → List ℕ
refused_line place r shown = line (codes "ending") (refused_fields r None ⊕ item_fields place ⊕ shown_fields shown)

unfoldable pub fault_line : TailFault → ℕ → Option (List ℕ) → List ℕ
fault_line f offset shown = line (codes "ending") (tail_fields f offset None ⊕ shown_fields shown)

unfoldable pub unsure_line : ℕ → Option (List ℕ) → List ℕ
unsure_line offset shown =
    line (codes "ending") (how_fields (codes "unsure") ⊕ coded_fields (codes "U1") unsure_words ⊕ at_fields offset ⊕ shown_fields shown)

-- after STOP, behind which so many bytes are left; or at an item that is refused, or a fault
unfoldable pub closing_with : ℕ → Closing → Option (List ℕ) → List ℕ
closing_with kept closing.Stopped shown = stopped_line kept shown
closing_with kept (closing.Refused place r) shown = refused_line place r shown
closing_with kept (closing.Fault f offset) shown = fault_line f offset shown

unfoldable pub ending_with : Ending → Option (List ℕ) → List ℕ
ending_with (ending.Closed kept c) shown = closing_with kept c shown
ending_with (ending.Unsure offset) shown = unsure_line offset shown

-- of all that is read, and of a part: for people it is said in other words
unfoldable pub ending_line : Ending → List ℕ
ending_line e = ending_with e (line_text (ending_lines e))

unfoldable pub closing_line : Closing → List ℕ
closing_line c = closing_with 0 c (line_text (ends_line c))

-- what the bytes begin like, how many imports and calls there are, and how the reading ended
unfoldable pub end_text : List ℕ → ℕ → ℕ → Ending → List ℕ
end_text bytes imports calls e = begins_text bytes ⧺ counts_line imports calls ⧺ ending_line e

-- ---- warnings

unfoldable pub leads_words : List ℕ
leads_words = codes "leads to the unpickler"

unfoldable pub deep_words : List ℕ
deep_words = codes "is a tuple nested deeper than 100"

unfoldable pub warning_fields : List ℕ → ℕ → List ℕ → List Field
warning_fields about id words = field (codes "about") (string about) ⊕ id_fields (codes "object") id ⊕ field (codes "words") (string words)

unfoldable pub leads_line : ℕ → List ℕ
leads_line id = line (codes "warning") (warning_fields (codes "unpickler") id leads_words ⊕ shown_fields (line_text (warning_line id)))

unfoldable pub deep_line : ℕ → List ℕ
deep_line id = line (codes "warning") (warning_fields (codes "nesting") id deep_words ⊕ shown_fields (line_text (nested_line id)))

abbrev pub leads_text : Option ℕ → List ℕ
leads_text None = []
leads_text (Some id) = leads_line id

abbrev pub deep_text : Option ℕ → List ℕ
deep_text None = []
deep_text (Some id) = deep_line id

-- of an import that leads to the unpickler, or else of a tuple that is nested too deep
abbrev pub warnings_text : Option ℕ → Option ℕ → List ℕ
warnings_text (Some id) deep = leads_line id
warnings_text None deep = deep_text deep

-- ---- behind an end

unfoldable pub frames_word : Frames → List ℕ
frames_word frames.Ignored = codes "ignored"
frames_word frames.Buffered = codes "buffered"
frames_word frames.Held = codes "held"

unfoldable pub heading_line : Frames → List ℕ
heading_line f = line (codes "heading") (field (codes "frames") (string (frames_word f)) ⊕ shown_fields (line_text (header f)))

unfoldable pub part_end : ℕ → ℕ → Closing → Option ℕ → List ℕ
part_end imports calls c leads = counts_line imports calls ⧺ (closing_line c ⧺ leads_text leads)

unfoldable pub loss_line : ℕ → List ℕ
loss_line offset = line (codes "unsure") (coded_fields (codes "U2") loss_words ⊕ at_fields offset ⊕ shown_fields (line_text (lost_line offset)))

unfoldable pub mixed_line : ℕ → List ℕ
mixed_line offset = line (codes "unsure") (coded_fields (codes "U3") mixed_words ⊕ at_fields offset ⊕ shown_fields (line_text (mixing_line offset)))

-- ---- a hole that does not lie within the file

unfoldable pub hole_fields : Hole → ℕ → List Field
hole_fields h size = field (codes "offset") (whole h.offset) ⊕ field (codes "size") (whole h.size) ⊕ field (codes "bytes") (whole size)

unfoldable pub hole_line : Hole → ℕ → List ℕ
hole_line h size = line (codes "hole") (hole_fields h size)

-- ---- the last line

unfoldable pub status_line : ℕ → List ℕ
status_line status = line (codes "end") (field (codes "status") (whole status))
