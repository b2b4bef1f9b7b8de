-- Each line is read back as its object, by the grammar of JSON, and is one line, whatever the names, texts and numbers of a pickle are.
-- Source: own.
use Rattle.std.specs.Prelude.{◌≡◌, ℕ, List, [], codes, Option, Some, None}
use Rattle.json.specs.Json.{string}
use Rattle.json_lines.specs.Line.{field, ◌⊕◌, whole}
use Rattle.json_lines.specs.Readable.{ReadsBackAs, IsLineOfJson, IsJsonLines}
use Rattle.line_buffer.specs.Line.{line_text}
use Rattle.pickle_io.specs.declared.hole.Hole.{Hole}
use Rattle.pickle_ops.specs.declared.kind.Kind.{Kind}
use Rattle.pickle_ops.specs.declared.row.Filling.{Filling}
use Rattle.pickle_ops.specs.Object.{Object}
use Rattle.pickle_ops.specs.Spelling.{Operation}
use Rattle.pickle_doc.specs.declared.fault.TailFault.{TailFault}
use Rattle.pickle_machine.specs.declared.refusal.Refusal.{Refusal}
use Rattle.pickle_lenient.specs.declared.taken.Frames.{Frames}
use Rattle.pickle_text.specs.declared.closing.Closing.{Closing}
use Rattle.pickle_text.specs.Output.{Output}
use Rattle.pickle_calls.specs.declared.end.Ending.{Ending}
use Rattle.pickle_calls.specs.declared.event.Event.{Event}
use Rattle.pickle_calls.specs.declared.naming.Naming.{Naming}
use Rattle.pickle_calls.specs.Begins.{begins_like}
use Rattle.pickle_calls.specs.Manner.{Manner}
use Rattle.pickle_further.specs.declared.way.Pickles.{Pickles}
use Rattle.pickle_further.specs.Leads.{warning_line}
use Rattle.pickle_further.specs.Deep.{deep_line as nested_line}
use Rattle.pickle_further.specs.Parts.{header, loss_line as lost_line, mixed_line as mixing_line}
use Rattle.mixes_text.specs.MixText.{above_line as above_text, many_line as many_text}
use Rattle.pickle_json.specs.EndFields.{how_fields, coded_fields, stopped_fields, refused_fields, tail_fields}
use Rattle.pickle_json.specs.ShownFields.{shown_fields}
use Rattle.calls_json.specs.declared.said.Operand.TheVariants as operand
use Rattle.calls_json.specs.ValueFields.{operand_fields}
use Rattle.calls_json.specs.EventFields.{made_word, made_fields, around, made_line, absent_line, state_line, fill_word, count_fields, filled_line, event_line}
use Rattle.calls_json.specs.LastFields.{like_fields, like_line, counts_fields, counts_line, at_fields, item_fields, unsure_words, loss_words, mixed_words, stopped_line, refused_line, fault_line, unsure_line, ending_line, closing_line, leads_words, deep_words, warning_fields, leads_line, deep_line, frames_word, heading_line, loss_line, mixed_line, hole_fields, hole_line, status_line}
use Rattle.calls_json.specs.Told.{IsCallsLines}
use Rattle.calls_json.specs.MixFields.{above_line, taken_fields, taken_line, below_fields, below_line, many_line}

-- ---- events

-- what was made, or is not there; the state that was set; what went into an object. Each event has one of these lines
pub record EventLinesReadBack : Type 0 where
  pub made : (offset : ℕ) (shown : Option (List ℕ)) (m : Naming) (heap : List Object) (id : ℕ) (k : Kind) (parts : List ℕ)
      → ReadsBackAs (made_line offset shown m heap id k parts) (made_word k) (around offset (made_fields m heap k parts) id shown)
  pub absent : (offset : ℕ) (shown : Option (List ℕ)) (id : ℕ) → ReadsBackAs (absent_line offset shown id) (codes "made") (around offset [] id shown)
  pub state : (offset : ℕ) (shown : Option (List ℕ)) (m : Naming) (heap : List Object) (value target : ℕ)
      → ReadsBackAs (state_line offset shown m heap value target) (codes "state") (around offset (operand_fields operand.State m heap value) target shown)
  pub filled : (offset : ℕ) (shown : Option (List ℕ)) (f : Filling) (count target : ℕ)
      → ReadsBackAs (filled_line offset shown f count target) (fill_word f) (around offset (count_fields count) target shown)
  pub event : (offset : ℕ) (m : Naming) (heap : List Object) (e : Event) → IsLineOfJson (event_line offset m heap e)

-- ---- the other lines

-- how a reading ended
pub record EndingLinesReadBack : Type 0 where
  pub stopped : (kept : ℕ) (shown : Option (List ℕ)) → ReadsBackAs (stopped_line kept shown) (codes "ending") (stopped_fields kept None ⊕ shown_fields shown)
  pub refused : (place : ℕ) (r : Refusal) (shown : Option (List ℕ))
      → ReadsBackAs (refused_line place r shown) (codes "ending") (refused_fields r None ⊕ item_fields place ⊕ shown_fields shown)
  pub fault : (f : TailFault) (offset : ℕ) (shown : Option (List ℕ)) → ReadsBackAs (fault_line f offset shown) (codes "ending") (tail_fields f offset None ⊕ shown_fields shown)
  pub unsure : (offset : ℕ) (shown : Option (List ℕ))
      → ReadsBackAs (unsure_line offset shown) (codes "ending") (how_fields (codes "unsure") ⊕ coded_fields (codes "U1") unsure_words ⊕ at_fields offset ⊕ shown_fields shown)
  pub ending : (e : Ending) → IsLineOfJson (ending_line e)
  pub closing : (c : Closing) → IsLineOfJson (closing_line c)

-- what the bytes begin like, counts, warnings, what loaders disagree about, a hole behind the file, the last line, and what mixes frames
pub record OtherLinesReadBack : Type 0 where
  pub begins : (bytes name : List ℕ) → begins_like bytes ≡ Some name → ReadsBackAs (like_line name) (codes "begins") (like_fields name)
  pub counts : (imports calls : ℕ) → ReadsBackAs (counts_line imports calls) (codes "counts") (counts_fields imports calls)
  pub leads : (id : ℕ)
      → ReadsBackAs (leads_line id) (codes "warning") (warning_fields (codes "unpickler") id leads_words ⊕ shown_fields (line_text (warning_line id)))
  pub deep : (id : ℕ) → ReadsBackAs (deep_line id) (codes "warning") (warning_fields (codes "nesting") id deep_words ⊕ shown_fields (line_text (nested_line id)))
  pub heading : (f : Frames) → ReadsBackAs (heading_line f) (codes "heading") (field (codes "frames") (string (frames_word f)) ⊕ shown_fields (line_text (header f)))
  pub loss : (offset : ℕ)
      → ReadsBackAs (loss_line offset) (codes "unsure") (coded_fields (codes "U2") loss_words ⊕ at_fields offset ⊕ shown_fields (line_text (lost_line offset)))
  pub mixed : (offset : ℕ)
      → ReadsBackAs (mixed_line offset) (codes "unsure") (coded_fields (codes "U3") mixed_words ⊕ at_fields offset ⊕ shown_fields (line_text (mixing_line offset)))
  pub hole : (h : Hole) (size : ℕ) → ReadsBackAs (hole_line h size) (codes "hole") (hole_fields h size)
  pub status : (n : ℕ) → ReadsBackAs (status_line n) (codes "end") (field (codes "status") (whole n))
  pub above : ReadsBackAs above_line (codes "mixes") (shown_fields (line_text above_text))
  pub taken : (offset : ℕ) (o : Operation) → ReadsBackAs (taken_line offset o) (codes "taken") (taken_fields offset o)
  pub below : (count : ℕ) → ReadsBackAs (below_line count) (codes "opcodes") (below_fields count)
  pub many : ReadsBackAs many_line (codes "too_many_ways") (shown_fields (line_text many_text))

-- ---- the whole

-- the lines of bytes are such lines, one after another
abbrev pub WholeIsLines : Type 0
WholeIsLines = (how : Manner) (p : Pickles) (bytes : List ℕ) (o : Output) → IsCallsLines how p bytes o → IsJsonLines o.text
