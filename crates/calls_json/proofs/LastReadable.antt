-- The fields of each line that is no event can be read back, and so the line is.
use Rattle.std.proofs.Common.{◌≡◌, ℕ, Bool, true, false, List, [], ◌∷◌, Option, None, Some, refl, subst}
use Rattle.std.specs.Prelude.{◌&&◌, codes, if◌then◌else◌, ⊤}
use Rattle.std.specs.List.{list_all}
use Rattle.std.proofs.lemmas.Bool.{and_parts}
use Rattle.json.specs.Json.{string}
use Rattle.json_lines.specs.Json.{is_plain}
use Rattle.json_lines.specs.Line.{field, ◌⊕◌, whole}
use Rattle.json_lines.specs.Readable.{ArePlain, ReadsBackAs, IsLineOfJson}
use Rattle.json_lines.proofs.Nested.{number, text, both, plain_line_reads}
use Rattle.json_lines.proofs.Wholes.{line_read}
use Rattle.line_buffer.specs.Line.{line_text}
use Rattle.pickle_io.specs.declared.hole.Hole.{Hole}
use Rattle.pickle_ops.specs.Spelling.{Operation}
use Rattle.pickle_ops.specs.Table.{name_of}
use Rattle.pickle_doc.specs.declared.fault.TailFault.{TailFault}
use Rattle.pickle_machine.specs.declared.refusal.Refusal.{Refusal}
use Rattle.pickle_lenient.specs.declared.taken.Frames.{Frames}
use Rattle.pickle_lenient.specs.declared.taken.Frames.TheVariants as frames
use Rattle.pickle_text.specs.declared.closing.Closing.{Closing}
use Rattle.pickle_text.specs.declared.closing.Closing.TheVariants as closing
use Rattle.pickle_calls.specs.declared.begins.TheConstants.{CONTAINERS}
use Rattle.pickle_calls.specs.Begins.{is_like, begins_by, begins_like, begins_line}
use Rattle.pickle_calls.specs.CallsLine.{totals_line, ending_lines}
use Rattle.pickle_calls.specs.declared.end.Ending.{Ending}
use Rattle.pickle_calls.specs.declared.end.Ending.TheVariants as ending
use Rattle.pickle_further.specs.Leads.{warning_line}
use Rattle.pickle_further.specs.Deep.{deep_line as nested_line}
use Rattle.pickle_further.specs.Parts.{header, ends_line, loss_line as lost_line, mixed_line as mixing_line}
use Rattle.mixes_text.specs.MixText.{above_line as above_text, taken_line as taken_text, below_line as below_text, many_line as many_text}
use Rattle.pickle_json.specs.EndFields.{how_fields, coded_fields, stopped_fields, refused_fields, tail_fields}
use Rattle.pickle_json.specs.ShownFields.{shown_fields}
use Rattle.pickle_json.proofs.Readable.{ended, coded, stopped, refused, fault, shown, name_plain}
use Rattle.calls_json.specs.LastFields.{like_fields, like_line, counts_fields, counts_line, at_fields, item_fields, unsure_words, loss_words, mixed_words, stopped_line, refused_line, fault_line, unsure_line, closing_with, ending_with, ending_line, closing_line, leads_words, deep_words, warning_fields, leads_line, deep_line, frames_word, heading_line, loss_line, mixed_line, hole_fields, hole_line, status_line}
use Rattle.calls_json.specs.MixFields.{above_line, taken_fields, taken_line, below_fields, below_line, many_line}
use Rattle.calls_json.specs.Readable.{EndingLinesReadBack, OtherLinesReadBack}
use Rattle.calls_json.proofs.Readable.{object}

-- ---- how a reading ended

offset_at : (offset : ℕ) → ArePlain (at_fields offset)
unfolding at_fields
offset_at offset = number (codes "offset") offset refl

item : (place : ℕ) → ArePlain (item_fields place)
unfolding item_fields
item place = number (codes "item") place refl

stopped_reads : (kept : ℕ) (words : Option (List ℕ)) → ReadsBackAs (stopped_line kept words) (codes "ending") (stopped_fields kept None ⊕ shown_fields words)
unfolding stopped_line
stopped_reads kept words = plain_line_reads (codes "ending") (stopped_fields kept None ⊕ shown_fields words) refl (both _ _ (stopped kept None) (shown words))

refused_reads : (place : ℕ) (r : Refusal) (words : Option (List ℕ))
    → ReadsBackAs (refused_line place r words) (codes "ending") (refused_fields r None ⊕ item_fields place ⊕ shown_fields words)
unfolding refused_line
refused_reads place r words =
    plain_line_reads (codes "ending") (refused_fields r None ⊕ item_fields place ⊕ shown_fields words) refl (both _ _ (both _ _ (refused r None) (item place)) (shown words))

fault_reads : (f : TailFault) (offset : ℕ) (words : Option (List ℕ)) → ReadsBackAs (fault_line f offset words) (codes "ending") (tail_fields f offset None ⊕ shown_fields words)
unfolding fault_line
fault_reads f offset words = plain_line_reads (codes "ending") (tail_fields f offset None ⊕ shown_fields words) refl (both _ _ (fault f offset None) (shown words))

unsure_reads : (offset : ℕ) (words : Option (List ℕ))
    → ReadsBackAs (unsure_line offset words) (codes "ending") (how_fields (codes "unsure") ⊕ coded_fields (codes "U1") unsure_words ⊕ at_fields offset ⊕ shown_fields words)
unfolding unsure_line unsure_words
unsure_reads offset words =
    plain_line_reads (codes "ending") _ refl
    (both _ _ (both _ _ (both _ _ (ended (codes "unsure") refl) (coded (codes "U1") (codes "frame goes on behind STOP") refl refl)) (offset_at offset)) (shown words))

closing_reads : (kept : ℕ) (c : Closing) (words : Option (List ℕ)) → IsLineOfJson (closing_with kept c words)
unfolding closing_with
closing_reads kept closing.Stopped words = line_read _ _ _ (stopped_reads kept words)
closing_reads kept (closing.Refused place r) words = line_read _ _ _ (refused_reads place r words)
closing_reads kept (closing.Fault f offset) words = line_read _ _ _ (fault_reads f offset words)

ending_reads : (e : Ending) (words : Option (List ℕ)) → IsLineOfJson (ending_with e words)
unfolding ending_with
ending_reads (ending.Closed kept c) words = closing_reads kept c words
ending_reads (ending.Unsure offset) words = line_read _ _ _ (unsure_reads offset words)

whole_ending : (e : Ending) → IsLineOfJson (ending_line e)
unfolding ending_line
whole_ending e = ending_reads e (line_text (ending_lines e))

whole_closing : (c : Closing) → IsLineOfJson (closing_line c)
unfolding closing_line
whole_closing c = closing_reads 0 c (line_text (ends_line c))

pub ending_lines_read_back : EndingLinesReadBack
ending_lines_read_back =
    record { stopped = stopped_reads; refused = refused_reads; fault = fault_reads; unsure = unsure_reads; ending = whole_ending; closing = whole_closing }

-- ---- what the bytes begin like: each row of the table has a name of characters that stand for themselves

abbrev all_plain : {R : Type 0} → (R → List ℕ) → List R → Bool
all_plain name [] = true
all_plain name (r ∷ rows) = list_all is_plain (name r) && all_plain name rows

abbrev IsPlainName : Option (List ℕ) → Type 0
IsPlainName None = ⊤
IsPlainName (Some name) = list_all is_plain name ≡ true

row_named : (b : Bool) (name : List ℕ) (found : Option (List ℕ)) → list_all is_plain name ≡ true → IsPlainName found → IsPlainName (if b then Some name else found)
row_named true name found p q = p
row_named false name found p q = q

rows_named : {R : Type 0} (bytes : List ℕ) (offset : R → ℕ) (magic name : R → List ℕ) (rows : List R) → all_plain name rows ≡ true → IsPlainName (begins_by offset magic name rows bytes)
rows_named bytes offset magic name [] p = tt
rows_named bytes offset magic name (r ∷ rows) p =
    let plain = and_parts (list_all is_plain (name r)) (all_plain name rows) p in
    row_named (is_like (offset r) (magic r) bytes) (name r) (begins_by offset magic name rows bytes) plain.0 (rows_named bytes offset magic name rows plain.1)

begins_named : (bytes : List ℕ) → IsPlainName (begins_like bytes)
unfolding begins_like
begins_named bytes = rows_named bytes (λ r. r.0) (λ r. r.1.now) (λ r. r.2.now) CONTAINERS refl

like_reads : (name : List ℕ) → list_all is_plain name ≡ true → ReadsBackAs (like_line name) (codes "begins") (like_fields name)
unfolding like_line
like_reads name p = plain_line_reads (codes "begins") (like_fields name) refl (both _ _ (text (codes "like") name refl p) (shown (line_text (begins_line name))))

begins_reads : (bytes name : List ℕ) → begins_like bytes ≡ Some name → ReadsBackAs (like_line name) (codes "begins") (like_fields name)
begins_reads bytes name e = like_reads name (subst (λ (found : Option (List ℕ)). IsPlainName found) e (begins_named bytes))

-- ---- counts and warnings

counts_reads : (imports calls : ℕ) → ReadsBackAs (counts_line imports calls) (codes "counts") (counts_fields imports calls)
unfolding counts_line
counts_reads imports calls =
    plain_line_reads (codes "counts") (counts_fields imports calls) refl
    (both _ _ (both _ _ (number (codes "imports") imports refl) (number (codes "calls") calls refl)) (shown (line_text (totals_line imports calls))))

warned : (about : List ℕ) (id : ℕ) (words : List ℕ) → list_all is_plain about ≡ true → list_all is_plain words ≡ true → ArePlain (warning_fields about id words)
unfolding warning_fields
warned about id words h k = both _ _ (both _ _ (text (codes "about") about refl h) (object (codes "object") id refl)) (text (codes "words") words refl k)

leads_reads : (id : ℕ) → ReadsBackAs (leads_line id) (codes "warning") (warning_fields (codes "unpickler") id leads_words ⊕ shown_fields (line_text (warning_line id)))
unfolding leads_line leads_words
leads_reads id = plain_line_reads (codes "warning") _ refl (both _ _ (warned (codes "unpickler") id _ refl refl) (shown (line_text (warning_line id))))

deep_reads : (id : ℕ) → ReadsBackAs (deep_line id) (codes "warning") (warning_fields (codes "nesting") id deep_words ⊕ shown_fields (line_text (nested_line id)))
unfolding deep_line deep_words
deep_reads id = plain_line_reads (codes "warning") _ refl (both _ _ (warned (codes "nesting") id _ refl refl) (shown (line_text (nested_line id))))

-- ---- behind an end

frames_plain : (f : Frames) → list_all is_plain (frames_word f) ≡ true
unfolding frames_word
frames_plain frames.Ignored = refl
frames_plain frames.Buffered = refl
frames_plain frames.Held = refl

heading_reads : (f : Frames) → ReadsBackAs (heading_line f) (codes "heading") (field (codes "frames") (string (frames_word f)) ⊕ shown_fields (line_text (header f)))
unfolding heading_line
heading_reads f = plain_line_reads (codes "heading") _ refl (both _ _ (text (codes "frames") (frames_word f) refl (frames_plain f)) (shown (line_text (header f))))

loss_reads : (offset : ℕ)
    → ReadsBackAs (loss_line offset) (codes "unsure") (coded_fields (codes "U2") loss_words ⊕ at_fields offset ⊕ shown_fields (line_text (lost_line offset)))
unfolding loss_line loss_words
loss_reads offset = plain_line_reads (codes "unsure") _ refl (both _ _ (both _ _ (coded (codes "U2") _ refl refl) (offset_at offset)) (shown (line_text (lost_line offset))))

mixed_reads : (offset : ℕ)
    → ReadsBackAs (mixed_line offset) (codes "unsure") (coded_fields (codes "U3") mixed_words ⊕ at_fields offset ⊕ shown_fields (line_text (mixing_line offset)))
unfolding mixed_line mixed_words
mixed_reads offset = plain_line_reads (codes "unsure") _ refl (both _ _ (both _ _ (coded (codes "U3") _ refl refl) (offset_at offset)) (shown (line_text (mixing_line offset))))

-- ---- a hole, and the status

outside : (h : Hole) (size : ℕ) → ArePlain (hole_fields h size)
unfolding hole_fields
outside h size = both _ _ (both _ _ (number (codes "offset") h.offset refl) (number (codes "size") h.size refl)) (number (codes "bytes") size refl)

hole_reads : (h : Hole) (size : ℕ) → ReadsBackAs (hole_line h size) (codes "hole") (hole_fields h size)
unfolding hole_line
hole_reads h size = plain_line_reads (codes "hole") (hole_fields h size) refl (outside h size)

status_reads : (n : ℕ) → ReadsBackAs (status_line n) (codes "end") (field (codes "status") (whole n))
unfolding status_line
status_reads n = plain_line_reads (codes "end") (field (codes "status") (whole n)) refl (number (codes "status") n refl)

-- ---- what mixes frames

above_reads : ReadsBackAs above_line (codes "mixes") (shown_fields (line_text above_text))
unfolding above_line
above_reads = plain_line_reads (codes "mixes") _ refl (shown (line_text above_text))

taken_reads : (offset : ℕ) (o : Operation) → ReadsBackAs (taken_line offset o) (codes "taken") (taken_fields offset o)
unfolding taken_line
taken_reads offset o =
    plain_line_reads (codes "taken") (taken_fields offset o) refl
    (both _ _ (both _ _ (number (codes "offset") offset refl) (text (codes "opcode") (name_of o.opcode) refl (name_plain o.opcode))) (shown (line_text (taken_text offset o))))

below_reads : (count : ℕ) → ReadsBackAs (below_line count) (codes "opcodes") (below_fields count)
unfolding below_line
below_reads count = plain_line_reads (codes "opcodes") (below_fields count) refl (both _ _ (number (codes "count") count refl) (shown (line_text (below_text count))))

many_reads : ReadsBackAs many_line (codes "too_many_ways") (shown_fields (line_text many_text))
unfolding many_line
many_reads = plain_line_reads (codes "too_many_ways") _ refl (shown (line_text many_text))

pub other_lines_read_back : OtherLinesReadBack
other_lines_read_back =
    record {
      begins = begins_reads;
      counts = counts_reads;
      leads = leads_reads;
      deep = deep_reads;
      heading = heading_reads;
      loss = loss_reads;
      mixed = mixed_reads;
      hole = hole_reads;
      status = status_reads;
      above = above_reads;
      taken = taken_reads;
      below = below_reads;
      many = many_reads;
    }
