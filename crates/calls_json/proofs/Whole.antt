-- The whole is lines that are read back, one after another.
use Rattle.std.proofs.Common.{◌≡◌, ◌==◌, ℕ, zero, suc, Bool, true, false, List, [], length, Option, None, Some, Result, Ok, Err, refl, sym, subst}
use Rattle.std.specs.Prelude.{if◌then◌else◌}
use Rattle.std.specs.Option.{option_map_or}
use Rattle.json_lines.specs.Readable.{IsJsonLines}
use Rattle.json_lines.proofs.Wholes.{none, one, read, both, all}
use Rattle.pickle_io.specs.declared.hole.Hole.{Hole}
use Rattle.pickle_ops.specs.declared.fault.FrontFault.{FrontFault}
use Rattle.pickle_ops.specs.Object.{Object}
use Rattle.pickle_ops.specs.Row.{row_of}
use Rattle.pickle_ops.specs.Spelling.{Operation}
use Rattle.pickle_doc.specs.Document.{Contents, document_bytes}
use Rattle.pickle_doc.specs.Place.{ops_of, item_at}
use Rattle.pickle_machine.specs.Move.{fresh}
use Rattle.pickle_machine.specs.Run.{run}
use Rattle.pickle_machine.specs.State.{State, start}
use Rattle.pickle_lenient.specs.declared.taken.Frames.TheVariants as frames
use Rattle.pickle_lenient.specs.declared.taken.Taken.{Taken}
use Rattle.pickle_text.specs.declared.closing.Closing.{Closing}
use Rattle.pickle_text.specs.Output.{Output}
use Rattle.pickle_calls.specs.Begins.{begins_like}
use Rattle.pickle_calls.specs.Calls.{entry_on, entry_in, entries_in, calls_end, calls_in}
use Rattle.pickle_calls.specs.Event.{before_of, event_of}
use Rattle.pickle_calls.specs.Manner.{Manner}
use Rattle.pickle_calls.specs.declared.end.Ending.{Ending}
use Rattle.pickle_calls.specs.declared.event.Event.{Event}
use Rattle.pickle_calls.specs.declared.naming.Naming.{Naming}
use Rattle.pickle_further.specs.declared.way.Pickles.{Pickles}
use Rattle.pickle_further.specs.declared.way.Pickles.TheVariants as pickles
use Rattle.pickle_further.specs.declared.way.Way.{Way}
use Rattle.pickle_further.specs.CallsText.{document_leads, document_deep, document_calls_in, tale_calls_in, first_loss, loss_text_in, losses_text_in, kept_calls_in, IsCallsTextIn}
use Rattle.pickle_further.specs.Going.{Standing, Tale, going, stands_after, tale_over, tale_in, tale_from, search_from}
use Rattle.pickle_further.specs.declared.seek.Sought.TheVariants as sought
use Rattle.pickle_further.specs.Parts.{tale_text_in, part_text_in, text_from_in, ignoring, buffering, holding, standing_at, behind_at_in, standing_first, found_text_in, loss_at, lost_by_in, first_mixed, mixed_text_in, lost_text_in, is_open, parts_in}
use Rattle.pickle_mixes.specs.declared.place.Place.{Place}
use Rattle.pickle_mixes.specs.Acting.{item_at as taken_at, acting_places}
use Rattle.mixes_text.specs.MixText.{item_text, place_text, all_text, with_mixes}
use Rattle.mixes_text.specs.MixText.{found_text as found_mixes, mixed_text as mixes_text, mixes_behind, goes_on}
use Rattle.calls_json.specs.EventFields.{line_of}
use Rattle.calls_json.specs.LastFields.{like_text, begins_text, counts_line, end_text, leads_text, deep_text, warnings_text, part_end}
use Rattle.calls_json.specs.MixFields.{mixes_for_programs}
use Rattle.calls_json.specs.Told.{for_programs, programs, with_last}
use Rattle.calls_json.specs.Readable.{WholeIsLines}
use Rattle.calls_json.proofs.Readable.{event_lines_read_back}
use Rattle.calls_json.proofs.LastReadable.{ending_lines_read_back, other_lines_read_back}

-- ---- events

event_lines : (offset : ℕ) (m : Naming) (heap : List Object) (e : Option Event) → IsJsonLines (line_of offset m heap e)
event_lines offset m heap None = none
event_lines offset m heap (Some e) = one _ (event_lines_read_back.event offset m heap e)

entry_by : (offset : ℕ) (m : Naming) (o : Option Operation) (s t : Option State) → IsJsonLines (entry_on for_programs offset m o s t).text
entry_by offset m (Some o) (Some s) (Some t) = event_lines offset m t.heap (event_of (row_of o) (before_of (fresh s)) t)
entry_by offset m (Some o) (Some s) None = none
entry_by offset m (Some o) None t = none
entry_by offset m None s t = none

entry_lines : (how : Manner) (d : Contents) (k : ℕ) → IsJsonLines (entry_in for_programs how d k).text
unfolding entry_in
entry_lines how d k = entry_by _ _ (item_at d k) (run (start d.many) (ops_of d) k) (run (start d.many) (ops_of d) (suc k))

entries_lines : (how : Manner) (d : Contents) (k : ℕ) → IsJsonLines (entries_in for_programs how d k).text
unfolding entries_in
entries_lines how d zero = none
entries_lines how d (suc k) = both _ _ (entries_lines how d k) (entry_lines how d k)

-- ---- how a reading ends

named_lines : (bytes : List ℕ) (found : Option (List ℕ)) → begins_like bytes ≡ found → IsJsonLines (like_text found)
named_lines bytes None e = none
named_lines bytes (Some name) e = read _ _ _ (other_lines_read_back.begins bytes name e)

begins_lines : (bytes : List ℕ) → IsJsonLines (begins_text bytes)
unfolding begins_text
begins_lines bytes = named_lines bytes (begins_like bytes) refl

counts_lines : (imports calls : ℕ) → IsJsonLines (counts_line imports calls)
counts_lines imports calls = read _ _ _ (other_lines_read_back.counts imports calls)

end_lines : (bytes : List ℕ) (imports calls : ℕ) (e : Ending) → IsJsonLines (end_text bytes imports calls e)
unfolding end_text
end_lines bytes imports calls e = both _ _ (both _ _ (begins_lines bytes) (counts_lines imports calls)) (one _ (ending_lines_read_back.ending e))

calls_lines : (how : Manner) (d : Contents) → IsJsonLines (calls_in for_programs how d).text
unfolding calls_in
calls_lines how d = both _ _ (entries_lines how d (calls_end d).place) (end_lines (document_bytes d) _ _ _)

leads_lines : (leads : Option ℕ) → IsJsonLines (leads_text leads)
leads_lines None = none
leads_lines (Some id) = read _ _ _ (other_lines_read_back.leads id)

deep_lines : (deep : Option ℕ) → IsJsonLines (deep_text deep)
deep_lines None = none
deep_lines (Some id) = read _ _ _ (other_lines_read_back.deep id)

warned_lines : (leads deep : Option ℕ) → IsJsonLines (warnings_text leads deep)
warned_lines (Some id) deep = read _ _ _ (other_lines_read_back.leads id)
warned_lines None deep = deep_lines deep

closed_lines : (imports calls : ℕ) (c : Closing) (leads : Option ℕ) → IsJsonLines (part_end imports calls c leads)
unfolding part_end
closed_lines imports calls c leads = both _ _ (counts_lines imports calls) (both _ _ (one _ (ending_lines_read_back.closing c)) (leads_lines leads))

-- ---- a part

going_on : (c : Option Closing) (t : Tale) → IsJsonLines t.lines.text → IsJsonLines (option_map_or tale_over c t).lines.text
going_on None t h = h
going_on (Some c) t h = none

tale_lines : (holes : List Hole) (n : ℕ) (w : Way) (p : Standing) → IsJsonLines (tale_in for_programs holes n w p).lines.text
unfolding tale_in
tale_lines holes zero w p = none
tale_lines holes (suc n) w p =
    let after : Standing = stands_after p (going w p) in
    both _ _ (event_lines _ p.naming (going w p).state.heap (going w p).gone.event)
    (going_on (going w p).gone.closing (tale_in for_programs holes n w after) (tale_lines holes n w after))

told_lines : (holes : List Hole) (t : Tale) → IsJsonLines t.lines.text → IsJsonLines (tale_text_in programs holes t)
unfolding tale_text_in
told_lines holes t h = both _ _ h (closed_lines t.lines.imports t.lines.calls _ t.leads)

part_lines : (holes : List Hole) (w : Way) (p : Option Standing) → IsJsonLines (part_text_in programs holes w p)
part_lines holes w None = none
part_lines holes w (Some p) =
    both _ _ (read _ _ _ (other_lines_read_back.heading w.frames)) (told_lines holes (tale_from for_programs holes w p) (tale_lines holes (suc (length p.rest)) w p))

lines_from : (holes : List Hole) (w : Way) (p : Standing) → IsJsonLines (text_from_in programs holes w p)
unfolding text_from_in
lines_from holes w p = part_lines holes w (search_from sought.Event w p)

found_lines : (holes : List Hole) (w : Way) (p : Option Standing) → IsJsonLines (found_text_in programs holes w p)
found_lines holes w None = none
found_lines holes w (Some p) = lines_from holes w p

lost_by : (how : Manner) (w : Way) (bytes : List ℕ) → IsJsonLines (lost_by_in programs how w bytes)
lost_by how w bytes = found_lines how.holes w (loss_at how.detail w bytes)

mixed_lines : (holes : List Hole) (from : Option ℕ) → IsJsonLines (mixed_text_in programs holes from)
mixed_lines holes None = none
mixed_lines holes (Some offset) = read _ _ _ (other_lines_read_back.mixed _)

lost_lines : (how : Manner) (p : Pickles) (bytes : List ℕ) → IsJsonLines (lost_text_in programs how p bytes)
lost_lines how p bytes = both _ _ (lost_by how (buffering p) bytes) (mixed_lines how.holes (first_mixed how.detail p bytes))

behind_lines : (how : Manner) (p : Pickles) (d : Contents) (k : ℕ) (s : Option State) → IsJsonLines (behind_at_in programs how p d k s)
behind_lines how p d k None = none
behind_lines how p d k (Some s) = lines_from how.holes (ignoring p) (standing_at how.detail d k s)

if_so : (b : Bool) (text : List ℕ) → IsJsonLines text → IsJsonLines (if b then text else [])
if_so true text h = h
if_so false text h = none

parts_lines : (how : Manner) (p : Pickles) (d : Contents) → IsJsonLines (parts_in programs how p d)
unfolding parts_in
parts_lines how p d =
    let e = calls_end d in
    if_so (is_open e.ending) _ (both _ _ (behind_lines how p d e.place (run (start d.many) (ops_of d) e.place)) (lost_lines how p (document_bytes d)))

-- ---- bytes

document_lines : (how : Manner) (p : Pickles) (d : Contents) → IsJsonLines (document_calls_in programs how p d).text
document_lines how p d = both _ _ (both _ _ (calls_lines how d) (warned_lines (document_leads d) (document_deep d))) (parts_lines how p d)

whole_tale : (how : Manner) (bytes : List ℕ) (t : Tale) → IsJsonLines t.lines.text → IsJsonLines (tale_calls_in programs how bytes t).text
whole_tale how bytes t h = both _ _ (both _ _ h (end_lines bytes t.lines.imports t.lines.calls _)) (leads_lines t.leads)

loss_lines : (how : Manner) (bytes : List ℕ) (offset : ℕ) → IsJsonLines (loss_text_in programs how bytes offset)
unfolding loss_text_in
loss_lines how bytes offset =
    both _ _ (read _ _ _ (other_lines_read_back.loss _)) (both _ _ (lost_by how (buffering pickles.OneMemo) bytes) (lost_by how (holding pickles.OneMemo) bytes))

losses_lines : (how : Manner) (bytes : List ℕ) (loss : Option ℕ) → IsJsonLines (losses_text_in programs how bytes loss)
losses_lines how bytes None = none
losses_lines how bytes (Some offset) = loss_lines how bytes offset

kept_lines : (how : Manner) (bytes : List ℕ) → IsJsonLines (kept_calls_in programs how bytes).text
unfolding kept_calls_in
kept_lines how bytes =
    let first : Standing = standing_first how.detail pickles.OneMemo bytes in
    let way : Way = ignoring pickles.OneMemo in
    both _ _ (whole_tale how bytes (tale_from for_programs how.holes way first) (tale_lines how.holes (suc (length first.rest)) way first))
    (both _ _ (losses_lines how bytes (first_loss how.detail bytes)) (mixed_lines how.holes (first_mixed how.detail pickles.OneMemo bytes)))

text_lines : (how : Manner) (p : Pickles) (bytes : List ℕ) (o : Output) → IsCallsTextIn programs how p bytes o → IsJsonLines o.text
text_lines how pickles.OneMemo bytes o h = subst (λ (x : Output). IsJsonLines x.text) (sym h) (kept_lines how bytes)
text_lines how pickles.First bytes o h = subst (λ (x : Output). IsJsonLines x.text) (sym h.2) (document_lines how pickles.First h.0)
text_lines how pickles.All bytes o h = subst (λ (x : Output). IsJsonLines x.text) (sym h.2) (document_lines how pickles.All h.0)

-- ---- what mixes frames

taken_by : (holes : List Hole) (p : Place) (t : Result Taken FrontFault) → IsJsonLines (item_text mixes_for_programs holes p t)
taken_by holes p (Ok t) = read _ _ _ (other_lines_read_back.taken _ t.op)
taken_by holes p (Err f) = none

place_lines : (holes : List Hole) (bytes : List ℕ) (p : Place) → IsJsonLines (place_text mixes_for_programs holes bytes p)
unfolding place_text
place_lines holes bytes p = taken_by holes p (taken_at bytes frames.Held p)

acting_lines : (holes : List Hole) (bytes : List ℕ) (found : Option (List Place)) → IsJsonLines (found_mixes mixes_for_programs holes bytes found)
acting_lines holes bytes None = read _ _ _ other_lines_read_back.many
acting_lines holes bytes (Some places) =
    both _ _ (read _ _ _ other_lines_read_back.above)
    (both _ _ (all (place_text mixes_for_programs holes bytes) places (place_lines holes bytes)) (read _ _ _ (other_lines_read_back.below (length places))))

all_acting : (holes : List Hole) (many : Bool) (bytes : List ℕ) → IsJsonLines (all_text mixes_for_programs holes many bytes)
unfolding all_text
all_acting holes many bytes = acting_lines holes bytes (acting_places many bytes)

mixes_lines : (holes : List Hole) (p : Pickles) (bytes : List ℕ) (from : Option ℕ) → IsJsonLines (mixes_text mixes_for_programs holes p bytes from)
mixes_lines holes p bytes None = none
mixes_lines holes p bytes (Some offset) = all_acting holes (goes_on p) bytes

unless : (b : Bool) (text : List ℕ) → IsJsonLines text → IsJsonLines (if b then [] else text)
unless true text h = none
unless false text h = h

behind_text : (how : Manner) (p : Pickles) (bytes : List ℕ) (status : ℕ) → IsJsonLines (mixes_behind mixes_for_programs how p bytes status)
behind_text how p bytes status = unless (status == 0) _ (mixes_lines how.holes p bytes (first_mixed how.detail p bytes))

with_behind : (how : Manner) (p : Pickles) (bytes : List ℕ) (o : Output) → IsJsonLines o.text → IsJsonLines (with_mixes mixes_for_programs how p bytes o).text
with_behind how p bytes o h = both _ _ h (behind_text how p bytes o.status)

-- ---- the whole

with_status : (o : Output) → IsJsonLines o.text → IsJsonLines (with_last o).text
with_status o h = both _ _ h (read _ _ _ (other_lines_read_back.status o.status))

pub whole_is_lines : WholeIsLines
whole_is_lines how p bytes o w =
    let x = w.0 in
    let y = w.1.0 in
    let text : IsJsonLines y.text = text_lines how p bytes y w.1.1 in
    let mixed : IsJsonLines x.text = subst (λ (z : Output). IsJsonLines z.text) (sym w.1.2) (with_behind how p bytes y text) in
    subst (λ (z : Output). IsJsonLines z.text) (sym w.2) (with_status x mixed)
