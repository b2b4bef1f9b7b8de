-- The bytes of a document read as one that has the same report.
use Rattle.std.proofs.Common.{◌≡◌, ℕ, ◌<◌, ◌≤◌, ◌^◌, Bool, List, length, Result, Ok, Err, refl, sym, ap, ap₂, subst, ◌∙◌, arith}
use Rattle.std.specs.Prelude.{IfOk, slice_get}
use Rattle.std.proofs.lemmas.List.{length-map}
use Rattle.pickle_io.specs.Device.{Told}
use Rattle.pickle_ops.specs.Spelling.{Operation}
use Rattle.pickle_doc.specs.declared.item.Item.{Item}
use Rattle.pickle_doc.specs.declared.fault.Finish.{Finish}
use Rattle.pickle_doc.specs.DocUnit.{bytes_of}
use Rattle.pickle_doc.specs.Document.{Contents, items_of, document_bytes, ended_by, finish_of, IsDocument, ReadsIn, size_limit}
use Rattle.pickle_doc.specs.Place.{ops_of, tail_offset, end_at, end_of}
use Rattle.pickle_doc.specs.Fitting.{FitsFrom}
use Rattle.pickle_doc.proofs.Ends.{same_finish}
use Rattle.pickle_doc.proofs.Fits.{one_reading}
use Rattle.pickle_doc.proofs.Units.{length_bytes, small_document, document_fits}
use Rattle.pickle_machine.specs.State.{State, start}
use Rattle.pickle_machine.specs.Run.{run}
use Rattle.pickle_text.specs.declared.stop.TextStop.{TextStop}
use Rattle.pickle_text.specs.declared.closing.Closing.{Closing}
use Rattle.pickle_text.specs.declared.closing.Closing.TheVariants as closing
use Rattle.pickle_text.specs.Closing.{refused_on}
use Rattle.object_texts.specs.Report.{Closes, IsReport, WroteReport, BrokeReport, IsReported, BreaksReport}

-- what a report looks at is the same
record RunsAlike (d e : Contents) : Type 0 where
  many : e.many ≡ d.many
  ops : ops_of e ≡ ops_of d
  ended : end_of e ≡ end_of d

items_bytes : (d : Contents) → tail_offset d ≡ length (bytes_of (ops_of d))
items_bytes d = sym (length_bytes (items_of d))

reads_alike : (d e : Contents) → IsDocument d → length (document_bytes d) ≤ size_limit → ReadsIn d.many d.loose (document_bytes d) e → RunsAlike d e
reads_alike d e is few r =
    let small : length (document_bytes d) < 2 ^ 64 = omega (arith, few) in
    let own : FitsFrom d.many d.loose 0 (ops_of d) d.tail (ended_by d) = document_fits d is.formed (small_document (document_bytes d) d small refl is.formed.reach) in
    let read : FitsFrom e.many e.loose 0 (ops_of e) e.tail (ended_by e) = document_fits e r.document.formed (small_document (document_bytes d) e small r.whole r.document.formed.reach) in
    let fit : FitsFrom d.many d.loose 0 (ops_of e) e.tail (ended_by e) =
    subst (λ (m : Bool). FitsFrom m d.loose 0 (ops_of e) e.tail (ended_by e)) r.mode
    (subst (λ (w : Bool). FitsFrom e.many w 0 (ops_of e) e.tail (ended_by e)) r.framing read) in
    let one = one_reading d.many d.loose (ops_of e) (ops_of d) 0 e.tail d.tail (ended_by e) (ended_by d) fit own r.whole in
    let finish : finish_of e ≡ finish_of d = same_finish e d r.mode one.same_ops one.same_tail one.ended in
    let at : tail_offset e ≡ tail_offset d = items_bytes e ∙ ap (λ (ops : List Operation). length (bytes_of ops)) one.same_ops ∙ sym (items_bytes d) in
    record { many = r.mode; ops = one.same_ops; ended = ap₂ (λ (n : ℕ) (f : Finish). end_at n f) at finish }

count_alike : (d e : Contents) → RunsAlike d e → length (items_of e) ≡ length (items_of d)
count_alike d e a = sym (length-map (items_of e) (λ (i : Item). i.op)) ∙ ap length a.ops ∙ length-map (items_of d) (λ (i : Item). i.op)

closes_alike : (d e : Contents) (place : ℕ) (s : State) (c : Closing) → RunsAlike d e → Closes e place s c → Closes d place s c
closes_alike d e place s closing.Stopped a h = (h.0 ∙ count_alike d e a, sym a.ended ∙ h.1)
closes_alike d e place s (closing.Refused k r) a h = (h.0, ap (λ (ops : List Operation). refused_on (slice_get ops place) s) (sym a.ops) ∙ h.1)
closes_alike d e place s (closing.Fault f offset) a h = (h.0 ∙ count_alike d e a, sym a.ended ∙ h.1)

report_alike : (d e : Contents) (text : List ℕ) (status : ℕ) → RunsAlike d e → IsReport e text status → IsReport d text status
report_alike d e text status a h = record {
  place = h.place;
  state = h.state;
  closing = h.closing;
  reached = ap₂ (λ (many : Bool) (ops : List Operation). run (start many) ops h.place) (sym a.many) (sym a.ops) ∙ h.reached;
  closes = closes_alike d e h.place h.state h.closing a h.closes;
  lines = h.lines;
  answers = h.answers;
}

pub wrote_document : (d : Contents) (a b : Told) (r : Result ℕ TextStop) → IsDocument d → length (document_bytes d) ≤ size_limit → IfOk r (IsReported d.many d.loose (document_bytes d) a b) → IfOk r (WroteReport d a b)
wrote_document d a b (Ok status) is few (e, reads, (text, report, wrote)) = (text, report_alike d e text status (reads_alike d e is few reads) report, wrote)
wrote_document d a b (Err x) is few h = tt

pub broke_document : (d : Contents) (a b : Told) → IsDocument d → length (document_bytes d) ≤ size_limit → BreaksReport d.many d.loose (document_bytes d) a b → BrokeReport d a b
broke_document d a b is few (e, reads, (text, status, report, broke)) = (text, status, report_alike d e text status (reads_alike d e is few reads) report, broke)
