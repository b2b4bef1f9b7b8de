-- What was written is the report of the document.
use Rattle.std.proofs.Common.{◌≡◌, ℕ, Bool, List, refl}
use Rattle.pickle_machine.specs.State.{State}
use Rattle.pickle_io.specs.Device.{Told, Wrote, Broke}
use Rattle.pickle_text.specs.declared.closing.Closing.{Closing}
use Rattle.pickle_text.specs.Closing.{closing_status}
use Rattle.object_texts.specs.Report.{report_text, IsReported, BreaksReport}
use Rattle.object_texts.specs.Inside.Ending.{EndsIn}

pub wrote_report : {loose : Bool} (many : Bool) (bytes : List ℕ) (old new : Told) (s : State) (c : Closing) (status : ℕ)
    → EndsIn many loose bytes s c → status ≡ closing_status c → Wrote old new (report_text s.heap s.results c) → IsReported many loose bytes old new status
wrote_report many bytes old new s c status (d, reads, (place, reached, closes)) e w =
    (d, reads, (report_text s.heap s.results c, record { place = place; state = s; closing = c; reached = reached; closes = closes; lines = refl; answers = e }, w))

pub broke_report : {loose : Bool} (many : Bool) (bytes : List ℕ) (old new : Told) (s : State) (c : Closing) → EndsIn many loose bytes s c → Broke old new (report_text s.heap s.results c) → BreaksReport many loose bytes old new
broke_report many bytes old new s c (d, reads, (place, reached, closes)) b =
    (d, reads, (report_text s.heap s.results c, closing_status c, record { place = place; state = s; closing = c; reached = reached; closes = closes; lines = refl; answers = refl }, b))
