-- A file that was opened and not read whole.
use Rattle.std.proofs.Common.{◌≡◌, ◌≢◌, inr, ℕ, List, Result, Ok, Err, ap}
use Rattle.std.specs.Prelude.{IsErrAnd, IfErr}
use Rattle.pickle_io.specs.Device.{HasFailed}
use Rattle.pickle_io.specs.Whole.{StopsSo}
use Rattle.pickle_io.specs.declared.whole.ReadStop.{ReadStop}
use Rattle.pickle_io.specs.declared.whole.ReadStop.TheVariants as read
use Rattle.pickle_doc.specs.Document.{size_limit}
use Rattle.pickle_script.specs.declared.stop.Stop.{Stop}
use Rattle.pickle_script.specs.Stop.{stop_of_read}
use Rattle.program_answers.specs.Files.{Gives, Reports, IsCutShort, IsUnread}

read_err : ReadStop → Result (List ℕ) ReadStop
read_err e = Err e

-- what `read_limited` leaves of a source that it does not read whole
pub cut_short : {A : Type 0} (source source' : Gives) (why : ReadStop) (r : Result A ReadStop) → r ≡ Err why → StopsSo source.remaining source'.remaining size_limit why
    → (r ≡ Err read.Failed → HasFailed source.failures source'.failures) → (r ≢ Err read.Failed → source'.failures ≡ source.failures) → IsCutShort source source' why
cut_short source source' why r is stopped failed calm = record {
  stopped = stopped;
  failed = λ e. failed (rw is (ap Err e));
  calm = λ n. calm (λ e. let same : why ≡ read.Failed = cc in n same);
}

pub half_read : {F O A B : Type 0} (r : Reports F O) (files : F) (path : List ℕ) (opened left : O) (why : ReadStop) (given : Result B ReadStop) (result : Result A Stop)
    → (r.file opened).remaining ≡ r.bytes_of files path → given ≡ Err why → StopsSo (r.file opened).remaining (r.file left).remaining size_limit why
    → (given ≡ Err read.Failed → HasFailed (r.file opened).failures (r.file left).failures) → (given ≢ Err read.Failed → (r.file left).failures ≡ (r.file opened).failures)
    → IsErrAnd result (λ y. y ≡ stop_of_read why) → IfErr result (IsUnread r files path)
half_read r files path opened left why given (Ok x) opened_is is stopped failed calm e = absurd e
half_read r files path opened left why given (Err x) opened_is is stopped failed calm e =
    inr (record { opened = opened; left = left; opened_is = opened_is; why = why; cut = cut_short (r.file opened) (r.file left) why given is stopped failed calm; stop_is = e })
