-- What the files of the program report, by their names, and why one was not read or not saved.
-- Source: own; the kinds of errors are those of std.
use Rattle.std.specs.Prelude.{◌≡◌, ◌≢◌, ◌⊎◌, ◌≤◌, ◌+◌, ℕ, List, length, Bool, IsTrue, true, false, Option, None, Some, ⊤}
use Rattle.std.specs.declared.io.ErrorKind.{ErrorKind}
use Rattle.std.specs.declared.io.ErrorKind.TheVariants as kind
use Rattle.pickle_io.specs.Device.{Told, HasFailed}
use Rattle.pickle_io.specs.Whole.{IsWhole, StopsSo}
use Rattle.pickle_io.specs.declared.whole.ReadStop.{ReadStop}
use Rattle.pickle_io.specs.declared.whole.ReadStop.TheVariants as read
use Rattle.pickle_doc.specs.Document.{size_limit}
use Rattle.pickle_script.specs.declared.stop.Stop.{Stop}
use Rattle.pickle_script.specs.declared.stop.Stop.TheVariants as stop
use Rattle.pickle_script.specs.Stop.{stop_of_read}

-- ---- what is reported

-- the kind of an error of the system
abbrev pub Kind : Type 0
Kind = ErrorKind

-- of a source: the bytes that it has yet to give, where it reports them, and how often it has failed
pub record Gives : Type 0 where
  pub remaining : Option (List ℕ)
  pub failures : ℕ

abbrev pub gives : Option (List ℕ) → ℕ → Gives
gives remaining failures = record { remaining = remaining; failures = failures }

-- of files: the bytes of the file of a name, where they are reported; whether opening it may fail with an error of a kind; what an open
-- file gives; what the file of a name has taken; and whether saving to it may fail so
pub record Reports (F O : Type 0) : Type 0 where
  pub bytes_of : F → List ℕ → Option (List ℕ)
  pub refuses : F → List ℕ → Kind → Bool
  pub file : O → Gives
  pub took : F → List ℕ → Told
  pub loses : F → List ℕ → Stop → Bool

abbrev pub reports : {F O : Type 0} → (F → List ℕ → Option (List ℕ)) → (F → List ℕ → Kind → Bool) → (O → Option (List ℕ)) → (O → ℕ) → (F → List ℕ → Told)
    → (F → List ℕ → Stop → Bool) → Reports F O
reports bytes_of refuses remaining failures took loses =
    record { bytes_of = bytes_of; refuses = refuses; file = λ opened. gives (remaining opened) (failures opened); took = took; loses = loses }

-- ---- a source

-- it was not read whole, for this reason: it failed just where that is the reason
pub record IsCutShort (source source' : Gives) (why : ReadStop) : Type 0 where
  pub stopped : StopsSo source.remaining source'.remaining size_limit why
  pub failed : why ≡ read.Failed → HasFailed source.failures source'.failures
  pub calm : why ≢ read.Failed → source'.failures ≡ source.failures

-- ---- a file

-- it has at least so many bytes
abbrev pub HasAtLeast : Option (List ℕ) → ℕ → Type 0
HasAtLeast None n = ⊤
HasAtLeast (Some bytes) n = n ≤ length bytes

-- it could not be opened: the system refused it for want of memory, or with another error, or says that it is too long
abbrev pub IsShut : {F O : Type 0} → Reports F O → F → List ℕ → Stop → Type 0
IsShut r files path stop.Read = (k : Kind) × (k ≢ kind.OutOfMemory) × IsTrue (r.refuses files path k)
IsShut r files path stop.Memory = IsTrue (r.refuses files path kind.OutOfMemory)
IsShut r files path stop.TooLarge = HasAtLeast (r.bytes_of files path) (size_limit + 1)
IsShut r files path stop.Write = ⊥

-- it was opened, and not read whole
pub record IsHalfRead {F O : Type 0} (r : Reports F O) (files : F) (path : List ℕ) (e : Stop) : Type 0 where
  pub opened : O
  pub left : O
  pub opened_is : (r.file opened).remaining ≡ r.bytes_of files path
  pub why : ReadStop
  pub cut : IsCutShort (r.file opened) (r.file left) why
  pub stop_is : e ≡ stop_of_read why

abbrev pub IsUnread : {F O : Type 0} → Reports F O → F → List ℕ → Stop → Type 0
IsUnread r files path e = IsShut r files path e ⊎ IsHalfRead r files path e

-- these are all its bytes
abbrev pub IsRead : Option (List ℕ) → List ℕ → Type 0
IsRead file bytes = (rest : Option (List ℕ)) × IsWhole file rest size_limit bytes

-- ---- the files of the system

-- each error may come of opening, and of saving these: a file cannot be written, or memory runs out
abbrev pub is_loss : Stop → Bool
is_loss stop.Write = true
is_loss stop.Memory = true
is_loss stop.Read = false
is_loss stop.TooLarge = false
