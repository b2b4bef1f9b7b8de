-- What CPython's unpickler does with the bytes of a file, by one `pickle.load` or by a loop of them, and that the lines tell it.
-- Source: Lib/pickle.py, `load` (CPython 3.11).
use Rattle.std.specs.Prelude.{◌≡◌, ℕ, zero, suc, ◌^◌, ◌<◌, ◌≤◌, Bool, true, false, List, [], length, if◌then◌else◌, Some}
use Rattle.pickle_doc.specs.Document.{Contents, ReadsAs}
use Rattle.pickle_doc.specs.Place.{ops_of}
use Rattle.pickle_machine.specs.State.{State, start}
use Rattle.pickle_machine.specs.Run.{run}
use Rattle.pickle_calls.specs.Manner.{Manner}
use Rattle.pickle_calls.specs.Calls.{calls_end, calls}
use Rattle.pickle_loader.specs.Environment.{Value, World}
use Rattle.pickle_loader.specs.Dispatch.{Loaded, Going, Ended, Failed, acts_of, new_unpickler, load_item}
use Rattle.pickle_loader.specs.Reader.{Reader, Fetched, Fetch, NoFetch, fetch, opened}
use Rattle.pickle_loader.specs.Listed.{listed}
use Rattle.pickle_loader.specs.Laws.{Follows, AreListed}

-- an unpickler, or the last of a loop of them, and its file
pub record Loading : Type 0 where
  pub now : Loaded
  pub reader : Reader

-- after STOP one load is over, and a loop goes on
abbrev pub goes_on : Bool → Loaded → Bool
goes_on many (Going u) = true
goes_on many (Ended v u) = many
goes_on many (Failed acts) = false

abbrev pub load_fetched : World → Bool → Loading → Fetched → Loading
load_fetched w many x (Fetch o after) = record { now = load_item w many (Some o) x.now; reader = after }
load_fetched w many x NoFetch = record x { now = Failed (acts_of x.now) }

abbrev pub load_next : World → Bool → Loading → Loading
load_next w many x = if goes_on many x.now then load_fetched w many x (fetch x.reader) else x

-- after n opcodes, at most
unfoldable pub load_bytes : World → Bool → List ℕ → ℕ → Loading
load_bytes w many bytes zero = record { now = Going (new_unpickler []); reader = opened bytes }
load_bytes w many bytes (suc n) = load_next w many (load_bytes w many bytes n)

-- ---- the laws

-- as far as the lines go, what the unpickler does with the bytes is what they tell: of several pickles they end at a STOP that leaves a
-- frame unfinished, behind which this unpickler reads on behind the frame
abbrev pub BytesAreListed : Type 0
BytesAreListed = (w : World) (many : Bool) (bytes : List ℕ) (d : Contents) → ReadsAs many bytes d → length bytes < 2 ^ 64
    → (V : ℕ → Value)
    × ((n : ℕ) (s : State) → run (start many) (ops_of d) n ≡ Some s → n ≤ (calls_end d).place
    → Follows w V (listed V many (ops_of d) n) s (load_bytes w many bytes n).now)

-- where the reading ends with status 0, for which no STOP may leave a frame unfinished, however long the unpickler runs, all that is listed
-- of what it does is a beginning of what the lines list, of the values that it holds
abbrev pub NothingElse : Type 0
NothingElse = (how : Manner) (w : World) (many : Bool) (bytes : List ℕ) (d : Contents) → ReadsAs many bytes d → length bytes < 2 ^ 64 → (calls how d).status ≡ 0
    → (V : ℕ → Value) × AreListed w V (λ n. listed V many (ops_of d) (length (ops_of d))) (run (start many) (ops_of d)) (λ n. (load_bytes w many bytes n).now)
