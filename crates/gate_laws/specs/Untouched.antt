-- What an environment may do that can reach the unpickler: it changes what the unpickler holds, or its file, behind an opcode. `World` is one that
-- reaches the unpickler by its answers alone. It is enough that it leaves the unpickler alone as long as no import leads to it, and a pickle that passes
-- by a list which grants no name that leads there makes no such import.
-- Source: own. Which names lead to the unpickler `Leads` says, with its sources. What an extension imports, and what a call or a method does that is
-- given nothing of the unpickler, is the environment's.
use Rattle.std.specs.Prelude.{◌≡◌, ℕ, zero, suc, Bool, true, false, List, Option, Some, None}
use Rattle.std.specs.List.{list_any}
use Rattle.pickle_names.specs.Renamed.{Import}
use Rattle.pickle_further.specs.declared.way.Pickles.TheVariants as pickles
use Rattle.pickle_further.specs.Leads.{names_lead}
use Rattle.pickle_further.specs.Parts.{ignoring, buffering}
use Rattle.pickle_loader.specs.Environment.{Act, Find, World}
use Rattle.pickle_loader.specs.FindClass.{find_class}
use Rattle.pickle_loader.specs.Dispatch.{acts_of}
use Rattle.pickle_loader.specs.Bytes.{Loading, load_next, load_bytes}
use Rattle.pickle_loader.specs.CLoad.{COnward, seen_loaded, c_load_on, c_load_way}
use Rattle.pickle_loader.specs.ShownFile.{CLoading, c_load_next, c_load_file}
use Rattle.pickle_allow.specs.declared.list.Entry.{Entry}
use Rattle.pickle_allow.specs.Allow.{is_in}
use Rattle.pickle_allow.specs.Source.{dotted}
use Rattle.pickle_gate.specs.Gate.{Passes}
use Rattle.gate_laws.specs.Permitted.{name_text}

-- ---- acts

-- an import leads to the unpickler; so may one by a name that cannot be read
abbrev pub import_leads : ℕ → Option (List ℕ) → Option (List ℕ) → Bool
import_leads proto (Some from) (Some name) = names_lead (find_class proto from name).from (find_class proto from name).name
import_leads proto (Some from) None = true
import_leads proto None name = true

abbrev pub act_leads : Act → Bool
act_leads (Find proto m n) = import_leads proto (name_text m) (name_text n)
act_leads _ = false

-- no name that the list has leads there
abbrev pub LeadsNowhere : List Entry → Type 0
LeadsNowhere list = (i : Import) → is_in list (dotted i) ≡ true → names_lead i.from i.name ≡ false

-- ---- an environment that can reach the unpickler

-- what is loaded after n opcodes, where behind each of them the environment may have changed anything
unfoldable pub touched : {L : Type 0} → (L → L) → (L → L) → L → ℕ → L
touched next touch first zero = first
touched next touch first (suc n) = touch (next (touched next touch first n))

-- it leaves the unpickler and its file alone, as long as no import led there
abbrev pub Untouched : {L : Type 0} → (L → List Act) → (L → L) → Type 0
Untouched {L = L} acts touch = (x : L) → list_any act_leads (acts x) ≡ false → touch x ≡ x

abbrev pub acts_loaded : Loading → List Act
acts_loaded x = acts_of x.now

abbrev pub acts_loaded_in_c : COnward → List Act
acts_loaded_in_c x = acts_of (seen_loaded x.now)

abbrev pub acts_loaded_of_a_file : CLoading → List Act
acts_loaded_of_a_file x = acts_of (seen_loaded x.now)

-- ---- the law

-- whatever else such an environment may do, the unpickler in Python loads bytes that pass as if it reached it by its answers alone: so the laws about
-- what they do need no more
abbrev pub NothingIsTouched : Type 0
NothingIsTouched = (list : List Entry) (bytes : List ℕ) → Passes list bytes → LeadsNowhere list → (w : World) (touch : Loading → Loading) → Untouched acts_loaded touch
    → (n : ℕ) → touched (load_next w false) touch (load_bytes w false bytes 0) n ≡ load_bytes w false bytes n

-- and so does the one in C, from bytes and from a stream
abbrev pub NothingIsTouchedInC : Type 0
NothingIsTouchedInC = (list : List Entry) (bytes : List ℕ) → Passes list bytes → LeadsNowhere list → (w : World) (touch : COnward → COnward) → Untouched acts_loaded_in_c touch
    → (n : ℕ)
    → (touched (c_load_on w (ignoring pickles.First)) touch (c_load_way w (ignoring pickles.First) bytes 0) n ≡ c_load_way w (ignoring pickles.First) bytes n)
    × (touched (c_load_on w (buffering pickles.First)) touch (c_load_way w (buffering pickles.First) bytes 0) n ≡ c_load_way w (buffering pickles.First) bytes n)

-- and so does the one in C from a file that shows bytes ahead, however many at each of its turns: what is left alone is its input buffer and the file too
abbrev pub NothingIsTouchedInAFile : Type 0
NothingIsTouchedInAFile = (list : List Entry) (bytes : List ℕ) → Passes list bytes → LeadsNowhere list → (w : World) (shows : ℕ → ℕ) (touch : CLoading → CLoading)
    → Untouched acts_loaded_of_a_file touch
    → (n : ℕ) → touched (c_load_next w shows pickles.First) touch (c_load_file w shows pickles.First bytes 0) n ≡ c_load_file w shows pickles.First bytes n
