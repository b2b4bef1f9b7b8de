-- Where no import leads to the unpickler, nothing touches it.
use Rattle.std.proofs.Common.{◌≡◌, ℕ, zero, suc, Bool, true, false, List, [], ◌∷◌, ◌++◌, Option, Some, None, refl, sym, ap, ◌∙◌}
use Rattle.std.specs.Prelude.{◌&&◌}
use Rattle.std.specs.List.{list_any}
use Rattle.pickle_further.specs.declared.way.Pickles.TheVariants as pickles
use Rattle.pickle_further.specs.declared.way.Way.{Way}
use Rattle.pickle_further.specs.Parts.{ignoring, buffering}
use Rattle.pickle_loader.specs.Environment.{Act, Find, World}
use Rattle.pickle_loader.specs.FindClass.{find_class}
use Rattle.pickle_loader.specs.Bytes.{load_next, load_bytes}
use Rattle.pickle_loader.specs.CLoad.{c_load_on, c_load_way}
use Rattle.pickle_loader.specs.ShownFile.{c_load_next, c_load_file}
use Rattle.pickle_allow.specs.declared.list.Entry.{Entry}
use Rattle.pickle_allow.specs.Allow.{Source, may_find}
use Rattle.gate_laws.specs.Permitted.{name_text, found_by, answer_source, permits, permits_all}
use Rattle.gate_laws.specs.Untouched.{import_leads, act_leads, LeadsNowhere, touched, Untouched, acts_loaded, acts_loaded_in_c, acts_loaded_of_a_file, NothingIsTouched, NothingIsTouchedInC, NothingIsTouchedInAFile}
use Rattle.gate_laws.proofs.Law.{only_what_is_allowed}
use Rattle.gate_laws.proofs.LawC.{only_what_is_allowed_in_c}
use Rattle.gate_laws.proofs.Files.{only_what_is_allowed_in_a_file}

-- ---- permitted acts

import_by : (list : List Entry) → LeadsNowhere list → (proto : ℕ) (from name : Option (List ℕ)) → may_find list (found_by proto from name) ≡ true → import_leads proto from name ≡ false
import_by list nowhere proto (Some from) (Some name) e = nowhere (find_class proto from name) e
import_by list nowhere proto (Some from) None e = absurd cc
import_by list nowhere proto None name e = absurd cc

act_by : (list : List Entry) → LeadsNowhere list → (before : List (Option Source)) (a : Act) → permits list before a ≡ true → act_leads a ≡ false
act_by list nowhere before (Find proto m n) e = import_by list nowhere proto (name_text m) (name_text n) e
act_by list nowhere before _ e = refl

both : (x y : Bool) → (x && y) ≡ true → (x ≡ true) × (y ≡ true)
both true true h = (refl, refl)
both true false h = absurd cc
both false y h = absurd cc

none_leads : (list : List Entry) → LeadsNowhere list → (before : List (Option Source)) (acts : List Act) → permits_all list before acts ≡ true → list_any act_leads acts ≡ false
none_leads list nowhere before [] e = refl
none_leads list nowhere before (a ∷ acts) e =
    let more : List (Option Source) = before ++ answer_source before a ∷ [] in
    let parts = both (permits list before a) (permits_all list more acts) e in
    rw (act_by list nowhere before a parts.0) (none_leads list nowhere more acts parts.1)

-- ---- item by item

untouched_by : {L : Type 0} (acts : L → List Act) (next touch : L → L) (x : ℕ → L) → Untouched acts touch → ((n : ℕ) → x (suc n) ≡ next (x n)) → ((n : ℕ) → list_any act_leads (acts (x n)) ≡ false)
    → (n : ℕ) → touched next touch (x 0) n ≡ x n
unfolding touched
untouched_by acts next touch x alone goes none zero = refl
untouched_by acts next touch x alone goes none (suc n) =
    ap (λ y. touch (next y)) (untouched_by acts next touch x alone goes none n) ∙ ap touch (sym (goes n)) ∙ alone (x (suc n)) (none (suc n))

load_goes : (w : World) (bytes : List ℕ) (n : ℕ) → load_bytes w false bytes (suc n) ≡ load_next w false (load_bytes w false bytes n)
unfolding load_bytes
load_goes w bytes n = refl

c_load_goes : (w : World) (way : Way) (bytes : List ℕ) (n : ℕ) → c_load_way w way bytes (suc n) ≡ c_load_on w way (c_load_way w way bytes n)
unfolding c_load_way
c_load_goes w way bytes n = refl

file_goes : (w : World) (shows : ℕ → ℕ) (bytes : List ℕ) (n : ℕ) → c_load_file w shows pickles.First bytes (suc n) ≡ c_load_next w shows pickles.First (c_load_file w shows pickles.First bytes n)
unfolding c_load_file
file_goes w shows bytes n = refl

pub nothing_is_touched : NothingIsTouched
nothing_is_touched list bytes p nowhere w touch alone n =
    untouched_by acts_loaded (load_next w false) touch (load_bytes w false bytes) alone (load_goes w bytes) (λ m. none_leads list nowhere [] (acts_loaded (load_bytes w false bytes m)) (only_what_is_allowed list bytes p w m)) n

pub nothing_is_touched_in_c : NothingIsTouchedInC
nothing_is_touched_in_c list bytes p nowhere w touch alone n = (
  untouched_by acts_loaded_in_c (c_load_on w (ignoring pickles.First)) touch (c_load_way w (ignoring pickles.First) bytes) alone (c_load_goes w (ignoring pickles.First) bytes)
      (λ m. none_leads list nowhere [] (acts_loaded_in_c (c_load_way w (ignoring pickles.First) bytes m)) (only_what_is_allowed_in_c list bytes p w m).0) n,
  untouched_by acts_loaded_in_c (c_load_on w (buffering pickles.First)) touch (c_load_way w (buffering pickles.First) bytes) alone (c_load_goes w (buffering pickles.First) bytes)
      (λ m. none_leads list nowhere [] (acts_loaded_in_c (c_load_way w (buffering pickles.First) bytes m)) (only_what_is_allowed_in_c list bytes p w m).1) n,
)

pub nothing_is_touched_in_a_file : NothingIsTouchedInAFile
nothing_is_touched_in_a_file list bytes p nowhere w shows touch alone n =
    untouched_by acts_loaded_of_a_file (c_load_next w shows pickles.First) touch (c_load_file w shows pickles.First bytes) alone (file_goes w shows bytes)
    (λ m. none_leads list nowhere [] (acts_loaded_of_a_file (c_load_file w shows pickles.First bytes m)) (only_what_is_allowed_in_a_file list bytes p w shows m)) n
