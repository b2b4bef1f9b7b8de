-- Each act of a load, whatever way each item is read in, is done by an item whose place is found.
-- Source: own.
use Rattle.std.specs.Prelude.{◌≡◌, ℕ, ◌^◌, ◌<◌, Bool, true, false, List, ◌∷◌, ◌++◌, length, drop, All, Contains, Some, Ok}
use Rattle.pickle_ops.specs.Spelling.{Operation}
use Rattle.pickle_lenient.specs.declared.taken.Frames.TheVariants as frames
use Rattle.pickle_lenient.specs.declared.taken.Taken.{Taken}
use Rattle.pickle_lenient.specs.Stream.{taken}
use Rattle.pickle_further.specs.declared.way.Pickles.{Pickles}
use Rattle.pickle_further.specs.declared.way.Pickles.TheVariants as pickles
use Rattle.pickle_loader.specs.Environment.{Act, World}
use Rattle.pickle_loader.specs.Dispatch.{acts_of}
use Rattle.pickle_loader.specs.Listed.{listed_of}
use Rattle.pickle_loader.specs.ByFrames.{IsAct}
use Rattle.pickle_loader.specs.CLoad.{seen_loaded, as_in_c}
use Rattle.pickle_loader.specs.ShownFile.{c_load_file}
use Rattle.pickle_mixes.specs.declared.place.Place.{Place}
use Rattle.pickle_mixes.specs.Acting.{item_at, acting_places}
use Rattle.mixes_text.specs.MixText.{goes_on}
use Rattle.reach_laws.specs.Mixed.{Turn, opened, load_turn, load_mixed, c_opened, c_load_mixed}
use Rattle.reach_laws.specs.Filed.{file_mix, frames_pass}

-- ---- places

-- an operation at an offset is the one of a place that is found
pub record IsPlaced (bytes : List ℕ) (found : List Place) (offset : ℕ) (o : Operation) : Type 0 where
  pub place : Place
  pub there : Contains found place
  pub at : place.offset ≡ offset
  pub item : Taken
  pub takes : item_at bytes frames.Held place ≡ Ok item
  pub same : item.op ≡ o

-- an act is done by an item of a mix: behind a beginning of the mix a load stands at its offset, and its next turn takes the item, which does it
pub record IsDone (w : World) (bytes : List ℕ) (mix : List Turn) (a : Act) : Type 0 where
  pub front : List Turn
  pub turn : Turn
  pub back : List Turn
  pub whole : mix ≡ front ++ turn ∷ back
  pub item : Taken
  pub takes : taken turn.way.frames (load_mixed w front (opened bytes)).left (load_mixed w front (opened bytes)).rest ≡ Ok item
  pub added : List Act
  pub adds : acts_of (load_turn w turn (load_mixed w front (opened bytes))).now ≡ acts_of (load_mixed w front (opened bytes)).now ++ added
  pub act : IsAct a (listed_of added)
  pub offset : ℕ
  pub stands : (load_mixed w front (opened bytes)).rest ≡ drop offset bytes

-- and that has its place
abbrev pub IsDoneThere : World → List ℕ → List Place → List Turn → Act → Type 0
IsDoneThere w bytes found mix a = (x : IsDone w bytes mix a) × IsPlaced bytes found x.offset x.item.op

-- which pickles are read where a walk goes on behind STOP, or does not
abbrev pub covers : Bool → Pickles → Bool
covers true p = true
covers false pickles.First = true
covers false pickles.All = false
covers false pickles.OneMemo = false

-- ---- laws

-- whatever is listed of a load by the unpickler in Python, in every environment and for any mix of ways: an item did it whose place is found
abbrev pub EachActOfAMixHasItsPlace : Type 0
EachActOfAMixHasItsPlace = (w : World) (many : Bool) (bytes : List ℕ) (found : List Place) (mix : List Turn) → acting_places many bytes ≡ Some found
    → All (λ (turn : Turn). covers many turn.way.pickles ≡ true) mix → (a : Act) → IsAct a (listed_of (acts_of (load_mixed w mix (opened bytes)).now)) → IsDoneThere w bytes found mix a

-- so it is with the unpickler in C, which does what the one in Python does in an environment that answers as C does
abbrev pub EachActInCHasItsPlace : Type 0
EachActInCHasItsPlace = (w : World) (many : Bool) (bytes : List ℕ) (found : List Place) (mix : List Turn) → acting_places many bytes ≡ Some found
    → All (λ (turn : Turn). covers many turn.way.pickles ≡ true) mix → (a : Act) → IsAct a (listed_of (acts_of (seen_loaded (c_load_mixed w mix (c_opened bytes)).now)))
    → IsDoneThere (as_in_c w) bytes found mix a

-- and with its load of a file, however many bytes that shows at each of its turns: once, in a loop of loads, or by one unpickler that loads again
abbrev pub EachActOfAFileHasItsPlace : Type 0
EachActOfAFileHasItsPlace = (w : World) (shows : ℕ → ℕ) (p : Pickles) (bytes : List ℕ) (found : List Place) (n : ℕ) → acting_places (goes_on p) bytes ≡ Some found → length bytes < 2 ^ 31
    → (a : Act) → IsAct a (listed_of (acts_of (seen_loaded (c_load_file w shows p bytes n).now))) → (shown : List Bool) × IsDoneThere (as_in_c (frames_pass w)) bytes found (file_mix p shown) a
