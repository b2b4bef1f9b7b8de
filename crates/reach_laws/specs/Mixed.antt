-- Loads that read each item in a way of its own.
-- Source: of one way: Lib/pickle.py, Modules/_pickle.c, as `load_read` and `c_load_read` say. Modules/_pickle.c: `_Unpickler_ReadFromFile`: what a file
-- shows ahead (`peek`) stays in the file. So where an item crosses the end of a frame, nothing is lost of a frame that is shown, and the rest is lost
-- of another.
use Rattle.std.specs.Prelude.{ℕ, Bool, true, false, List, [], ◌∷◌, if◌then◌else◌}
use Rattle.pickle_lenient.specs.Stream.{taken}
use Rattle.pickle_further.specs.declared.way.Way.{Way}
use Rattle.pickle_loader.specs.Environment.{World}
use Rattle.pickle_loader.specs.Dispatch.{Going, new_unpickler}
use Rattle.pickle_loader.specs.Onward.{Onward, reads_on, load_read}
use Rattle.pickle_loader.specs.CLoad.{COnward, CGoing, c_new, seen_loaded, c_load_read}

-- the way in which an item is read, and whether what is in the buffer behind it is only shown
pub record Turn : Type 0 where
  pub way : Way
  pub shown : Bool

-- ---- in Python

-- a file from its first byte
abbrev pub opened : List ℕ → Onward
opened bytes = record { now = Going (new_unpickler []); rest = bytes; left = 0 }

-- nothing of what is shown is lost
abbrev pub as_shown : Bool → Onward → Onward
as_shown true x = record x { left = 0 }
as_shown false x = x

abbrev pub load_turn : World → Turn → Onward → Onward
load_turn w turn x =
    if reads_on turn.way.pickles x.now then as_shown turn.shown (load_read w turn.way.pickles x (taken turn.way.frames x.left x.rest)) else x

-- an item for each of these, at most
unfoldable pub load_mixed : World → List Turn → Onward → Onward
load_mixed w [] x = x
load_mixed w (turn ∷ mix) x = load_mixed w mix (load_turn w turn x)

-- ---- in C

abbrev pub c_opened : List ℕ → COnward
c_opened bytes = record { now = CGoing (c_new []); rest = bytes; left = 0 }

abbrev pub c_as_shown : Bool → COnward → COnward
c_as_shown true x = record x { left = 0 }
c_as_shown false x = x

abbrev pub c_load_turn : World → Turn → COnward → COnward
c_load_turn w turn x =
    if reads_on turn.way.pickles (seen_loaded x.now) then c_as_shown turn.shown (c_load_read w turn.way.pickles x (taken turn.way.frames x.left x.rest)) else x

unfoldable pub c_load_mixed : World → List Turn → COnward → COnward
c_load_mixed w [] x = x
c_load_mixed w (turn ∷ mix) x = c_load_mixed w mix (c_load_turn w turn x)
