-- Which acts reach something, for a loader that was given this besides the bytes; and that none does where `first_reach` answers nothing.
-- Source: own.
use Rattle.std.specs.Prelude.{◌≡◌, ℕ, ◌&&◌, ◌||◌, not, Bool, true, false, List, replicate, All}
use Rattle.pickle_ops.specs.declared.kind.Kind.{Kind}
use Rattle.pickle_ops.specs.declared.kind.Kind.TheVariants as kind
use Rattle.pickle_ops.specs.Spelling.{Operation}
use Rattle.pickle_further.specs.declared.way.Way.{Way}
use Rattle.pickle_loader.specs.Environment.{Value, Plain, Own, Foreign, is_elsewhere, Name, Line, Given, Act, Find, Extension, SetState, Persist, NextBuffer, Raises, Unpickler, World}
use Rattle.pickle_loader.specs.Dispatch.{acts_of}
use Rattle.pickle_loader.specs.Listed.{is_listed}
use Rattle.pickle_loader.specs.Onward.{load_way}
use Rattle.pickle_further.specs.declared.way.Pickles.{Pickles}
use Rattle.pickle_loader.specs.ByFrames.{load_framed}
use Rattle.pickle_loader.specs.CLoad.{seen_loaded}
use Rattle.pickle_reach.specs.declared.granted.Granted.{Granted}
use Rattle.pickle_reach.specs.Names.{lines_import, text_names}
use Rattle.pickle_reach.specs.Item.{is_unread}
use Rattle.pickle_reach.specs.Reach.{first_spot, NothingFrom}
use Rattle.reach_laws.specs.Mixed.{Turn, opened, load_mixed, c_opened, c_load_mixed}

-- ---- names

-- a literal that may be the name of a module, or of what a loader has an answer for anyhow; of a quoted line nothing is asked
abbrev pub kind_names : Kind → Bool
kind_names (kind.Text bytes) = text_names bytes
kind_names (kind.TextLine bytes) = text_names bytes
kind_names (kind.LegacyString bytes) = text_names bytes
kind_names (kind.LegacyLine bytes) = true
kind_names _ = false

abbrev pub value_names : Value → Bool
value_names (Plain k) = kind_names k
value_names (Own t n) = false
value_names (Foreign t n) = true

-- an import by two lines, or by two values, either of which may be such a name
abbrev pub may_import : Name → Name → Bool
may_import (Line module_line) (Line member_line) = lines_import module_line member_line
may_import (Given module_name) (Given member_name) = value_names module_name || value_names member_name
may_import _ _ = true

-- ---- acts

-- what raises: an import from what can be no module, of what no loader has an answer for anyhow; and what the loader was not given
abbrev pub is_refused : Granted → Act → Bool
is_refused g (Find proto module_name member_name) = not (may_import module_name member_name)
is_refused g (Extension code) = not g.extensions
is_refused g (Persist identity) = not g.persistent
is_refused g (NextBuffer number) = not g.buffers
is_refused g _ = false

-- what reaches something: all that is listed and not refused; a state, where it is given to what comes from elsewhere
abbrev pub act_reaches : Granted → Act → Bool
act_reaches g (SetState target state) = is_elsewhere target
act_reaches g a = is_listed a && not (is_refused g a)

abbrev pub NoneReaches : Granted → List Act → Type 0
NoneReaches g acts = All (λ (a : Act). act_reaches g a ≡ false) acts

-- ---- environments

-- what is refused raises, and so does a number that is none
-- Source: Lib/pickle.py and Modules/_pickle.c: `persistent_load`, `get_extension`, `load_next_buffer`, `load_int`, `load_long`, `load_float`;
-- `find_class`: `__import__` of a name that no module has. torch/serialization.py: `find_class` in `_load` and `_legacy_load`: what has an answer
-- before it is imported.
pub record IsGranted (g : Granted) (w : World) : Type 0 where
  pub refuses : (acts : List Act) (a : Act) → is_refused g a ≡ true → w.reply acts a ≡ Raises
  pub unread : (u : Unpickler) (o : Operation) → is_unread o.opcode o.arg ≡ true → w.fails u o ≡ true

-- ---- laws

-- where no spot reaches something, no act does, of any load of the bytes, whatever way each item is read in
abbrev pub NothingReached : Type 0
NothingReached = (g : Granted) (w : World) (bytes : List ℕ) → NothingFrom g bytes first_spot → IsGranted g w → (mix : List Turn)
    → NoneReaches g (acts_of (load_mixed w mix (opened bytes)).now)

-- nor does one of the unpickler in C
abbrev pub NothingReachedInC : Type 0
NothingReachedInC = (g : Granted) (w : World) (bytes : List ℕ) → NothingFrom g bytes first_spot → IsGranted g w → (mix : List Turn)
    → NoneReaches g (acts_of (seen_loaded (c_load_mixed w mix (c_opened bytes)).now))

-- nor does one of the unpickler in Python that reads each frame by itself
abbrev pub NothingReachedByFrames : Type 0
NothingReachedByFrames = (g : Granted) (w : World) (p : Pickles) (bytes : List ℕ) → NothingFrom g bytes first_spot → IsGranted g w → (n : ℕ)
    → NoneReaches g (acts_of (load_framed w p bytes n).now)

-- a way in which all items are read is a mix
abbrev pub in_way : Way → Turn
in_way way = record { way = way; shown = false }

abbrev pub WaysAreMixes : Type 0
WaysAreMixes = (w : World) (way : Way) (bytes : List ℕ) (n : ℕ) → load_mixed w (replicate n (in_way way)) (opened bytes) ≡ load_way w way bytes n
