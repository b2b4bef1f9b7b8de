-- What the lines promise whoever reads them.
-- Source: own.
use Rattle.std.specs.Prelude.{◌≡◌, ◌≢◌, ◌⊎◌, ℕ, suc, ◌<◌, ◌^◌, Bool, true, false, List, [], ◌++◌, length, slice_get, Some, None}
use Rattle.pickle_ops.specs.Spelling.{Operation}
use Rattle.pickle_ops.specs.declared.opcode.Opcode.TheVariants as op
use Rattle.pickle_doc.specs.Document.{Contents, ReadsAs, AreBytes}
use Rattle.pickle_doc.specs.Place.{ops_of, item_at}
use Rattle.pickle_ops.specs.Kind.{is_opaque}
use Rattle.pickle_ops.specs.Object.{Object}
use Rattle.pickle_ops.specs.declared.row.Row.{Row}
use Rattle.pickle_ops.specs.declared.row.Row.TheVariants as row
use Rattle.pickle_ops.specs.declared.row.Filling.{Filling}
use Rattle.pickle_ops.specs.declared.row.Filling.TheVariants as filling
use Rattle.pickle_ops.specs.Row.{row_of}
use Rattle.pickle_machine.specs.State.{State, start}
use Rattle.pickle_machine.specs.Run.{run}
use Rattle.pickle_machine.specs.Loader.{loose_at}
use Rattle.pickle_calls.specs.Manner.{Manner}
use Rattle.pickle_text.specs.Output.{Output}
use Rattle.pickle_calls.specs.Event.{is_view, top_of}
use Rattle.pickle_calls.specs.Calls.{calls, calls_end, entries, entry_at}

-- ---- one text

-- the text of the document that the bytes read as, as several pickles or as one
abbrev pub IsCallsOf : Manner → Bool → List ℕ → Output → Type 0
IsCallsOf how many bytes c = (d : Contents) × ReadsAs many bytes d × (c ≡ calls how d)

-- in each mode a byte string has one text with one status, and no other
abbrev pub OneText : Type 0
OneText = (how : Manner) (many : Bool) (bytes : List ℕ) → AreBytes bytes → length bytes < 2 ^ 64
    → (c : Output) × IsCallsOf how many bytes c × ((e : Contents) → ReadsAs many bytes e → c ≡ calls how e)

-- ---- no line, no reach

-- item k is accepted: the items before it reach the one state, and it leads to the other
pub record IsStep (d : Contents) (k : ℕ) (s t : State) : Type 0 where
  pub before : run (start d.many) (ops_of d) k ≡ Some s
  pub after : run (start d.many) (ops_of d) (suc k) ≡ Some t

-- an accepted item without a line makes no opaque object and leaves every one as it was
abbrev pub NoLineNoReach : Type 0
NoLineNoReach = (how : Manner) (d : Contents) (k : ℕ) (s t : State) → IsStep d k s t → (entry_at how d k).text ≡ []
    → (id : ℕ) (o : Object) → slice_get t.heap id ≡ Some o → is_opaque o.kind ≡ true → slice_get s.heap id ≡ Some o

-- ---- exactly which items have a line

-- an opaque object was made, or a view of one that is no buffer
pub record Makes (s t : State) : Type 0 where
  pub id : ℕ
  pub object : Object
  pub there : slice_get t.heap id ≡ Some object
  pub fresh : slice_get s.heap id ≡ None
  pub shown : (is_opaque object.kind ≡ true) ⊎ (is_view t.heap object ≡ true)

-- an opaque object got changes
pub record Changes (s t : State) : Type 0 where
  pub id : ℕ
  pub old : Object
  pub new : Object
  pub before : slice_get s.heap id ≡ Some old
  pub after : slice_get t.heap id ≡ Some new
  pub opaque : is_opaque old.kind ≡ true
  pub more : length old.changes < length new.changes

-- what appends or adds
abbrev pub adds : Filling → Bool
adds filling.Append = true
adds filling.Add = true
adds _ = false

abbrev pub row_adds : Row → Bool
row_adds (row.Change f) = adds f
row_adds (row.CutChange f) = adds f
row_adds _ = false

-- an item appends or adds, be it nothing, to an opaque object or to a view of one, which may be that object itself
abbrev pub Adds : Contents → ℕ → State → Type 0
Adds d k t = (o : Operation) × (item_at d k ≡ Some o) × (row_adds (row_of o) ≡ true) × (loose_at t.heap (top_of t) ≡ true)

-- an item sets a state
abbrev pub Builds : Contents → ℕ → Type 0
Builds d k = (o : Operation) × (item_at d k ≡ Some o) × (o.opcode ≡ op.Build)

-- an opaque object, or a view of one, is made, an opaque object gets changes, something or nothing is appended or added to one or to a
-- view of one, or a state is set
abbrev pub IsShown : Contents → ℕ → State → State → Type 0
IsShown d k s t = Makes s t ⊎ (Changes s t ⊎ (Adds d k t ⊎ Builds d k))

-- an accepted item has a line exactly where it is shown
abbrev pub LineExactly : Type 0
LineExactly = (how : Manner) (d : Contents) (k : ℕ) (s t : State) → IsStep d k s t
    → ((entry_at how d k).text ≢ [] → IsShown d k s t) × (IsShown d k s t → (entry_at how d k).text ≢ [])

-- ---- the first pickle

-- of several pickles the lines of the first come first, up to where those of one pickle end
abbrev pub FirstLinesComeFirst : Type 0
FirstLinesComeFirst = (how : Manner) (bytes : List ℕ) (d e : Contents) → length bytes < 2 ^ 64 → ReadsAs false bytes d → ReadsAs true bytes e
    → (more : List ℕ) × ((entries how e (calls_end e).place).text ≡ (entries how d (calls_end d).place).text ++ more)
