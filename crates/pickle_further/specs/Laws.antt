-- What the text of `calls` promises whoever reads it, behind the end of the lines too.
-- Source: own.
use Rattle.std.specs.Prelude.{◌≡◌, ℕ, suc, ◌<◌, ◌++◌, true, List, [], length, slice_get, Option, Some, None, is_some}
use Rattle.pickle_ops.specs.Kind.{is_opaque}
use Rattle.pickle_ops.specs.Object.{Object}
use Rattle.pickle_doc.specs.Document.{Contents}
use Rattle.pickle_io.specs.declared.hole.Hole.{Hole}
use Rattle.pickle_calls.specs.Manner.{Manner}
use Rattle.pickle_calls.specs.Calls.{calls}
use Rattle.pickle_further.specs.declared.way.Pickles.{Pickles}
use Rattle.pickle_further.specs.declared.way.Way.{Way}
use Rattle.pickle_further.specs.declared.seek.Sought.TheVariants as sought
use Rattle.pickle_further.specs.Going.{Standing, going, tale, search_from}
use Rattle.pickle_further.specs.CallsText.{document_calls}

-- the text up to the end of the lines is the beginning of the whole, and where the status is 0 that of these lines is
abbrev pub LinesComeFirst : Type 0
LinesComeFirst = (how : Manner) (p : Pickles) (d : Contents)
    → ((more : List ℕ) × ((document_calls how p d).text ≡ (calls how d).text ++ more)) × ((document_calls how p d).status ≡ 0 → (calls how d).status ≡ 0)

-- an item that moves and has no line makes no opaque object and leaves every one as it was
abbrev pub NoLineNoReachBehind : Type 0
NoLineNoReachBehind = (w : Way) (p : Standing) → 0 < (going w p).gone.size → (going w p).gone.event ≡ None
    → (id : ℕ) (o : Object) → slice_get (going w p).state.heap id ≡ Some o → is_opaque o.kind ≡ true → slice_get p.state.heap id ≡ Some o

-- of at most n items from here on, the lines are those from the first item with an event on; where there is none, there are no lines
abbrev pub BeginsAtLine : List Hole → ℕ → Way → Standing → Option Standing → Type 0
BeginsAtLine holes n w p (Some q) = (is_some (going w q).gone.event ≡ true) × ((k : ℕ) × (tale holes n w p ≡ tale holes (suc k) w q))
BeginsAtLine holes n w p None = (tale holes n w p).lines.text ≡ []

-- a part begins at the first item with a line, and what it passes over has none
abbrev pub PartsBeginAtLines : Type 0
PartsBeginAtLines = (holes : List Hole) (w : Way) (p : Standing) → BeginsAtLine holes (suc (length p.rest)) w p (search_from sought.Event w p)
