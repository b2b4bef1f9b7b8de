-- What a pickle does, one thing after another: what `calls` has a line for, in the order of its lines. Each thing is named by the numbers of its objects.
-- Source: own. The events are those of `pickle_calls/specs/Event.antt`.
use Rattle.std.specs.Prelude.{◌≡◌, refl, ℕ, Bool, List, [], codes, decimal, Option, Some, None}
use Rattle.pickle_io.specs.Text.{◌⧺◌}
use Rattle.pickle_io.specs.Device.{Told, Wrote}
use Rattle.pickle_ops.specs.declared.row.Filling.{Filling}
use Rattle.pickle_ops.specs.declared.row.Filling.TheVariants as filling
use Rattle.pickle_ops.specs.Object.{Object}
use Rattle.pickle_doc.specs.Document.{Contents, ReadsAs}
use Rattle.pickle_text.specs.Column.{newline}
use Rattle.pickle_calls.specs.declared.end.Ending.{Ending}
use Rattle.pickle_calls.specs.declared.event.Event.{Event}
use Rattle.pickle_calls.specs.declared.event.Event.TheVariants as event
use Rattle.pickle_calls.specs.declared.naming.Detail.TheVariants as detail
use Rattle.pickle_calls.specs.declared.naming.Naming.{Naming}
use Rattle.pickle_calls.specs.Telling.{Telling}
use Rattle.pickle_calls.specs.Manner.{whole}
use Rattle.pickle_calls.specs.Calls.{entries_in, calls_end}

-- two numbers behind a word
unfoldable pub pair_line : List ℕ → ℕ → ℕ → List ℕ
pair_line word first second = word ⧺ decimal first ⧺ codes " " ⧺ decimal second ⧺ newline

-- how something goes into an object
unfoldable pub filling_word : Filling → List ℕ
filling_word filling.Append = codes "append "
filling_word filling.SetItem = codes "set "
filling_word filling.Add = codes "add "
filling_word filling.Build = codes "build "

unfoldable pub made_line : ℕ → List ℕ
made_line id = codes "made " ⧺ decimal id ⧺ newline

-- an object that comes from elsewhere or from a call; a state and its object; how many go into which object
unfoldable pub act_line : Event → List ℕ
act_line (event.Made id) = made_line id
act_line (event.State value target) = pair_line (codes "state ") value target
act_line (event.Filled f count target) = pair_line (filling_word f) count target

abbrev pub act_of : ℕ → Naming → List Object → Option Event → List ℕ
act_of offset m heap None = []
act_of offset m heap (Some e) = act_line e

-- the lines of events, without offsets and names
abbrev pub by_numbers : Telling
by_numbers = record { line = act_of; silent = λ offset m heap. refl; last = λ bytes imports calls e. [] }

-- what the bytes do up to where `calls` ends, and how it ends there
abbrev pub Acts : Bool → List ℕ → List ℕ → Ending → Type 0
Acts many bytes acts e = (d : Contents) × ReadsAs many bytes d × (acts ≡ (entries_in by_numbers (whole detail.Cut) d (calls_end d).place).text) × (e ≡ (calls_end d).ending)

-- the lines were written
abbrev pub WroteActs : Bool → List ℕ → Told → Told → Ending → Type 0
WroteActs many bytes old new e = (acts : List ℕ) × Acts many bytes acts e × Wrote old new acts
