-- The objects that the pickle of some bytes makes, or the several pickles, as JSON Lines: a line for each object and for each result, and a
-- last one that says how the run ended.
-- Source: own. How the run ends is the report's, as people read it.
use Rattle.std.specs.Prelude.{◌≡◌, ℕ, suc, Bool, List, [], ◌∷◌, codes, None}
use Rattle.json_lines.specs.Line.{Field, field, ◌⊕◌, whole, line}
use Rattle.pickle_io.specs.Text.{◌⧺◌}
use Rattle.pickle_io.specs.Device.{Told, Wrote, Broke, each}
use Rattle.pickle_doc.specs.declared.fault.TailFault.{TailFault}
use Rattle.pickle_ops.specs.Object.{Object}
use Rattle.pickle_machine.specs.declared.refusal.Refusal.{Refusal}
use Rattle.pickle_machine.specs.State.{State}
use Rattle.pickle_text.specs.declared.closing.Closing.{Closing}
use Rattle.pickle_text.specs.declared.closing.Closing.TheVariants as closing
use Rattle.object_texts.specs.Inside.Ending.{EndsIn}
use Rattle.pickle_text.specs.Output.{Output}
use Rattle.pickle_text.specs.Closing.{closing_status}
use Rattle.pickle_json.specs.EndFields.{how_fields, refused_fields, tail_fields}
use Rattle.objects_json.specs.ObjectFields.{object_line}

-- ---- the lines behind the objects

-- the object that a STOP took
abbrev pub result_fields : ℕ → List Field
result_fields id = field (codes "object") (whole id)

unfoldable pub result_line : ℕ → List ℕ
result_line id = line (codes "result") (result_fields id)

abbrev pub stopped_fields : List Field
stopped_fields = how_fields (codes "stopped")

unfoldable pub stopped_line : List ℕ
stopped_line = line (codes "end") stopped_fields

-- which item is refused, and why
abbrev pub item_refused_fields : ℕ → Refusal → List Field
item_refused_fields place r = refused_fields r None ⊕ field (codes "item") (whole place)

unfoldable pub refused_line : ℕ → Refusal → List ℕ
refused_line place r = line (codes "end") (item_refused_fields place r)

unfoldable pub fault_line : TailFault → ℕ → List ℕ
fault_line f offset = line (codes "end") (tail_fields f offset None)

unfoldable pub closing_line : Closing → List ℕ
closing_line closing.Stopped = stopped_line
closing_line (closing.Refused place r) = refused_line place r
closing_line (closing.Fault f offset) = fault_line f offset

-- ---- all lines

-- the lines of objects whose numbers count from this one on
unfoldable pub lines_from : ℕ → List Object → List ℕ
lines_from id [] = []
lines_from id (o ∷ objects) = object_line id o ⧺ lines_from (suc id) objects

-- the lines of all objects, whose numbers are their places in the heap
unfoldable pub heap_lines : List Object → List ℕ
heap_lines heap = lines_from 0 heap

unfoldable pub objects_text : List Object → List ℕ → Closing → List ℕ
objects_text heap results c = heap_lines heap ⧺ each result_line results ⧺ closing_line c

abbrev pub objects_output : State → Closing → Output
objects_output s c = record { text = objects_text s.heap s.results c; status = closing_status c }

-- the lines and the status of bytes: the items of the document that they read as, as several pickles or as one and with all items loose or
-- with frames, are run from nothing, as far as they have moves
abbrev pub IsObjects : Bool → Bool → List ℕ → Output → Type 0
IsObjects many loose bytes o = (s : State) × (c : Closing) × EndsIn many loose bytes s c × (o ≡ objects_output s c)

-- they were written, and this is the status
abbrev pub WroteObjects : Bool → Bool → List ℕ → Told → Told → ℕ → Type 0
WroteObjects many loose bytes old new status = (o : Output) × IsObjects many loose bytes o × Wrote old new o.text × (status ≡ o.status)

-- a beginning of them was written, and then a failure came
abbrev pub BrokeObjects : Bool → Bool → List ℕ → Told → Told → Type 0
BrokeObjects many loose bytes old new = (o : Output) × IsObjects many loose bytes o × Broke old new o.text
