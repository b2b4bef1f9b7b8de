-- How the run over the items of a source ends. These are no definitions of the report.
use Rattle.std.specs.Prelude.{◌≡◌, ℕ, Bool, List, Some}
use Rattle.pickle_doc.specs.Document.{Contents, ReadsIn}
use Rattle.pickle_doc.specs.Place.{ops_of}
use Rattle.pickle_machine.specs.State.{State, start}
use Rattle.pickle_machine.specs.Run.{run}
use Rattle.pickle_text.specs.declared.closing.Closing.{Closing}
use Rattle.object_texts.specs.Report.{Closes}

-- the run over the items of the document that the bytes read as ends in this state, and so
abbrev pub EndsIn : Bool → Bool → List ℕ → State → Closing → Type 0
EndsIn many loose bytes s c = (d : Contents) × ReadsIn many loose bytes d × ((place : ℕ) × (run (start d.many) (ops_of d) place ≡ Some s) × Closes d place s c)
