-- The text of whether a pickle is in the form that picklers write.
-- Source: own.
use Rattle.std.specs.Prelude.{ℕ, List, codes, decimal, Option, Some, None}
use Rattle.pickle_io.specs.Text.{◌⧺◌}
use Rattle.pickle_doc.specs.Document.{Contents}
use Rattle.pickle_text.specs.Column.{newline}
use Rattle.pickle_text.specs.Output.{Output}
use Rattle.pickle_form.specs.declared.reason.Other.{Other}
use Rattle.pickle_form.specs.Sentence.{sentence_of}
use Rattle.pickle_form.specs.Form.{first_other}

-- the opcode, and where it begins
unfoldable pub place_text : ℕ → ℕ → List ℕ
place_text place offset = codes "item " ⧺ decimal place ⧺ codes " at " ⧺ decimal offset ⧺ codes ": "

unfoldable pub other_words : List ℕ
other_words = codes "not in form: "

-- the first place at which it is not, and why no pickler writes that
unfoldable pub other_line : Other → List ℕ
other_line o = other_words ⧺ place_text o.place o.offset ⧺ sentence_of o.reason ⧺ newline

abbrev pub form_text : Option Other → List ℕ
form_text None = codes "in form\n"
form_text (Some o) = other_line o

abbrev pub form_status : Option Other → ℕ
form_status None = 0
form_status (Some o) = 1

abbrev pub form_answer : Option Other → Output
form_answer first = record { text = form_text first; status = form_status first }

-- the text of a document of one pickle
unfoldable pub form_output : Contents → Output
form_output d = form_answer (first_other d)
