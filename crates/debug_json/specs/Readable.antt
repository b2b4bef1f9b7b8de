-- Each line of a script is answered by one line, which is read back as its object by the grammar of JSON, whatever the names, texts and
-- numbers of a pickle are.
-- Source: own.
use Rattle.std.specs.Prelude.{◌≡◌, ℕ, List}
use Rattle.json_lines.specs.Line.{Field, line}
use Rattle.json_lines.specs.Readable.{ReadsBackAs}
use Rattle.pickle_session.specs.Allowed.{SessionState}
use Rattle.debug_json.specs.Answer.{Answer}
use Rattle.debug_json.specs.Says.{Says}
use Rattle.debug_json.specs.Lines.{answer_line}

-- a text is the line of a kind and of fields, and is read back as its object
pub record ReadsBack (whole : List ℕ) : Type 0 where
  pub kind : List ℕ
  pub fields : List Field
  pub is_line : whole ≡ line kind fields
  pub reads : ReadsBackAs whole kind fields

abbrev pub AnswersReadBack : Type 0
AnswersReadBack = (p q : SessionState) (bytes : List ℕ) (a : Answer) → Says p bytes a q → ReadsBack (answer_line a)
