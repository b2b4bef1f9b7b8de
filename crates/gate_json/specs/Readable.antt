-- Each line is read back as its object, by the grammar of JSON, and is one line, whatever the names in a file and what is said of it are.
-- Source: own.
use Rattle.std.specs.Prelude.{ℕ, List, codes}
use Rattle.json_lines.specs.Readable.{ReadsBackAs, IsLineOfJson}
use Rattle.pickle_text.specs.Output.{Output}
use Rattle.pickle_allow.specs.declared.list.Entry.{Entry as Allowed}
use Rattle.archive_script.specs.declared.judged.Judged.{Judged}
use Rattle.gate_json.specs.VerdictFields.{told_fields, named_fields, no_list_fields}
use Rattle.gate_json.specs.GateLine.{verdict_line, named_line, no_list_json, IsNamedLine, IsGateLine}

-- the line of a file, without its name and with it, and that of a list with a line that is no entry
pub record VerdictLinesReadBack : Type 0 where
  pub verdict : (j : Judged) → ReadsBackAs (verdict_line j) (codes "verdict") (told_fields j)
  pub named : (name : List ℕ) (j : Judged) → ReadsBackAs (named_line name j) (codes "verdict") (named_fields name j)
  pub no_list : (n : ℕ) → ReadsBackAs (no_list_json n) (codes "verdict") (no_list_fields n)

-- each answer is one such line: by a list as it is written, and by entries with the name of the file
pub record AnswersAreLines : Type 0 where
  pub alone : (list bytes : List ℕ) (o : Output) → IsGateLine list bytes o → IsLineOfJson o.text
  pub named : (name : List ℕ) (list : List Allowed) (bytes : List ℕ) (o : Output) → IsNamedLine name list bytes o → IsLineOfJson o.text
