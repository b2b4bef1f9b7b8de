-- The line of whether a file passes a list: what is said in it is what the text for people says.
-- Source: own.
use Rattle.std.specs.Prelude.{◌≡◌, ℕ, List, codes}
use Rattle.json_lines.specs.Line.{line}
use Rattle.pickle_text.specs.Output.{Output}
use Rattle.pickle_allow.specs.declared.list.Entry.{Entry as Allowed}
use Rattle.pickle_allow.specs.declared.listing.Listing.{Listing}
use Rattle.pickle_allow.specs.declared.listing.Listing.TheVariants as listing
use Rattle.pickle_allow.specs.Grammar.{IsListing}
use Rattle.archive_script.specs.declared.judged.Judged.{Judged}
use Rattle.archive_script.specs.GateText.{judged_output, IsFileText, IsGateText}
use Rattle.gate_json.specs.VerdictFields.{told_fields, named_fields, no_list_fields}

-- ---- a file

unfoldable pub verdict_line : Judged → List ℕ
verdict_line j = line (codes "verdict") (told_fields j)

-- the status is that of the text
abbrev pub verdict_output : Judged → Output
verdict_output j = record { text = verdict_line j; status = (judged_output j).status }

-- by the entries of a list: of what the text for people says of the file
abbrev pub IsFileLine : List Allowed → List ℕ → Output → Type 0
IsFileLine list bytes o = (j : Judged) × IsFileText list bytes (judged_output j) × (o ≡ verdict_output j)

-- with the name of the file
unfoldable pub named_line : List ℕ → Judged → List ℕ
named_line name j = line (codes "verdict") (named_fields name j)

abbrev pub named_output : List ℕ → Judged → Output
named_output name j = record { text = named_line name j; status = (judged_output j).status }

abbrev pub IsNamedLine : List ℕ → List Allowed → List ℕ → Output → Type 0
IsNamedLine name list bytes o = (j : Judged) × IsFileText list bytes (judged_output j) × (o ≡ named_output name j)

-- ---- a list

unfoldable pub no_list_json : ℕ → List ℕ
no_list_json n = line (codes "verdict") (no_list_fields n)

-- a line of it is no entry: nothing is said of a file, and the status is that of no answer
abbrev pub no_list_json_output : ℕ → Output
no_list_json_output n = record { text = no_list_json n; status = 2 }

abbrev pub IsNoListJson : ℕ → Output → Type 0
IsNoListJson n o = o ≡ no_list_json_output n

-- by what a list is read as
abbrev pub IsListedLine : Listing → List ℕ → Output → Type 0
IsListedLine (listing.Entries list) bytes o = IsFileLine list.items bytes o
IsListedLine (listing.Wrong n) bytes o = IsNoListJson n o

-- of a list as it is written, and the bytes of a file
abbrev pub IsGateLine : List ℕ → List ℕ → Output → Type 0
IsGateLine list bytes o = (l : Listing) × IsListing list l × IsListedLine l bytes o

-- ---- laws

-- the gate says a text of the same list and the same bytes, with the same status
pub record HasText (list bytes : List ℕ) (o : Output) : Type 0 where
  pub text : Output
  pub said : IsGateText list bytes text
  pub same : o.status ≡ text.status

abbrev pub LinesHaveTexts : Type 0
LinesHaveTexts = (list bytes : List ℕ) (o : Output) → IsGateLine list bytes o → HasText list bytes o
