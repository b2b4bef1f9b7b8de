-- What is the same, is the same in each text about it; and what two pickles compare to is one answer.
-- Source: own.
use Rattle.std.specs.Prelude.{◌≡◌, ℕ, ◌≤◌, Bool, false, List, length}
use Rattle.pickle_doc.specs.Document.{Contents, ReadsIn, AreBytes, size_limit}
use Rattle.pickle_machine.specs.State.{State}
use Rattle.object_texts.specs.Report.{IsReport}
use Rattle.same_objects.specs.declared.compared.Compared.{Compared}
use Rattle.same_objects.specs.declared.compared.Compared.TheVariants as compared
use Rattle.same_objects.specs.Same.{Makes, Does, SameObjects, Compares}

-- what is read to the end, and no byte follows, makes the same as itself
abbrev pub EachIsItsOwn : Type 0
EachIsItsOwn = (many : Bool) (bytes : List ℕ) (s : State) (acts : List ℕ) → Makes many bytes s → Does many bytes acts → SameObjects many bytes bytes

-- the reports of pickles that make the same are the same text, with the same status
abbrev pub SameHaveOneReport : Type 0
SameHaveOneReport = (many : Bool) (one other : List ℕ) → AreBytes one → length one ≤ size_limit → AreBytes other → length other ≤ size_limit → SameObjects many one other
    → (d e : Contents) → ReadsIn many false one d → ReadsIn many false other e
    → (text again : List ℕ) (status last : ℕ) → IsReport d text status → IsReport e again last → (text ≡ again) × (status ≡ last)

-- where two pickles make the same, no other answer holds
abbrev pub OneComparison : Type 0
OneComparison = (many : Bool) (one other : List ℕ) → AreBytes one → length one ≤ size_limit → AreBytes other → length other ≤ size_limit → SameObjects many one other
    → (c : Compared) → Compares many one other c → c ≡ compared.Same
