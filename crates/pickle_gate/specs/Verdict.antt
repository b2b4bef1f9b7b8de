-- What the gate says of bytes: one verdict for each document.
-- Source: own.
use Rattle.std.specs.Prelude.{◌≡◌, ℕ, ◌^◌, ◌<◌, ◌≤◌, false, List, length, Option, Some, None}
use Rattle.pickle_doc.specs.Document.{Contents, ReadsAs, AreBytes, size_limit}
use Rattle.pickle_doc.specs.Place.{ops_of, offset_of}
use Rattle.pickle_machine.specs.State.{State, start}
use Rattle.pickle_machine.specs.Run.{run}
use Rattle.pickle_calls.specs.Calls.{calls_end}
use Rattle.pickle_form.specs.declared.reason.Other.{Other}
use Rattle.pickle_form.specs.Form.{first_other}
use Rattle.pickle_allow.specs.declared.list.Entry.{Entry}
use Rattle.pickle_gate.specs.declared.verdict.Verdict.{Verdict}
use Rattle.pickle_gate.specs.declared.verdict.Verdict.TheVariants as verdict
use Rattle.pickle_gate.specs.Gate.{first_forbidden, Passes}

-- ---- the verdict of a document

-- how many items come before the first place that is not in the form of picklers
abbrev pub in_form : Contents → Option Other → ℕ
in_form d None = length (ops_of d)
in_form d (Some other) = other.place

-- of these items the first that is not allowed; or, where one of them is refused, how reading ends; or the place behind them that is not in the form
abbrev pub verdict_by : Contents → Option ℕ → Option State → Option Other → Verdict
verdict_by d (Some k) s other = verdict.Forbidden k (offset_of d k)
verdict_by d None None other = verdict.Ends (calls_end d).ending
verdict_by d None (Some s) (Some other) = verdict.Other other
verdict_by d None (Some s) None = verdict.Passes

abbrev pub verdict_to : List Entry → Contents → Option Other → Verdict
verdict_to list d other = verdict_by d (first_forbidden list d (in_form d other)) (run (start d.many) (ops_of d) (in_form d other)) other

unfoldable pub verdict_of : List Entry → Contents → Verdict
verdict_of list d = verdict_to list d (first_other d)

-- this is the verdict of the document that the bytes read as, as one pickle
abbrev pub IsVerdict : List Entry → List ℕ → Verdict → Type 0
IsVerdict list bytes v = (d : Contents) × ReadsAs false bytes d × (v ≡ verdict_of list d)

-- ---- laws

-- it is `Passes` exactly where the bytes pass
pub record SaysWhetherItPasses (list : List Entry) (bytes : List ℕ) : Type 0 where
  pub passes : IsVerdict list bytes verdict.Passes → Passes list bytes
  pub says : Passes list bytes → IsVerdict list bytes verdict.Passes

abbrev pub VerdictsAreTrue : Type 0
VerdictsAreTrue = (list : List Entry) (bytes : List ℕ) → length bytes ≤ size_limit → SaysWhetherItPasses list bytes

-- bytes have one verdict and no other
abbrev pub OneVerdict : Type 0
OneVerdict = (list : List Entry) (bytes : List ℕ) → AreBytes bytes → length bytes < 2 ^ 64
    → (v : Verdict) × IsVerdict list bytes v × ((w : Verdict) → IsVerdict list bytes w → v ≡ w)
