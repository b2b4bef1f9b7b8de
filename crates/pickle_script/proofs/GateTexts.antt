-- The text of a verdict about the bytes.
use Rattle.std.proofs.Common.{◌≡◌, ℕ, List, false, ap, ◌∙◌}
use Rattle.pickle_doc.specs.Document.{Contents, ReadsAs}
use Rattle.pickle_allow.specs.declared.list.Entry.{Entry}
use Rattle.pickle_gate.specs.declared.verdict.Verdict.{Verdict}
use Rattle.pickle_gate.specs.Verdict.{IsVerdict}
use Rattle.pickle_script.specs.GateText.{line_for, verdict_text, verdict_status, verdict_output, IsVerdictText}

-- what is said of a verdict, with the line of `calls` for its item
pub tells : (list : List Entry) (bytes line : List ℕ) (v : Verdict) → IsVerdict list bytes v → ((d : Contents) → ReadsAs false bytes d → line ≡ line_for d v)
    → IsVerdictText list bytes (record { text = verdict_text line v; status = verdict_status v })
tells list bytes line v is lines =
    (is.0, is.1, ap (λ (l : List ℕ). record { text = verdict_text l v; status = verdict_status v }) (lines is.0 is.1) ∙ ap (verdict_output is.0) is.2)
