-- Where the status of the gate's text is 0.
use Rattle.std.proofs.Common.{◌≡◌, ℕ, ◌≤◌, ◌<◌, ◌^◌, List, length, refl, sym, ap, ◌∙◌, arith}
use Rattle.pickle_doc.specs.Document.{AreBytes, size_limit}
use Rattle.pickle_text.specs.Output.{Output}
use Rattle.pickle_allow.specs.declared.list.Entry.{Entry}
use Rattle.pickle_gate.specs.declared.verdict.Verdict.{Verdict}
use Rattle.pickle_gate.specs.declared.verdict.Verdict.TheVariants as verdict
use Rattle.pickle_gate.specs.Gate.{Passes}
use Rattle.pickle_gate.specs.Verdict.{verdict_of}
use Rattle.pickle_gate.proofs.Verdicts.{verdicts_are_true, one_verdict}
use Rattle.pickle_script.specs.GateText.{verdict_status, IsVerdictText, ZeroWherePassing}

status_passes : (v : Verdict) → verdict_status v ≡ 0 → verdict.Passes ≡ v
status_passes verdict.Passes e = refl
status_passes (verdict.Forbidden place offset) e = absurd cc
status_passes (verdict.Other other) e = absurd cc
status_passes (verdict.Ends ending) e = absurd cc

zero_passes : (list : List Entry) (bytes : List ℕ) (o : Output) → length bytes ≤ size_limit → IsVerdictText list bytes o → o.status ≡ 0 → Passes list bytes
zero_passes list bytes o few t z =
    let status : verdict_status (verdict_of list t.0) ≡ 0 = sym (ap (λ (x : Output). x.status) t.2) ∙ z in
    (verdicts_are_true list bytes few).passes (t.0, t.1, status_passes (verdict_of list t.0) status)

passing_zero : (list : List Entry) (bytes : List ℕ) (o : Output) → AreBytes bytes → length bytes ≤ size_limit → IsVerdictText list bytes o → Passes list bytes → o.status ≡ 0
passing_zero list bytes o small few t p =
    let less : length bytes < 2 ^ 64 = omega (arith, few) in
    let one = one_verdict list bytes small less in
    let here : one.0 ≡ verdict_of list t.0 = one.2 (verdict_of list t.0) (t.0, t.1, refl) in
    let there : one.0 ≡ verdict.Passes = one.2 verdict.Passes ((verdicts_are_true list bytes few).says p) in
    ap (λ (x : Output). x.status) t.2 ∙ ap verdict_status (sym here ∙ there)

pub zero_where_passing : ZeroWherePassing
zero_where_passing list bytes o small few t = (zero_passes list bytes o few t, passing_zero list bytes o small few t)
