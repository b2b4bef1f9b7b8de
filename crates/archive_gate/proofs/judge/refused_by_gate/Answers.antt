use Rattle.pickle_gate.specs.Verdict.{IsVerdict}
use Rattle.pickle_gate.specs.declared.verdict.Verdict.TheVariants as verdict
use Rattle.pickle_gate.proofs.Verdicts.{verdicts_are_true}
use Rattle.archive_gate.proofs.judge.refused_by_gate.Goals as goal

pub returns-in-Passes : goal.returns-in-Passes
returns-in-Passes c =
    let said : IsVerdict c.args.list.now c.args.bytes.now verdict.Passes = rw c.in-Passes.is at c.in_ok-gate.ensures in
    (verdicts_are_true c.args.list.now c.args.bytes.now c.requires).passes said
