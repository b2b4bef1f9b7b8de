use Rattle.std.proofs.Common.{rules, ◌≡◌, arith}
use Rattle.pickle_machine.specs.declared.refusal.Refusal.TheVariants.{Memory}
use Rattle.pickle_session.proofs.Answering.{step_lacks}
use Rattle.pickle_session.proofs.session.Session.step.Goals as goal

pub returns-then-eq-clause-answers : goal.returns-then-eq-clause-answers
returns-then-eq-clause-answers g c =
    let memory : c.in-Err.refusal ≡ Memory = search rules in
    rw c.in-Err.ensures.err (step_lacks _ _ c.self.view_is (omega (arith, c.if-place-len.false, c.len.ensures.value)) (c.in-Err.ensures.refused.memory memory) (λ free. c.in-Err.ensures.free free memory))
