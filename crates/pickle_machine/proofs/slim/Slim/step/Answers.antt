use Rattle.std.proofs.Common.{◌≡◌, Option, None, Ok, sym, ap, ◌∙◌}
use Rattle.pickle_machine.specs.declared.refusal.Refusal.{Refusal}
use Rattle.pickle_machine.specs.State.{State}
use Rattle.pickle_machine.specs.Move.{refusal_of, fresh, refusal_at, outcome, next}
use Rattle.pickle_machine.specs.Reading.{Reading}
use Rattle.pickle_machine.proofs.slim.Slim.step.Goals as goal

pub returns-clause-ok : goal.returns-clause-ok
returns-clause-ok c =
    let good : refusal_of c.args.row (fresh c.args.self.now.state) ≡ None = sym c.refusal.ensures.first ∙ c.in_default.is in
    let good' : refusal_at c.args.op.now c.args.self.now.state ≡ None = rw c.requires.row at good in
    ap (λ (x : Option Refusal). outcome x (next c.args.op.now c.args.self.now.place c.args.self.now.state)) good' ∙ ap (λ (s : State). Ok s) (sym (ap (λ (r : Reading). r.state) c.in_ok-perform.ensures))

pub returns-clause-rest : goal.returns-clause-rest
returns-clause-rest c = ap (λ (r : Reading). r.rest) c.in_ok-perform.ensures

pub returns-clause-place : goal.returns-clause-place
returns-clause-place c = ap (λ (r : Reading). r.place) c.in_ok-perform.ensures
