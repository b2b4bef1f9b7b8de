use Rattle.std.proofs.Common.{◌≡◌, None}
use Rattle.pickle_ops.specs.Row.{kind_of}
use Rattle.pickle_machine.specs.Move.{refusal_of, fresh}
use Rattle.pickle_machine.proofs.Leading.{step_leads}
use Rattle.pickle_machine.proofs.HeapGrowth.{step_length}
use Rattle.pickle_machine.proofs.Naming.{step_names}
use Rattle.pickle_machine.proofs.machine.Machine.perform_as.Goals as goal

pub returns-clause-leads : goal.returns-clause-leads
returns-clause-leads c =
    let good : refusal_of c.args.row (fresh c.self.inside.core.state) ≡ None = rw c.self.view_is c.requires.good in
    rw (← c.self.view_is) (step_leads c.args.row (kind_of c.args.op.now) c.args.place c.self.inside.core.state _ _ c.in_ok-record.ensures.ok c.in_ok-record.ensures.kept c.in_ok-record.ensures.ordered good)

pub returns-clause-objects : goal.returns-clause-objects
returns-clause-objects c = rw (← c.self.view_is, c.in_ok-record.ensures.ok) (step_length c.args.row (kind_of c.args.op.now) c.args.place c.self.inside.core.state)

pub invariant_of-self-2 : goal.invariant_of-self-2
invariant_of-self-2 c =
    let good : refusal_of c.args.row (fresh c.self.inside.core.state) ≡ None = rw c.self.view_is c.requires.good in
    rw c.in_ok-record.ensures.ok (step_names c.args.row (kind_of c.args.op.now) c.args.place c.self.inside.core.state good c.self.invariant)
