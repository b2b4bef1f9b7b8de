use Rattle.std.proofs.Common.{◌≡◌, None}
use Rattle.pickle_ops.specs.Row.{kind_of}
use Rattle.pickle_machine.specs.Move.{refusal_of, fresh}
use Rattle.pickle_machine.proofs.HeapGrowth.{step_length}
use Rattle.pickle_machine.proofs.Naming.{step_names}
use Rattle.pickle_machine.proofs.machine.Machine.advance_as.Goals as goal

pub returns-clause-objects : goal.returns-clause-objects
returns-clause-objects c = rw (← c.self.view_is, c.in_ok-go_on.ensures.ok) (step_length c.args.row (kind_of c.args.op.now) c.args.place c.self.inside.core.state)

pub invariant_of-self-2 : goal.invariant_of-self-2
invariant_of-self-2 c =
    let good : refusal_of c.args.row (fresh c.self.inside.core.state) ≡ None = rw c.self.view_is c.requires.good in
    rw c.in_ok-go_on.ensures.ok (step_names c.args.row (kind_of c.args.op.now) c.args.place c.self.inside.core.state good c.self.invariant)
