use Rattle.pickle_machine.proofs.Naming.{cleared_names}
use Rattle.pickle_machine.proofs.machine.Machine.clear_stack.Goals as goal

pub invariant_of-self : goal.invariant_of-self
invariant_of-self c = rw c.clear_stack.ensures (cleared_names c.self.inside.core.state c.self.invariant)
