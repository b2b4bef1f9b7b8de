use Rattle.pickle_machine.proofs.Naming.{start_names}
use Rattle.pickle_machine.proofs.machine.Machine.start.Goals as goal

pub invariant_of-result : goal.invariant_of-result
invariant_of-result c = rw (c.new.ensures.items, c.new-2.ensures, c.new-3.ensures, c.new-4.ensures.items) (start_names c.args.many)
