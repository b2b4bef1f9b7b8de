use Rattle.std.proofs.Common.{◌<◌, length}
use Rattle.pickle_machine.proofs.Naming.{put_on_names}
use Rattle.pickle_machine.proofs.machine.Machine.put_on.Goals as goal

pub invariant_of-self-2 : goal.invariant_of-self-2
invariant_of-self-2 c =
    let there : c.args.id < length c.self.inside.core.state.heap = rw c.self.view_is c.requires in
    rw c.in_ok-repeat.ensures.ok (put_on_names c.args.id c.self.inside.core.state there c.self.invariant)
