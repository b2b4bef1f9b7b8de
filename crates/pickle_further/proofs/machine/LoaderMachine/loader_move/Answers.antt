use Rattle.std.proofs.Common.{◌∙◌}
use Rattle.pickle_further.proofs.Fars.{move_same}
use Rattle.pickle_further.proofs.machine.LoaderMachine.loader_move.Goals as goal

pub returns : goal.returns
returns c = rw (← c.self.view_is) (c.loader_move.ensures ∙ move_same c.args.opcode c.args.row c.self.inside.far.entries c.self.inside.machine.state)
