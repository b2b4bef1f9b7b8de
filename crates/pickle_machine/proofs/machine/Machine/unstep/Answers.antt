use Rattle.pickle_machine.proofs.machine.Machine.unstep.Goals as goal

pub invariant_of-self : goal.invariant_of-self
invariant_of-self c = rw (c.count_move.ensures, c.take_back.ensures, c.self.view_is) c.requires.fits.names
