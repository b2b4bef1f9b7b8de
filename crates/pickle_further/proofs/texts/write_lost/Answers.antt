use Rattle.pickle_further.proofs.texts.write_lost.Goals as goal

pub returns : goal.returns
returns g c = rw (c.new-machine.ensures, c.start.ensures, c.are_many.ensures) at c.write_found.ensures
