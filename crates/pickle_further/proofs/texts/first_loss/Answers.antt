use Rattle.pickle_further.proofs.texts.first_loss.Goals as goal

pub returns-clause-ok : goal.returns-clause-ok
returns-clause-ok c = rw (c.new-machine.ensures, c.start.ensures) at c.find_loss.ensures.ok
