use Rattle.pickle_further.proofs.texts.seek_mixed.Goals as goal

pub returns-clause-ok : goal.returns-clause-ok
returns-clause-ok c = rw (c.new-machine.ensures, c.start.ensures, c.are_many.ensures, c.file_frames.ensures) at c.find_mixed.ensures.ok
