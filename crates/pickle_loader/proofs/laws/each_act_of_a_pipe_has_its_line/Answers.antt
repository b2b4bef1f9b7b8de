use Rattle.pickle_loader.proofs.ShortReads.{each_act_of_a_pipe_has_its_line as law}
use Rattle.pickle_loader.proofs.laws.each_act_of_a_pipe_has_its_line.Goals as goal

pub returns : goal.returns
returns c = law
