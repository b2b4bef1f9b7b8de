use Rattle.pickle_loader.proofs.Unframing.{frames_only_end as law}
use Rattle.pickle_loader.proofs.laws.frames_only_end.Goals as goal

pub returns : goal.returns
returns c = law
