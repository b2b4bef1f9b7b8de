use Rattle.pickle_doc.proofs.Streams.{fault_is as law}
use Rattle.pickle_doc.proofs.stream_laws.next_faults_follow.Goals as goal

pub returns : goal.returns
returns c = law
