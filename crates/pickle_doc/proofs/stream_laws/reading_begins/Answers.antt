use Rattle.pickle_doc.proofs.Streams.{stands_first as law}
use Rattle.pickle_doc.proofs.stream_laws.reading_begins.Goals as goal

pub returns : goal.returns
returns c = law
