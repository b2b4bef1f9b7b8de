use Rattle.pickle_doc.proofs.Streams.{item_is as law}
use Rattle.pickle_doc.proofs.stream_laws.next_items_follow.Goals as goal

pub returns : goal.returns
returns c = law
