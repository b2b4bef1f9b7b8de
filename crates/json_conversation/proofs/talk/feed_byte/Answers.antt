use Rattle.std.proofs.Common.{[]}
use Rattle.pickle_io.proofs.Devices.{Wrote-none}
use Rattle.json_conversation.proofs.Feeding.{byte_goes_on}
use Rattle.json_conversation.proofs.talk.feed_byte.Goals as goal

pub returns-clause-feeds : goal.returns-clause-feeds
returns-clause-feeds g c = λ s old given w. byte_goes_on _ _ _ _ _ _ _ _ c.if-byte-eq10.false w c.push.ensures

pub returns-clause-writes : goal.returns-clause-writes
returns-clause-writes g c = ([], Wrote-none _)
