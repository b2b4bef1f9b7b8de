-- No word is no byte.
use Rattle.std.proofs.Common.{[], refl}
use Rattle.pickle_script.proofs.HexWords.{none-decodes}
use Rattle.pickle_script.proofs.conversation.grammar.hex_last.Goals as goal

pub returns-in-None : goal.returns-in-None
returns-in-None c = ([], rw c.in-None.ensures refl, none-decodes)
