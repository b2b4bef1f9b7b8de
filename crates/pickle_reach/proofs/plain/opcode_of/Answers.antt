use Rattle.pickle_reach.proofs.Alike.{code_is}
use Rattle.pickle_reach.proofs.plain.opcode_of.Goals as goal

pub returns : goal.returns
returns c = code_is c.args.code c.of_code.result c.of_code.ensures
