use Rattle.pickle_lenient.proofs.Lenients.{lenient_short}
use Rattle.pickle_lenient.proofs.lenient.read_lenient.Goals as goal

pub returns-in-None-clause-err : goal.returns-in-None-clause-err
returns-in-None-clause-err c = lenient_short c.args.bytes.now c.in-None.ensures.cases
