-- One after the other.
use Rattle.pickle_reach.proofs.Steps.{both}
use Rattle.pickle_reach.proofs.waiting.add_both.Goals as goal

pub returns : goal.returns
returns c = both c.args.waiting.now.items c.add.new.waiting.items c.add-2.new.waiting.items c.args.spot c.as_shown.result c.add-2.result c.in_ok-add.ensures c.as_shown.ensures c.add-2.ensures
