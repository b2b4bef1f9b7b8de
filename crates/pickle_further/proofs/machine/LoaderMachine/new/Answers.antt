use Rattle.pickle_further.proofs.Fars.{apart_none, begins_held}
use Rattle.pickle_further.proofs.machine.LoaderMachine.new.Goals as goal

pub returns : goal.returns
returns c = begins_held c.new.result.entries c.args.machine c.new.ensures.empty

pub invariant_of-result : goal.invariant_of-result
invariant_of-result c = apart_none c.new.result.entries c.args.machine.state c.new.ensures.empty c.has_short_keys.ensures.below
