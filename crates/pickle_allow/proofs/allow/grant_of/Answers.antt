use Rattle.std.proofs.Common.{arith}
use Rattle.pickle_allow.proofs.Grants.{entry_read}
use Rattle.pickle_allow.proofs.allow.grant_of.Goals as goal

pub loop-entry-preserved : goal.loop-entry-preserved
loop-entry-preserved c = entry_read c.args.list.now c.args.name.now c.loop-entry.entry-index _ c.loop-entry.found c.in_ok-entry_grant.field-0 c.joined-found.result _ (omega arith) c.in_ok-entry_grant.ensures c.joined-found.ensures c.loop-entry.invariant
