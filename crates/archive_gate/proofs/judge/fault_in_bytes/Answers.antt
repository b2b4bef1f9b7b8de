use Rattle.std.proofs.Common.{arith}
use Rattle.archive_gate.proofs.judge.fault_in_bytes.Goals as goal

pub returns-clause-small : goal.returns-clause-small
returns-clause-small c = λ i. omega (arith, c.type_inv.bytes i)
