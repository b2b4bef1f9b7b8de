use Rattle.std.proofs.Common.{◌∙◌}
use Rattle.pickle_ops.specs.Spelling.{size_of}
use Rattle.pickle_lenient.proofs.Behind.{op_ends, fault_ends}
use Rattle.pickle_lenient.proofs.buffer.ends_in.Goals as goal

pub returns-in-Ok : goal.returns-in-Ok
returns-in-Ok c = op_ends c.args.bytes.now c.in-Ok.field-0 (size_of c.in-Ok.field-0) c.in-Ok.ensures.found

pub returns-in-Err : goal.returns-in-Err
returns-in-Err c = c.ends_at.ensures ∙ fault_ends c.args.bytes.now c.in-Err.fault c.in-Err.ensures.fault
