use Rattle.std.proofs.Common.{ap, Some}
use Rattle.pickle_ops.specs.Object.{Object}
use Rattle.pickle_ops.specs.KindRef.{kind_view}
use Rattle.pickle_machine.proofs.Slims.{look_same, look_none}
use Rattle.pickle_machine.proofs.slim.look_at.Goals as goal

pub returns-in-Ok : goal.returns-in-Ok
returns-in-Ok c = λ o k. ap (λ (x : Object). Some x) (look_same c.args.bytes.now c.args.kept.now c.args.offset o c.in-Ok.op _ (kind_view c.kind_kept.result) k c.in-Ok.ensures.found c.kind_kept.ensures)

pub returns-in-Err : goal.returns-in-Err
returns-in-Err c = λ o k. absurd (look_none c.args.bytes.now c.args.kept.now c.args.offset o c.in-Err.field-0 k c.in-Err.ensures.fault)
