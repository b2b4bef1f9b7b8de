use Rattle.std.proofs.Common.{arith}
use Rattle.pickle_script.proofs.conversation.query.object_of.Goals as goal

pub overflow_cast-result : goal.overflow_cast-result
overflow_cast-result g c = omega (arith, c.machine.ensures.few, c.objects.ensures.count, c.if-number-objects.true)
