use Rattle.std.proofs.Common.{arith}
use Rattle.pickle_script.proofs.Refusals.{refusal_steps}
use Rattle.pickle_script.proofs.conversation.talk.refuse.Goals as goal

pub returns-in_err-write_syntax : goal.returns-in_err-write_syntax
returns-in_err-write_syntax g c = grind (arith, refusal_steps)

pub returns : goal.returns
returns g c = grind (arith, refusal_steps)
