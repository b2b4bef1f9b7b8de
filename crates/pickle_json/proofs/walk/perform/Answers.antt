use Rattle.std.proofs.Common.{arith}
use Rattle.pickle_list.proofs.Marks.{followed_is}
use Rattle.pickle_json.proofs.walk.perform.Goals as goal

pub returns-in_err-follow_marks : goal.returns-in_err-follow_marks
returns-in_err-follow_marks c = grind (arith, followed_is)

pub returns : goal.returns
returns c = grind (arith, followed_is)
