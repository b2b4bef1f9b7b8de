use Rattle.std.proofs.Common.{◌≡◌, drop}
use Rattle.library_answers.specs.Asked.{stand_from}
use Rattle.library_answers.proofs.asked.are_in_order.Given as goal

abbrev pub invariant-loop-one : goal.invariant-loop-one
invariant-loop-one l = stand_from l.from (drop l.one-index l.given) ≡ stand_from 0 l.given
