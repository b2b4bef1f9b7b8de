use Rattle.std.proofs.Common.{◌≡◌, take}
use Rattle.pickle_machine.specs.Sections.{with_top}
use Rattle.pickle_machine.proofs.stack.Stack.push_all.Given as goal

abbrev pub invariant-loop-id : goal.invariant-loop-id
invariant-loop-id l = l.self ≡ with_top l.initial.self (take l.id-index l.items)
