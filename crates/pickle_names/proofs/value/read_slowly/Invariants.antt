-- What the loop over the characters keeps.
use Rattle.pickle_names.proofs.Turns.{Reads}
use Rattle.pickle_names.proofs.value.read_slowly.Given as goal

abbrev pub invariant-loop : goal.invariant-loop
invariant-loop l = Reads l.coding l.most l.counter l.bytes l.rest l.plain
