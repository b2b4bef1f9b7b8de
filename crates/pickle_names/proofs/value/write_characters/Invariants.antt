-- What the loop over the characters keeps.
use Rattle.pickle_names.proofs.Turns.{Writing}
use Rattle.pickle_names.proofs.value.write_characters.Given as goal

abbrev pub invariant-loop : goal.invariant-loop
invariant-loop g l = Writing l.coding l.most l.counter l.bytes l.rest (g.P.Sink.told l.initial.page) (g.P.Sink.told l.page)
