-- What the loop over the characters keeps.
use Rattle.std.proofs.Common.{◌≤◌, length}
use Rattle.pickle_names.proofs.Turns.{Holding}
use Rattle.pickle_names.proofs.value.short_value.Given as goal

abbrev pub invariant-loop : goal.invariant-loop
invariant-loop l = record {
  holds : Holding l.coding (length l.bytes) l.counter l.bytes l.rest l.held.items;
  small : length l.held.items ≤ 32;
}
