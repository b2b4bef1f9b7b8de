-- What is left of the unit decides.
use Rattle.std.proofs.Common.{◌≡◌, drop}
use Rattle.npy_form.specs.Item.{unit_end}
use Rattle.npy_form.proofs.item.unit_end.Given as goal

abbrev pub invariant-loop-place : goal.invariant-loop-place
invariant-loop-place l = unit_end (drop l.place l.bytes) l.place ≡ unit_end (drop l.fn.at l.bytes) l.fn.at
