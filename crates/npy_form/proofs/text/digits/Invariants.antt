-- What is left of the digits decides.
use Rattle.std.proofs.Common.{◌≡◌, ◌≤◌, drop}
use Rattle.npy_form.specs.Text.{most, digits}
use Rattle.npy_form.proofs.text.digits.Given as goal

abbrev pub invariant-loop-place : goal.invariant-loop-place
invariant-loop-place l = (digits (drop l.place l.bytes) l.place l.value ≡ digits (drop l.fn.at l.bytes) l.fn.at 0) × (l.value ≤ most)
