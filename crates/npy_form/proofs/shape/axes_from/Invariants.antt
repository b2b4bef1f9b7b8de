-- What is left of the shape decides.
use Rattle.std.proofs.Common.{◌≡◌, ◌≤◌, ◌-◌, length}
use Rattle.npy_form.specs.Shape.{axes_from}
use Rattle.npy_form.proofs.shape.axes_from.Given as goal

abbrev pub invariant-loop-more : goal.invariant-loop-more
invariant-loop-more l = (axes_from (63 - l._more) l.bytes l.at l.count ≡ axes_from 63 l.bytes l.fn.start l.fn.first) × (l.at ≤ length l.bytes)
