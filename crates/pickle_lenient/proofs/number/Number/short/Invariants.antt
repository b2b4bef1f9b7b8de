-- What the loop over the digits keeps.
use Rattle.std.proofs.Common.{◌≡◌, drop}
use Rattle.pickle_lenient.specs.Number.{value_from, value_of, AreDigits}
use Rattle.pickle_lenient.proofs.number.Number.short.Given as goal

-- those that are left are digits, and from what was read they give the whole
abbrev pub invariant-loop-d : goal.invariant-loop-d
invariant-loop-d l = AreDigits (drop l.d-index l.d-items) × (value_from l.number (drop l.d-index l.d-items) ≡ value_of l.d-items)
