-- Each text that is kept is one of its float.
use Rattle.source_literals.specs.Floats.{AreRead}
use Rattle.source_literals.proofs.floats.texts_of.Given as goal

abbrev pub invariant-loop-object : goal.invariant-loop-object
invariant-loop-object l = AreRead l.texts
