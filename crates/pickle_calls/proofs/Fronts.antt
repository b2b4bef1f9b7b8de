-- The first of a list.
use Rattle.std.proofs.lemmas.List.{take_min}

pub ruleset front_steps = (take_min)
