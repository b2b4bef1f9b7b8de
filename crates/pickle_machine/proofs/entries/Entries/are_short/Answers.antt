-- The last key of the map is below, and so are the slots.
use Rattle.std.proofs.Common.{arith}
use Rattle.pickle_machine.proofs.Slots.{below_last, below_none, kept_below}
use Rattle.pickle_machine.proofs.entries.Entries.are_short.Goals as goal

pub returns-in-None-clause-below : goal.returns-in-None-clause-below
returns-in-None-clause-below c =
    rw (← c.self.view_is) (kept_below _ 0 c.self.inside.slots.items c.self.inside.rest.entries (omega (arith, c.len-count.ensures)) (below_none _ c.self.inside.rest.entries _ c.last_key_value.ensures.variant.1 c.in-None.is))

pub returns-then-key-le18446744073709551615-clause-below : goal.returns-then-key-le18446744073709551615-clause-below
returns-then-key-le18446744073709551615-clause-below c =
    rw (← c.self.view_is) (kept_below _ 0 c.self.inside.slots.items c.self.inside.rest.entries (omega (arith, c.len-count.ensures)) (below_last _ c.in-Some.key.now c.self.inside.rest.entries (omega (arith, c.if-key-le18446744073709551615.true)) c.in-Some.ensures.all_up_to))
