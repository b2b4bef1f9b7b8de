use Rattle.std.proofs.Common.{◌∙◌, arith}
use Rattle.pickle_session.proofs.Living.{opened}
use Rattle.pickle_session.proofs.session.Session.begin.Goals as goal

pub invariant_of-result : goal.invariant_of-result
invariant_of-result g c =
    (opened _ _ _ c.requires.document c.requires.small c.new-walker.ensures.there c.new-walker.ensures.place (c.ready.ensures.records ∙ c.requires.records) c.ready.ensures.least, record { within = omega arith; long = omega arith; back = tt; forward = rw c.in_ok-edits.ensures.items tt; room = omega (arith, c.in_ok-edits.ensures.capacity) })
