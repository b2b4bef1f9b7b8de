use Rattle.std.proofs.Common.{sym, ap, ◌∙◌}
use Rattle.pickle_reach.specs.Inside.{is_unknown}
use Rattle.pickle_reach.proofs.Steps.{ended_visited}
use Rattle.pickle_reach.proofs.Alike.{unknown_step, rest_whole}
use Rattle.pickle_reach.proofs.visit.visit_none.Goals as goal

pub returns-then-is_unknown : goal.returns-then-is_unknown
returns-then-is_unknown c =
    rw c.settled.ensures (ended_visited c.args.granted c.args.bytes.now c.args.spot c.args.waiting.now.items
    (unknown_step c.args.granted c.args.bytes.now c.args.spot c.requires.within
    (sym (c.is_unknown.ensures ∙ ap is_unknown (rest_whole c.args.spot.offset c.args.bytes.now)) ∙ c.if-is_unknown.true)))
