-- What each way with frames comes to.
use Rattle.pickle_reach.proofs.Steps.{first_visited, second_visited, third_visited, none_visited}
use Rattle.pickle_reach.proofs.visit.visit_each.Goals as goal

pub returns-then-branch : goal.returns-then-branch
returns-then-branch c =
    rw c.unsettled.ensures (first_visited c.args.granted c.args.bytes.now c.args.spot c.args.waiting.now.items c.visit_by.new.waiting.items c.in_ok-visit_by.field-0
    (record { on = c.in_ok-visit_by.ensures.on; visited = c.in_ok-visit_by.ensures.ok }) c.if-branch.true)

pub returns-then-branch-2 : goal.returns-then-branch-2
returns-then-branch-2 c =
    rw c.unsettled-then-branch-2.ensures (second_visited c.args.granted c.args.bytes.now c.args.spot c.args.waiting.now.items c.visit_by.new.waiting.items c.visit_by-2.new.waiting.items c.in_ok-visit_by.field-0 c.in_ok-visit_by-2.field-0
    (record { on = c.in_ok-visit_by.ensures.on; visited = c.in_ok-visit_by.ensures.ok }) c.if-branch.false
    (record { on = c.in_ok-visit_by-2.ensures.on; visited = c.in_ok-visit_by-2.ensures.ok }) c.if-branch-2.true)

pub returns-then-branch-3 : goal.returns-then-branch-3
returns-then-branch-3 c =
    rw c.unsettled-then-branch-3.ensures (third_visited c.args.granted c.args.bytes.now c.args.spot c.args.waiting.now.items c.visit_by.new.waiting.items c.visit_by-2.new.waiting.items c.visit_by-3.new.waiting.items
    c.in_ok-visit_by.field-0 c.in_ok-visit_by-2.field-0 c.in_ok-visit_by-3.field-0
    (record { on = c.in_ok-visit_by.ensures.on; visited = c.in_ok-visit_by.ensures.ok }) c.if-branch.false
    (record { on = c.in_ok-visit_by-2.ensures.on; visited = c.in_ok-visit_by-2.ensures.ok }) c.if-branch-2.false
    (record { on = c.in_ok-visit_by-3.ensures.on; visited = c.in_ok-visit_by-3.ensures.ok }) c.if-branch-3.true)

pub returns : goal.returns
returns c =
    rw c.unsettled-2.ensures (none_visited c.args.granted c.args.bytes.now c.args.spot c.args.waiting.now.items c.visit_by.new.waiting.items c.visit_by-2.new.waiting.items c.visit_by-3.new.waiting.items
    c.in_ok-visit_by.field-0 c.in_ok-visit_by-2.field-0 c.in_ok-visit_by-3.field-0
    (record { on = c.in_ok-visit_by.ensures.on; visited = c.in_ok-visit_by.ensures.ok }) c.if-branch.false
    (record { on = c.in_ok-visit_by-2.ensures.on; visited = c.in_ok-visit_by-2.ensures.ok }) c.if-branch-2.false
    (record { on = c.in_ok-visit_by-3.ensures.on; visited = c.in_ok-visit_by-3.ensures.ok }) c.if-branch-3.false)
