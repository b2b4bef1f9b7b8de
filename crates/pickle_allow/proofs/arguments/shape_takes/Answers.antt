use Rattle.std.proofs.Common.{sym, ◌∙◌}
use Rattle.pickle_allow.specs.Grammar.{is_blank}
use Rattle.pickle_allow.proofs.Cuts.{rest_smaller}
use Rattle.pickle_allow.proofs.Taking.{item_read, item_wrong}
use Rattle.pickle_allow.proofs.arguments.shape_takes.Goals as goal

pub returns-in_default-2 : goal.returns-in_default-2
returns-in_default-2 g c =
    item_wrong c.args.list.now c.args.protocol (g.M.Inspect.state c.args.machine.now).heap c.args.ids.now c.loop-rest.n c.loop-rest.rest c.in-Some.left c.cut-piece.result.front.now _ c.in-Some.is c.cut-piece.ensures.front
    (sym c.in_default-2.is ∙ c.in_ok-next.ensures) c.loop-rest.invariant

pub loop-rest-smaller : goal.loop-rest-smaller
loop-rest-smaller g c = rest_smaller is_blank c.loop-rest.rest c.cut-piece.result.rest c.in-Some.left c.in-Some.is c.cut-piece.ensures.rest

pub loop-rest-preserved : goal.loop-rest-preserved
loop-rest-preserved g c =
    item_read c.args.list.now c.args.protocol (g.M.Inspect.state c.args.machine.now).heap c.args.ids.now c.loop-rest.n c.in-Some-2.next c.loop-rest.rest c.cut-piece.result.rest c.in-Some.left c.cut-piece.result.front.now _ c.in-Some.is
    c.cut-piece.ensures.front c.cut-piece.ensures.rest (sym c.in-Some-2.is ∙ c.in_ok-next.ensures) c.loop-rest.invariant
