use Rattle.std.proofs.Common.{◌≡◌, Bool, IfOk, subst}
use Rattle.pickle_allow.proofs.Taking.{item_there}
use Rattle.pickle_allow.proofs.arguments.item_takes_at.Goals as goal

pub returns-in-Some : goal.returns-in-Some
returns-in-Some g c =
    subst (λ (b : Bool). IfOk c.item_takes_look.result (λ found. found ≡ b))
    (item_there c.args.list.now c.args.protocol (g.M.Inspect.state c.args.machine.now).heap c.args.item.now c.args.id c.in-Some.look c.in-Some.ensures) c.item_takes_look.ensures
