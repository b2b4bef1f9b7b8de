use Rattle.std.proofs.Common.{◌≡◌, Bool, false, sym, ap, ◌∙◌}
use Rattle.std.specs.Prelude.{◌&&◌}
use Rattle.pickle_ops.specs.Class.{is_any}
use Rattle.pickle_further.specs.Leads.{leads_at}
use Rattle.pickle_further.proofs.Leading.{leads_by_class}
use Rattle.pickle_further.proofs.leads.leads_at.Goals as goal

pub returns-else-is_opaque : goal.returns-else-is_opaque
returns-else-is_opaque g c =
    let none : is_any c.in-Some.class ≡ false = sym c.is_opaque.ensures ∙ c.if-is_opaque.false in
    let there = sym c.in-Some.is ∙ c.class_at.ensures in
    c.if-is_opaque.false ∙ sym (ap (λ (b : Bool). b && leads_at (g.M.Inspect.state c.args.machine.now).heap c.args.id) none) ∙ leads_by_class _ _ c.in-Some.class there
