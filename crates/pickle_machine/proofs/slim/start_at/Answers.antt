use Rattle.std.proofs.Common.{◌≡◌, ◌-◌, ℕ, suc, arith, sym, ap, ◌∙◌}
use Rattle.pickle_machine.specs.Inside.Origins.{start_of}
use Rattle.pickle_machine.proofs.Slims.{start_behind}
use Rattle.pickle_machine.proofs.slim.start_at.Goals as goal

pub returns-in-Some : goal.returns-in-Some
returns-in-Some c =
    let n : suc (c.args.id - 1) ≡ c.args.id = omega (arith, c.if-id-eq0.false) in
    sym (start_behind 0 c.args.origins.now (c.args.id - 1) c.in-Some.origin (sym c.origin_at.ensures ∙ c.in-Some.is)) ∙ ap (λ (i : ℕ). start_of 0 c.args.origins.now i) n
