use Rattle.std.proofs.Common.{◌≡◌, ℕ, suc, ◌-◌, length, ap, ◌∙◌, arith}
use Rattle.pickle_io.specs.Holes.{left_out}
use Rattle.pickle_io.proofs.Placed.{placed, length-places}
use Rattle.pickle_io.proofs.holes.left_out.Goals as goal

pub overflow_add-result : goal.overflow_add-result
overflow_add-result c =
    let p = placed (c.args.count - 1) 0 0 c.args.holes.now (record { offset = 0; size = 0 }) 0 c.requires.holes (omega arith) (omega (arith, c.requires.count, c.if-count-eq0.false)) in
    omega (arith, p.ends)

pub bounds-places-count : goal.bounds-places-count
bounds-places-count c = omega (arith, c.requires.count, c.if-count-eq0.false, ap length c.requires.places, length-places 0 c.args.holes.now)

pub overflow_sub-result-2 : goal.overflow_sub-result-2
overflow_sub-result-2 c =
    rw c.requires.places (let p = placed (c.args.count - 1) 0 0 c.args.holes.now (record { offset = 0; size = 0 }) 0 c.requires.holes (omega arith) (omega (arith, c.requires.count, c.if-count-eq0.false)) in omega (arith, p.low))

pub returns : goal.returns
returns c =
    let p = placed (c.args.count - 1) 0 0 c.args.holes.now (record { offset = 0; size = 0 }) 0 c.requires.holes (omega arith) (omega (arith, c.requires.count, c.if-count-eq0.false)) in
    let n : suc (c.args.count - 1) ≡ c.args.count = omega (arith, c.if-count-eq0.false) in
    rw c.requires.places (p.is ∙ ap (λ (k : ℕ). left_out 0 k c.args.holes.now) n)
