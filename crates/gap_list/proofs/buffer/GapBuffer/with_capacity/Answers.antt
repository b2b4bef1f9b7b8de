use Rattle.std.proofs.Common.{◌≡◌, ◌-◌, [], refl, ap, ◌∙◌, arith}
use Rattle.std.proofs.lemmas.Grind.{common_steps}
use Rattle.gap_list.specs.Inside.Places.{laid}
use Rattle.gap_list.specs.declared.buffer.GapBuffer.{GapBuffer}
use Rattle.gap_list.proofs.Laid.{laid-none}
use Rattle.gap_list.proofs.Buffers.{relaid}
use Rattle.gap_list.proofs.buffer.GapBuffer.with_capacity.Goals as goal

pub returns : goal.returns
returns g c =
    let made = c.in_ok-start.ensures in let n = c.args.capacity in let fits = (c.may_hold.ensures (grind (arith, common_steps))).1 in
    let new : GapBuffer g.row.T.Denot = record { start = c.in_ok-start.start; capacity = n; size = 0; front = 0; block = c.in_ok-start.block; alloc = c.args.alloc } in
    let all : n ≡ n - 0 = omega arith in
    let row = relaid new [] (record { block = (made.0, made.2); within = (omega arith, fits); gap = omega arith }) refl (made.1 ∙ laid-none n ∙ ap (λ k. laid 0 k []) all) in
    (row.0, refl, row.1)
