use Rattle.std.proofs.Common.{◌-◌, ◌≤◌, length, slice_set, Some, None, refl, ap, sym, ◌∙◌, inl, inr, arith, length-set}
use Rattle.gap_list.specs.Inside.Places.{laid}
use Rattle.gap_list.specs.Inside.GapBuffer.{buffer_items}
use Rattle.gap_list.proofs.Laid.{set-low, set-high}
use Rattle.gap_list.proofs.Buffers.{relaid}
use Rattle.gap_list.proofs.buffer.GapBuffer.replace.Goals as goal

pub returns-clause-items : goal.returns-clause-items
returns-clause-items g c =
    let a = c.args.self.now in let h = c.requires.0 in let f = a.front in let n = a.capacity - a.size in let xs = buffer_items a in let k = c.args.k in let y = c.args.item in
    let took = c.read-old.ensures.slots in let put = c.write.ensures in let p = c.place-place.result in
    let new = record a { block = c.write.new.self } in
    let written = put.2 ∙ ap (λ cs. slice_set cs p (Some y)) (took.2 ∙ ap (λ cs. slice_set cs p None) h.laid) in
    let low : f ≤ length xs = omega (arith, h.gap, h.size) in
    let slots = written ∙ elim c.place-place.ensures.place [
      | inl e ↦ ap (λ j. slice_set (slice_set (laid f n xs) j None) j (Some y)) e.1 ∙ set-low f n k y xs low e.0
      | inr e ↦ set-high f n k p y xs low e.0 e.1
    ] in
    let made = relaid new (slice_set xs k y) (record { block = (put.0 ∙ took.0 ∙ h.block.0, put.1 ∙ took.1 ∙ h.block.1); within = h.within; gap = h.gap }) (h.size ∙ sym (length-set xs k y)) slots in
    (made.0, refl, made.1)
