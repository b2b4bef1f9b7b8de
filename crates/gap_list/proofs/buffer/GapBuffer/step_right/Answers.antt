use Rattle.std.proofs.Common.{◌≡◌, ◌+◌, ◌-◌, ◌<◌, suc, length, get_or, slice_set, Some, None, refl, ap, sym, ◌∙◌, arith, length-set}
use Rattle.gap_list.specs.Inside.Places.{laid}
use Rattle.gap_list.specs.Inside.GapBuffer.{buffer_items}
use Rattle.gap_list.proofs.Laid.{right}
use Rattle.gap_list.proofs.Buffers.{relaid, buffer-length, item-high, item-gap, filled, hole}
use Rattle.gap_list.proofs.buffer.GapBuffer.step_right.Goals as goal

pub read-item-requires : goal.read-item-requires
read-item-requires g c =
    let a = c.args.self.now in let h = c.requires.0 in let f = a.front in let i = f + (a.capacity - a.size) in
    (sym h.block.0, filled a.block.slots (buffer_items a) i f (item-high a h f i (omega arith) refl) (omega (arith, h.size)))

pub write-requires : goal.write-requires
write-requires g c =
    let a = c.args.self.now in let h = c.requires.0 in let f = a.front in let i = f + (a.capacity - a.size) in
    let took = c.read-item.ensures.slots in let long = buffer-length a h in
    let within : i < length a.block.slots = omega (arith, h.gap, h.within.0) in (
      sym h.block.0 ∙ sym took.0,
      omega (arith, ap length took.2, length-set a.block.slots i None),
      ap (λ cs. get_or cs f None) took.2 ∙ hole a.block.slots i f within (λ d. item-gap a h f (omega arith) (omega (arith, d))),
    )

pub returns-clause-items : goal.returns-clause-items
returns-clause-items g c =
    let a = c.args.self.now in let h = c.requires.0 in let f = a.front in let n = a.capacity - a.size in let i = f + n in let xs = buffer_items a in
    let took = c.read-item.ensures.slots in let put = c.write.ensures in let x = c.read-item.result in
    let count : suc f ≡ f + 1 = omega arith in
    let new = record a { front = f + 1; block = c.write.new.self } in
    let slots = put.2 ∙ ap (λ cs. slice_set cs f (Some x)) (took.2 ∙ ap (λ cs. slice_set cs i None) h.laid) ∙ right f n i x xs (sym (item-high a h f i (omega arith) refl) ∙ c.read-item.ensures.value) refl ∙ ap (λ k. laid k n xs) count in
    let made = relaid new xs (record { block = (put.0 ∙ took.0 ∙ h.block.0, put.1 ∙ took.1 ∙ h.block.1); within = h.within; gap = omega (arith, h.gap) }) h.size slots in
    (made.0, refl, made.1)
