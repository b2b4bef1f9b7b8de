use Rattle.std.proofs.Common.{◌≡◌, ◌+◌, ◌-◌, ◌<◌, suc, length, get_or, slice_set, Some, None, refl, ap, sym, ◌∙◌, arith, length-set}
use Rattle.gap_list.specs.Inside.Places.{laid}
use Rattle.gap_list.specs.Inside.GapBuffer.{buffer_items}
use Rattle.gap_list.proofs.Laid.{left}
use Rattle.gap_list.proofs.Buffers.{relaid, buffer-length, item-low, item-gap, filled, hole}
use Rattle.gap_list.proofs.buffer.GapBuffer.step_left.Goals as goal

pub read-item-requires : goal.read-item-requires
read-item-requires g c =
    let a = c.args.self.now in let h = c.requires.0 in let f = a.front - 1 in
    (sym h.block.0, filled a.block.slots (buffer_items a) f f (item-low a h f (omega arith)) (omega (arith, h.gap, h.size)))

pub write-requires : goal.write-requires
write-requires g c =
    let a = c.args.self.now in let h = c.requires.0 in let f = a.front - 1 in let i = f + (a.capacity - a.size) in
    let took = c.read-item.ensures.slots in let long = buffer-length a h in
    let within : i < length a.block.slots = omega (arith, h.gap, h.within.0) in (
      sym h.block.0 ∙ sym took.0,
      omega (arith, ap length took.2, length-set a.block.slots f None),
      ap (λ cs. get_or cs i None) took.2 ∙ hole a.block.slots f i (omega arith) (λ d. item-gap a h i (omega arith) (omega arith)),
    )

pub returns-clause-items : goal.returns-clause-items
returns-clause-items g c =
    let a = c.args.self.now in let h = c.requires.0 in let f = a.front - 1 in let n = a.capacity - a.size in let i = f + n in let xs = buffer_items a in
    let took = c.read-item.ensures.slots in let put = c.write.ensures in let x = c.read-item.result in
    let count : a.front ≡ suc f = omega arith in
    let new = record a { front = f; block = c.write.new.self } in
    let slots = put.2 ∙ ap (λ cs. slice_set cs i (Some x)) (took.2 ∙ ap (λ cs. slice_set cs f None) (h.laid ∙ ap (λ k. laid k n xs) count)) ∙ left f n i x xs (sym (item-low a h f (omega arith)) ∙ c.read-item.ensures.value) refl in
    let made = relaid new xs (record { block = (put.0 ∙ took.0 ∙ h.block.0, put.1 ∙ took.1 ∙ h.block.1); within = h.within; gap = omega (arith, h.gap) }) h.size slots in
    (made.0, refl, made.1)
