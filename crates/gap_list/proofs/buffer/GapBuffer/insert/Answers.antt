use Rattle.std.proofs.Common.{◌≡◌, ◌+◌, ◌-◌, ◌≤◌, suc, length, slice_set, Some, ap, sym, ◌∙◌, arith}
use Rattle.std.proofs.lemmas.List.Edits.{length-insert}
use Rattle.std.specs.List.{insert}
use Rattle.gap_list.specs.Inside.Places.{laid}
use Rattle.gap_list.specs.Inside.GapBuffer.{buffer_items}
use Rattle.gap_list.proofs.Laid.{laid-put}
use Rattle.gap_list.proofs.Buffers.{relaid, buffer-length, item-gap}
use Rattle.gap_list.proofs.buffer.GapBuffer.insert.Goals as goal

pub write-requires : goal.write-requires
write-requires g c =
    let a = c.args.self.now in let b = c.move_gap.new.self in let m = c.move_gap.ensures in let h = m.items.0 in let old = c.requires.0 in
    let size : b.size ≡ a.size = h.size ∙ ap length m.items.2 ∙ sym old.size in
    let low = m.front in let cap = m.items.1 in
    (sym h.block.0, omega (arith, buffer-length b h, c.requires.2), item-gap b h b.front (omega arith) (omega (arith, c.requires.2)))

pub returns : goal.returns
returns g c =
    let a = c.args.self.now in let b = c.move_gap.new.self in let m = c.move_gap.ensures in let h = m.items.0 in let old = c.requires.0 in let k = c.args.k in let x = c.args.item in
    let size : b.size ≡ a.size = h.size ∙ ap length m.items.2 ∙ sym old.size in
    let cap = m.items.1 in let xs = buffer_items a in let f = b.front in let n = b.capacity - (b.size + 1) in
    let put = c.write.ensures in
    let new = record b { size = b.size + 1; front = f + 1; block = c.write.new.self } in
    let more : b.capacity - b.size ≡ suc n = omega (arith, c.requires.2) in
    let one : suc f ≡ f + 1 = omega arith in
    let low : f ≤ length xs = omega (arith, m.front, old.size, c.requires.1) in
    let here : f ≡ k = m.front in
    let slots = put.2 ∙ ap (λ cs. slice_set cs f (Some x)) (h.laid ∙ ap (λ ys. laid f (b.capacity - b.size) ys) m.items.2 ∙ ap (λ j. laid f j xs) more) ∙ laid-put f n x xs low
    ∙ ap (λ j. laid j n (insert xs f x)) one ∙ ap (λ j. laid (f + 1) n (insert xs j x)) here in
    let long : b.size + 1 ≡ length (insert xs k x) = omega (arith, length-insert xs k x (omega (arith, here, low)), size, old.size) in
    let made = relaid new (insert xs k x) (record { block = (put.0 ∙ h.block.0, put.1 ∙ h.block.1); within = (omega (arith, c.requires.2), h.within.1); gap = omega (arith, h.gap) }) long slots in
    (made.0, cap, made.1)
