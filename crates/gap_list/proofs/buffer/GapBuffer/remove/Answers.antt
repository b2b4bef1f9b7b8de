use Rattle.std.proofs.Common.{◌≡◌, ◌+◌, ◌-◌, ◌<◌, suc, length, slice_get, slice_set, None, refl, ap, sym, ◌∙◌, arith}
use Rattle.std.proofs.lemmas.List.Edits.{length-remove}
use Rattle.std.specs.List.{remove}
use Rattle.gap_list.specs.Inside.Places.{laid}
use Rattle.gap_list.specs.Inside.GapBuffer.{buffer_items}
use Rattle.gap_list.proofs.Laid.{laid-take}
use Rattle.gap_list.proofs.Buffers.{relaid, item-high, filled}
use Rattle.gap_list.proofs.buffer.GapBuffer.remove.Goals as goal

pub read-taken-requires : goal.read-taken-requires
read-taken-requires g c =
    let a = c.args.self.now in let b = c.move_gap.new.self in let m = c.move_gap.ensures in let h = m.items.0 in let old = c.requires.0 in
    let size : b.size ≡ a.size = h.size ∙ ap length m.items.2 ∙ sym old.size in
    let f = b.front in let i = f + (b.capacity - b.size) in
    (sym h.block.0, filled b.block.slots (buffer_items b) i f (item-high b h f i (omega arith) refl) (omega (arith, h.size, size, m.front, c.requires.1)))

pub returns-clause-items : goal.returns-clause-items
returns-clause-items g c =
    let a = c.args.self.now in let b = c.move_gap.new.self in let m = c.move_gap.ensures in let h = m.items.0 in let old = c.requires.0 in let k = c.args.k in
    let size : b.size ≡ a.size = h.size ∙ ap length m.items.2 ∙ sym old.size in
    let cap = m.items.1 in let xs = buffer_items a in let f = b.front in let n = b.capacity - b.size in let i = f + n in
    let took = c.read-taken.ensures.slots in
    let new = record b { size = b.size - 1; block = c.read-taken.new.self } in
    let less : suc n ≡ b.capacity - (b.size - 1) = omega (arith, h.within.0, size, c.requires.1) in
    let within : f < length xs = omega (arith, m.front, old.size, c.requires.1) in
    let here : f ≡ k = m.front in
    let slots = took.2 ∙ ap (λ cs. slice_set cs i None) (h.laid ∙ ap (λ ys. laid f n ys) m.items.2) ∙ laid-take f n i xs within refl
    ∙ ap (λ j. laid f j (remove xs f)) less ∙ ap (λ j. laid f (b.capacity - (b.size - 1)) (remove xs j)) here in
    let cut = length-remove xs k (omega (arith, here, within)) in
    let long : b.size - 1 ≡ length (remove xs k) = omega (arith, cut, size, old.size) in
    let made = relaid new (remove xs k) (record { block = (took.0 ∙ h.block.0, took.1 ∙ h.block.1); within = (omega (arith, h.within.0), h.within.1); gap = omega (arith, m.front, size, c.requires.1) }) long slots in
    (made.0, cap, made.1)

pub returns-clause-value : goal.returns-clause-value
returns-clause-value g c =
    let a = c.args.self.now in let b = c.move_gap.new.self in let m = c.move_gap.ensures in let h = m.items.0 in
    let f = b.front in let i = f + (b.capacity - b.size) in
    ap (slice_get (buffer_items a)) (sym m.front) ∙ ap (λ ys. slice_get ys f) (sym m.items.2) ∙ sym (item-high b h f i (omega arith) refl) ∙ c.read-taken.ensures.value
