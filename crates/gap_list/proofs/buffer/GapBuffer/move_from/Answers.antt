use Rattle.std.proofs.Common.{◌≡◌, ◌-◌, suc, ◌++◌, length, ◌∙◌, arith}
use Rattle.gap_list.specs.Inside.GapBuffer.{buffer_items}
use Rattle.gap_list.proofs.Buffers.{last_moved}
use Rattle.gap_list.proofs.buffer.GapBuffer.move_from.Goals as goal

pub loop-other-preserved : goal.loop-other-preserved
loop-other-preserved g c =
    let from = c.loop-other.other in let to = c.loop-other.self in let inv = c.loop-other.invariant in let more = c.loop-other-test.true in
    let x = c.remove-item.result in let took = c.remove-item.ensures in let put = c.insert.ensures in let k = from.size - 1 in
    let last : suc k ≡ length (buffer_items from) = omega (arith, inv.other.0.size) in
    record {
      row = (put.0, put.1 ∙ inv.row.1);
      other = (took.items.0, took.items.1 ∙ inv.other.1);
      items = (λ i. took.items.2 i ++ put.2 i) ∙ last_moved k x (buffer_items from) (buffer_items to) last took.value ∙ inv.items;
    }
