use Rattle.std.proofs.Common.{arith, ◌/◌}
use Rattle.std.proofs.lemmas.Fmt.{length-decimal-le}
use Rattle.pickle_list.proofs.Offsets.{hundreds_copied}
use Rattle.pickle_list.proofs.offset.Offset.at.Goals as goal

pub write_digits-start-requires : goal.write_digits-start-requires
write_digits-start-requires c = (length-decimal-le 20 (c.args.n / 100) (omega arith) (omega (arith, c.requires)) (omega (arith, c.requires)), omega arith)

pub invariant_of-result : goal.invariant_of-result
invariant_of-result c =
    let w = c.write_digits-start.ensures in
    let short = length-decimal-le 16 (c.args.n / 100) (omega arith) (omega (arith, c.requires)) (omega (arith, c.requires)) in
    let t = hundreds_copied (c.args.n / 100) c.write_digits-start.result c.min-front.result _ c.copy_from_slice.new.self _ _ w.start short c.min-front.ensures w.written w.before (omega arith) c.copy_from_slice.ensures.after in
    (omega (arith, c.requires), omega arith, t.0, t.1)
