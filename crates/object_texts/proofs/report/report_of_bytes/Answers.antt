use Rattle.std.proofs.Common.{refl, arith}
use Rattle.pickle_text.proofs.Sources.{bytes_give}
use Rattle.object_texts.proofs.report.report_of_bytes.Goals as goal

pub report_of_items-requires : goal.report_of_items-requires
report_of_items-requires g c κs = ((refl, tt), rw c.new_as.ensures (bytes_give c.args.many c.args.loose c.args.bytes.now (λ i. omega (arith, c.type_inv.bytes i)) c.requires))
