use Rattle.std.proofs.Common.{refl, arith}
use Rattle.pickle_text.proofs.Sources.{bytes_give}
use Rattle.objects_json.proofs.objects.objects_lines.Goals as goal

pub lines_of_items-requires : goal.lines_of_items-requires
lines_of_items-requires g c κs = ((refl, tt), rw c.new_as.ensures (bytes_give c.args.many c.args.loose c.args.bytes.now (λ i. omega (arith, c.type_inv.bytes i)) c.requires))
