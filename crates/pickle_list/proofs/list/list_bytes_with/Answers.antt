use Rattle.std.proofs.Common.{refl, arith}
use Rattle.pickle_text.proofs.Sources.{bytes_give}
use Rattle.pickle_list.proofs.list.list_bytes_with.Goals as goal

pub list_items-requires : goal.list_items-requires
list_items-requires g c κs = ((refl, tt), rw c.new_as-items.ensures (bytes_give c.args.many c.args.loose c.args.bytes.now (λ i. omega (arith, c.type_inv.bytes i)) c.requires))
