use Rattle.std.proofs.Common.{◌-◌, ℕ, length, ap, arith}
use Rattle.pickle_doc.proofs.Sources.{first_placed}
use Rattle.pickle_doc.proofs.document_items.DocumentItems.new.Goals as goal

pub invariant_of-result : goal.invariant_of-result
invariant_of-result c =
    rw (c.new_as.ensures, c.is_loose.ensures) (first_placed _ _ _ c.total.ensures.document (omega (arith, c.total.ensures.within, c.total.ensures.value)) c.tail-tail.ensures
    (ap (λ (n : ℕ). n - length c.tail-tail.result.now) c.total.ensures.value))
