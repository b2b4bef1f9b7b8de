use Rattle.std.proofs.Common.{arith}
use Rattle.pickle_doc.proofs.document_items.DocumentItemsItemSource.unread_len.Goals as goal

pub overflow_add-result : goal.overflow_add-result
overflow_add-result c = omega (arith, c.self.invariant.few, c.unread_len.ensures)
