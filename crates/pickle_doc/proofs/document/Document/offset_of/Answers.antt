use Rattle.std.proofs.Common.{List, take, length, ap, sym, ◌∙◌, arith}
use Rattle.pickle_doc.specs.declared.item.Item.{Item}
use Rattle.pickle_doc.specs.DocUnit.{sizes}
use Rattle.pickle_doc.proofs.Readers.{inside, items_are}
use Rattle.pickle_doc.proofs.document.Document.offset_of.Goals as goal

pub total_size-requires-clause-place : goal.total_size-requires-clause-place
total_size-requires-clause-place c = omega (arith, c.requires, ap length (items_are _ _ _ _ _ _ (inside c.self.view_is) c.self.invariant.kept))

pub returns : goal.returns
returns c = c.total_size.ensures ∙ ap (λ (xs : List Item). sizes (take c.args.k xs)) (sym (items_are _ _ _ _ _ _ (inside c.self.view_is) c.self.invariant.kept))
