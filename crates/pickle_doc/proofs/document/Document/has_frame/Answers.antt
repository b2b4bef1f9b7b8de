use Rattle.std.proofs.Common.{◌+◌, ◌^◌, ◌<◌, List, take, drop, length, ap, sym, ◌∙◌, arith, rules}
use Rattle.pickle_doc.specs.declared.item.Item.{Item}
use Rattle.pickle_doc.specs.Document.{items_of}
use Rattle.pickle_doc.specs.Edit.{any_frame}
use Rattle.pickle_doc.proofs.Readers.{inside, items_few}
use Rattle.pickle_doc.proofs.Deletions.{known}
use Rattle.pickle_doc.proofs.Spans.{up_to}
use Rattle.pickle_doc.proofs.document.Document.has_frame.Goals as goal

pub overflow_add-k : goal.overflow_add-k
overflow_add-k c =
    let n = known _ _ _ _ _ _ (inside c.self.view_is) c.self.invariant.kept in
    let fits : c.args.k + c.args.count < 2 ^ 64 = omega (arith, c.requires, items_few (items_of c.args.self.now.contents), n.bound) in
    search rules

pub has_frame-requires-clause-to : goal.has_frame-requires-clause-to
has_frame-requires-clause-to c =
    let n = known _ _ _ _ _ _ (inside c.self.view_is) c.self.invariant.kept in
    omega (arith, c.requires, ap length n.own)

pub returns : goal.returns
returns c =
    let n = known _ _ _ _ _ _ (inside c.self.view_is) c.self.invariant.kept in
    c.has_frame.ensures ∙ up_to _ c.args.k c.args.count ∙ ap (λ (xs : List Item). any_frame (take c.args.count (drop c.args.k xs))) (sym n.own)
