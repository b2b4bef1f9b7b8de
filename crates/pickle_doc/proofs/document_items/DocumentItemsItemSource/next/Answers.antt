-- What stands next is the next item, and after the items what stands next in the tail.
use Rattle.std.proofs.Common.{◌≡◌, arith, Some, None, sym, ap, ◌∙◌}
use Rattle.pickle_doc.specs.Place.{item_at}
use Rattle.pickle_doc.proofs.Sources.{item_follows, item_placed, item_bounded, placed_behind, follows_behind}
use Rattle.pickle_doc.proofs.document_items.DocumentItemsItemSource.next.Goals as goal

pub overflow_add-self : goal.overflow_add-self
overflow_add-self c =
    let there : item_at c.self.inside.document.now.contents c.self.inside.place ≡ Some c.by_ref-op.result = sym (rw c.in-Some.is at c.item.ensures) ∙ ap Some (sym c.by_ref-op.ensures) in
    let b = item_bounded _ _ _ _ _ c.self.invariant there in
    omega (arith, b.place)

pub overflow_sub-self : goal.overflow_sub-self
overflow_sub-self c =
    let there : item_at c.self.inside.document.now.contents c.self.inside.place ≡ Some c.by_ref-op.result = sym (rw c.in-Some.is at c.item.ensures) ∙ ap Some (sym c.by_ref-op.ensures) in
    let b = item_bounded _ _ _ _ _ c.self.invariant there in
    omega (arith, b.size, c.size.ensures)

pub invariant_of-self : goal.invariant_of-self
invariant_of-self c =
    let there : item_at c.self.inside.document.now.contents c.self.inside.place ≡ Some c.by_ref-op.result = sym (rw c.in-Some.is at c.item.ensures) ∙ ap Some (sym c.by_ref-op.ensures) in
    rw (c.pass.ensures, c.size.ensures) (item_placed _ _ _ _ _ c.self.invariant there)

pub invariant_of-self-in-None : goal.invariant_of-self-in-None
invariant_of-self-in-None c =
    let none : item_at c.self.inside.document.now.contents c.self.inside.place ≡ None = sym (rw c.in-None.is at c.item.ensures) in
    placed_behind c.self.inside.document.now.contents c.self.inside.place c.self.inside.ahead c.self.inside.behind c.read_next.new.self c.read_next.result c.self.invariant none c.read_next.ensures

pub returns-in-Some : goal.returns-in-Some
returns-in-Some c =
    let there : item_at c.self.inside.document.now.contents c.self.inside.place ≡ Some c.by_ref-op.result = sym (rw c.in-Some.is at c.item.ensures) ∙ ap Some (sym c.by_ref-op.ensures) in
    rw (c.pass.ensures, ← c.self.view_is) (item_follows _ _ _ _ _ c.self.invariant there)

pub returns-in-None : goal.returns-in-None
returns-in-None c =
    let none : item_at c.self.inside.document.now.contents c.self.inside.place ≡ None = sym (rw c.in-None.is at c.item.ensures) in
    rw (← c.self.view_is) (follows_behind c.self.inside.document.now.contents c.self.inside.place c.self.inside.behind c.read_next.new.self c.read_next.result none c.read_next.ensures)
