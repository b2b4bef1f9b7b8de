use Rattle.std.proofs.Common.{ℕ, List, Option, sym, ap₂, ◌∙◌, subst}
use Rattle.pickle_doc.specs.declared.item.Item.{Item}
use Rattle.pickle_doc.specs.Document.{size_limit}
use Rattle.pickle_doc.specs.Inside.Joined.{numbered, resize, IsFrameBetween}
use Rattle.pickle_doc.proofs.Readers.{inside, items_are}
use Rattle.pickle_doc.proofs.document.Document.resized.Goals as goal

pub resized-requires-clause-frame : goal.resized-requires-clause-frame
resized-requires-clause-frame c =
    let own = items_are _ _ _ _ _ _ (inside c.self.view_is) c.self.invariant.kept in
    λ p e. subst (λ (xs : List Item). IsFrameBetween xs c.args.less size_limit p) own (c.requires.frame p (sym c.joined_frame.ensures ∙ e))

pub returns : goal.returns
returns c =
    let own = items_are _ _ _ _ _ _ (inside c.self.view_is) c.self.invariant.kept in
    c.resized.ensures ∙ ap₂ (λ (f : Option ℕ) (xs : List Item). numbered f (resize c.args.less c.args.more) xs) c.joined_frame.ensures (sym own)
