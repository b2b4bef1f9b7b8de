use Rattle.std.proofs.Common.{Bool, List, length, ap, ap₂, sym, ◌∙◌, arith}
use Rattle.pickle_doc.specs.declared.item.Item.{Item}
use Rattle.pickle_doc.specs.Inside.Walk.{frame_left_open}
use Rattle.pickle_doc.proofs.Readers.{inside}
use Rattle.pickle_doc.proofs.Joins.{walk-joined_frame}
use Rattle.pickle_doc.proofs.Deletions.{known}
use Rattle.pickle_doc.proofs.document.Document.joined_frame.Goals as goal

pub unfinished_frame-requires-clause-place : goal.unfinished_frame-requires-clause-place
unfinished_frame-requires-clause-place c =
    let n = known _ _ _ _ _ _ (inside c.self.view_is) c.self.invariant.kept in
    omega (arith, c.requires, ap length n.own)

pub returns : goal.returns
returns c =
    let n = known _ _ _ _ _ _ (inside c.self.view_is) c.self.invariant.kept in
    let d = c.args.self.now.contents in
    let f = n.document.formed in
    c.unfinished_frame.ensures ∙ ap₂ (λ (b : Bool) (xs : List Item). frame_left_open b 0 0 0 c.args.k xs) (sym n.mode) (sym n.own) ∙ walk-joined_frame d.loose c.args.k d.units c.requires f.units n.bound f.last_open
