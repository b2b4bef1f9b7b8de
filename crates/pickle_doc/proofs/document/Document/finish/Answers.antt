use Rattle.std.proofs.Common.{◌≡◌, ◌==◌, ◌&&◌, Bool, true, false, List, ℕ, length, refl, ap, sym, ◌∙◌}
use Rattle.pickle_doc.specs.Document.{items_of, ends_with_stop}
use Rattle.pickle_doc.proofs.Readers.{inside, items_are, ended_kept}
use Rattle.pickle_doc.proofs.Ends.{finish_stopped, finish_at}
use Rattle.pickle_doc.proofs.document.Document.finish.Goals.{else-is_empty-via-then-is_empty+else-ends_with_stop, else-is_empty-via-else-is_empty}
use Rattle.pickle_doc.proofs.document.Document.finish.Goals as goal

both : (a b x y : Bool) → a ≡ x → b ≡ y → (a && b) ≡ (x && y)
both a b x y e f = rw (e, f) refl

not_first : (a b : Bool) → a ≡ false → (a && b) ≡ false
not_first a b e = rw e refl

pub returns-in-None : goal.returns-in-None
returns-in-None c =
    let e = ended_kept _ _ _ _ _ _ (inside c.self.view_is) c.self.invariant.kept in
    finish_stopped c.args.self.now.contents (e ∙ c.in-None.is)

pub returns-then-ends_with_stop : goal.returns-then-ends_with_stop
returns-then-ends_with_stop c =
    let e = ended_kept _ _ _ _ _ _ (inside c.self.view_is) c.self.invariant.kept in
    let own = items_are _ _ _ _ _ _ (inside c.self.view_is) c.self.invariant.kept in
    let tail = ap (λ (x : List ℕ). length x == 0) (sym c.tail.ensures) ∙ sym c.is_empty.ensures in
    let last = ap ends_with_stop own ∙ sym c.ends_with_stop.ensures in
    finish_at c.args.self.now.contents c.in-Some.fault true (e ∙ c.in-Some.is) (both _ _ true true (tail ∙ c.if-is_empty.true) (last ∙ c.if-ends_with_stop.true))

pub returns-else-is_empty : goal.returns-else-is_empty
returns-else-is_empty c =
    let e = ended_kept _ _ _ _ _ _ (inside c.self.view_is) c.self.invariant.kept in
    let own = items_are _ _ _ _ _ _ (inside c.self.view_is) c.self.invariant.kept in
    let tail = ap (λ (x : List ℕ). length x == 0) (sym c.tail.ensures) ∙ sym c.is_empty.ensures in
    elim c.else-is_empty.branch [
      | else-is_empty-via-then-is_empty+else-ends_with_stop w ↦
          let last = ap ends_with_stop own ∙ sym w.ends_with_stop.ensures in
          finish_at c.args.self.now.contents c.in-Some.fault false (e ∙ c.in-Some.is) (both _ _ true false (tail ∙ w.if-is_empty.true) (last ∙ w.if-ends_with_stop.false))
      | else-is_empty-via-else-is_empty w ↦
          finish_at c.args.self.now.contents c.in-Some.fault false (e ∙ c.in-Some.is) (not_first _ (ends_with_stop (items_of c.args.self.now.contents)) (tail ∙ w.if-is_empty.false))
    ]
