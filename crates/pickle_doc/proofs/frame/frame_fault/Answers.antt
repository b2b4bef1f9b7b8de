use Rattle.std.proofs.Common.{◌≡◌, ◌+◌, ◌≤◌, ℕ, Option, true, false, length, take, drop, ap, sym, ◌∙◌, arith, rules}
use Rattle.std.specs.Prelude.{is_some}
use Rattle.pickle_doc.specs.Document.{items_of}
use Rattle.pickle_doc.specs.Edit.{with_units, framed, any_frame, is_framed}
use Rattle.pickle_doc.specs.Inside.Joined.{joined_frame}
use Rattle.pickle_doc.proofs.Deletions.{sound}
use Rattle.pickle_doc.proofs.Framings.{framed_joined, total_framed}
use Rattle.pickle_doc.proofs.frame.frame_fault.Goals as goal

pub returns-then-is_some : goal.returns-then-is_some
returns-then-is_some c =
    let d = c.args.document.now.contents in
    let n = sound d c.len-len.ensures.document c.len-len.ensures.small in
    let place : c.args.k + c.args.count ≤ length (items_of d) = omega (arith, c.len-len.ensures.value, c.if-k-len.false, c.if-count-len.false) in
    let none : any_frame (take c.args.count (drop c.args.k (items_of d))) ≡ false = sym c.has_frame.ensures ∙ c.if-has_frame.false in
    let joined : is_some (joined_frame c.args.k d.units) ≡ true = ap (λ (o : Option ℕ). is_some o) (sym c.joined_frame.ensures) ∙ sym c.is_some.ensures ∙ c.if-is_some.true in
    let inside : is_framed d c.args.k c.args.count ≡ true = framed_joined d c.args.k c.args.count n.document n.bound place none ∙ joined in
    search (rules, inside)

pub returns : goal.returns
returns c =
    let d = c.args.document.now.contents in
    let k = c.args.k in
    let m = c.args.count in
    let n = sound d c.len-len.ensures.document c.len-len.ensures.small in
    let place : k + m ≤ length (items_of d) = omega (arith, c.len-len.ensures.value, c.if-k-len.false, c.if-count-len.false) in
    let none : any_frame (take m (drop k (items_of d))) ≡ false = sym c.has_frame.ensures ∙ c.if-has_frame.false in
    let loose : d.loose ≡ false = sym c.is_loose.ensures ∙ c.if-is_loose.false in
    let goes = sym c.is_after_stop.ensures ∙ c.if-is_after_stop.false in
    let joined : is_some (joined_frame k d.units) ≡ false = ap (λ (o : Option ℕ). is_some o) (sym c.joined_frame.ensures) ∙ sym c.is_some.ensures ∙ c.if-is_some.false in
    let outside : is_framed d k m ≡ false = framed_joined d k m n.document n.bound place none ∙ joined in
    let last = c.addition_fault.ensures (with_units d (framed k m d.next d.units)) (total_framed d k m n loose place none goes joined) in
    search (rules, outside, last)
