-- What a source gives next.
use Rattle.std.proofs.Common.{◌≡◌, ◌<◌, Bool, length, drop, ap, ◌∙◌, arith}
use Rattle.pickle_ops.specs.Spelling.{Operation, size_of}
use Rattle.pickle_doc.specs.declared.fault.TailFault.{TailFault}
use Rattle.pickle_doc.specs.declared.stream.NextRef.{NextRef}
use Rattle.pickle_doc.specs.declared.stream.NextRef.TheVariants as next
use Rattle.pickle_doc.specs.Fitting.{left_behind}
use Rattle.pickle_doc.specs.Tail.{HasTailFault}
use Rattle.pickle_doc.specs.Unread.{Unread, IsNextItem, Follows}
use Rattle.pickle_text.proofs.Parts.{shorter}

-- an item, and what is not read yet then
pub record NextIs (loose : Bool) (old new : Unread) (o : Operation) : Type 0 where
  pub item : IsNextItem loose old.left old.rest o (size_of o)
  pub rest_is : new.rest ≡ drop (size_of o) old.rest
  pub left_is : new.left ≡ left_behind loose old.left o
  pub loose_is : new.loose ≡ loose
  pub less : length new.rest < length old.rest

pub next_is : (loose : Bool) (old new : Unread) (r : NextRef) (o : Operation) → Follows old new r → r ≡ next.Item o → old.loose ≡ loose → NextIs loose old new o
next_is loose old new r o follows is same =
    let g : IsNextItem old.loose old.left old.rest o (size_of o) × (new ≡ record { loose = old.loose; rest = drop (size_of o) old.rest; left = left_behind old.loose old.left o })
    = rw is at follows in
    record {
      item = rw same at g.0;
      rest_is = ap (λ (u : Unread). u.rest) g.1;
      left_is = ap (λ (u : Unread). u.left) g.1 ∙ ap (λ (b : Bool). left_behind b old.left o) same;
      loose_is = ap (λ (u : Unread). u.loose) g.1 ∙ same;
      less = omega (arith, shorter old.loose old.left old.rest o g.0, ap (λ (u : Unread). length u.rest) g.1);
    }

pub tail_is : (loose : Bool) (old new : Unread) (r : NextRef) (f : TailFault) → Follows old new r → r ≡ next.Tail f → old.loose ≡ loose → HasTailFault loose old.left old.rest f
tail_is loose old new r f follows is same =
    let g : HasTailFault old.loose old.left old.rest f × (new ≡ old) = rw is at follows in
    rw same at g.0
