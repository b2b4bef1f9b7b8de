-- Documents that differ by the next identity.
use Rattle.std.proofs.Common.{◌≡◌, ℕ, ◌+◌, Bool, true, false, if◌then◌else◌, sym, ap, subst, arith}
use Rattle.pickle_ops.specs.Spelling.{Operation}
use Rattle.pickle_doc.specs.declared.edit.Edit.{Edit}
use Rattle.pickle_doc.specs.declared.record.EditRecord.{EditRecord}
use Rattle.pickle_doc.specs.Document.{Contents}
use Rattle.pickle_doc.specs.Edit.{raised_next, raised_next_by, adds_item}
use Rattle.pickle_doc.specs.Swap.{EditLeads, EditLeadsOn, risen}

not_risen : (d : Contents) → risen 0 d ≡ d
not_risen d =
    let next : d.next + 0 ≡ d.next = omega arith in
    ap (λ (k : ℕ). record { many = d.many; loose = d.loose; units = d.units; tail = d.tail; next = k }) next

pub risen_more : (n m : ℕ) (d : Contents) → risen m (risen n d) ≡ risen (n + m) d
risen_more n m d =
    let next : d.next + n + m ≡ d.next + (n + m) = omega arith in
    ap (λ (k : ℕ). record { many = d.many; loose = d.loose; units = d.units; tail = d.tail; next = k }) next

-- the record of an edit, which may have given an identity
pub given : (e : Edit Operation) (r : EditRecord) (d f : Contents) → EditLeads r d (raised_next_by e f) → (n : ℕ) × EditLeads r d (risen n f)
given e r d f l = go (adds_item e) l
  where
    go : (b : Bool) → EditLeads r d (if b then raised_next f else f) → (n : ℕ) × EditLeads r d (risen n f)
    go true l = (1, l)
    go false l = let P : Contents → Type 0 = λ c. EditLeads r d c in (0, subst P (sym (not_risen f)) l)

-- a record leads from a document that differs from its own by the next identity
pub on : EditLeadsOn → (r : EditRecord) (d e f : Contents) (n : ℕ) → f ≡ risen n d → EditLeads r d e → EditLeads r f (risen n e)
on law r d e f n same l =
    let P : Contents → Type 0 = λ c. EditLeads r c (risen n e) in
    subst P (sym same) (law n r d e l)

pub again : (r : EditRecord) (d e f : Contents) → f ≡ d → EditLeads r d e → EditLeads r f e
again r d e f same l =
    let P : Contents → Type 0 = λ c. EditLeads r c e in
    subst P (sym same) l
