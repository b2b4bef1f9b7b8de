use Rattle.std.proofs.Common.{◌≤◌, List, ℕ, length, sym, subst}
use Rattle.pickle_doc.specs.Document.{size_limit}
use Rattle.zip_archive.specs.Reader.{member_of}
use Rattle.zip_open.specs.Opened.{OpensTo, opened_bytes}
use Rattle.zip_open.proofs.Opening.{small_opened}
use Rattle.archive_gate.proofs.Passing.{of_opened}
use Rattle.archive_gate.proofs.judge.fault_of.Goals as goal

pub fault_in_bytes-requires : goal.fault_in_bytes-requires
fault_in_bytes-requires c =
    let opens : OpensTo (member_of c.args.entry.now) (opened_bytes c.in-Ok.opened) = rw c.in-Ok.is at c.in_ok-opened.ensures in
    subst (λ (x : List ℕ). length x ≤ size_limit) (sym c.as_slice.ensures) (small_opened c.args.entry.now (opened_bytes c.in-Ok.opened) c.requires opens)

pub returns-in-Ok : goal.returns-in-Ok
returns-in-Ok c =
    let opens : OpensTo (member_of c.args.entry.now) (opened_bytes c.in-Ok.opened) = rw c.in-Ok.is at c.in_ok-opened.ensures in
    of_opened c.args.list.now c.args.entry.now (opened_bytes c.in-Ok.opened) _ _ c.as_slice.ensures opens c.fault_in_bytes.ensures.small c.fault_in_bytes.ensures.found
