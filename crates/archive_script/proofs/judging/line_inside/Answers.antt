use Rattle.std.proofs.Common.{◌≤◌, List, ℕ, length, sym, subst}
use Rattle.std.specs.Prelude.{vec_items}
use Rattle.pickle_doc.specs.Document.{size_limit}
use Rattle.zip_archive.specs.Reader.{member_of}
use Rattle.zip_open.specs.Opened.{OpensTo, IsBroken, opened_bytes}
use Rattle.zip_open.proofs.Opening.{small_opened}
use Rattle.archive_script.proofs.GateTexts.{line_inside, no_line_inside}
use Rattle.archive_script.proofs.judging.line_inside.Goals as goal

pub line_for-requires : goal.line_for-requires
line_for-requires c =
    let opens : OpensTo (member_of c.args.entry.now) (opened_bytes c.in-Ok.opened) = rw c.in-Ok.is at c.in_ok-opened.ensures in
    subst (λ (x : List ℕ). length x ≤ size_limit) (sym c.as_slice.ensures) (small_opened c.args.entry.now (opened_bytes c.in-Ok.opened) c.requires opens)

pub returns-in-Ok : goal.returns-in-Ok
returns-in-Ok c =
    let opens : OpensTo (member_of c.args.entry.now) (opened_bytes c.in-Ok.opened) = rw c.in-Ok.is at c.in_ok-opened.ensures in
    line_inside vec_items c.args.entry.now c.args.verdict (opened_bytes c.in-Ok.opened) _ _ c.as_slice.ensures opens c.line_for.ensures

pub returns-in-Err : goal.returns-in-Err
returns-in-Err c =
    let broken : IsBroken (member_of c.args.entry.now) c.in-Err.field-0 = rw c.in-Err.is at c.in_ok-opened.ensures in
    no_line_inside c.args.entry.now c.args.verdict c.in-Err.field-0 _ broken
