use Rattle.std.proofs.Common.{◌∙◌, ap}
use Rattle.std.specs.Prelude.{vec_items}
use Rattle.zip_archive.specs.Reader.{member_of}
use Rattle.zip_open.specs.Opened.{OpensTo, IsBroken, opened_bytes}
use Rattle.npy_form.specs.Npy.{behind_header}
use Rattle.archive_script.proofs.GateTexts.{behind_few, line_behind, no_line_behind}
use Rattle.archive_script.proofs.judging.line_behind.Goals as goal

pub line_for-requires : goal.line_for-requires
line_for-requires c =
    let opens : OpensTo (member_of c.args.entry.now) (opened_bytes c.in-Ok.opened) = rw c.in-Ok.is at c.in_ok-opened.ensures in
    behind_few c.args.entry.now (opened_bytes c.in-Ok.opened) _ c.requires opens (c.behind_header.ensures ∙ ap behind_header c.as_slice.ensures)

pub returns-in-Ok : goal.returns-in-Ok
returns-in-Ok c =
    let opens : OpensTo (member_of c.args.entry.now) (opened_bytes c.in-Ok.opened) = rw c.in-Ok.is at c.in_ok-opened.ensures in
    line_behind vec_items c.args.entry.now c.args.verdict (opened_bytes c.in-Ok.opened) _ _ (c.behind_header.ensures ∙ ap behind_header c.as_slice.ensures) opens c.line_for.ensures

pub returns-in-Err : goal.returns-in-Err
returns-in-Err c =
    let broken : IsBroken (member_of c.args.entry.now) c.in-Err.field-0 = rw c.in-Err.is at c.in_ok-opened.ensures in
    no_line_behind c.args.entry.now c.args.verdict c.in-Err.field-0 _ broken
