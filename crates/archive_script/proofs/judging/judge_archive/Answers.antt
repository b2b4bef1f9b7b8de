use Rattle.std.proofs.Common.{◌≤◌, List, subst, sym}
use Rattle.zip_archive.specs.Entry.{Entry}
use Rattle.zip_archive.specs.Archive.{IsZip, NoZip, ArePlaced}
use Rattle.zip_archive.specs.Refused.{IsRefused}
use Rattle.pickle_doc.specs.Document.{size_limit}
use Rattle.zip_open.specs.Opened.{AreOpenable, unpacked_total}
use Rattle.zip_open.proofs.Openable.{openable_in}
use Rattle.archive_script.proofs.GateTexts.{members_are, unlisted}
use Rattle.archive_script.proofs.judging.judge_archive.Goals as goal

pub judge_entries-requires : goal.judge_entries-requires
judge_entries-requires c =
    let read : IsZip c.args.bytes.now c.in-Ok.entries.items × ArePlaced c.in-Ok.entries.items = rw c.in-Ok.is at c.in_ok-entries.ensures in
    subst (λ (l : List Entry). unpacked_total l ≤ size_limit → AreOpenable l) (sym c.as_slice.ensures.value) (openable_in c.args.bytes.now c.in-Ok.entries.items read.0 c.requires)

pub returns-in-Ok : goal.returns-in-Ok
returns-in-Ok c =
    let read : IsZip c.args.bytes.now c.in-Ok.entries.items × ArePlaced c.in-Ok.entries.items = rw c.in-Ok.is at c.in_ok-entries.ensures in
    members_are c.args.list.now c.args.bytes.now c.in-Ok.entries.items _ _ read.0 c.as_slice.ensures.value c.judge_entries.ensures

pub returns-in-Err : goal.returns-in-Err
returns-in-Err c =
    let none : NoZip c.args.bytes.now × IsRefused c.args.bytes.now c.in-Err.refusal = rw c.in-Err.is at c.in_ok-entries.ensures in
    unlisted c.args.list.now c.args.bytes.now c.in-Err.refusal none
