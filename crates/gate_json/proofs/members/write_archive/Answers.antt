use Rattle.zip_archive.specs.Archive.{IsZip, NoZip, ArePlaced}
use Rattle.zip_archive.specs.Refused.{IsRefused}
use Rattle.gate_json.specs.MembersFields.{no_archive_output, IsArchiveLines}
use Rattle.archive_script.proofs.GateTexts.{says_wrote, says_broke}
use Rattle.gate_json.proofs.MemberLines.{refuses, listed_wrote, listed_broke}
use Rattle.gate_json.proofs.members.write_archive.Goals as goal

pub write_entries-requires : goal.write_entries-requires
write_entries-requires g c =
    let read : IsZip c.args.bytes.now c.in-Ok.entries.items × ArePlaced c.in-Ok.entries.items = rw c.in-Ok.is at c.in_ok-entries.ensures in
    rw c.as_slice.ensures.value read.1

pub returns-in_err-write_entries-in-Ok : goal.returns-in_err-write_entries-in-Ok
returns-in_err-write_entries-in-Ok g c =
    let read : IsZip c.args.bytes.now c.in-Ok.entries.items × ArePlaced c.in-Ok.entries.items = rw c.in-Ok.is at c.in_ok-entries.ensures in
    listed_broke c.args.bytes.now c.in-Ok.entries.items _ _ _ _ c.from_residual-in_err-write_entries-in-Ok.ensures.1 read.0 c.as_slice.ensures.value
    c.in_err-write_entries-in-Ok.ensures

pub returns-in_ok-write_entries-in-Ok : goal.returns-in_ok-write_entries-in-Ok
returns-in_ok-write_entries-in-Ok g c =
    let read : IsZip c.args.bytes.now c.in-Ok.entries.items × ArePlaced c.in-Ok.entries.items = rw c.in-Ok.is at c.in_ok-entries.ensures in
    listed_wrote c.args.bytes.now c.in-Ok.entries.items _ _ _ read.0 c.as_slice.ensures.value c.in_ok-write_entries-in-Ok.ensures

pub returns-in_err-write_no_archive_line-in-Err : goal.returns-in_err-write_no_archive_line-in-Err
returns-in_err-write_no_archive_line-in-Err g c =
    let none : NoZip c.args.bytes.now × IsRefused c.args.bytes.now c.in-Err.refusal = rw c.in-Err.is at c.in_ok-entries.ensures in
    says_broke (IsArchiveLines c.args.bytes.now) (no_archive_output c.in-Err.refusal) _ _ _ c.from_residual-in_err-write_no_archive_line-in-Err.ensures.1 (refuses c.args.bytes.now c.in-Err.refusal none)
    c.in_err-write_no_archive_line-in-Err.ensures

pub returns-in_ok-write_no_archive_line-in-Err : goal.returns-in_ok-write_no_archive_line-in-Err
returns-in_ok-write_no_archive_line-in-Err g c =
    let none : NoZip c.args.bytes.now × IsRefused c.args.bytes.now c.in-Err.refusal = rw c.in-Err.is at c.in_ok-entries.ensures in
    says_wrote (IsArchiveLines c.args.bytes.now) (no_archive_output c.in-Err.refusal) _ _ (refuses c.args.bytes.now c.in-Err.refusal none) c.in_ok-write_no_archive_line-in-Err.ensures
