use Rattle.zip_archive.specs.Archive.{IsZip, NoZip, ArePlaced}
use Rattle.zip_archive.specs.Refused.{IsRefused}
use Rattle.archive_script.specs.MembersText.{refusal_output, IsArchiveMembers}
use Rattle.archive_script.proofs.GateTexts.{says_wrote, says_broke}
use Rattle.archive_script.proofs.MembersTexts.{refuses, listed_wrote, listed_broke}
use Rattle.archive_script.proofs.members.write_archive.Goals as goal

pub write_lines-requires : goal.write_lines-requires
write_lines-requires g c =
    let read : IsZip c.args.bytes.now c.in-Ok.entries.items × ArePlaced c.in-Ok.entries.items = rw c.in-Ok.is at c.in_ok-entries.ensures in
    rw c.as_slice.ensures.value read.1

pub returns-in_err-write_lines-in-Ok : goal.returns-in_err-write_lines-in-Ok
returns-in_err-write_lines-in-Ok g c =
    let read : IsZip c.args.bytes.now c.in-Ok.entries.items × ArePlaced c.in-Ok.entries.items = rw c.in-Ok.is at c.in_ok-entries.ensures in
    listed_broke c.args.bytes.now c.in-Ok.entries.items _ _ _ _ c.from_residual-in_err-write_lines-in-Ok.ensures.1 read.0 c.as_slice.ensures.value
    c.in_err-write_lines-in-Ok.ensures

pub returns-in_ok-write_lines-in-Ok : goal.returns-in_ok-write_lines-in-Ok
returns-in_ok-write_lines-in-Ok g c =
    let read : IsZip c.args.bytes.now c.in-Ok.entries.items × ArePlaced c.in-Ok.entries.items = rw c.in-Ok.is at c.in_ok-entries.ensures in
    listed_wrote c.args.bytes.now c.in-Ok.entries.items _ _ _ read.0 c.as_slice.ensures.value c.in_ok-write_lines-in-Ok.ensures

pub returns-in_err-write_refusal-in-Err : goal.returns-in_err-write_refusal-in-Err
returns-in_err-write_refusal-in-Err g c =
    let none : NoZip c.args.bytes.now × IsRefused c.args.bytes.now c.in-Err.refusal = rw c.in-Err.is at c.in_ok-entries.ensures in
    says_broke (IsArchiveMembers c.args.bytes.now) (refusal_output c.in-Err.refusal) _ _ _ c.from_residual-in_err-write_refusal-in-Err.ensures.1 (refuses c.args.bytes.now c.in-Err.refusal none)
    c.in_err-write_refusal-in-Err.ensures

pub returns-in_ok-write_refusal-in-Err : goal.returns-in_ok-write_refusal-in-Err
returns-in_ok-write_refusal-in-Err g c =
    let none : NoZip c.args.bytes.now × IsRefused c.args.bytes.now c.in-Err.refusal = rw c.in-Err.is at c.in_ok-entries.ensures in
    says_wrote (IsArchiveMembers c.args.bytes.now) (refusal_output c.in-Err.refusal) _ _ (refuses c.args.bytes.now c.in-Err.refusal none) c.in_ok-write_refusal-in-Err.ensures
