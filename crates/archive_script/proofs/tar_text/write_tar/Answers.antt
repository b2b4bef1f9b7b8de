use Rattle.std.proofs.Common.{◌≡◌, List, Ok, Err}
use Rattle.std.specs.Prelude.{Result}
use Rattle.tar_archive.specs.declared.reason.Refusal.{Refusal}
use Rattle.tar_archive.specs.declared.member.Member.{Member}
use Rattle.tar_archive.specs.Tar.{read_tar}
use Rattle.archive_script.specs.TarText.{no_tar_output, IsTarMembers}
use Rattle.archive_script.proofs.GateTexts.{says_wrote, says_broke}
use Rattle.archive_script.proofs.MembersTexts.{tar_wrote, tar_broke, no_tar_is}
use Rattle.archive_script.proofs.tar_text.write_tar.Goals as goal

pub returns-in_err-write_lines-in-Ok : goal.returns-in_err-write_lines-in-Ok
returns-in_err-write_lines-in-Ok g c =
    let read : ◌≡◌ {A = Result (List Member) Refusal} (Ok c.in-Ok.members.items) (read_tar c.args.bytes.now) = rw c.in-Ok.is at c.in_ok-members.ensures in
    tar_broke c.args.bytes.now c.in-Ok.members.items _ _ _ _ c.from_residual-in_err-write_lines-in-Ok.ensures.1 read c.as_slice.ensures.value
    c.in_err-write_lines-in-Ok.ensures

pub returns-in_ok-write_lines-in-Ok : goal.returns-in_ok-write_lines-in-Ok
returns-in_ok-write_lines-in-Ok g c =
    let read : ◌≡◌ {A = Result (List Member) Refusal} (Ok c.in-Ok.members.items) (read_tar c.args.bytes.now) = rw c.in-Ok.is at c.in_ok-members.ensures in
    tar_wrote c.args.bytes.now c.in-Ok.members.items _ _ _ read c.as_slice.ensures.value c.in_ok-write_lines-in-Ok.ensures

pub returns-in_err-write_tar_line-in-Err : goal.returns-in_err-write_tar_line-in-Err
returns-in_err-write_tar_line-in-Err g c =
    let none : ◌≡◌ {A = Result (List Member) Refusal} (Err c.in-Err.refusal) (read_tar c.args.bytes.now) = rw c.in-Err.is at c.in_ok-members.ensures in
    says_broke (IsTarMembers c.args.bytes.now) (no_tar_output c.in-Err.refusal) _ _ _ c.from_residual-in_err-write_tar_line-in-Err.ensures.1
    (no_tar_is c.args.bytes.now c.in-Err.refusal none) c.in_err-write_tar_line-in-Err.ensures

pub returns-in_ok-write_tar_line-in-Err : goal.returns-in_ok-write_tar_line-in-Err
returns-in_ok-write_tar_line-in-Err g c =
    let none : ◌≡◌ {A = Result (List Member) Refusal} (Err c.in-Err.refusal) (read_tar c.args.bytes.now) = rw c.in-Err.is at c.in_ok-members.ensures in
    says_wrote (IsTarMembers c.args.bytes.now) (no_tar_output c.in-Err.refusal) _ _ (no_tar_is c.args.bytes.now c.in-Err.refusal none) c.in_ok-write_tar_line-in-Err.ensures
