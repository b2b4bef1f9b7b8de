use Rattle.std.proofs.Common.{◌≡◌, List, Ok, Err}
use Rattle.std.specs.Prelude.{Result}
use Rattle.tar_archive.specs.declared.reason.Refusal.{Refusal}
use Rattle.tar_archive.specs.declared.member.Member.{Member}
use Rattle.tar_archive.specs.Tar.{read_tar}
use Rattle.gate_json.specs.MembersFields.{no_tar_json, IsTarLines}
use Rattle.archive_script.proofs.GateTexts.{says_wrote, says_broke}
use Rattle.gate_json.proofs.MemberLines.{tar_wrote, tar_broke, no_tar_is}
use Rattle.gate_json.proofs.members.write_tar.Goals as goal

pub returns-in_err-write_all_tarred-in-Ok : goal.returns-in_err-write_all_tarred-in-Ok
returns-in_err-write_all_tarred-in-Ok g c =
    let read : ◌≡◌ {A = Result (List Member) Refusal} (Ok c.in-Ok.members.items) (read_tar c.args.bytes.now) = rw c.in-Ok.is at c.in_ok-members.ensures in
    tar_broke c.args.bytes.now c.in-Ok.members.items _ _ _ _ c.from_residual-in_err-write_all_tarred-in-Ok.ensures.1 read c.as_slice.ensures.value
    c.in_err-write_all_tarred-in-Ok.ensures

pub returns-in_ok-write_all_tarred-in-Ok : goal.returns-in_ok-write_all_tarred-in-Ok
returns-in_ok-write_all_tarred-in-Ok g c =
    let read : ◌≡◌ {A = Result (List Member) Refusal} (Ok c.in-Ok.members.items) (read_tar c.args.bytes.now) = rw c.in-Ok.is at c.in_ok-members.ensures in
    tar_wrote c.args.bytes.now c.in-Ok.members.items _ _ _ read c.as_slice.ensures.value c.in_ok-write_all_tarred-in-Ok.ensures

pub returns-in_err-write_no_tar_line-in-Err : goal.returns-in_err-write_no_tar_line-in-Err
returns-in_err-write_no_tar_line-in-Err g c =
    let none : ◌≡◌ {A = Result (List Member) Refusal} (Err c.in-Err.refusal) (read_tar c.args.bytes.now) = rw c.in-Err.is at c.in_ok-members.ensures in
    says_broke (IsTarLines c.args.bytes.now) (no_tar_json c.in-Err.refusal) _ _ _ c.from_residual-in_err-write_no_tar_line-in-Err.ensures.1
    (no_tar_is c.args.bytes.now c.in-Err.refusal none) c.in_err-write_no_tar_line-in-Err.ensures

pub returns-in_ok-write_no_tar_line-in-Err : goal.returns-in_ok-write_no_tar_line-in-Err
returns-in_ok-write_no_tar_line-in-Err g c =
    let none : ◌≡◌ {A = Result (List Member) Refusal} (Err c.in-Err.refusal) (read_tar c.args.bytes.now) = rw c.in-Err.is at c.in_ok-members.ensures in
    says_wrote (IsTarLines c.args.bytes.now) (no_tar_json c.in-Err.refusal) _ _ (no_tar_is c.args.bytes.now c.in-Err.refusal none) c.in_ok-write_no_tar_line-in-Err.ensures
