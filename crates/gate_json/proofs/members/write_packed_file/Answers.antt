use Rattle.std.proofs.Common.{◌≡◌, ◌≤◌, List, ℕ, Err, arith}
use Rattle.std.specs.Prelude.{Result}
use Rattle.pickle_doc.specs.Document.{size_limit}
use Rattle.packed_stream.specs.declared.reason.Refusal.{Refusal}
use Rattle.packed_stream.specs.Packed.{IsPacked, opened}
use Rattle.gate_json.specs.MembersFields.{no_packed_json, IsPackedLines}
use Rattle.archive_script.proofs.GateTexts.{says_wrote, says_broke}
use Rattle.gate_json.proofs.MemberLines.{packed_wrote, packed_broke, unopened}
use Rattle.gate_json.proofs.members.write_packed_file.Goals as goal

pub returns-in_err-write_opened_size-in-Ok : goal.returns-in_err-write_opened_size-in-Ok
returns-in_err-write_opened_size-in-Ok g c =
    let opens : IsPacked c.args.packing c.args.bytes.now c.in-Ok.content.items = rw c.in-Ok.is at c.in_ok-content.ensures.found in
    let room : c.in-Ok.content.len ≤ size_limit = rw c.in-Ok.is at c.in_ok-content.ensures.room in
    packed_broke c.args.packing c.args.bytes.now c.in-Ok.content.items c.len.result _ _ _ c.from_residual-in_err-write_opened_size-in-Ok.ensures.1 opens
    (omega (arith, room, c.in-Ok.content.ok.0)) (omega (arith, c.len.ensures, c.in-Ok.content.ok.0)) c.in_err-write_opened_size-in-Ok.ensures

pub returns-in_ok-write_opened_size-in-Ok : goal.returns-in_ok-write_opened_size-in-Ok
returns-in_ok-write_opened_size-in-Ok g c =
    let opens : IsPacked c.args.packing c.args.bytes.now c.in-Ok.content.items = rw c.in-Ok.is at c.in_ok-content.ensures.found in
    let room : c.in-Ok.content.len ≤ size_limit = rw c.in-Ok.is at c.in_ok-content.ensures.room in
    packed_wrote c.args.packing c.args.bytes.now c.in-Ok.content.items c.len.result _ _ opens (omega (arith, room, c.in-Ok.content.ok.0))
    (omega (arith, c.len.ensures, c.in-Ok.content.ok.0)) c.in_ok-write_opened_size-in-Ok.ensures

pub returns-in_err-write_no_packed_line-in-Err : goal.returns-in_err-write_no_packed_line-in-Err
returns-in_err-write_no_packed_line-in-Err g c =
    let refused : ◌≡◌ {A = Result (List ℕ) Refusal} (Err c.in-Err.refusal) (opened size_limit c.args.packing c.args.bytes.now) = rw c.in-Err.is at c.in_ok-content.ensures.exact in
    says_broke (IsPackedLines c.args.packing c.args.bytes.now) (no_packed_json c.in-Err.refusal) _ _ _ c.from_residual-in_err-write_no_packed_line-in-Err.ensures.1
    (unopened c.args.packing c.args.bytes.now c.in-Err.refusal refused) c.in_err-write_no_packed_line-in-Err.ensures

pub returns-in_ok-write_no_packed_line-in-Err : goal.returns-in_ok-write_no_packed_line-in-Err
returns-in_ok-write_no_packed_line-in-Err g c =
    let refused : ◌≡◌ {A = Result (List ℕ) Refusal} (Err c.in-Err.refusal) (opened size_limit c.args.packing c.args.bytes.now) = rw c.in-Err.is at c.in_ok-content.ensures.exact in
    says_wrote (IsPackedLines c.args.packing c.args.bytes.now) (no_packed_json c.in-Err.refusal) _ _
    (unopened c.args.packing c.args.bytes.now c.in-Err.refusal refused) c.in_ok-write_no_packed_line-in-Err.ensures
