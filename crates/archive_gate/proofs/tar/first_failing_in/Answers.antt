use Rattle.std.proofs.Common.{get_or, arith}
use Rattle.archive_gate.specs.Members.{BytesPass, BytesFail}
use Rattle.archive_gate.proofs.Tars.{no_member, held_few, held_next, held_fails}
use Rattle.archive_gate.proofs.tar.first_failing_in.Goals as goal

pub fault_in_bytes-requires : goal.fault_in_bytes-requires
fault_in_bytes-requires c =
    held_few c.args.bytes.now c.held_at-held.result.now (get_or c.args.members.now c.loop-place.place no_member).content (c.held_at-held.ensures no_member) c.requires

pub returns-in-Some : goal.returns-in-Some
returns-in-Some c =
    let fails : BytesFail c.args.list.now c.held_at-held.result.now c.in-Some.fault = rw c.in-Some.is at c.in_ok-fault_in_bytes.ensures.found in
    held_fails c.args.list.now c.args.bytes.now c.args.members.now c.loop-place.place no_member c.held_at-held.result.now c.in-Some.fault (omega arith) (c.held_at-held.ensures no_member)
    c.loop-place.invariant c.fault_in_bytes.ensures.small fails

pub loop-place-preserved : goal.loop-place-preserved
loop-place-preserved c =
    let passes : BytesPass c.args.list.now c.held_at-held.result.now = rw c.in-None.is at c.in_ok-fault_in_bytes.ensures.found in
    held_next c.args.list.now c.args.bytes.now c.args.members.now c.loop-place.place no_member c.held_at-held.result.now (omega arith) (c.held_at-held.ensures no_member)
    c.loop-place.invariant passes
