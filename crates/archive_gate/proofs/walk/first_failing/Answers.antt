use Rattle.std.proofs.Common.{sym, subst, arith}
use Rattle.zip_archive.specs.Entry.{Entry}
use Rattle.zip_archive.specs.Reader.{member_of}
use Rattle.zip_open.specs.Opened.{IsOpenable}
use Rattle.archive_gate.specs.Members.{MemberPasses, HasFault}
use Rattle.zip_open.proofs.Openable.{openable_at}
use Rattle.archive_gate.proofs.Passing.{passes_next, fails_here}
use Rattle.archive_gate.proofs.walk.first_failing.Goals as goal

pub fault_of-requires : goal.fault_of-requires
fault_of-requires c =
    subst IsOpenable (sym c.index-entries-place.is) (openable_at c.args.entries.now c.loop-place.place c.index-entries-place.result c.requires (omega arith))

pub returns-in-Some : goal.returns-in-Some
returns-in-Some c =
    let has : HasFault c.args.list.now c.index-entries-place.result c.in-Some.fault = rw c.in-Some.is at c.in_ok-fault_of.ensures in
    fails_here c.args.list.now c.args.entries.now c.loop-place.place c.index-entries-place.result c.in-Some.fault (omega arith) c.loop-place.invariant
    (subst (λ (e : Entry). HasFault c.args.list.now e c.in-Some.fault) c.index-entries-place.is has)

pub loop-place-preserved : goal.loop-place-preserved
loop-place-preserved c =
    let passes : MemberPasses c.args.list.now (member_of c.index-entries-place.result) = rw c.in-None.is at c.in_ok-fault_of.ensures in
    passes_next c.args.list.now c.args.entries.now c.loop-place.place c.index-entries-place.result (omega arith) c.loop-place.invariant
    (subst (λ (e : Entry). MemberPasses c.args.list.now (member_of e)) c.index-entries-place.is passes)
