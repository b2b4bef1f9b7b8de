use Rattle.std.proofs.Common.{List, ℕ, ◌+◌, length, ap, arith}
use Rattle.pickle_doc.proofs.Deletions.{sound}
use Rattle.pickle_doc.proofs.Insertions.{accepted, frames_below, insertion}
use Rattle.pickle_doc.proofs.insert.insertion.Goals as goal

pub resized-frame-requires-clause-place : goal.resized-frame-requires-clause-place
resized-frame-requires-clause-place c = (accepted _ c.args.k c.args.op (sound _ c.requires.document c.requires.small) c.requires.good).can.place

pub resized-frame-requires-clause-more : goal.resized-frame-requires-clause-more
resized-frame-requires-clause-more c =
    let a = accepted _ c.args.k c.args.op (sound _ c.requires.document c.requires.small) c.requires.good in
    omega (arith, a.small, ap length c.arg.ensures.value)

pub resized-frame-requires-clause-frame : goal.resized-frame-requires-clause-frame
resized-frame-requires-clause-frame c =
    let n = sound _ c.requires.document c.requires.small in
    frames_below _ c.args.k n (accepted _ c.args.k c.args.op n c.requires.good).can.place

pub next_id-requires : goal.next_id-requires
next_id-requires c = (accepted _ c.args.k c.args.op (sound _ c.requires.document c.requires.small) c.requires.good).can.few

pub returns-clause-few : goal.returns-clause-few
returns-clause-few c = (accepted _ c.args.k c.args.op (sound _ c.requires.document c.requires.small) c.requires.good).can.few

pub returns-clause-leads : goal.returns-clause-leads
returns-clause-leads c =
    let n = sound _ c.requires.document c.requires.small in
    rw c.next_id.ensures (insertion _ c.args.k _ c.args.op c.resized-frame.result n c.arg.ensures.spelled c.requires.good (ap (λ (a : List ℕ). length a + 1) c.arg.ensures.value) c.resized-frame.ensures).leads

pub returns-clause-room : goal.returns-clause-room
returns-clause-room c =
    let n = sound _ c.requires.document c.requires.small in
    (insertion _ c.args.k _ c.args.op c.resized-frame.result n c.arg.ensures.spelled c.requires.good (ap (λ (a : List ℕ). length a + 1) c.arg.ensures.value) c.resized-frame.ensures).long
