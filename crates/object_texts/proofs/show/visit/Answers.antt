-- There is room for an object that is found, and then for what was not seen.
use Rattle.std.proofs.Common.{◌≡◌, ◌+◌, [], ◌∷◌, Some, length, length-append, sym, ap, ◌∙◌, arith}
use Rattle.object_texts.specs.Show.{found}
use Rattle.object_texts.proofs.Walks.{room-left}
use Rattle.object_texts.proofs.show.visit.Goals as goal

pub push_reserved-requires : goal.push_reserved-requires
push_reserved-requires g c =
    let h : found c.args.machine.now.state.heap c.as_slice.result.now c.args.id ≡ Some c.in-Some.object.now = sym c.in-Some.ensures in
    let f : found c.args.machine.now.state.heap c.args.seen.now.items c.args.id ≡ Some c.in-Some.object.now = rw c.as_slice.ensures.value at h in
    let r = room-left c.args.machine.now.state.heap c.args.seen.now.items c.args.id c.in-Some.object.now _ _ f c.requires.seen c.requires.room in
    omega (arith, r.0)

pub returns-in_ok-write_first-in-Some-clause-fits : goal.returns-in_ok-write_first-in-Some-clause-fits
returns-in_ok-write_first-in-Some-clause-fits g c =
    let h : found c.args.machine.now.state.heap c.as_slice.result.now c.args.id ≡ Some c.in-Some.object.now = sym c.in-Some.ensures in
    let f : found c.args.machine.now.state.heap c.args.seen.now.items c.args.id ≡ Some c.in-Some.object.now = rw c.as_slice.ensures.value at h in
    let r = room-left c.args.machine.now.state.heap c.args.seen.now.items c.args.id c.in-Some.object.now _ _ f c.requires.seen c.requires.room in
    let l : length c.push_reserved.new.self.items ≡ length c.args.stack.now.items + 1 = ap length c.push_reserved.ensures.items ∙ length-append c.args.stack.now.items (c.of.result ∷ []) in
    omega (arith, r.1, l, c.push_reserved.ensures.capacity)
