use Rattle.std.proofs.Common.{◌≡◌, ◌+◌, ◌<◌, ◌≤◌, ◌^◌, slice_get, Some, sym, arith, rules}
use Rattle.pickle_doc.specs.Document.{size_limit}
use Rattle.pickle_doc.specs.Place.{ops_of, item_at, offset_of}
use Rattle.pickle_session.proofs.Living.{few_items}
use Rattle.pickle_session.proofs.Offsets.{size_more, size_small}
use Rattle.pickle_session.proofs.Trails.{run_heap, trail_same, trail_next}
use Rattle.pickle_session.proofs.way.Walker.step.Goals as goal

pub step-requires : goal.step-requires
step-requires g c =
    let d = c.args.document.now.contents in
    omega (arith, run_heap d.many _ _ _ c.requires.stands.trail.reached, few_items d c.requires.small, c.requires.item)

pub returns-in_err-step-clause-stands : goal.returns-in_err-step-clause-stands
returns-in_err-step-clause-stands g c = record {
  trail = trail_same _ _ _ _ _ _ c.step.ensures.rooms c.in_err-step.ensures.err c.ready.ensures.records c.requires.stands.trail;
  offset = c.requires.stands.offset;
}

pub returns-clause-stands : goal.returns-clause-stands
returns-clause-stands g c =
    let d = c.args.document.now.contents in
    let there : slice_get (ops_of d) c.args.self.now.place ≡ Some c.unwrap-op.result.now = sym (rw c.unwrap-op.ensures at c.item.ensures) in
    let kept = rw (c.ready.ensures.limit, c.ready.ensures.records) at c.keep.ensures.records in
    let more = size_more d c.args.self.now.place c.unwrap-op.result.now there in
    record {
      trail = trail_next _ c.unwrap-op.result.now _ _ _ _ _ _ (g.P.Past.holds c.args.past.now).limit c.requires.stands.trail there c.in_ok-step.ensures.ok c.in_ok-step.ensures.kept c.in_ok-step.ensures.leads c.step.ensures.fits c.step.ensures.rooms kept;
      offset = omega (arith, more, c.size.ensures, c.requires.stands.offset);
    }

pub overflow_add-self : goal.overflow_add-self
overflow_add-self g c =
    let fits : c.args.self.now.place + 1 < 2 ^ 64 = omega (arith, few_items c.args.document.now.contents c.requires.small, c.requires.item) in
    search rules

pub overflow_add-self-2 : goal.overflow_add-self-2
overflow_add-self-2 g c =
    let d = c.args.document.now.contents in
    let there : item_at d c.args.self.now.place ≡ Some c.unwrap-op.result.now = sym (rw c.unwrap-op.ensures at c.item.ensures) in
    let more = size_more d c.args.self.now.place c.unwrap-op.result.now there in
    let small : offset_of d (c.args.self.now.place + 1) ≤ size_limit = size_small d (c.args.self.now.place + 1) c.requires.small in
    let fits : c.args.self.now.offset + c.size.result < 2 ^ 64 = omega (arith, small, more, c.size.ensures, c.requires.stands.offset) in
    search rules
