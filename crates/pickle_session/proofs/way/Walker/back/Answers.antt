use Rattle.std.proofs.Common.{◌≡◌, ◌+◌, ◌-◌, Option, Some, None, length, option_to_list, refl, sym, ◌∙◌, arith}
use Rattle.std.specs.Option.{option_map}
use Rattle.std.specs.Prelude.{IsSome}
use Rattle.pickle_doc.specs.Place.{item_at}
use Rattle.pickle_session.proofs.Living.{item_before}
use Rattle.pickle_session.proofs.Trails.{last_possible, last_fits, last_back, last_length, fits_still}
use Rattle.pickle_session.proofs.Offsets.{size_more}
use Rattle.pickle_session.proofs.way.Walker.back.Goals as goal

pub unstep-requires-clause-possible : goal.unstep-requires-clause-possible
unstep-requires-clause-possible g c =
    last_possible _ _ c.loop-self.self.place _ _ _ _ (omega (arith, c.loop-self-test.true)) c.loop-self.invariant.stands.trail c.unwrap-step.ensures c.last.ensures.records

pub unstep-requires-clause-fits : goal.unstep-requires-clause-fits
unstep-requires-clause-fits g c =
    last_fits _ _ c.loop-self.self.place _ _ _ _ (omega (arith, c.loop-self-test.true)) c.loop-self.invariant.stands.trail c.unwrap-step.ensures c.last.ensures.records

some_copied : {A B : Type 0} (f : A → B) (x : Option A) (b : B) → option_map f x ≡ Some b → IsSome x
some_copied f None b e = absurd cc
some_copied f (Some a) b e = refl

pub unwrap-requires : goal.unwrap-requires
unwrap-requires g c =
    let o = item_before c.args.document.now.contents _ _ (omega (arith, c.loop-self-test.true)) c.loop-self.invariant.stands.trail.reached in
    some_copied _ c.item.result o.0 (c.item.ensures ∙ o.1)

pub overflow_sub-self-in-loop-self : goal.overflow_sub-self-in-loop-self
overflow_sub-self-in-loop-self g c =
    let h = c.loop-self-test.true in
    let d = c.args.document.now.contents in
    let there : item_at d (c.loop-self.self.place - 1) ≡ Some c.unwrap.result.now = sym (rw c.unwrap.ensures at c.item.ensures) in
    let next : (c.loop-self.self.place - 1) + 1 ≡ c.loop-self.self.place = omega (arith, h) in
    let more = rw next at (size_more d (c.loop-self.self.place - 1) c.unwrap.result.now there) in
    omega (arith, more, c.size.ensures, c.loop-self.invariant.stands.offset)

pub loop-self-preserved : goal.loop-self-preserved
loop-self-preserved g c =
    let h = c.loop-self-test.true in
    let i = c.loop-self.invariant in
    let place = c.loop-self.self.place in
    let d = c.args.document.now.contents in
    let len = last_length _ _ _ _ c.unwrap-step.ensures c.last.ensures.records in
    let one : length (option_to_list c.last.result) ≡ 1 = rw c.unwrap-step.ensures refl in
    let there : item_at d (place - 1) ≡ Some c.unwrap.result.now = sym (rw c.unwrap.ensures at c.item.ensures) in
    let next : (place - 1) + 1 ≡ place = omega (arith, h) in
    let more = rw next at (size_more d (place - 1) c.unwrap.result.now there) in
    record {
      low = omega (arith, h);
      high = omega (arith, i.high);
      stands = record {
        trail = last_back _ _ _ place _ _ _ _ (omega (arith, h)) i.stands.trail c.unwrap-step.ensures c.last.ensures.records (rw c.unstep.ensures.after refl) (rw c.unstep.ensures.after (record { cells = omega arith; marks = omega arith }));
        offset = omega (arith, more, c.size.ensures, i.stands.offset);
      };
      went = record {
        rooms = rw c.unstep.ensures.after (record { cells = i.went.rooms.cells; marks = i.went.rooms.marks });
        moves = rw c.unstep.ensures.after (omega (arith, i.went.moves, i.high, h));
      };
      still = λ e. absurd (omega (arith, e, i.high, h));
      was = λ l. fits_still _ _ _ place c.args.self.now.place i.high i.still i.was c.unstep.ensures.room (rw c.unstep.ensures.after (record { cells = omega arith; marks = omega arith }));
      records = omega (arith, len, i.records, i.high, h);
      limit = c.last.ensures.limit ∙ i.limit;
      room = omega (arith, c.last.ensures.room, one, i.room, i.high, h);
    }
