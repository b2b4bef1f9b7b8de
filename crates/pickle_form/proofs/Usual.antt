-- What a usual opcode comes to: no rule is broken, and little changes.
use Rattle.std.proofs.Common.{◌≡◌, ℕ, ◌+◌, ◌-◌, ◌<◌, ◌≤◌, Bool, true, false, Option, Some, None, refl, sym, ap, ◌∙◌, arith}
use Rattle.std.specs.Prelude.{◌||◌, ◌&&◌, not, nat_lt, nat_le, max, min, if◌then◌else◌}
use Rattle.std.proofs.lemmas.Bool.{lt-ltb, le-leb}
use Rattle.pickle_ops.specs.declared.opcode.Opcode.{Opcode}
use Rattle.pickle_ops.specs.Table.{protocol_of}
use Rattle.pickle_ops.specs.Spelling.{Operation, size_of}
use Rattle.pickle_form.specs.declared.reason.Reason.TheVariants as reason
use Rattle.pickle_form.specs.Spelled.{unless, or_else, last_protocol}
use Rattle.pickle_form.specs.Run.{Run, is_proto, is_frame, is_stop, is_drop, is_get, is_pair, is_put, is_reduce, is_pop, is_kept, is_filled, leaves_a_rest, is_large, first_protocol, first_here, last_here, loose_after, left_after, other_proto, other_protocol, other_frame, other_drop, other_setter, other_put, other_run, after_run}
use Rattle.pickle_form.specs.Inside.{IsUsual, is_turn}

-- none of five
pub record Straight (o : Opcode) : Type 0 where
  pub proto : is_proto o ≡ false
  pub frame : is_frame o ≡ false
  pub stop : is_stop o ≡ false
  pub drop : is_drop o ≡ false
  pub pair : is_pair o ≡ false

or_left : (a b : Bool) → (a || b) ≡ false → a ≡ false
or_left false b e = refl
or_left true b e = absurd cc

or_right : (a b : Bool) → (a || b) ≡ false → b ≡ false
or_right false b e = e
or_right true b e = absurd cc

pub straight : (o : Opcode) → is_turn o ≡ false → Straight o
straight o e =
    let four : (is_proto o || is_frame o || is_stop o || is_drop o) ≡ false = or_left (is_proto o || is_frame o || is_stop o || is_drop o) (is_pair o) e in
    let three : (is_proto o || is_frame o || is_stop o) ≡ false = or_left (is_proto o || is_frame o || is_stop o) (is_drop o) four in
    let two : (is_proto o || is_frame o) ≡ false = or_left (is_proto o || is_frame o) (is_stop o) three in
    record {
      proto = or_left (is_proto o) (is_frame o) two;
      frame = or_right (is_proto o) (is_frame o) two;
      stop = or_right (is_proto o || is_frame o) (is_stop o) three;
      drop = or_right (is_proto o || is_frame o || is_stop o) (is_drop o) four;
      pair = or_right (is_proto o || is_frame o || is_stop o || is_drop o) (is_pair o) e;
    }

pub first_stays : (o : Operation) (r : Run) → IsUsual o r → first_here o r ≡ r.first
first_stays o r u =
    let s = straight o.opcode u.straight in
    let low : max r.first (protocol_of o.opcode) ≡ r.first = omega (arith, u.early) in
    rw (s.proto, s.pair) low

pub last_stays : (o : Operation) (r : Run) → IsUsual o r → last_here o r ≡ r.last
last_stays o r u =
    let s = straight o.opcode u.straight in
    let high : min r.last (last_protocol o.opcode o.arg) ≡ r.last = omega (arith, u.late) in
    rw s.proto high

proto_none : (o : Operation) (r : Run) → IsUsual o r → other_proto o r ≡ None
proto_none o r u = rw (straight o.opcode u.straight).proto refl

protocol_none : (o : Operation) (r : Run) → IsUsual o r → other_protocol o r ≡ None
protocol_none o r u =
    let good : nat_le r.first r.last ≡ true = le-leb r.first r.last u.calm.0 in
    rw (first_stays o r u, last_stays o r u, good) refl

frame_none : (o : Operation) (r : Run) → IsUsual o r → (nat_lt r.first 4 || nat_lt (loose_after o r) 4) ≡ true → other_frame o r ≡ None
frame_none o r u few = rw (first_stays o r u, few, (straight o.opcode u.straight).stop) refl

drop_none : (o : Operation) (r : Run) → IsUsual o r → other_drop o r ≡ None
drop_none o r u = rw u.calm.2 refl

setter_none : (o : Operation) (r : Run) → IsUsual o r → other_setter o r ≡ None
setter_none o r u = rw (u.calm.3, u.calm.4) refl

put_none : (o : Operation) (r : Run) → IsUsual o r → other_put o r ≡ None
put_none o r u = rw u.kept refl

-- no rule is broken, where there is a frame or none is wanted
pub usual_none : (o : Operation) (r : Run) → IsUsual o r → (nat_lt r.first 4 || nat_lt (loose_after o r) 4) ≡ true → None ≡ other_run o r
usual_none o r u few =
    sym (rw (proto_none o r u, protocol_none o r u, frame_none o r u few, drop_none o r u, setter_none o r u, put_none o r u) refl)

-- what it comes to
abbrev usual_after : Operation → Run → ℕ → ℕ → Run
usual_after o r left loose =
    record r { left = left; loose = loose; fresh = is_kept o.opcode; filled = is_filled o.opcode; called = leaves_a_rest o.opcode }

pub after_usual : (o : Operation) (r : Run) → IsUsual o r → after_run o r ≡ usual_after o r (r.left - size_of o) (loose_after o r)
after_usual o r u =
    let s = straight o.opcode u.straight in
    rw (first_stays o r u, last_stays o r u, s.frame, s.drop, s.pair, u.calm.1, u.calm.2, u.calm.3, u.calm.4) refl

pub loose_in_frame : (o : Operation) (r : Run) → IsUsual o r → 0 < r.left → loose_after o r ≡ 0
loose_in_frame o r u h =
    let s = straight o.opcode u.straight in
    let within : nat_lt 0 r.left ≡ true = lt-ltb 0 r.left h in
    go (is_large (size_of o)) within s.frame s.proto
  where
    go : (large : Bool) → nat_lt 0 r.left ≡ true → is_frame o.opcode ≡ false → is_proto o.opcode ≡ false → (if is_frame o.opcode || is_proto o.opcode || large || nat_lt 0 r.left then 0 else r.loose + size_of o) ≡ 0
    go true within frame proto = rw (frame, proto) refl
    go false within frame proto = rw (frame, proto, within) refl

or_true : (a : Bool) → (a || true) ≡ true
or_true true = refl
or_true false = refl

-- in a frame
pub usual_in_frame : (o : Operation) (r : Run) → IsUsual o r → 0 < r.left → None ≡ other_run o r
usual_in_frame o r u h =
    let few : nat_lt (loose_after o r) 4 ≡ true = rw (loose_in_frame o r u h) refl in
    usual_none o r u (rw few (or_true (nat_lt r.first 4)))

-- before protocol 4
pub usual_early : (o : Operation) (r : Run) → IsUsual o r → r.first < 4 → None ≡ other_run o r
usual_early o r u h = let few : nat_lt r.first 4 ≡ true = lt-ltb r.first 4 h in usual_none o r u (rw few refl)

pub loose_outside : (o : Operation) (r : Run) → IsUsual o r → r.left ≡ 0 → loose_after o r ≡ (if is_large (size_of o) then 0 else r.loose + size_of o)
loose_outside o r u h =
    let s = straight o.opcode u.straight in
    go (is_large (size_of o)) s.frame s.proto
  where
    go : (large : Bool) → is_frame o.opcode ≡ false → is_proto o.opcode ≡ false → (if is_frame o.opcode || is_proto o.opcode || large || nat_lt 0 r.left then 0 else r.loose + size_of o) ≡ (if large then 0 else r.loose + size_of o)
    go true frame proto = rw (frame, proto) refl
    go false frame proto = rw (frame, proto, h) refl
