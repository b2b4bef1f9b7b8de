-- One character more, and the ends.
use Rattle.std.proofs.Common.{rules, arith}
use Rattle.pickle_names.proofs.Turns.{holding-none, holding-next, holding-over, holding-all, holding-enough, holding-bad}
use Rattle.pickle_names.proofs.value.short_value.Goals as goal

pub loop-init : goal.loop-init
loop-init c = record { holds = holding-none c.args.coding _ c.args.bytes.now _ (search rules); small = search rules }

pub loop-preserved : goal.loop-preserved
loop-preserved c = record {
  holds = rw c.behind-rest.ensures (holding-next c.args.coding _ c.loop.counter c.in-Some.byte.now c.args.bytes.now c.loop.rest.now c.in-Some.more.now _ _ c.in-Some-front_of.piece
      c.loop-test.true (search rules) (search rules) (search rules) c.loop.invariant.holds);
  small = search rules;
}

pub returns-in_default : goal.returns-in_default
returns-in_default c = holding-all c.args.coding c.args.bytes.now c.loop.counter c.loop.rest.now _ (search rules) c.loop.invariant.small c.loop.invariant.holds

pub returns-then-not-keep_piece : goal.returns-then-not-keep_piece
returns-then-not-keep_piece c =
    holding-over c.args.coding c.args.bytes.now c.loop.counter c.in-Some.byte.now c.loop.rest.now c.in-Some.more.now _ c.in-Some-front_of.piece c.loop-test.true (search rules) (search rules)
    (search rules) c.loop.invariant.holds

pub returns : goal.returns
returns c = holding-enough c.args.coding c.args.bytes.now c.loop.counter c.loop.rest.now _ (omega (arith, c.loop-test.false)) c.loop.invariant.small c.loop.invariant.holds

pub returns-in_default-front_of : goal.returns-in_default-front_of
returns-in_default-front_of c =
    holding-bad c.args.coding c.args.bytes.now c.loop.counter c.in-Some.byte.now c.loop.rest.now c.in-Some.more.now _ c.loop-test.true (search rules) (search rules) c.loop.invariant.holds
