-- One item less, or the one that makes the object.
use Rattle.std.proofs.Common.{◌≡◌, ◌∙◌, ℕ, suc, ◌+◌, ◌-◌, ◌≤◌, true, false, sym, ap, subst, arith}
use Rattle.debug_json.specs.Inside.Counted.{HasObjects}
use Rattle.debug_json.specs.MadeFields.{does_at, made_by, is_number, maker}
use Rattle.debug_json.proofs.Making.{objects_before, none_below, maker_here, maker_before}
use Rattle.debug_json.proofs.made.maker.Goals as goal

pub loop-place-init : goal.loop-place-init
loop-place-init g c =
    let s = c.args.session.now.session in
    record {
      within = omega (arith, c.cursor-place.ensures.value);
      count = subst (λ (k : ℕ). HasObjects s.document k c.objects-objects.result) (sym c.cursor-place.ensures.value)
          (c.machine.result.now.state, c.machine.ensures.reached, c.objects-objects.ensures.count);
      left = ap (maker s.document c.args.first c.args.number) (sym c.cursor-place.ensures.value);
    }

pub made_at-made-requires-clause-objects : goal.made_at-made-requires-clause-objects
made_at-made-requires-clause-objects g c =
    let next : c.loop-place.place ≡ (c.loop-place.place - 1) + 1 = omega (arith, c.loop-place-test.true) in
    subst (λ (k : ℕ). HasObjects c.args.session.now.session.document k c.loop-place.objects) next c.loop-place.invariant.count

pub returns-then-is_number : goal.returns-then-is_number
returns-then-is_number g c =
    let d = c.args.session.now.session.document in
    let k : ℕ = c.loop-place.place - 1 in
    let next : c.loop-place.place ≡ suc k = omega (arith, c.loop-place-test.true) in
    let from : c.args.first ≤ k = omega (arith, c.loop-place-test.true) in
    let is : is_number c.args.number (made_by (does_at d k)) ≡ true =
    ap (is_number c.args.number) (sym c.made_at-made.ensures) ∙ sym c.is_number.ensures ∙ c.if-is_number.true in
    sym (c.loop-place.invariant.left ∙ ap (maker d c.args.first c.args.number) next ∙ maker_here d c.args.first c.args.number k from is)

pub loop-place-preserved : goal.loop-place-preserved
loop-place-preserved g c =
    let d = c.args.session.now.session.document in
    let k : ℕ = c.loop-place.place - 1 in
    let next : c.loop-place.place ≡ suc k = omega (arith, c.loop-place-test.true) in
    let from : c.args.first ≤ k = omega (arith, c.loop-place-test.true) in
    let not : is_number c.args.number (made_by (does_at d k)) ≡ false =
    ap (is_number c.args.number) (sym c.made_at-made.ensures) ∙ sym c.is_number.ensures ∙ c.if-is_number.false in
    record {
      within = omega (arith, c.loop-place.invariant.within);
      count = subst (λ (n : ℕ). HasObjects d k n) (sym c.objects_before-objects.ensures)
          (objects_before d k c.loop-place.objects c.made_at-made.result c.made_at-made.ensures
          (subst (λ (j : ℕ). HasObjects d j c.loop-place.objects) next c.loop-place.invariant.count));
      left = c.loop-place.invariant.left ∙ ap (maker d c.args.first c.args.number) next ∙ maker_before d c.args.first c.args.number k from not;
    }

pub returns : goal.returns
returns g c =
    let d = c.args.session.now.session.document in
    sym (c.loop-place.invariant.left ∙ none_below d c.args.first c.args.number c.loop-place.place (omega (arith, c.loop-place-test.false)))
