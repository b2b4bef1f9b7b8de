use Rattle.std.proofs.Common.{◌≡◌, ◌<◌, ◌≤◌, sym, ap, ◌∙◌, arith}
use Rattle.pickle_ops.specs.Spelling.{size_of}
use Rattle.pickle_form.specs.Run.{Run, is_large}
use Rattle.std.specs.Prelude.{ℕ, ◌+◌, if◌then◌else◌}
use Rattle.pickle_form.proofs.Usual.{usual_in_frame, usual_early, loose_outside}
use Rattle.pickle_form.proofs.run.Run.take.Goals as goal

pub returns-then-self-gt0-clause-why : goal.returns-then-self-gt0-clause-why
returns-then-self-gt0-clause-why c =
    let left : c.self.inside.left ≡ c.args.self.now.left = ap (λ (r : Run). r.left) c.self.view_is in
    usual_in_frame c.args.op.now c.args.self.now (c.is_usual.ensures c.if-not-is_usual.false) (omega (arith, left, c.if-self-gt0.true))

pub pass-requires-2-clause-loose : goal.pass-requires-2-clause-loose
pass-requires-2-clause-loose c =
    let left : c.self.inside.left ≡ c.args.self.now.left = ap (λ (r : Run). r.left) c.self.view_is in
    c.loose_outside-loose.ensures
    ∙ ap (λ (n : ℕ). if is_large n then 0 else c.args.self.now.loose + n) c.size-size.ensures
    ∙ sym (loose_outside c.args.op.now c.args.self.now (c.is_usual.ensures c.if-not-is_usual.false) (omega (arith, left, c.if-self-gt0.false)))

pub returns-clause-why : goal.returns-clause-why
returns-clause-why c =
    let first : c.self.inside.first ≡ c.args.self.now.first = ap (λ (r : Run). r.first) c.self.view_is in
    usual_early c.args.op.now c.args.self.now (c.is_usual.ensures c.if-not-is_usual.false) (omega (arith, first, c.if-self-ge4.false))
