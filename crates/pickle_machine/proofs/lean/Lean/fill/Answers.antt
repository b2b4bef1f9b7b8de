use Rattle.std.proofs.Common.{ℕ, ap, ◌∙◌}
use Rattle.pickle_ops.specs.Row.{values_of}
use Rattle.pickle_machine.specs.Move.{last_of, without, changes_of}
use Rattle.pickle_machine.specs.Outline.{outline}
use Rattle.pickle_machine.proofs.Outlines.{outline_changed}
use Rattle.pickle_machine.proofs.lean.Lean.fill.Goals as goal

pub returns : goal.returns
returns c =
    outline_changed (changes_of c.args.filling (last_of (values_of c.args.filling) c.args.self.now)) (without (values_of c.args.filling) c.args.self.now) c.lose.new.self
    (c.lose.ensures ∙ ap (λ (n : ℕ). outline (without n c.args.self.now)) c.values.ensures)
