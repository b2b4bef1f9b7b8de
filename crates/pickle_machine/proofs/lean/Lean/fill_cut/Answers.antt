use Rattle.pickle_machine.specs.Move.{cut, changes_of}
use Rattle.pickle_machine.proofs.Outlines.{outline_changed}
use Rattle.pickle_machine.proofs.lean.Lean.fill_cut.Goals as goal

pub returns : goal.returns
returns c = outline_changed (changes_of c.args.filling c.args.self.now.top) (cut c.args.self.now) c.lose_cut.new.self c.lose_cut.ensures
