use Rattle.std.proofs.Common.{reverse, arith}
use Rattle.pickle_machine.proofs.Flat.{Known, known}
use Rattle.pickle_machine.proofs.stack.Stack.is_within_rooms.Goals as goal

pub returns-then-self-len-clause-cells : goal.returns-then-self-len-clause-cells
returns-then-self-len-clause-cells c = let k : Known c.self.inside.cells.items c.self.inside.height c.self.inside.depth c.self.inside.marks.items c.self.inside.bottom (reverse c.self.inside.older.items) c.args.self.now = known _ _ _ _ _ _ _ c.self.invariant.0 c.self.view_is in omega arith

pub returns-then-self-len-clause-marks : goal.returns-then-self-len-clause-marks
returns-then-self-len-clause-marks c = let k : Known c.self.inside.cells.items c.self.inside.height c.self.inside.depth c.self.inside.marks.items c.self.inside.bottom (reverse c.self.inside.older.items) c.args.self.now = known _ _ _ _ _ _ _ c.self.invariant.0 c.self.view_is in omega arith
