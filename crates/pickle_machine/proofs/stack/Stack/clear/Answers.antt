use Rattle.std.proofs.Common.{◌≤◌, length, reverse, refl, arith}
use Rattle.pickle_machine.proofs.Flat.{Known, known, clear_is, clear_stands, base_at_bottom}
use Rattle.pickle_machine.proofs.stack.Stack.clear.Goals as goal

pub invariant_of-self : goal.invariant_of-self
invariant_of-self c = let k : Known c.self.inside.cells.items c.self.inside.height c.self.inside.depth c.self.inside.marks.items c.self.inside.bottom (reverse c.self.inside.older.items) c.args.self.now = known _ _ _ _ _ _ _ c.self.invariant.0 c.self.view_is in let deep : c.self.inside.bottom.depth ≤ length c.self.inside.marks.items = omega (arith, k.low, k.deep) in (clear_stands _ _ _ _ _ _ _ k, base_at_bottom _ _ _ _ refl deep)

pub returns : goal.returns
returns c = let k : Known c.self.inside.cells.items c.self.inside.height c.self.inside.depth c.self.inside.marks.items c.self.inside.bottom (reverse c.self.inside.older.items) c.args.self.now = known _ _ _ _ _ _ _ c.self.invariant.0 c.self.view_is in clear_is _ _ _ _ _ _ _ k
