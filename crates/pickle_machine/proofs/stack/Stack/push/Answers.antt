use Rattle.std.proofs.Common.{reverse, arith}
use Rattle.pickle_machine.proofs.Flat.{Known, known, put_is, put_stands}
use Rattle.pickle_machine.proofs.stack.Stack.push.Goals as goal

pub index_mut-requires : goal.index_mut-requires
index_mut-requires c = let k : Known c.self.inside.cells.items c.self.inside.height c.self.inside.depth c.self.inside.marks.items c.self.inside.bottom (reverse c.self.inside.older.items) c.args.self.now = known _ _ _ _ _ _ _ c.self.invariant.0 c.self.view_is in omega arith

pub invariant_of-self : goal.invariant_of-self
invariant_of-self c = let k : Known c.self.inside.cells.items c.self.inside.height c.self.inside.depth c.self.inside.marks.items c.self.inside.bottom (reverse c.self.inside.older.items) c.args.self.now = known _ _ _ _ _ _ _ c.self.invariant.0 c.self.view_is in (put_stands _ _ _ _ _ _ _ c.args.id k (omega arith), c.self.invariant.1)

pub returns : goal.returns
returns c = let k : Known c.self.inside.cells.items c.self.inside.height c.self.inside.depth c.self.inside.marks.items c.self.inside.bottom (reverse c.self.inside.older.items) c.args.self.now = known _ _ _ _ _ _ _ c.self.invariant.0 c.self.view_is in put_is _ _ _ _ _ _ _ c.args.id k (omega arith)
