-- One character more, and a failure.
use Rattle.std.proofs.Common.{rules}
use Rattle.pickle_io.proofs.Devices.{Writes-stop}
use Rattle.pickle_names.proofs.Turns.{writing-none, writing-next, writing-stopped}
use Rattle.pickle_names.proofs.value.write_characters.Goals as goal

pub loop-preserved : goal.loop-preserved
loop-preserved g c =
    rw c.behind-rest.ensures (writing-next c.args.coding c.args.most c.loop.counter c.in-Some.byte.now c.args.bytes.now c.loop.rest.now c.in-Some.more.now c.in-Some-front_of.piece _ _ _
    c.loop-test.true (search rules) (search rules) (search rules) c.loop.invariant)

pub returns-in_err-write_piece : goal.returns-in_err-write_piece
returns-in_err-write_piece g c =
    Writes-stop _ _ c.from_residual.result c.from_residual.result _ c.from_residual.ensures.0
    (writing-stopped c.args.coding c.args.most c.loop.counter c.in-Some.byte.now c.args.bytes.now c.loop.rest.now c.in-Some.more.now c.in-Some-front_of.piece _ _ _
    c.loop-test.true (search rules) (search rules) c.in_err-write_piece.ensures c.loop.invariant)

pub loop-init : goal.loop-init
loop-init g c = writing-none c.args.coding c.args.most c.args.bytes.now _
