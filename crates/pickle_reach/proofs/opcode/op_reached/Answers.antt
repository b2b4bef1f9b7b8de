use Rattle.std.proofs.Common.{subst, List, ℕ}
use Rattle.pickle_lenient.specs.Stream.{IsNotTaken}
use Rattle.pickle_reach.proofs.Alike.{rest_whole}
use Rattle.pickle_reach.proofs.Walks.{no_reach}
use Rattle.pickle_reach.proofs.opcode.op_reached.Goals as goal

pub unreachable-requires : goal.unreachable-requires
unreachable-requires c =
    no_reach c.args.granted c.args.bytes.now c.args.frames c.args.spot c.in-Err-Fault.field-0 c.in-Err-Fault.field-0-0 c.in-Err-Fault.field-0-is
    (subst (λ (b : List ℕ). IsNotTaken c.args.frames c.args.spot.left b c.in-Err-Fault.field-0) (rest_whole c.args.spot.offset c.args.bytes.now) c.in-Err-Fault.ensures.err) c.requires.reaches
