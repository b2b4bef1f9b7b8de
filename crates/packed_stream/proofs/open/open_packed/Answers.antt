use Rattle.packed_stream.proofs.Contents.{is_found, only_found}
use Rattle.packed_stream.proofs.open.open_packed.Goals as goal

pub returns-clause-found : goal.returns-clause-found
returns-clause-found c = is_found c.args.limit c.args.packing c.args.bytes.now c.open_within.result c.open_within.ensures.value

pub returns-clause-only : goal.returns-clause-only
returns-clause-only c = λ content is few. only_found c.args.limit c.args.packing c.args.bytes.now content c.open_within.result is few c.open_within.ensures.value
