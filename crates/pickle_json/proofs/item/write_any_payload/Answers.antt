use Rattle.std.proofs.Common.{arith}
use Rattle.pickle_json.proofs.Pieces.{roomy_steps}
use Rattle.pickle_json.specs.ItemFields.{payload_fields}
use Rattle.pickle_json.proofs.item.write_any_payload.Goals as goal

pub returns-in_err-write_bytes_field : goal.returns-in_err-write_bytes_field
unfolding payload_fields
returns-in_err-write_bytes_field g c = grind (arith, roomy_steps)

pub returns : goal.returns
unfolding payload_fields
returns g c = grind (arith, roomy_steps)
