use Rattle.std.proofs.Common.{arith}
use Rattle.pickle_json.proofs.Pieces.{roomy_steps}
use Rattle.pickle_json.specs.ItemFields.{lowest_first_fields}
use Rattle.pickle_json.proofs.item.write_lowest_first.Goals as goal

pub returns-in_err-write_hex_field : goal.returns-in_err-write_hex_field
unfolding lowest_first_fields
returns-in_err-write_hex_field g c = grind (arith, roomy_steps)

pub returns : goal.returns
unfolding lowest_first_fields
returns g c = grind (arith, roomy_steps)
