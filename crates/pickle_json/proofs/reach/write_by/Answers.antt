use Rattle.std.proofs.Common.{arith}
use Rattle.json_lines.proofs.Lines.{fields_steps}
use Rattle.pickle_json.specs.ReachFields.{by_fields}
use Rattle.pickle_json.proofs.reach.write_by.Goals as goal

pub returns-in_err-write_how : goal.returns-in_err-write_how
unfolding by_fields
returns-in_err-write_how g c = grind (arith, fields_steps)

pub returns-in_err-write_head : goal.returns-in_err-write_head
unfolding by_fields
returns-in_err-write_head g c = grind (arith, fields_steps)

pub returns : goal.returns
unfolding by_fields
returns g c = grind (arith, fields_steps)
