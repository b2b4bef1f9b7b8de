use Rattle.json_lines.proofs.Lines.{no_numbers}
use Rattle.json_lines.proofs.array.write_numbers.Goals as goal

pub returns-in-None : goal.returns-in-None
returns-in-None g c = no_numbers _ c.args.numbers.now c.in-None.ensures.cases
