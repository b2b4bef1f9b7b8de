use Rattle.std.proofs.Common.{arith}
use Rattle.pickle_io.proofs.Devices.{text_steps}
use Rattle.objects_json.specs.Objects.{objects_text}
use Rattle.objects_json.proofs.objects.write_all_lines.Goals as goal

pub returns-in_err-write_heap : goal.returns-in_err-write_heap
unfolding objects_text
returns-in_err-write_heap g c = grind (arith, text_steps)

pub returns-in_err-write_results : goal.returns-in_err-write_results
unfolding objects_text
returns-in_err-write_results g c = grind (arith, text_steps)

pub returns : goal.returns
unfolding objects_text
returns g c = grind (arith, text_steps)
