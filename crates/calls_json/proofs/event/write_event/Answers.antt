use Rattle.std.specs.Prelude.{ℕ, List, Option}
use Rattle.pickle_io.specs.Holes.{in_file}
use Rattle.line_buffer.proofs.Lines.{Writes-shown}
use Rattle.calls_json.specs.EventFields.{event_with, event_line}
use Rattle.calls_json.proofs.event.write_event.Goals as goal

pub returns : goal.returns
unfolding event_line
returns g c =
    let written = rw c.in_file.ensures at c.write_event_with.ensures in
    Writes-shown _ _ _ c.new-line.result c.write_line.new.page _ _
    (λ (o : Option (List ℕ)). event_with (in_file c.args.holes.now c.args.offset) o c.args.naming (g.M.Inspect.state c.args.machine.now).heap c.args.event)
    c.new-line.ensures.held c.new-line.ensures.calm c.write_line.ensures written
