use Rattle.source_script.specs.SourceText.{statements}
use Rattle.source_script.proofs.written.write_statements.Goals as goal

pub returns : goal.returns
unfolding statements
returns g c = c.write_source.ensures
