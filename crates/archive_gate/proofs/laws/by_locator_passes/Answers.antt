use Rattle.zip_archive.specs.Reader.{told_by_locator}
use Rattle.zip_archive.proofs.Told.{by_locator_agrees}
use Rattle.archive_gate.proofs.Passing.{each_passes}
use Rattle.archive_gate.proofs.laws.by_locator_passes.Goals as goal

pub returns : goal.returns
returns c = each_passes told_by_locator by_locator_agrees
