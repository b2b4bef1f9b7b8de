use Rattle.zip_archive.specs.Reader.{told_before}
use Rattle.zip_archive.proofs.Told.{by_place_agrees}
use Rattle.archive_gate.proofs.Passing.{each_passes}
use Rattle.archive_gate.proofs.laws.by_place_passes.Goals as goal

pub returns : goal.returns
returns c = each_passes told_before by_place_agrees
