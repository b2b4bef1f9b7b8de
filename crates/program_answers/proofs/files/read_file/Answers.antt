use Rattle.std.proofs.Common.{refl}
use Rattle.program_answers.specs.Files.{reports}
use Rattle.program_answers.proofs.HalfRead.{half_read}
use Rattle.program_answers.proofs.files.read_file.Goals as goal

pub returns-in_err-read_limited-clause-unread : goal.returns-in_err-read_limited-clause-unread
returns-in_err-read_limited-clause-unread g c =
    let h = c.in_err-read_limited.ensures in
    half_read (reports g.F.Files.bytes_of g.F.Files.refuses g.F.Opened.Source.remaining g.F.Opened.Source.failures g.F.Files.took g.F.Files.loses) _ _
    c.in_ok-file.file c.read_limited.new.source _ _ _ c.in_ok-file.ensures.opened refl h.stopped h.failed h.calm c.from_residual-in_err-read_limited.ensures.1
