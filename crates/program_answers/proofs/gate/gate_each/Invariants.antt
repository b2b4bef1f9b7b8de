-- What the loop over the files behind the first keeps.
use Rattle.std.proofs.Common.{◌≡◌, ◌∷◌, drop, map}
use Rattle.std.specs.String.{string_bytes}
use Rattle.pickle_io.specs.Device.{holding, held_in}
use Rattle.program_answers.specs.Files.{reports}
use Rattle.program_answers.proofs.Gates.{IsLeft}
use Rattle.program_answers.proofs.gate.gate_each.Given as goal

abbrev pub invariant-loop-name : goal.invariant-loop-name
invariant-loop-name g l = record {
  handed : (holding (g.K.Sink.told l.page.sink) (held_in l.page.text.items l.page.start l.page.len)).held ≡ 0;
  left : IsLeft l.format l.list (map string_bytes (drop l.name-index l.more)) (l.first ∷ map string_bytes l.more)
      (reports g.F.Files.bytes_of g.F.Files.refuses g.F.Opened.Source.remaining g.F.Opened.Source.failures g.F.Files.took g.F.Files.loses) l.files
      (g.K.Sink.told l.fn.page.sink) (g.K.Sink.told l.page.sink) l.status;
}
