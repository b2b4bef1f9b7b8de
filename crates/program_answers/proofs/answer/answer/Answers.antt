use Rattle.std.proofs.Common.{ℕ, List, map, ap, Bor, ◌∙◌}
use Rattle.std.specs.String.{string_bytes}
use Rattle.program_answers.specs.Files.{reports}
use Rattle.program_answers.proofs.AtDevice.{words_answered}
use Rattle.program_answers.proofs.answer.answer.Goals as goal

pub returns-in-Ok-texts_of : goal.returns-in-Ok-texts_of
returns-in-Ok-texts_of g c =
    words_answered (reports g.F.Files.bytes_of g.F.Files.refuses g.F.Opened.Source.remaining g.F.Opened.Source.failures g.F.Files.took g.F.Files.loses) _ _ _ _ _ _ _ _ _ _ _ _
    c.in-Ok.ensures.stand
    (ap (map (λ (t : Bor (List ℕ)). t.now)) c.as_slice-in-Ok-texts_of.ensures.value ∙ c.in-Ok-texts_of.ensures ∙ ap (map string_bytes) c.as_slice.ensures.value)
    c.answer_words.ensures
