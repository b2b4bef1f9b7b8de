use Rattle.std.proofs.Common.{List, ℕ, refl, subst, arith}
use Rattle.program_answers.specs.Device.{device_of}
use Rattle.program_answers.specs.Gated.{IsNamedAnswer, TookNamed}
use Rattle.program_answers.proofs.AtDevice.{says_took, named_took}
use Rattle.program_answers.proofs.gate.answer_named.Goals as goal

pub returns-clause-took : goal.returns-clause-took
returns-clause-took g c =
    let h = c.write_out.ensures in
    let t = says_took (IsNamedAnswer c.args.format c.as_bytes.result.now c.args.list.now c.args.bytes.now) _ _ _ _ _ _ _ _ _ c.write_named-written.ensures h.passed h.calm (λ e. rw (h.untouched e) refl) h.failed refl refl c.requires.handed h.handed in
    subst (λ (name : List ℕ). TookNamed c.args.format c.args.list.now name c.args.bytes.now (g.K.Sink.told (device_of c.args.page.now)) (g.K.Sink.told (device_of c.write_out.new.sink)) c.write_out.result)
    c.as_bytes.ensures.value
    (named_took c.args.format c.args.list.now c.as_bytes.result.now c.args.bytes.now _ _ _ (λ i. omega (arith, c.type_inv.bytes i)) c.requires.few t)
