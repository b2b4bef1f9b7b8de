use Rattle.std.proofs.Common.{◌∷◌, map, arith}
use Rattle.std.specs.String.{string_bytes}
use Rattle.program_answers.specs.Device.{device_of}
use Rattle.program_answers.specs.Files.{reports}
use Rattle.program_answers.proofs.Gates.{from_first, stopped_first, went_on, stopped_at, all_told}
use Rattle.program_answers.proofs.gate.gate_each.Goals as goal

pub returns-in_err-status-clause-gates : goal.returns-in_err-status-clause-gates
returns-in_err-status-clause-gates g c = stopped_first _ _ _ _ _ _ _ _ _ _ c.from_residual.ensures.1 c.in_err-status.ensures.gates

pub loop-name-init : goal.loop-name-init
loop-name-init g c = record {
  handed = c.in_ok-status.ensures.handed (λ e. absurd cc);
  left = from_first _ _ _ _ _ _ _ _ _ c.in_ok-status.ensures.gates;
}

pub returns-in_err-next-clause-gates : goal.returns-in_err-next-clause-gates
returns-in_err-next-clause-gates g c =
    stopped_at _ string_bytes c.args.more.now c.loop-name.name-index _ c.args.list.now _ (c.args.first.now ∷ map string_bytes c.args.more.now) _ _ (g.K.Sink.told (device_of c.args.page.now)) (g.K.Sink.told (device_of c.loop-name.page)) _ c.loop-name.status _ _
    c.loop-name-test.true c.name-item.is c.as_str.ensures.value c.in_err-next.ensures.gates c.from_residual-in_err-next.ensures.1 c.loop-name.invariant.left

pub loop-name-preserved : goal.loop-name-preserved
loop-name-preserved g c = record {
  handed = c.in_ok-next.ensures.handed (λ e. absurd cc);
  left = went_on _ string_bytes c.args.more.now c.loop-name.name-index _ c.args.list.now _ (c.args.first.now ∷ map string_bytes c.args.more.now) _ _ (g.K.Sink.told (device_of c.args.page.now)) (g.K.Sink.told (device_of c.loop-name.page)) _ c.loop-name.status _ _
      c.loop-name-test.true c.name-item.is c.as_str.ensures.value c.first_other-status.ensures c.in_ok-next.ensures.gates c.loop-name.invariant.left;
}

pub returns-clause-gates : goal.returns-clause-gates
returns-clause-gates g c =
    all_told c.args.format string_bytes c.args.more.now c.loop-name.name-index c.args.list.now (c.args.first.now ∷ map string_bytes c.args.more.now)
    (reports g.F.Files.bytes_of g.F.Files.refuses g.F.Opened.Source.remaining g.F.Opened.Source.failures g.F.Files.took g.F.Files.loses) c.args.files.now (g.K.Sink.told (device_of c.args.page.now)) (g.K.Sink.told (device_of c.loop-name.page)) c.loop-name.status
    (omega (arith, c.loop-name-test.false)) c.loop-name.invariant.left
