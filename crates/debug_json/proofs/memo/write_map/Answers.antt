-- One entry more, or an end.
use Rattle.std.proofs.Common.{ap, ◌∙◌}
use Rattle.pickle_io.proofs.Devices.{WroteAllBut-all, Writes-stop}
use Rattle.object_texts.proofs.ReportPieces.{WroteAllBut-piece, WroteAllBut-broke}
use Rattle.debug_json.specs.Inside.Led.{led}
use Rattle.debug_json.proofs.Memos.{led-more, led-none}
use Rattle.debug_json.proofs.memo.write_map.Goals as goal

pub loop-key-preserved : goal.loop-key-preserved
loop-key-preserved g c =
    WroteAllBut-piece _ _ _ _ _ _ _ c.loop-key.invariant (ap (led c.loop-key.first) c.in-Some.ensures.steps ∙ led-more c.loop-key.first (c.in-Some.key.now, c.in-Some.id.now) c.next.new.self)
    c.in_ok-write_next.ensures

pub returns-in_err-write_next : goal.returns-in_err-write_next
returns-in_err-write_next g c =
    Writes-stop _ _ c.from_residual.result c.from_residual.result _ c.from_residual.ensures.0
    (WroteAllBut-broke _ _ _ _ _ _ _ c.loop-key.invariant
    (ap (led c.loop-key.first) c.in-Some.ensures.steps ∙ led-more c.loop-key.first (c.in-Some.key.now, c.in-Some.id.now) c.next.new.self) c.in_err-write_next.ensures)

pub returns : goal.returns
returns g c = WroteAllBut-all _ _ _ _ c.loop-key.invariant (ap (led c.loop-key.first) c.in_default.ensures.steps.0 ∙ led-none c.loop-key.first)
