-- One entry more, or an end.
use Rattle.std.proofs.Common.{ap, ◌∙◌}
use Rattle.pickle_io.specs.Device.{each}
use Rattle.pickle_io.proofs.Devices.{WroteAllBut-all, Writes-stop, each-cons, each-nil}
use Rattle.object_texts.specs.MemoText.{entry_text}
use Rattle.object_texts.proofs.ReportPieces.{WroteAllBut-piece, WroteAllBut-broke}
use Rattle.object_texts.proofs.memo.write_map.Goals as goal

pub loop-key-preserved : goal.loop-key-preserved
loop-key-preserved g c =
    WroteAllBut-piece _ _ _ _ _ _ _ c.loop-key.invariant (ap (each entry_text) c.in-Some.ensures.steps ∙ each-cons entry_text (c.in-Some.key.now, c.in-Some.id.now) c.next.new.self) c.in_ok-write_entry.ensures

pub returns-in_err-write_entry : goal.returns-in_err-write_entry
returns-in_err-write_entry g c =
    Writes-stop _ _ c.from_residual.result c.from_residual.result _ c.from_residual.ensures.0
    (WroteAllBut-broke _ _ _ _ _ _ _ c.loop-key.invariant (ap (each entry_text) c.in-Some.ensures.steps ∙ each-cons entry_text (c.in-Some.key.now, c.in-Some.id.now) c.next.new.self) c.in_err-write_entry.ensures)

pub returns : goal.returns
returns g c = WroteAllBut-all _ _ _ _ c.loop-key.invariant (ap (each entry_text) c.in_default.ensures.steps.0 ∙ each-nil entry_text)
