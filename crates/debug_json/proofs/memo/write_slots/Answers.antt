-- One slot more, or an end.
use Rattle.std.proofs.Common.{true, [], ap, refl, ◌∙◌, arith}
use Rattle.std.proofs.lemmas.List.{take_all}
use Rattle.pickle_io.proofs.Devices.{Writes-stop}
use Rattle.pickle_machine.specs.Kept.{kept}
use Rattle.debug_json.specs.Inside.Led.{still}
use Rattle.debug_json.proofs.Memos.{slots-none, slots-next, slots-stopped, slots-all, still-next}
use Rattle.debug_json.proofs.memo.write_slots.Goals as goal

pub loop-key-init : goal.loop-key-init
loop-key-init g c = record { wrote = slots-none _ c.args.slots.now; first = refl }

pub returns-in_err-first-clause-text : goal.returns-in_err-first-clause-text
returns-in_err-first-clause-text g c =
    Writes-stop _ _ c.from_residual.result c.from_residual.result _ c.from_residual.ensures.0
    (slots-stopped _ _ _ c.args.slots.now c.loop-key.key _ c.loop-key.first c.loop-key-test.true c.loop-key.invariant.first c.in_err-first.ensures.text c.loop-key.invariant.wrote)

pub loop-key-preserved : goal.loop-key-preserved
loop-key-preserved g c = record {
  wrote = slots-next _ _ _ c.args.slots.now c.loop-key.key _ c.loop-key.first c.loop-key-test.true c.loop-key.invariant.first c.in_ok-first.ensures.text c.loop-key.invariant.wrote;
  first = still-next c.args.slots.now c.loop-key.key _ c.loop-key.first _ c.loop-key-test.true c.loop-key.invariant.first c.in_ok-first.ensures.still;
}

pub returns-clause-text : goal.returns-clause-text
returns-clause-text g c = slots-all _ _ c.args.slots.now c.loop-key.key (omega (arith, c.loop-key-test.false)) c.loop-key.invariant.wrote

pub returns-clause-still : goal.returns-clause-still
returns-clause-still g c =
    c.loop-key.invariant.first ∙ ap (λ xs. still true (kept 0 xs [])) (take_all c.loop-key.key c.args.slots.now (omega (arith, c.loop-key-test.false)))
