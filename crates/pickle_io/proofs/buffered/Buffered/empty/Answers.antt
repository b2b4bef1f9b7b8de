-- All was handed on, and nothing is held.
use Rattle.std.proofs.Common.{◌≡◌, [], take, drop, arith}
use Rattle.std.proofs.lemmas.List.{drop_all}
use Rattle.pickle_io.proofs.Devices.{Writes-stop}
use Rattle.pickle_io.proofs.buffered.Buffered.empty.Goals as goal

pub returns-in_err-handed-clause-told : goal.returns-in_err-handed-clause-told
returns-in_err-handed-clause-told g c =
    let err = c.in_err-handed.was in
    let told = rw err at c.hand_on-place.ensures.told in
    let whole = rw c.deref.ensures.value at told in
    Writes-stop _ _ c.from_residual.result c.from_residual.result _ c.from_residual.ensures.0 whole

pub returns-clause-told : goal.returns-clause-told
returns-clause-told g c =
    let ok = c.in_ok-handed.was in
    let all = rw ok at c.hand_on-place.ensures.all in
    let told = rw ok at c.hand_on-place.ensures.told in
    let held = take c.args.self.now.len c.deref.result.now in
    let none : drop c.hand_on-place.result.0 held ≡ [] = drop_all c.hand_on-place.result.0 held (omega (arith, all)) in
    let handed = rw none at told in
    rw c.deref.ensures.value at handed
