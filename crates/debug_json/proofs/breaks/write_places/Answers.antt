-- One place more, or the sink fails.
use Rattle.std.proofs.Common.{◌≡◌, ◌<◌, length, ap, arith}
use Rattle.pickle_doc.specs.Document.{Contents, items_of}
use Rattle.pickle_io.proofs.Devices.{Writes-stop}
use Rattle.json_lines.specs.Line.{whole}
use Rattle.pickle_session.specs.Session.{len_of}
use Rattle.debug_json.specs.OwnFields.{break_at}
use Rattle.debug_json.proofs.Picks.{picked-next, picked-stopped, picked-count, count-few}
use Rattle.debug_json.proofs.breaks.write_places.Goals as goal

pub loop-place-preserved : goal.loop-place-preserved
loop-place-preserved g c =
    let find = break_at c.args.session.now.session in
    record {
      wrote = picked-next whole find _ _ _ c.loop-place.place _ _ c.break_at.ensures c.loop-place.invariant.count c.in_ok-count.ensures.text c.loop-place.invariant.wrote;
      count = picked-count find c.loop-place.place _ _ _ c.break_at.ensures c.loop-place.invariant.count c.in_ok-count.ensures.count;
      few = count-few _ c.loop-place.place _ _ c.loop-place.invariant.few c.in_ok-count.ensures.count;
    }

pub returns-in_err-count : goal.returns-in_err-count
returns-in_err-count g c =
    let d = c.args.session.now.session.document in
    let find = break_at c.args.session.now.session in
    let same : length (items_of c.document.result.now.contents) ≡ length (items_of d) = ap (λ (x : Contents). length (items_of x)) c.document.ensures in
    let within : c.loop-place.place < len_of d = omega (arith, c.loop-place-test.true, c.len-place-end.ensures.value, same) in
    Writes-stop _ _ c.from_residual.result c.from_residual.result _ c.from_residual.ensures.0
    (picked-stopped whole find _ _ _ c.loop-place.place _ _ _ c.break_at.ensures c.loop-place.invariant.count within c.in_err-count.ensures.text c.loop-place.invariant.wrote)
