use Rattle.std.proofs.Common.{◌<◌, ◌≤◌, length, [], Ok, ap, refl, append-nil, arith, ◌∙◌}
use Rattle.std.proofs.KnownBytes.{Consumes-trans}
use Rattle.json_conversation.proofs.Feeding.{fed_on, fed_quit}
use Rattle.pickle_script.proofs.Endings.{gave_nothing}
use Rattle.json_conversation.proofs.Endings.{nothing_yet, broke_since, broke_at_end, finishes_whole, finishes_quit, breaks_at_end, breaks_before}
use Rattle.json_conversation.proofs.talk.go_on.Goals as goal

pub turns-init : goal.turns-init
turns-init g c = record { moment = nothing_yet _ _ _ _ c.requires.pending; calm = refl; handed = c.requires.handed }

pub returns-in_err-finish-clause-writing : goal.returns-in_err-finish-clause-writing
returns-in_err-finish-clause-writing g c = λ stop.
    let m = c.turns.invariant.moment in
    let room : 0 < length c.read_after.new.buffer = omega (arith, c.read_after.auto.buffer) in
    let gave = gave_nothing _ _ _ _ _ _ m.gave c.in-Ok.ensures.given c.if-count-eq0.true in
    let since = broke_at_end _ _ _ _ _ _ _ m.so_far c.turns.invariant.handed c.in_err-finish.ensures.writes.0 c.in_err-finish.ensures.writes.1 in
    breaks_at_end _ _ _ _ _ _ _ gave (c.in-Ok.ensures.end c.if-count-eq0.true room) (c.in_err-finish.ensures.ends _ _ m.given m.so_far) since

pub returns-then-count-eq0-clause-finishes : goal.returns-then-count-eq0-clause-finishes
returns-then-count-eq0-clause-finishes g c =
    let m = c.turns.invariant.moment in
    let room : 0 < length c.read_after.new.buffer = omega (arith, c.read_after.auto.buffer) in
    let gave = gave_nothing _ _ _ _ _ _ m.gave c.in-Ok.ensures.given c.if-count-eq0.true in
    finishes_whole _ _ _ _ _ _ _ _ gave (c.in-Ok.ensures.end c.if-count-eq0.true room) (c.in_ok-finish.ensures.ends _ _ m.given m.so_far)

pub returns-in_err-feed-clause-writing : goal.returns-in_err-feed-clause-writing
returns-in_err-feed-clause-writing g c = λ stop.
    let m = c.turns.invariant.moment in
    let gave = Consumes-trans _ _ _ _ _ m.gave c.in-Ok.ensures.given in
    let size : length c.read_after.new.buffer ≤ 65536 = omega (arith, c.read_after.auto.buffer) in
    breaks_before _ _ _ _ _ _ _ gave (c.in_err-feed.ensures.feeds _ _ m.given m.so_far)
    (broke_since _ _ _ _ _ m.given _ _ _ m.so_far c.turns.invariant.handed c.in-Ok.ensures.within size c.in_err-feed.ensures.writes.0 c.in_err-feed.ensures.writes.1)

pub returns-in-Quits-clause-finishes : goal.returns-in-Quits-clause-finishes
returns-in-Quits-clause-finishes g c =
    let m = c.turns.invariant.moment in
    let f = c.in_ok-feed.ensures.feeds _ _ m.given m.so_far in
    let gave = Consumes-trans _ _ _ _ _ m.gave c.in-Ok.ensures.given in
    let quit = fed_quit _ _ _ _ _ [] _ _ _ f (ap Ok c.in-Quits.is) (append-nil _) in
    finishes_quit _ _ _ _ _ _ _ _ _ gave quit c.status.ensures

pub turns-preserved : goal.turns-preserved
turns-preserved g c =
    let m = c.turns.invariant.moment in
    let f = c.in_ok-feed.ensures.feeds _ _ m.given m.so_far in
    let gave = Consumes-trans _ _ _ _ _ m.gave c.in-Ok.ensures.given in
    let on = fed_on _ _ _ _ _ _ _ _ f (ap Ok c.in-GoesOn.is) refl in
    record {
      moment = record { given = _; gave = gave; so_far = on };
      calm = c.in-Ok.ensures.calm ∙ c.turns.invariant.calm;
      handed = c.in_ok-feed.ensures.handed c.turns.invariant.handed;
    }
