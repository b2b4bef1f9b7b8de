-- One place more, or an end.
use Rattle.std.proofs.Common.{◌≡◌, [], ◌+◌, length, ◌∙◌, ap, arith, refl}
use Rattle.std.proofs.lemmas.List.{nil_from_length}
use Rattle.object_texts.specs.Inside.Walking.{unwritten_text}
use Rattle.pickle_io.proofs.Devices.{Writes-stop, WroteAllBut-all}
use Rattle.object_texts.proofs.ReportPieces.{WroteAllBut-same, WroteAllBut-piece, WroteAllBut-broke}
use Rattle.object_texts.proofs.Walks.{left-none, left-popped, left-stepped, smaller-popped, smaller-stepped}
use Rattle.object_texts.proofs.show.go_on.Goals as goal

pub loop-content-smaller : goal.loop-content-smaller
loop-content-smaller g c = smaller-popped _ _ _ _ _ c.in-Some.ensures.items c.in_default-next.ensures

pub loop-content-preserved : goal.loop-content-preserved
loop-content-preserved g c = record {
  wrote = WroteAllBut-same _ _ _ _ _ c.loop-content.invariant.wrote (left-popped _ _ _ _ _ c.in-Some.ensures.items c.in_default-next.ensures);
  seen = c.loop-content.invariant.seen;
  room = omega (arith, c.loop-content.invariant.room, c.in-Some.ensures.len, c.in-Some.ensures.capacity);
}

pub loop-content-smaller-in-Continue-1 : goal.loop-content-smaller-in-Continue-1
loop-content-smaller-in-Continue-1 g c =
    let deep : c.len.result ≡ length c.pop.new.self.items + 1 = omega (arith, c.len.ensures, c.push_reserved.ensures.len) in
    smaller-stepped _ _ _ _ _ _ _ _ _ _ _ c.loop-content.invariant.seen c.in-Some.ensures.items c.in-Some-next.ensures c.push_reserved.ensures.items deep c.in_ok-visit.ensures.seen c.in_ok-visit.ensures.stack

pub loop-content-preserved-in-Continue-1 : goal.loop-content-preserved-in-Continue-1
loop-content-preserved-in-Continue-1 g c =
    let deep : c.len.result ≡ length c.pop.new.self.items + 1 = omega (arith, c.len.ensures, c.push_reserved.ensures.len) in
    record {
      wrote = WroteAllBut-piece _ _ _ _ _ _ _ c.loop-content.invariant.wrote
          (left-stepped _ _ _ _ _ _ _ _ _ _ _ c.loop-content.invariant.seen c.in-Some.ensures.items c.in-Some-next.ensures c.push_reserved.ensures.items deep c.in_ok-visit.ensures.seen c.in_ok-visit.ensures.stack)
          c.in_ok-visit.ensures.line;
      seen = c.in_ok-visit.ensures.length ∙ c.loop-content.invariant.seen;
      room = c.in_ok-visit.ensures.fits;
    }

pub returns-in_err-visit : goal.returns-in_err-visit
returns-in_err-visit g c =
    let deep : c.len.result ≡ length c.pop.new.self.items + 1 = omega (arith, c.len.ensures, c.push_reserved.ensures.len) in
    Writes-stop _ _ c.from_residual.result c.from_residual.result _ c.from_residual.ensures.0
    (WroteAllBut-broke _ _ _ _ _ _ _ c.loop-content.invariant.wrote
    (left-stepped _ _ _ _ _ _ _ _ _ _ _ c.loop-content.invariant.seen c.in-Some.ensures.items c.in-Some-next.ensures c.push_reserved.ensures.items deep refl refl)
    c.in_err-visit.ensures.line)

pub returns : goal.returns
returns g c =
    let none : c.loop-content.stack.items ≡ [] = nil_from_length _ (omega (arith, c.in_default.ensures.cases)) in
    WroteAllBut-all _ _ _ _ c.loop-content.invariant.wrote (ap (unwritten_text c.args.machine.now.state.heap c.loop-content.seen.items) none ∙ left-none _ _)
