use Rattle.std.proofs.Common.{refl, ap, arith}
use Rattle.pickle_machine.specs.Held.{Held}
use Rattle.pickle_text.proofs.Sources.{bytes_give}
use Rattle.source_script.proofs.SourceTexts.{all_wrote, some_wrote}
use Rattle.source_script.proofs.written.write_source_of.Goals as goal

pub walk_items-requires : goal.walk_items-requires
walk_items-requires g c κs =
    ((refl, tt), (ap (λ (m : Held). m.state) c.start-machine.ensures, rw c.new_as.ensures (bytes_give c.args.many c.args.loose c.args.bytes.now (λ i. omega (arith, c.type_inv.bytes i)) c.requires)))

pub returns-in_err-write_whole : goal.returns-in_err-write_whole
returns-in_err-write_whole g c =
    some_wrote c.args.many c.args.loose c.args.bytes.now c.in_ok-python.python.texts _ c.in_ok-tale.tale.facts.items c.in_ok-tale.tale.acts.items c.in_ok-tale.tale.closing g.S.Sink.told _ _ _
    c.from_residual-in_err-write_whole.ensures.1 (rw c.new_as.ensures at c.in_ok-tale.ensures.tale) c.in_ok-python.ensures (rw (c.behind-left.ensures) at c.in_err-write_whole.ensures)

pub returns : goal.returns
returns g c =
    all_wrote c.args.many c.args.loose c.args.bytes.now c.in_ok-python.python.texts _ c.in_ok-tale.tale.facts.items c.in_ok-tale.tale.acts.items c.in_ok-tale.tale.closing g.S.Sink.told _ _ _
    (rw c.new_as.ensures at c.in_ok-tale.ensures.tale) c.in_ok-python.ensures c.status_of.ensures (rw (c.behind-left.ensures) at c.in_ok-write_whole.ensures)
