-- An entry, or none.
use Rattle.std.proofs.Common.{List, ℕ, subst}
use Rattle.pickle_io.specs.Device.{Writes}
use Rattle.object_texts.proofs.Memos.{slot-one, slot-none}
use Rattle.object_texts.proofs.memo.write_slot.Goals as goal

pub returns-in-Some : goal.returns-in-Some
returns-in-Some g c =
    rw c.in-Some.is
    (subst (λ (text : List ℕ). Writes (g.S.Sink.told c.args.page.now) (g.S.Sink.told c.write_entry.new.page) c.write_entry.result text) (slot-one c.args.key c.in-Some.id) c.write_entry.ensures)

pub returns-in-None : goal.returns-in-None
returns-in-None g c = rw c.in-None.is (slot-none _)
