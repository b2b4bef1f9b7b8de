-- The slots and the map are all entries.
use Rattle.std.proofs.Common.{List, ℕ, subst}
use Rattle.pickle_io.specs.Device.{Writes}
use Rattle.object_texts.proofs.Memos.{slots_then_map}
use Rattle.object_texts.proofs.memo.write_entries.Goals as goal

pub returns : goal.returns
returns g c =
    subst (λ (text : List ℕ). Writes (g.S.Sink.told c.args.page.now) (g.S.Sink.told c.write_parts.new.page) c.write_parts.result text) (slots_then_map c.parts.result.0.now c.parts.result.1.now.entries _ c.parts.ensures)
    c.write_parts.ensures
