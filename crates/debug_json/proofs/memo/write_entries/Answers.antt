-- The slots and the map are all entries.
use Rattle.std.proofs.Common.{List, ℕ, subst}
use Rattle.pickle_io.specs.Device.{Writes}
use Rattle.debug_json.specs.Inside.Led.{led}
use Rattle.debug_json.proofs.memo.write_entries.Goals as goal
use Rattle.std.specs.Prelude.{true}

pub returns : goal.returns
returns g c =
    subst (λ (es : List (ℕ × ℕ)). Writes (g.P.Sink.told c.args.page.now) (g.P.Sink.told c.write_parts.new.page) c.write_parts.result (led true es)) c.parts.ensures c.write_parts.ensures
