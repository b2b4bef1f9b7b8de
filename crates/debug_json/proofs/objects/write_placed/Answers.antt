-- An object that is there, or none.
use Rattle.std.proofs.Common.{refl}
use Rattle.std.proofs.lemmas.Option.{slice_get_past, slice_get_read}
use Rattle.debug_json.specs.ShownFields.{heap_json}
use Rattle.debug_json.proofs.Ranges.{placed-none, Writes-placed}
use Rattle.debug_json.proofs.objects.write_placed.Goals as goal

pub returns-in-None : goal.returns-in-None
returns-in-None g c = placed-none _ heap_json _ _ _ (slice_get_past _ _ c.in-None.ensures.lookup.3)

pub returns-in-Some : goal.returns-in-Some
returns-in-Some g c = Writes-placed _ _ _ heap_json _ _ _ _ (slice_get_read _ _ _ _ refl c.in-Some.ensures.lookup.3.0 c.in-Some.ensures.lookup.1) c.write_next.ensures
