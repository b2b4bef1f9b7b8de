-- What is answered of the run that was made.
use Rattle.std.proofs.Common.{◌≡◌, ℕ, Bool, List, refl}
use Rattle.pickle_io.specs.Device.{Told, Wrote, Broke}
use Rattle.pickle_machine.specs.State.{State}
use Rattle.pickle_text.specs.declared.closing.Closing.{Closing}
use Rattle.object_texts.specs.Inside.Ending.{EndsIn}
use Rattle.pickle_text.specs.Closing.{closing_status}
use Rattle.objects_json.specs.Objects.{objects_text, objects_output, WroteObjects, BrokeObjects}

pub wrote_objects : (many loose : Bool) (bytes : List ℕ) (s : State) (c : Closing) (a b : Told) (status : ℕ) → EndsIn many loose bytes s c → status ≡ closing_status c
    → Wrote a b (objects_text s.heap s.results c) → WroteObjects many loose bytes a b status
wrote_objects many loose bytes s c a b status e same w = (objects_output s c, (s, c, e, refl), w, same)

pub broke_objects : (many loose : Bool) (bytes : List ℕ) (s : State) (c : Closing) (a b : Told) → EndsIn many loose bytes s c → Broke a b (objects_text s.heap s.results c)
    → BrokeObjects many loose bytes a b
broke_objects many loose bytes s c a b e w = (objects_output s c, (s, c, e, refl), w)
