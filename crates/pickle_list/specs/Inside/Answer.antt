-- What a listing answers when its last lines were to be written.
use Rattle.std.specs.Prelude.{◌≡◌, ⊤, Result, Ok, Err, MatchResult}
use Rattle.pickle_io.specs.declared.sink.Failed.{Failed}
use Rattle.pickle_text.specs.declared.stop.TextStop.{TextStop}
use Rattle.pickle_text.specs.declared.stop.TextStop.TheVariants as stop

-- this, where they were written
abbrev pub IsAnswer : {A : Type 0} → Result ⊤ Failed → A → Result A TextStop → Type 0
IsAnswer closed value answer = MatchResult closed (λ _. answer ≡ Ok value) (λ _. answer ≡ Err stop.Failed)
