-- What a listing that is cut short leaves.
use Rattle.std.proofs.Common.{◌≡◌, Bool, List, ℕ, Result, Ok, Err}
use Rattle.std.specs.Prelude.{IfErr, IsErrAnd}
use Rattle.pickle_io.specs.Device.{Told}
use Rattle.pickle_text.specs.declared.stop.TextStop.{TextStop}
use Rattle.pickle_text.specs.declared.stop.TextStop.TheVariants as stop
use Rattle.pickle_json.specs.Written.{BreaksListing, BeginsListing, CutsListing}

-- the sink has failed
pub cut_failed : {A : Type 0} {many loose : Bool} (bytes : List ℕ) (a b : Told) (r : Result A TextStop) → IsErrAnd r (λ e. e ≡ stop.Failed) → BreaksListing many loose bytes a b → IfErr r (CutsListing many loose bytes a b)
cut_failed bytes a b (Ok x) h w = absurd h
cut_failed bytes a b (Err e) h w = rw h w

-- there was no memory
pub cut_memory : {A : Type 0} {many loose : Bool} (bytes : List ℕ) (a b : Told) (r : Result A TextStop) → IsErrAnd r (λ e. e ≡ stop.Memory) → BeginsListing many loose bytes a b → IfErr r (CutsListing many loose bytes a b)
cut_memory bytes a b (Ok x) h w = absurd h
cut_memory bytes a b (Err e) h w = rw h w
