-- The text of what is reached, of an answer about the bytes.
use Rattle.std.proofs.Common.{◌≡◌, ℕ, Bool, List, Ok, Err, refl, sym, subst}
use Rattle.std.specs.Prelude.{Result, IfErr, IsErrAnd}
use Rattle.pickle_io.specs.Device.{Told, Wrote, Broke}
use Rattle.pickle_ops.specs.Spelling.{Operation}
use Rattle.pickle_text.specs.Output.{Output}
use Rattle.pickle_text.specs.declared.stop.TextStop.{TextStop}
use Rattle.pickle_reach.specs.declared.granted.Granted.{Granted}
use Rattle.pickle_reach.specs.declared.answer.Reach.{Reach}
use Rattle.pickle_reach.specs.declared.answer.Reach.TheVariants as answer
use Rattle.pickle_reach.specs.declared.spot.Spot.{Spot}
use Rattle.pickle_lenient.specs.declared.taken.Frames.{Frames}
use Rattle.pickle_reach.specs.Reach.{IsReach, IsOpAt}
use Rattle.pickle_script.specs.GateText.{WroteText, BrokeText}
use Rattle.pickle_script.specs.ReachText.{nothing_line, reached_line, ways_line, nothing_output, reached_output, ways_output, IsReachText, CutsReach}

of_answer : (g : Granted) (bytes : List ℕ) (r s : Reach) → IsReach g bytes r → r ≡ s → IsReach g bytes s
of_answer g bytes r s is e = subst (IsReach g bytes) e is

-- ---- nothing

nothing_is : (g : Granted) (bytes : List ℕ) (r : Reach) (offset : ℕ) (settled : Bool) → IsReach g bytes r → r ≡ answer.Nothing offset settled → IsReachText g bytes (nothing_output offset settled)
nothing_is g bytes r offset settled is e = (answer.Nothing offset settled, of_answer g bytes r (answer.Nothing offset settled) is e, refl)

pub nothing_wrote : (g : Granted) (bytes : List ℕ) (r : Reach) (offset : ℕ) (settled : Bool) (a b : Told) → IsReach g bytes r → r ≡ answer.Nothing offset settled → Wrote a b (nothing_line offset settled) → WroteText (IsReachText g bytes) a b 0
nothing_wrote g bytes r offset settled a b is e w = (nothing_output offset settled, nothing_is g bytes r offset settled is e, w, refl)

pub nothing_broke : (g : Granted) (bytes : List ℕ) (r : Reach) (offset : ℕ) (settled : Bool) (a b : Told) → IsReach g bytes r → r ≡ answer.Nothing offset settled → Broke a b (nothing_line offset settled) → BrokeText (IsReachText g bytes) a b
nothing_broke g bytes r offset settled a b is e w = (nothing_output offset settled, nothing_is g bytes r offset settled is e, w)

-- ---- something

reached_is : (g : Granted) (bytes : List ℕ) (r : Reach) (spot : Spot) (f : Frames) (o : Operation) → IsReach g bytes r → r ≡ answer.At spot f → IsOpAt bytes spot f o → IsReachText g bytes (reached_output spot.offset o)
reached_is g bytes r spot f o is e op = (answer.At spot f, of_answer g bytes r (answer.At spot f) is e, (o, op, refl))

pub reached_wrote : (g : Granted) (bytes : List ℕ) (r : Reach) (spot : Spot) (f : Frames) (o : Operation) (a b : Told) → IsReach g bytes r → r ≡ answer.At spot f → IsOpAt bytes spot f o → Wrote a b (reached_line spot.offset o)
    → WroteText (IsReachText g bytes) a b 1
reached_wrote g bytes r spot f o a b is e op w = (reached_output spot.offset o, reached_is g bytes r spot f o is e op, w, refl)

pub reached_broke : (g : Granted) (bytes : List ℕ) (r : Reach) (spot : Spot) (f : Frames) (o : Operation) (a b : Told) → IsReach g bytes r → r ≡ answer.At spot f → IsOpAt bytes spot f o → Broke a b (reached_line spot.offset o)
    → BrokeText (IsReachText g bytes) a b
reached_broke g bytes r spot f o a b is e op w = (reached_output spot.offset o, reached_is g bytes r spot f o is e op, w)

-- ---- too many ways

ways_are : (g : Granted) (bytes : List ℕ) (r : Reach) → IsReach g bytes r → r ≡ answer.TooMany → IsReachText g bytes ways_output
ways_are g bytes r is e = (answer.TooMany, of_answer g bytes r answer.TooMany is e, refl)

pub ways_wrote : (g : Granted) (bytes : List ℕ) (r : Reach) (a b : Told) (text : List ℕ) → IsReach g bytes r → r ≡ answer.TooMany → text ≡ ways_line → Wrote a b text → WroteText (IsReachText g bytes) a b 1
ways_wrote g bytes r a b text is e same w = (ways_output, ways_are g bytes r is e, subst (λ (t : List ℕ). Wrote a b t) same w, refl)

pub ways_broke : (g : Granted) (bytes : List ℕ) (r : Reach) (a b : Told) (text : List ℕ) → IsReach g bytes r → r ≡ answer.TooMany → text ≡ ways_line → Broke a b text → BrokeText (IsReachText g bytes) a b
ways_broke g bytes r a b text is e same w = (ways_output, ways_are g bytes r is e, subst (λ (t : List ℕ). Broke a b t) same w)

-- ---- a stop

pub reach_cut : (g : Granted) (bytes : List ℕ) (a b : Told) (x : TextStop) (r : Result ℕ TextStop) → IsErrAnd r (λ e. e ≡ x) → CutsReach g bytes a b x → IfErr r (CutsReach g bytes a b)
reach_cut g bytes a b x (Ok status) h w = absurd h
reach_cut g bytes a b x (Err e) h w = rw h w
