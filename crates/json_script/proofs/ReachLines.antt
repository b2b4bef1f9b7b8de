-- The line of what is reached, of an answer about the bytes.
use Rattle.std.proofs.Common.{◌≡◌, ℕ, Bool, List, refl, subst}
use Rattle.pickle_io.specs.Device.{Told, Wrote, Broke}
use Rattle.pickle_ops.specs.Spelling.{Operation}
use Rattle.pickle_lenient.specs.declared.taken.Frames.{Frames}
use Rattle.pickle_reach.specs.declared.granted.Granted.{Granted}
use Rattle.pickle_reach.specs.declared.spot.Spot.{Spot}
use Rattle.pickle_reach.specs.declared.answer.Reach.{Reach}
use Rattle.pickle_reach.specs.declared.answer.Reach.TheVariants as answer
use Rattle.pickle_reach.specs.Reach.{IsReach, IsOpAt}
use Rattle.pickle_json.specs.ReachFields.{reached_line}
use Rattle.json_script.specs.ReachLine.{nothing_output, reached_output, ways_output, IsReachLine}

pub nothing_is : (g : Granted) (bytes : List ℕ) (r : Reach) (offset : ℕ) (settled : Bool) → IsReach g bytes r → r ≡ answer.Nothing offset settled → IsReachLine g bytes (nothing_output offset settled)
nothing_is g bytes r offset settled is e = (answer.Nothing offset settled, subst (IsReach g bytes) e is, refl)

pub reached_is : (g : Granted) (bytes : List ℕ) (r : Reach) (s : Spot) (f : Frames) (o : Operation) → IsReach g bytes r → r ≡ answer.At s f → IsOpAt bytes s f o → IsReachLine g bytes (reached_output s f o)
reached_is g bytes r s f o is e op = (answer.At s f, subst (IsReach g bytes) e is, (o, op, refl))

pub ways_are : (g : Granted) (bytes : List ℕ) (r : Reach) → IsReach g bytes r → r ≡ answer.TooMany → IsReachLine g bytes ways_output
ways_are g bytes r is e = (answer.TooMany, subst (IsReach g bytes) e is, refl)

-- the operation that is shown is the one that was read
pub shown_wrote : (a b : Told) (s : Spot) (f : Frames) (shown o : Operation) → shown ≡ o → Wrote a b (reached_line s f shown) → Wrote a b (reached_line s f o)
shown_wrote a b s f shown o e w = subst (λ (x : Operation). Wrote a b (reached_line s f x)) e w

pub shown_broke : (a b : Told) (s : Spot) (f : Frames) (shown o : Operation) → shown ≡ o → Broke a b (reached_line s f shown) → Broke a b (reached_line s f o)
shown_broke a b s f shown o e w = subst (λ (x : Operation). Broke a b (reached_line s f x)) e w
