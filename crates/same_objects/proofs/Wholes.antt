-- How two byte strings compare, from how their halves do.
use Rattle.std.proofs.Common.{◌≡◌, ℕ, Bool, true, false, List, sym, subst, ◌∙◌}
use Rattle.std.specs.Bool.{Decides}
use Rattle.pickle_machine.specs.State.{State}
use Rattle.pickle_text.specs.declared.closing.Closing.{Closing}
use Rattle.pickle_text.specs.declared.closing.Closing.TheVariants as closing
use Rattle.object_texts.specs.Inside.Ending.{EndsIn}
use Rattle.same_objects.specs.declared.compared.Compared.{Compared}
use Rattle.same_objects.specs.declared.compared.Compared.TheVariants as compared
use Rattle.same_objects.specs.Same.{Makes, ComparesStates, BothMake, Compares}
use Rattle.same_objects.specs.Halves.{ComparesObjects, ComparesActs}

pub made : (many : Bool) (bytes : List ℕ) (s : State) (c : Closing) → EndsIn many false bytes s c → c ≡ closing.Stopped → Makes many bytes s
made many bytes s c e h = subst (λ (x : Closing). EndsIn many false bytes s x) h e

differ : (r : Bool) → r ≡ true → r ≡ false → ⊥
differ r t f = let no : true ≡ false = sym t ∙ f in absurd cc

pub unstopped : (r : Bool) (c : Closing) → Decides r (c ≡ closing.Stopped) → r ≡ false → c ≡ closing.Stopped → ⊥
unstopped r c d n e = differ r (d.1 e) n

pub both_compare : (many : Bool) (one other : List ℕ) (s t : State) (c : Compared) → Makes many one s → Makes many other t → ComparesStates s t c → ComparesObjects many one other c
both_compare many one other s t compared.Same m k h = (s, t, m, k, h)
both_compare many one other s t (compared.Object n) m k h = (s, t, m, k, h)
both_compare many one other s t compared.Results m k h = (s, t, m, k, h)
both_compare many one other s t (compared.FirstEnds c) m k h = absurd h
both_compare many one other s t (compared.OtherEnds c) m k h = absurd h
both_compare many one other s t (compared.FirstGoesOn e) m k h = absurd h
both_compare many one other s t (compared.OtherGoesOn e) m k h = absurd h
both_compare many one other s t compared.Order m k h = absurd h

pub acts_compare : (many : Bool) (one other : List ℕ) → BothMake many one other compared.Same → (c : Compared) → ComparesActs many one other c → Compares many one other c
acts_compare many one other (s, t, m, k, (objects, results)) compared.Same (acts, does, redoes) =
    record { first = s; second = t; makes = m; remakes = k; objects = objects; results = results; acts = acts; does = does; redoes = redoes }
acts_compare many one other b (compared.FirstGoesOn e) h = h
acts_compare many one other b (compared.OtherGoesOn e) h = h
acts_compare many one other b compared.Order h = h
acts_compare many one other b (compared.Object n) h = absurd h
acts_compare many one other b compared.Results h = absurd h
acts_compare many one other b (compared.FirstEnds c) h = absurd h
acts_compare many one other b (compared.OtherEnds c) h = absurd h
