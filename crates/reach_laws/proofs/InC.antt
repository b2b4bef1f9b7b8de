-- The same of the unpickler in C, which is the one in Python but for what it asks first.
use Rattle.std.proofs.Common.{List, [], ◌∷◌, true, refl, sym, ap, subst}
use Rattle.std.specs.Prelude.{Bool, false, ◌||◌, if◌then◌else◌}
use Rattle.pickle_lenient.specs.Stream.{taken}
use Rattle.pickle_loader.specs.Environment.{World}
use Rattle.pickle_loader.specs.Dispatch.{acts_of}
use Rattle.pickle_loader.specs.Onward.{Onward, reads_on, load_read}
use Rattle.pickle_loader.specs.CLoad.{COnward, seen_loaded, c_load_read, asked, raises, as_in_c, seen_onward}
use Rattle.pickle_loader.proofs.CLoads.{values_taken, Held, SameOnward, read_same}
use Rattle.pickle_reach.specs.declared.granted.Granted.{Granted}
use Rattle.reach_laws.specs.Mixed.{Turn, opened, as_shown, load_turn, load_mixed, c_opened, c_as_shown, c_load_turn, c_load_mixed}
use Rattle.reach_laws.specs.Reached.{NoneReaches, IsGranted, NothingReachedInC}
use Rattle.reach_laws.proofs.Mixes.{nothing_reached}

shown_same : (b : Bool) (x : COnward) (y : Onward) → SameOnward x y → SameOnward (c_as_shown b x) (as_shown b y)
shown_same true x y same = record { held = same.held; is = ap (λ (z : Onward). record z { left = 0 }) same.is }
shown_same false x y same = same

turn_by : (w : World) (turn : Turn) (x : COnward) (b : Bool) → Held x.now
    → SameOnward (if b then c_as_shown turn.shown (c_load_read w turn.way.pickles x (taken turn.way.frames x.left x.rest)) else x)
    (if b then as_shown turn.shown (load_read (as_in_c w) turn.way.pickles (seen_onward x) (taken turn.way.frames x.left x.rest)) else seen_onward x)
turn_by w turn x true held =
    shown_same turn.shown (c_load_read w turn.way.pickles x (taken turn.way.frames x.left x.rest)) (load_read (as_in_c w) turn.way.pickles (seen_onward x) (taken turn.way.frames x.left x.rest))
    (read_same w turn.way.pickles x (taken turn.way.frames x.left x.rest) (values_taken turn.way.frames x.left x.rest) held)
turn_by w turn x false held = record { held = held; is = refl }

turn_same : (w : World) (turn : Turn) (x : COnward) (y : Onward) → SameOnward x y → SameOnward (c_load_turn w turn x) (load_turn (as_in_c w) turn y)
turn_same w turn x y same =
    subst (λ (z : Onward). SameOnward (c_load_turn w turn x) (load_turn (as_in_c w) turn z)) same.is (turn_by w turn x (reads_on turn.way.pickles (seen_loaded x.now)) same.held)

pub mixed_same : (w : World) (mix : List Turn) (x : COnward) (y : Onward) → SameOnward x y → SameOnward (c_load_mixed w mix x) (load_mixed (as_in_c w) mix y)
unfolding c_load_mixed load_mixed
mixed_same w [] x y same = same
mixed_same w (turn ∷ mix) x y same = mixed_same w mix (c_load_turn w turn x) (load_turn (as_in_c w) turn y) (turn_same w turn x y same)

granted_in_c : (g : Granted) (w : World) → IsGranted g w → IsGranted g (as_in_c w)
granted_in_c g w keeps = record { refuses = keeps.refuses; unread = λ u o e. ap (λ (b : Bool). b || raises (asked w o.opcode o.arg u)) (keeps.unread u o e) }

pub nothing_reached_in_c : NothingReachedInC
nothing_reached_in_c g w bytes none keeps mix =
    let same = mixed_same w mix (c_opened bytes) (opened bytes) (record { held = tt; is = refl }) in
    subst (λ (x : Onward). NoneReaches g (acts_of x.now)) (sym same.is) (nothing_reached g (as_in_c w) bytes none (granted_in_c g w keeps) mix)
