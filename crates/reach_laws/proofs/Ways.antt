-- A way in which all items are read is a mix.
use Rattle.std.proofs.Common.{◌≡◌, ℕ, zero, suc, refl, ap, ◌∙◌}
use Rattle.std.specs.Prelude.{replicate}
use Rattle.pickle_loader.specs.Environment.{World}
use Rattle.pickle_loader.specs.Onward.{Onward, load_on, load_way}
use Rattle.reach_laws.specs.Mixed.{Turn, opened, load_turn, load_mixed}
use Rattle.reach_laws.specs.Reached.{in_way, WaysAreMixes}

-- one item more at the end
load_last : (w : World) (turn : Turn) (n : ℕ) (x : Onward) → load_mixed w (replicate (suc n) turn) x ≡ load_turn w turn (load_mixed w (replicate n turn) x)
unfolding load_mixed
load_last w turn zero x = refl
load_last w turn (suc n) x = load_last w turn n (load_turn w turn x)

pub ways_are_mixes : WaysAreMixes
unfolding load_mixed load_way
ways_are_mixes w way bytes zero = refl
ways_are_mixes w way bytes (suc n) = load_last w (in_way way) n (opened bytes) ∙ ap (load_on w way) (ways_are_mixes w way bytes n)
