-- Items that do not change how names are read.
use Rattle.std.proofs.Common.{◌≡◌, ℕ, false, refl}
use Rattle.pickle_ops.specs.declared.row.Row.{Row}
use Rattle.pickle_ops.specs.declared.row.Row.TheVariants as row
use Rattle.pickle_calls.specs.declared.naming.Naming.{Naming}
use Rattle.pickle_calls.specs.Naming.{naming_after, turns}

pub unturned : (r : Row) (objects : ℕ) (m : Naming) → turns r ≡ false → naming_after r objects m ≡ m
unturned (row.Protocol n) objects m e = absurd cc
unturned row.Stop objects m e = absurd cc
unturned _ objects m e = refl
