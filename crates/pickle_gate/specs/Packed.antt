-- What is kept of an object, as two bytes: the eight flags of what is granted to it, and what was done with it. These are no definitions of the gate.
use Rattle.std.specs.Prelude.{ℕ, ◌/◌, ◌%◌, ◌==◌}
use Rattle.pickle_allow.specs.declared.list.Uses.{Uses}
use Rattle.pickle_gate.specs.declared.packed.Kept.{Kept}

-- by four flags, the lowest first
abbrev pub uses_in : ℕ → Uses
uses_in n = record { call = n % 2 == 1; new = n / 2 % 2 == 1; state = n / 4 % 2 == 1; fill = n / 8 % 2 == 1 }

abbrev pub unpacked : ℕ → ℕ → Kept
unpacked flags done = record { grant = record { now = uses_in (flags % 16); made = uses_in (flags / 16) }; ready = done % 2 == 1; used = done / 2 % 2 == 1; named = done / 4 % 2 == 1 }
