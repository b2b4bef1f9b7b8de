-- What the owner of a block owns and lends, where its items are of the row R.
use Rattle.std.specs.Prelude.{ℕ, ◌+◌, ◌*◌, ◌^◌, List, [], ◌∷◌, length, Option, Some, None}
use Rattle.std.specs.Mem.{type_size}
use base.Fraction.{full_share}
use base.Fml.{Lft, Fml, ftrue, ffalse, fsep, flt, froom}
use mir.Syntax.{Ty, ty_array}
use mir.Raw.{raw}
use denote.RattleType.{RattleType}
use denote.Memory.{lone, part_at, shared_of}
use denote.Sharing.{nothing, said, beside}
use denote.RawPtr.{Ptr, block_ptr, null_ptr}

module _ (R : RattleType) where
  -- one place, o bytes into the allocation b: an item, or room for one
  abbrev pub place : ℕ → ℕ → Option R.Denot → Fml
  place b o (Some x) = part_at R full_share x b o
  place b o None = froom (raw (lone R.mir)) b o

  -- places one after the other
  abbrev pub places : ℕ → ℕ → List (Option R.Denot) → Fml
  places b o [] = ftrue
  places b o (c ∷ cs) = fsep (place b o c) (places b (o + type_size R) cs)

  -- what a `&` to them shows: each item
  abbrev pub place_seen : ℕ → ℕ → Option R.Denot → Lft → Fml
  place_seen b o (Some x) = shared_of R x b o
  place_seen b o None = nothing

  abbrev pub places_seen : ℕ → ℕ → List (Option R.Denot) → Lft → Fml
  places_seen b o [] = nothing
  places_seen b o (c ∷ cs) = beside (place_seen b o c) (places_seen b (o + type_size R) cs)

  -- the places take fewer than 2 ^ 63 bytes
  abbrev pub small : List (Option R.Denot) → Fml
  small cs = flt (length cs * type_size R) (2 ^ 63)

  -- what gives a block of n places back
  abbrev pub deed : (Ty → Ptr → Fml) → Ptr → ℕ → Fml
  deed token p n = token (raw (ty_array (lone R.mir) n)) p

  abbrev pub block_owns : (Ty → Ptr → Fml) → Ptr → List (Option R.Denot) → Fml
  block_owns token (block_ptr b o) cs = fsep (small cs) (fsep (places b o cs) (deed token (block_ptr b o) (length cs)))
  block_owns token null_ptr cs = ffalse

  abbrev pub block_lends : Ptr → List (Option R.Denot) → Lft → Fml
  block_lends (block_ptr b o) cs = beside (said (small cs)) (beside (places_seen b o cs) nothing)
  block_lends null_ptr cs = said ffalse
