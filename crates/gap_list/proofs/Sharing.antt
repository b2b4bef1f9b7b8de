-- A `&` to a block is made of one to each of its items. Assumes `Logic`.
use Prim.Native.Nat.{ℕ, ◌+◌}
use Rattle.std.specs.Prelude.{List, [], ◌∷◌, length, Option, Some, None}
use Rattle.std.specs.Mem.{type_size}
use seplogic.Ra.Ura.{Ura}
use mir.Syntax.{Ty}
use base.Fml.{Fml, Lft, Incl, ftrue, ffalse, fsep}
use types.Logic.{Logic}
use denote.RattleType.{RattleType, RowLaws}
use denote.Param.Laws.{Laws}
use denote.RawPtr.{Ptr, block_ptr, null_ptr}
use denote.Sharing.{ShrLaws, nothing, said, beside}
use denote.SharingLaws.{beside_shr_laws, nothing_shr_laws, said_shr_laws}
use denote.Shares.{Shares-less}
use denote.Struct.Lending.{Lends, Lends-both, Lends-nothing, Lends-said, Lends-false}
use Rattle.gap_list.specs.Inside.Ownership.{place, places, place_seen, places_seen, small, deed, block_owns, block_lends}

module _ (R : RattleType) (L : RowLaws R) where
  seen-laws : (b o : ℕ) (cs : List (Option R.Denot)) → ShrLaws (places_seen R b o cs)
  seen-laws b o [] = nothing_shr_laws
  seen-laws b o (Some x ∷ cs) = beside_shr_laws _ _ (L x b o) (seen-laws b (o + type_size R) cs)
  seen-laws b o (None ∷ cs) = beside_shr_laws _ _ nothing_shr_laws (seen-laws b (o + type_size R) cs)

  pub lent-laws : (p : Ptr) (cs : List (Option R.Denot)) → ShrLaws (block_lends R p cs)
  lent-laws (block_ptr b o) cs = beside_shr_laws _ _ (said_shr_laws (small R cs) tt) (beside_shr_laws _ _ (seen-laws b o cs) nothing_shr_laws)
  lent-laws null_ptr cs = said_shr_laws ffalse tt

module _ {M : Type 1} {𝓤 : Ura M} (𝓛 : Logic 𝓤) (l : Lft) (R : RattleType) (L : Laws R) (within : Incl l R.lives) where
  one-lent : (b o : ℕ) (c : Option R.Denot) → Lends 𝓛 (place R b o c) (place_seen R b o c) l
  one-lent b o (Some x) = λ κ ts. Shares-less 𝓛 R R.lives l within (L.shares 𝓛) x κ ts b o
  one-lent b o None = Lends-nothing 𝓛 (place R b o None) l

  all-lent : (b o : ℕ) (cs : List (Option R.Denot)) → Lends 𝓛 (places R b o cs) (places_seen R b o cs) l
  all-lent b o [] = Lends-nothing 𝓛 ftrue l
  all-lent b o (c ∷ cs) = Lends-both 𝓛 (place R b o c) (places R b (o + type_size R) cs) (place_seen R b o c) (places_seen R b (o + type_size R) cs) l (one-lent b o c) (all-lent b (o + type_size R) cs)

  pub block-lent : (token : Ty → Ptr → Fml) (p : Ptr) (cs : List (Option R.Denot)) → Lends 𝓛 (block_owns R token p cs) (block_lends R p cs) l
  block-lent token (block_ptr b o) cs =
      let right = deed R token (block_ptr b o) (length cs) in
      Lends-both 𝓛 (small R cs) (fsep (places R b o cs) right) (said (small R cs)) (beside (places_seen R b o cs) nothing) l (Lends-said 𝓛 (small R cs) tt l)
      (Lends-both 𝓛 (places R b o cs) right (places_seen R b o cs) nothing l (all-lent b o cs) (Lends-nothing 𝓛 right l))
  block-lent token null_ptr cs = Lends-false 𝓛 (said ffalse) l
