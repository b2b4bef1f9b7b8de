-- A `&` to a block reaches each item. Assumes `Logic`.
use mathlib.Core.List.{[], ◌++◌}
use base.Fml.{Incl-trans}
use contract.BorrowLft.{meet_⊑_left}
use denote.RattleType.{RattleType}
use denote.RawPtr.{RawPtr}
use denote.Param.Laws.{Laws}
use denote.Param.Shared.{copy_shared}
use denote.Struct.Laws.{field_copy}
use denote.Struct.Lending.{of_Lends}
use Rattle.core.specs.declared.alloc.Allocator.{Ghosts}
use Rattle.core.specs.contracts.marker.PhantomData as marker
use Rattle.gap_list.specs.contracts.block.Block as B
use Rattle.gap_list.proofs.block.Block.TheLaw.Statement.{statement}
use Rattle.gap_list.proofs.Sharing.{lent-laws, block-lent}

pub shares : (T A : RattleType) (g : Ghosts A.Denot) (L : Laws T) (P : Laws A) → statement T A g L P
shares T A g L P =
    of_Lends (B.struct T A g) (B.the_codes T.Denot A.Denot T.coded A.coded (marker.the_row RawPtr).coded) (B.the_heap T A g) (B.the_lent T A g)
    (λ d p. lent-laws T L.shr_laws d.at d.slots) (copy_shared (marker.the_field RawPtr) (field_copy (marker.the_type RawPtr) tt), tt)
    (λ M 𝓤 𝓛 d p. block-lent 𝓛 (B.the_row T A g).lives T L (Incl-trans (meet_⊑_left (T.lives ++ (A.lives ++ [])) _) (meet_⊑_left T.lives (A.lives ++ []))) (g.dealloc_token d.alloc) d.at d.slots)
