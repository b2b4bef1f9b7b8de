-- The machine values of a `Start` and a `Block`. Each owns nothing by its fields. Assumes `Logic`.
use mathlib.Core.Path.{◌≡◌, refl, ◌∙◌}
use mathlib.Core.List.{List, [], ◌∷◌, ◌++◌}
use seplogic.Ra.Ura.{Ura}
use mir.Val.{Val, vstruct, vcons, vnil, of_list}
use base.Logic.{ent, emp}
use base.Fml.{Fml}
use types.Logic.{Logic, sem}
use denote.RattleType.{RattleType}
use denote.RawPtr.{Ptr, RawPtr, ptr_val}
use denote.Shadow.{shadow, makes_shadow}
use denote.Struct.Struct.{Struct}
use Rattle.std_alloc.proofs.RcSteps.{word}

-- a struct of these fields: what it owns does not read its name
abbrev of_fields : List RattleType → RattleType
of_fields Rs = Struct (record { name = []; args = []; types = []; fields = Rs })

abbrev pub start_own : Ptr → List Val → Fml
start_own p = (of_fields (RawPtr ∷ [])).own_val (p, tt)

pub start_made : {M : Type 1} {𝓤 : Ura M} (𝓛 : Logic 𝓤) (p : Ptr) → ent 𝓤 (emp 𝓤) (sem 𝓛 (start_own p (word p ∷ [])))
start_made 𝓛 p = makes_shadow 𝓛 (start_own p (word p ∷ [])) (λ _. (tt, (tt, tt))) ((ptr_val p ∷ [], tt), (refl, (refl, tt)))

-- a `Block` has one field, which takes no bytes
abbrev pub block_val : Val
block_val = vstruct (vcons (vstruct vnil) vnil)

abbrev pub mark_own : List Val → Fml
mark_own = (of_fields (of_fields [] ∷ [])).own_val (tt, tt)

pub block_is : (vs : List Val) → shadow (mark_own vs) → vs ≡ block_val ∷ []
block_is vs s = s.1.0 ∙ (λ i. vstruct (of_list (s.1.1.0.1.0 i ++ [])) ∷ [])

pub mark_made : {M : Type 1} {𝓤 : Ura M} (𝓛 : Logic 𝓤) → ent 𝓤 (emp 𝓤) (sem 𝓛 (mark_own (block_val ∷ [])))
mark_made 𝓛 = makes_shadow 𝓛 (mark_own (block_val ∷ [])) (λ _. (tt, ((λ _. (tt, tt)), tt))) ((vstruct vnil ∷ [], tt), (refl, ((tt, (refl, tt)), tt)))
