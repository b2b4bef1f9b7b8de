-- The places of a block: one is taken out of the row and put back, and room for an array is a row of empty places. Assumes `Logic`.
--     item_out, item_in    what is owned of an item that lies in memory is its machine value there, and what that owns
--     Besides, place_out, place_in     all places but one
--     place_shown          of what a `&` to all places shows, what it shows of one
--     of_room, to_room     room for an array, place by place
use mathlib.Core.Path.{◌≡◌, refl}
use Prim.Native.Nat.{ℕ, zero, suc, ◌+◌, ◌*◌, ◌<◌}
use native.Mathlib.Omega.{arith}
use native.Mathlib.Nat.{zero-mul, suc-mul}
use mathlib.Core.List.{List, [], ◌∷◌}
use lib.ListN.{length, set, get_or, replicate}
use seplogic.Ra.Ura.{Ura}
use base.Fraction.{full_share}
use mir.Syntax.{ty_array}
use mir.Val.{Val}
use base.Logic.{ent, sep, ex, guard}
use base.Fml.{Fml, Lft, ftrue, fsep, fat, froom}
use types.Logic.{Logic, sem}
use types.Kit.{‵, ◌⊛◌, some, ◌$◌, ◌∵◌, !, qed, by, move, keep, drop, use1, use2, pick, split, check, show, frame, fsplit, fjoin, rewrite, done}
use denote.Laws.{Is, shows}
use denote.Steps.{peeks}
use borrow.Table.OneValue.{part_in, part_out}
use Rattle.std.specs.Prelude.{Option, Some, None}
use Rattle.std.specs.Mem.{type_size}
use Rattle.core.proofs.mem.Param.{El, R, el_x, elτ, lawful, Good}
use Rattle.gap_list.specs.Inside.Ownership.{place, places, place_seen, places_seen}

module _ (E : El) where
  abbrev pub sz : ℕ
  sz = type_size (R E)

  abbrev pub Place : Type 0
  Place = Option (el_x E)

pub within : {X : Type 0} (cs : List (Option X)) (i : ℕ) (x : X) → get_or cs i None ≡ Some x → i < length cs
within [] i x e = cc
within (c ∷ cs) zero x e = omega arith
within (c ∷ cs) (suc i) x e = omega (arith, within cs i x e)

module _ (E : El) {M : Type 1} {𝓤 : Ura M} (𝓛 : Logic 𝓤) (b : ℕ) where
  open 𝓛 use {H}

  abbrev s : ℕ
  s = sz E

  abbrev GapBuffer : ℕ → List (Place E) → Fml
  GapBuffer = places (R E) b

  abbrev One : ℕ → Place E → Fml
  One = place (R E) b

  pub item_out : (x : el_x E) (o : ℕ) → ent 𝓤 (sem 𝓛 (One o (Some x))) (ex 𝓤 (λ (v : Val). guard 𝓤 (Good E v) (sep 𝓤 (H.at full_share (elτ E) b o v) (sem 𝓛 (E.row.own_val x (v ∷ []))))))
  item_out x o = qed 𝓛 (‵ (One o (Some x)) ∷ []) ∵
      use1 𝓛 (some (λ (v : Val). ‵ (fat full_share (elτ E) b o v) ⊛ ‵ (E.row.own_val x (v ∷ [])))) (part_out 𝓛 (R E) refl full_share x b o) $ pick ! (λ v. split ! $ move ! (1 ∷ []) $
      peeks ! (R E) (Is (R E)) (shows 𝓛 (R E)) x (v ∷ []) (λ is.
      show ! (λ (w : Val). guard 𝓤 (Good E w) (sep 𝓤 (H.at full_share (elτ E) b o w) (sem 𝓛 (E.row.own_val x (w ∷ []))))) v $ check ! ((lawful E 𝓛).typed x (v ∷ []) is).0 $ move ! (1 ∷ 0 ∷ []) $ done !))

  pub item_in : (x : el_x E) (o : ℕ) (v : Val) → ent 𝓤 (sep 𝓤 (H.at full_share (elτ E) b o v) (sem 𝓛 (E.row.own_val x (v ∷ [])))) (sem 𝓛 (One o (Some x)))
  item_in x o v = part_in 𝓛 (R E) refl full_share x b o v

  -- the row without its place i
  abbrev pub Besides : ℕ → List (Place E) → ℕ → Fml
  Besides o [] i = ftrue
  Besides o (c ∷ cs) zero = GapBuffer (o + s) cs
  Besides o (c ∷ cs) (suc i) = fsep (One o c) (Besides (o + s) cs i)

  pub place_out : (cs : List (Place E)) (i o at : ℕ) → at ≡ i * s + o → i < length cs → ent 𝓤 (sem 𝓛 (GapBuffer o cs)) (sep 𝓤 (sem 𝓛 (One at (get_or cs i None))) (sem 𝓛 (Besides o cs i)))
  place_out [] i o at e lt = absurd (omega arith)
  place_out (c ∷ cs) zero o at e lt = qed 𝓛 (‵ (GapBuffer o (c ∷ cs)) ∷ []) ∵ fsplit ! $ rewrite ! 0 (λ (k : ℕ). ‵ (One k c)) {x = at} (omega (arith, zero-mul s)) refl $ done !
  place_out (c ∷ cs) (suc i) o at e lt = qed 𝓛 (‵ (GapBuffer o (c ∷ cs)) ∷ []) ∵ fsplit ! $ move ! (1 ∷ []) $
      use1 𝓛 (‵ (One at (get_or cs i None)) ⊛ ‵ (Besides (o + s) cs i)) (place_out cs i (o + s) at (omega (arith, suc-mul i s)) (omega arith)) $ split ! $ move ! (2 ∷ 1 ∷ []) $ fjoin ! $ move ! (1 ∷ 0 ∷ []) $ done !

  pub place_in : (cs : List (Place E)) (i o at : ℕ) (n : Place E) → at ≡ i * s + o → i < length cs → ent 𝓤 (sep 𝓤 (sem 𝓛 (One at n)) (sem 𝓛 (Besides o cs i))) (sem 𝓛 (GapBuffer o (set cs i n)))
  place_in [] i o at n e lt = absurd (omega arith)
  place_in (c ∷ cs) zero o at n e lt = qed 𝓛 (‵ (One at n) ∷ ‵ (GapBuffer (o + s) cs) ∷ []) ∵ rewrite ! 0 (λ (k : ℕ). ‵ (One k n)) {x = o} (omega (arith, zero-mul s)) refl $ fjoin ! $ done !
  place_in (c ∷ cs) (suc i) o at n e lt = qed 𝓛 (‵ (One at n) ∷ ‵ (Besides o (c ∷ cs) (suc i)) ∷ []) ∵ move ! (1 ∷ []) $ fsplit ! $ move ! (2 ∷ 1 ∷ []) $
      use2 𝓛 (‵ (GapBuffer (o + s) (set cs i n))) (place_in cs i (o + s) at n (omega (arith, suc-mul i s)) (omega arith)) $ move ! (1 ∷ 0 ∷ []) $ fjoin ! $ done !

  pub place_shown : (κ : Lft) (cs : List (Place E)) (i o at : ℕ) → at ≡ i * s + o → i < length cs → ent 𝓤 (sem 𝓛 (places_seen (R E) b o cs κ)) (sem 𝓛 (place_seen (R E) b at (get_or cs i None) κ))
  place_shown κ [] i o at e lt = absurd (omega arith)
  place_shown κ (c ∷ cs) zero o at e lt = qed 𝓛 (‵ (places_seen (R E) b o (c ∷ cs) κ) ∷ []) ∵ fsplit ! $ keep ! (0 ∷ []) $ rewrite ! 0 (λ (k : ℕ). ‵ (place_seen (R E) b k c κ)) {x = at} (omega (arith, zero-mul s)) refl $ done !
  place_shown κ (c ∷ cs) (suc i) o at e lt = qed 𝓛 (‵ (places_seen (R E) b o (c ∷ cs) κ) ∷ []) ∵ fsplit ! $ drop ! $ by ! (place_shown κ cs i (o + s) at (omega (arith, suc-mul i s)) (omega arith))

  pub of_room : (n o : ℕ) → ent 𝓤 (H.room (ty_array (elτ E) n) b o) (sem 𝓛 (GapBuffer o (replicate n None)))
  of_room zero o = qed 𝓛 (‵ (froom (ty_array (elτ E) 0) b o) ∷ []) ∵ keep ! [] $ done !
  of_room (suc n) o = qed 𝓛 (‵ (froom (ty_array (elτ E) (suc n)) b o) ∷ []) ∵
      use1 𝓛 (‵ (froom (elτ E) b o) ⊛ ‵ (froom (ty_array (elτ E) n) b (o + s))) (𝓛.laws.room_uncons (elτ E) n b o) $ split ! $
      use1 𝓛 (‵ (One o None)) (𝓛.laws.room-raw (elτ E) b o) $ frame ! $ by ! (of_room n (o + s))

  pub to_room : (n o : ℕ) → ent 𝓤 (sem 𝓛 (GapBuffer o (replicate n None))) (H.room (ty_array (elτ E) n) b o)
  to_room zero o = 𝓛.laws.room_nil (elτ E) b o
  to_room (suc n) o = qed 𝓛 (‵ (One o None) ∷ ‵ (GapBuffer (o + s) (replicate n None)) ∷ []) ∵
      use1 𝓛 (‵ (froom (elτ E) b o)) (𝓛.laws.raw-room (elτ E) b o) $ move ! (1 ∷ []) $
      use1 𝓛 (‵ (froom (ty_array (elτ E) n) b (o + s))) (to_room n (o + s)) $ move ! (1 ∷ []) $ by ! (𝓛.laws.room_cons (elτ E) n b o)
