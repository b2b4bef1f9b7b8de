-- An object has one outline.
use Rattle.std.proofs.Common.{◌≡◌, ℕ, zero, suc, ◌+◌, ◌<◌, ◌≤◌, List, [], ◌∷◌, ◌++◌, take, drop, Some, refl, sym, ap, ap₂, subst, ◌∙◌, append-nil, inl, inr, arith}
use Rattle.std.specs.Prelude.{slice_get}
use Rattle.pickle_ops.specs.Object.{Object}
use Rattle.object_texts.specs.Show.{WalkPlace, at_depth}
use Rattle.session_laws.specs.Reached.{under, ids_at, IsOutline}
use Rattle.session_laws.proofs.Outlines.{IsWalk, NoDeeper, no_deeper_rest, order, at_less, at_same, at_more, at_deeper, at_there, at_none, after_one, begin}

-- What is left of an outline, these places being still to come.
pub record IsLeft (heap : List Object) (before places lines : List WalkPlace) : Type 0 where
  pub at : (d : ℕ) → ids_at d lines ≡ ids_at d places
  pub next : (k : ℕ) (p q : WalkPlace) → slice_get lines k ≡ Some p → slice_get lines (suc k) ≡ Some q → q.depth ≤ p.depth + 1
  pub below : (k : ℕ) (p : WalkPlace) → slice_get lines k ≡ Some p → ids_at (p.depth + 1) (drop (suc k) lines) ≡ under heap (before ++ take k lines) p.id

-- ---- the next line is that of the next place

place_is : (p q : WalkPlace) → p.depth ≡ q.depth → p.id ≡ q.id → p ≡ q
place_is p q e f = ap₂ (λ (d i : ℕ). record { depth = d; id = i }) e f

no_place : (places : List WalkPlace) → ((d : ℕ) → [] ≡ ids_at d places) → places ≡ []
no_place [] h = refl
no_place (p ∷ places) h = let e : [] ≡ p.id ∷ ids_at p.depth places = h p.depth ∙ at_same p.depth p places refl in absurd cc

-- where the first of both is at one depth, it is the same
same_first : (q p : WalkPlace) (lines places : List WalkPlace) → q.depth ≡ p.depth → ids_at q.depth (q ∷ lines) ≡ ids_at q.depth (p ∷ places) → p ≡ q
same_first q p lines places e h =
    let both : q.id ∷ ids_at q.depth lines ≡ p.id ∷ ids_at q.depth places = sym (at_same q.depth q lines refl) ∙ h ∙ at_same q.depth p places (sym e) in
    let ids : p.id ≡ q.id = cc in
    place_is p q (sym e) ids

next_place : (q : WalkPlace) (lines places : List WalkPlace) → ((d : ℕ) → ids_at d (q ∷ lines) ≡ ids_at d places) → (rest : List WalkPlace) × (places ≡ q ∷ rest)
next_place q lines [] h = let e : q.id ∷ ids_at q.depth lines ≡ [] = sym (at_same q.depth q lines refl) ∙ h q.depth in absurd cc
next_place q lines (p ∷ places) h = (
  places,
  ap (λ (t : WalkPlace). t ∷ places) (elim (order p.depth q.depth) [
    | inl less ↦ let e : q.id ∷ ids_at q.depth lines ≡ [] = sym (at_same q.depth q lines refl) ∙ h q.depth ∙ at_less q.depth p places less in absurd cc
    | inr g ↦ elim g [
      | inl e ↦ same_first q p lines places (sym e) (h q.depth)
      | inr more ↦ let e : [] ≡ p.id ∷ ids_at p.depth places = sym (at_less p.depth q lines more) ∙ h p.depth ∙ at_same p.depth p places refl in absurd cc
    ]
  ]),
)

-- ---- what is left behind it

-- the objects at a depth behind a line that is not deeper
behind : (d : ℕ) (q : WalkPlace) (lines rest : List WalkPlace) → d ≤ q.depth → ids_at d (q ∷ lines) ≡ ids_at d (q ∷ rest) → ids_at d lines ≡ ids_at d rest
behind d q lines rest h e = elim (order d q.depth) [
  | inl less ↦ sym (at_more d q lines less) ∙ e ∙ at_more d q rest less
  | inr g ↦ elim g [
    | inl same ↦
        let both : q.id ∷ ids_at d lines ≡ q.id ∷ ids_at d rest = sym (at_same d q lines (sym same)) ∙ e ∙ at_same d q rest (sym same) in
        cc
    | inr more ↦ absurd (omega (arith, h, more))
  ]
]

-- the next line being at most one deeper, there is none that is two deeper
far_deeper : (e : ℕ) (q : WalkPlace) (lines : List WalkPlace) → ((r : WalkPlace) → slice_get lines 0 ≡ Some r → r.depth ≤ q.depth + 1) → q.depth + 1 < e → ids_at e lines ≡ []
far_deeper e q [] h less = refl
far_deeper e q (r ∷ lines) h less = let near : r.depth ≤ q.depth + 1 = h r refl in at_less e r lines (omega (arith, near, less))

-- at each depth
behind_at : (q : WalkPlace) (ids : List ℕ) (lines rest : List WalkPlace) → ((d : ℕ) → ids_at d (q ∷ lines) ≡ ids_at d (q ∷ rest)) → NoDeeper q.depth rest
    → ids_at (q.depth + 1) lines ≡ ids → ((r : WalkPlace) → slice_get lines 0 ≡ Some r → r.depth ≤ q.depth + 1)
    → (d : ℕ) → ids_at d lines ≡ ids_at d (at_depth (q.depth + 1) ids ++ rest)
behind_at q ids lines rest h n c near d = elim (order d (q.depth + 1)) [
  | inl less ↦ behind d q lines rest (omega (arith, less)) (h d) ∙ sym (at_deeper d (q.depth + 1) ids rest less)
  | inr g ↦ elim g [
    | inl same ↦
        ap (λ (x : ℕ). ids_at x lines) same ∙ c ∙ sym (append-nil ids)
        ∙ ap (λ (t : List ℕ). ids ++ t) (sym (at_none q.depth (q.depth + 1) rest n (omega arith)))
        ∙ sym (at_there (q.depth + 1) ids rest) ∙ ap (λ (x : ℕ). ids_at x (at_depth (q.depth + 1) ids ++ rest)) (sym same)
    | inr more ↦
        far_deeper d q lines near more
        ∙ sym (at_none (q.depth + 1) d (at_depth (q.depth + 1) ids ++ rest) (no_deeper_rest q.depth q ids rest (omega arith, n)) more)
  ]
]

first_near : (heap : List Object) (before places : List WalkPlace) (q : WalkPlace) (lines : List WalkPlace) → IsLeft heap before places (q ∷ lines)
    → (r : WalkPlace) → slice_get lines 0 ≡ Some r → r.depth ≤ q.depth + 1
first_near heap before places q lines l r e = l.next 0 q r refl e

left_next : (heap : List Object) (before places : List WalkPlace) (q : WalkPlace) (lines rest : List WalkPlace) → places ≡ q ∷ rest → NoDeeper q.depth rest → IsLeft heap before places (q ∷ lines)
    → IsLeft heap (before ++ q ∷ []) (at_depth (q.depth + 1) (under heap before q.id) ++ rest) lines
left_next heap before places q lines rest e n l = record {
  at = behind_at q (under heap before q.id) lines rest (λ d. l.at d ∙ ap (ids_at d) e) n
      (l.below 0 q refl ∙ ap (λ (t : List WalkPlace). under heap t q.id) (append-nil before)) (first_near heap before places q lines l);
  next = λ k p r f g. l.next (suc k) p r f g;
  below = λ k p f. l.below (suc k) p f ∙ ap (λ (t : List WalkPlace). under heap t p.id) (after_one before q (take k lines));
}

-- so an outline is what a walk gives
left_walk : (heap : List Object) (before places lines : List WalkPlace) (d : ℕ) → NoDeeper d places → IsLeft heap before places lines → IsWalk heap before places lines
left_walk heap before places [] d n l = no_place places l.at
left_walk heap before places (q ∷ lines) d n l =
    let there = next_place q lines places l.at in
    let less : NoDeeper d (q ∷ there.0) = subst (NoDeeper d) there.1 n in (
      there.0,
      there.1,
      left_walk heap (before ++ q ∷ []) (at_depth (q.depth + 1) (under heap before q.id) ++ there.0) lines (q.depth + 1)
          (no_deeper_rest d q (under heap before q.id) there.0 less) (left_next heap before places q lines there.0 there.1 less.1 l),
    )

-- ---- one walk

one_walk : (heap : List Object) (before places lines others : List WalkPlace) → IsWalk heap before places lines → IsWalk heap before places others → lines ≡ others
one_walk heap before places [] [] w v = refl
one_walk heap before places [] (q ∷ others) w v = let e : [] ≡ q ∷ v.0 = sym w ∙ v.1 in absurd cc
one_walk heap before places (p ∷ lines) [] w v = let e : [] ≡ p ∷ w.0 = sym v ∙ w.1 in absurd cc
one_walk heap before places (p ∷ lines) (q ∷ others) w v =
    let e : p ∷ w.0 ≡ q ∷ v.0 = sym w.1 ∙ v.1 in
    let one : p ≡ q = cc in
    let two : w.0 ≡ v.0 = cc in
    let moved = subst (λ (t : WalkPlace). IsWalk heap (before ++ t ∷ []) (at_depth (t.depth + 1) (under heap before t.id) ++ w.0) lines) one w.2 in
    let rest = subst (λ (t : List WalkPlace). IsWalk heap (before ++ q ∷ []) (at_depth (q.depth + 1) (under heap before q.id) ++ t) lines) two moved in
    ap₂ (λ (t : WalkPlace) (ts : List WalkPlace). t ∷ ts) one (one_walk heap (before ++ q ∷ []) (at_depth (q.depth + 1) (under heap before q.id) ++ v.0) lines others rest v.2)

-- ---- one outline

-- deeper than the first line is nothing before it
none_deeper : (d asked : ℕ) (lines : List WalkPlace) → slice_get lines 0 ≡ Some (record { depth = 0; id = asked }) → 0 < d → ids_at d lines ≡ []
none_deeper d asked [] e h = refl
none_deeper d asked (p ∷ lines) e h =
    let same : p ≡ record { depth = 0; id = asked } = cc in
    let flat : p.depth ≡ 0 = ap (λ (t : WalkPlace). t.depth) same in
    at_less d p lines (omega (arith, flat, h))

begin_at : (heap : List Object) (asked : ℕ) (lines : List WalkPlace) → IsOutline heap asked lines → (d : ℕ) → ids_at d lines ≡ ids_at d (begin asked)
begin_at heap asked lines o zero = o.alone
begin_at heap asked lines o (suc d) = none_deeper (suc d) asked lines o.first (omega arith) ∙ sym (at_less (suc d) (record { depth = 0; id = asked }) [] (omega arith))

outline_walk : (heap : List Object) (asked : ℕ) (lines : List WalkPlace) → IsOutline heap asked lines → IsWalk heap [] (begin asked) lines
outline_walk heap asked lines o =
    left_walk heap [] (begin asked) lines 0 (omega arith, tt) (record { at = begin_at heap asked lines o; next = o.next; below = o.below })

pub one_outline : (heap : List Object) (asked : ℕ) (lines others : List WalkPlace) → IsOutline heap asked lines → IsOutline heap asked others → lines ≡ others
one_outline heap asked lines others o q = one_walk heap [] (begin asked) lines others (outline_walk heap asked lines o) (outline_walk heap asked others q)
