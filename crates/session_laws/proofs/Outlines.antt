-- The outline of an object: the lines of a walk are one, and there is no other.
use Rattle.std.proofs.Common.{◌≡◌, ◌≢◌, ℕ, zero, suc, ◌+◌, ◌<◌, ◌≤◌, ◌==◌, true, false, List, [], ◌∷◌, ◌++◌, take, drop, Some, refl, sym, ap, subst, ◌∙◌, append_assoc, append-nil, rules, arith}
use Rattle.std.specs.Prelude.{slice_get, nat_lt, ◌⊎◌}
use Rattle.std.proofs.Common.{inl, inr}
use Rattle.pickle_ops.specs.Object.{Object}
use Rattle.object_texts.specs.Show.{WalkPlace, at_depth}
use Rattle.session_laws.specs.Reached.{under, ids_at, IsOutline}

-- ---- what a walk gives

-- These are the lines of the places, the first lines being before them: that of the next place, and then those of what stands under it and of
-- the other places.
abbrev pub IsWalk : List Object → List WalkPlace → List WalkPlace → List WalkPlace → Type 0
IsWalk heap before places [] = places ≡ []
IsWalk heap before places (p ∷ lines) =
    (rest : List WalkPlace) × (places ≡ p ∷ rest) × IsWalk heap (before ++ p ∷ []) (at_depth (p.depth + 1) (under heap before p.id) ++ rest) lines

-- no place is deeper than this, or than the place before it
abbrev pub NoDeeper : ℕ → List WalkPlace → Type 0
NoDeeper depth [] = Unit {0}
NoDeeper depth (p ∷ places) = (p.depth ≤ depth) × NoDeeper p.depth places

pub no_deeper_more : (d e : ℕ) (places : List WalkPlace) → d ≤ e → NoDeeper d places → NoDeeper e places
no_deeper_more d e [] h n = tt
no_deeper_more d e (p ∷ places) h n = (omega (arith, n.0, h), n.1)

no_deeper_under : (d : ℕ) (ids : List ℕ) (places : List WalkPlace) → NoDeeper d places → NoDeeper d (at_depth d ids ++ places)
no_deeper_under d [] places n = n
no_deeper_under d (id ∷ ids) places n = (omega arith, no_deeper_under d ids places n)

-- what is left after a place
pub no_deeper_rest : (d : ℕ) (p : WalkPlace) (ids : List ℕ) (rest : List WalkPlace) → NoDeeper d (p ∷ rest) → NoDeeper (p.depth + 1) (at_depth (p.depth + 1) ids ++ rest)
no_deeper_rest d p ids rest n = no_deeper_under (p.depth + 1) ids rest (no_deeper_more p.depth (p.depth + 1) rest (omega arith) n.1)

-- ---- objects at a depth

less_is : (a b : ℕ) → a < b → nat_lt a b ≡ true
less_is a b h = search rules

not_less : (a b : ℕ) → b ≤ a → nat_lt a b ≡ false
not_less a b h = search rules

pub same_is : (a b : ℕ) → a ≡ b → (a == b) ≡ true
same_is a b h = search rules

pub differ_is : (a b : ℕ) → a ≢ b → (a == b) ≡ false
differ_is a b h = search rules

pub at_less : (d : ℕ) (p : WalkPlace) (lines : List WalkPlace) → p.depth < d → ids_at d (p ∷ lines) ≡ []
at_less d p lines h = rw (less_is p.depth d h) refl

pub at_same : (d : ℕ) (p : WalkPlace) (lines : List WalkPlace) → p.depth ≡ d → ids_at d (p ∷ lines) ≡ p.id ∷ ids_at d lines
at_same d p lines h = rw (not_less p.depth d (omega (arith, h)), same_is p.depth d h) refl

pub at_more : (d : ℕ) (p : WalkPlace) (lines : List WalkPlace) → d < p.depth → ids_at d (p ∷ lines) ≡ ids_at d lines
at_more d p lines h = rw (not_less p.depth d (omega (arith, h)), differ_is p.depth d (omega (arith, h))) refl

pub order : (a b : ℕ) → (a < b) ⊎ ((a ≡ b) ⊎ (b < a))
order zero zero = inr (inl refl)
order zero (suc b) = inl (omega arith)
order (suc a) zero = inr (inr (omega arith))
order (suc a) (suc b) = elim (order a b) [ inl h ↦ inl (omega (arith, h)) | inr h ↦ elim h [ inl e ↦ inr (inl (ap suc e)) | inr g ↦ inr (inr (omega (arith, g))) ] ]

-- places that are all deeper are passed over
pub at_deeper : (d e : ℕ) (ids : List ℕ) (places : List WalkPlace) → d < e → ids_at d (at_depth e ids ++ places) ≡ ids_at d places
at_deeper d e [] places h = refl
at_deeper d e (id ∷ ids) places h = at_more d (record { depth = e; id = id }) (at_depth e ids ++ places) h ∙ at_deeper d e ids places h

pub at_there : (d : ℕ) (ids : List ℕ) (places : List WalkPlace) → ids_at d (at_depth d ids ++ places) ≡ ids ++ ids_at d places
at_there d [] places = refl
at_there d (id ∷ ids) places = at_same d (record { depth = d; id = id }) (at_depth d ids ++ places) refl ∙ ap (λ (t : List ℕ). id ∷ t) (at_there d ids places)

pub at_none : (d e : ℕ) (places : List WalkPlace) → NoDeeper d places → d < e → ids_at e places ≡ []
at_none d e [] n h = refl
at_none d e (p ∷ places) n h = at_less e p places (omega (arith, n.0, h))

-- one place more, at whichever depth
at_both : (d : ℕ) (p : WalkPlace) (lines places : List WalkPlace) → (d ≤ p.depth → ids_at d lines ≡ ids_at d places) → ids_at d (p ∷ lines) ≡ ids_at d (p ∷ places)
at_both d p lines places same = elim (order p.depth d) [
  | inl h ↦ at_less d p lines h ∙ sym (at_less d p places h)
  | inr g ↦ elim g [
    | inl h ↦ at_same d p lines h ∙ ap (λ (t : List ℕ). p.id ∷ t) (same (omega (arith, h))) ∙ sym (at_same d p places h)
    | inr h ↦ at_more d p lines h ∙ same (omega (arith, h)) ∙ sym (at_more d p places h)
  ]
]

-- the lines of places have at each depth what the places have
walk_at : (heap : List Object) (before places lines : List WalkPlace) (d : ℕ) → IsWalk heap before places lines → ids_at d lines ≡ ids_at d places
walk_at heap before places [] d w = rw w refl
walk_at heap before places (p ∷ lines) d w =
    at_both d p lines w.0
    (λ h. walk_at heap (before ++ p ∷ []) (at_depth (p.depth + 1) (under heap before p.id) ++ w.0) lines d w.2
    ∙ at_deeper d (p.depth + 1) (under heap before p.id) w.0 (omega (arith, h)))
    ∙ ap (ids_at d) (sym w.1)

-- ---- the lines of a walk are an outline

-- the places that are left, none of which is deeper
no_deeper_next : (heap : List Object) (before places : List WalkPlace) (p : WalkPlace) (rest : List WalkPlace) (d : ℕ) → places ≡ p ∷ rest → NoDeeper d places
    → NoDeeper (p.depth + 1) (at_depth (p.depth + 1) (under heap before p.id) ++ rest)
no_deeper_next heap before places p rest d e n = no_deeper_rest d p (under heap before p.id) rest (subst (NoDeeper d) e n)

-- after lines, one more
pub after_one : (before : List WalkPlace) (p : WalkPlace) (lines : List WalkPlace) → before ++ p ∷ lines ≡ (before ++ p ∷ []) ++ lines
after_one before p lines = sym (append_assoc before (p ∷ []) lines)

walk_below : (heap : List Object) (before places lines : List WalkPlace) (d : ℕ) → IsWalk heap before places lines → NoDeeper d places
    → (k : ℕ) (p : WalkPlace) → slice_get lines k ≡ Some p → ids_at (p.depth + 1) (drop (suc k) lines) ≡ under heap (before ++ take k lines) p.id
walk_below heap before places [] d w n k p e = absurd cc
walk_below heap before places (q ∷ lines) d w n zero p e =
    let same : q ≡ p = cc in
    let less : NoDeeper q.depth w.0 = (subst (NoDeeper d) w.1 n).1 in
    subst (λ (t : WalkPlace). ids_at (t.depth + 1) lines ≡ under heap (before ++ []) t.id) same
    (walk_at heap (before ++ q ∷ []) (at_depth (q.depth + 1) (under heap before q.id) ++ w.0) lines (q.depth + 1) w.2
    ∙ at_there (q.depth + 1) (under heap before q.id) w.0
    ∙ ap (λ (t : List ℕ). under heap before q.id ++ t) (at_none q.depth (q.depth + 1) w.0 less (omega arith))
    ∙ append-nil (under heap before q.id)
    ∙ ap (λ (t : List WalkPlace). under heap t q.id) (sym (append-nil before)))
walk_below heap before places (q ∷ lines) d w n (suc k) p e =
    walk_below heap (before ++ q ∷ []) (at_depth (q.depth + 1) (under heap before q.id) ++ w.0) lines (q.depth + 1) w.2 (no_deeper_next heap before places q w.0 d w.1 n) k p e
    ∙ ap (λ (t : List WalkPlace). under heap t p.id) (sym (after_one before q (take k lines)))

-- the first line is that of the first place
walk_first : (heap : List Object) (before places lines : List WalkPlace) (d : ℕ) (q : WalkPlace) → IsWalk heap before places lines → NoDeeper d places → slice_get lines 0 ≡ Some q → q.depth ≤ d
walk_first heap before places [] d q w n e = absurd cc
walk_first heap before places (p ∷ lines) d q w n e =
    let same : p ≡ q = cc in
    subst (λ (t : WalkPlace). t.depth ≤ d) same (subst (NoDeeper d) w.1 n).0

walk_next : (heap : List Object) (before places lines : List WalkPlace) (d : ℕ) → IsWalk heap before places lines → NoDeeper d places
    → (k : ℕ) (p q : WalkPlace) → slice_get lines k ≡ Some p → slice_get lines (suc k) ≡ Some q → q.depth ≤ p.depth + 1
walk_next heap before places [] d w n k p q e f = absurd cc
walk_next heap before places (r ∷ lines) d w n zero p q e f =
    let same : r ≡ p = cc in
    subst (λ (t : WalkPlace). q.depth ≤ t.depth + 1) same
    (walk_first heap (before ++ r ∷ []) (at_depth (r.depth + 1) (under heap before r.id) ++ w.0) lines (r.depth + 1) q w.2 (no_deeper_next heap before places r w.0 d w.1 n) f)
walk_next heap before places (r ∷ lines) d w n (suc k) p q e f =
    walk_next heap (before ++ r ∷ []) (at_depth (r.depth + 1) (under heap before r.id) ++ w.0) lines (r.depth + 1) w.2 (no_deeper_next heap before places r w.0 d w.1 n) k p q e f

-- the place from which a walk begins
abbrev pub begin : ℕ → List WalkPlace
begin asked = record { depth = 0; id = asked } ∷ []

begin_first : (heap : List Object) (asked : ℕ) (lines : List WalkPlace) → IsWalk heap [] (begin asked) lines → slice_get lines 0 ≡ Some (record { depth = 0; id = asked })
begin_first heap asked [] w = absurd cc
begin_first heap asked (p ∷ lines) w = cc

pub walk_outline : (heap : List Object) (asked : ℕ) (lines : List WalkPlace) → IsWalk heap [] (begin asked) lines → IsOutline heap asked lines
walk_outline heap asked lines w = record {
  first = begin_first heap asked lines w;
  alone = walk_at heap [] (begin asked) lines 0 w;
  next = walk_next heap [] (begin asked) lines 0 w (omega arith, tt);
  below = walk_below heap [] (begin asked) lines 0 w (omega arith, tt);
}
