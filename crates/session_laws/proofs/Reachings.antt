-- What a walk reaches.
use Rattle.std.proofs.Common.{◌≡◌, ℕ, zero, suc, ◌+◌, ◌<◌, ◌==◌, Bool, true, false, List, [], ◌∷◌, ◌++◌, take, drop, Option, None, Some, refl, sym, ap, subst, ◌∙◌, inl, inr, rules, arith}
use Rattle.std.specs.Prelude.{slice_get, ◌||◌, if◌then◌else◌, IsSome}
use Rattle.std.specs.Option.{option_map_or}
use Rattle.pickle_ops.specs.Object.{Object}
use Rattle.object_texts.specs.Show.{WalkPlace, at_depth, content}
use Rattle.session_laws.specs.Reached.{Holds, Reaches, has_line, in_full, under, ids_at, IsOutline, IsInFull}
use Rattle.session_laws.proofs.Outlines.{IsWalk, order, same_is, at_less, at_same, at_more, begin}

-- ---- whether an object has a line

or_first : (a b : Bool) → a ≡ true → (a || b) ≡ true
or_first true b e = refl
or_first false b e = absurd cc

or_second : (a b : Bool) → b ≡ true → (a || b) ≡ true
or_second true b e = refl
or_second false b e = e

is_same : (a b : ℕ) → (a == b) ≡ true → a ≡ b
is_same a b h = search rules

-- the first of its lines
pub record IsFirst (lines : List WalkPlace) (id k : ℕ) (p : WalkPlace) : Type 0 where
  pub there : slice_get lines k ≡ Some p
  pub is : p.id ≡ id
  pub before : has_line (take k lines) id ≡ false

pub first_line_of : (lines : List WalkPlace) (id : ℕ) → has_line lines id ≡ true → (k : ℕ) × (p : WalkPlace) × IsFirst lines id k p
first_line_of [] id h = absurd cc
first_line_of (q ∷ lines) id h = go (q.id == id) refl h (λ g. first_line_of lines id g)
  where
    go : (b : Bool) → (q.id == id) ≡ b → (b || has_line lines id) ≡ true → (has_line lines id ≡ true → (k : ℕ) × (p : WalkPlace) × IsFirst lines id k p)
        → (k : ℕ) × (p : WalkPlace) × IsFirst (q ∷ lines) id k p
    go true e g more = (0, q, record { there = refl; is = is_same q.id id e; before = refl })
    go false e g more =
        let rest = more g in
        (suc rest.0, rest.1, record { there = rest.2.there; is = rest.2.is; before = rw (e, rest.2.before) refl })

-- a line is a line of its object
line_has : (lines : List WalkPlace) (k : ℕ) (p : WalkPlace) → slice_get lines k ≡ Some p → has_line lines p.id ≡ true
line_has [] k p e = absurd cc
line_has (q ∷ lines) zero p e =
    let same : q ≡ p = cc in
    or_first (q.id == p.id) (has_line lines p.id) (same_is q.id p.id (ap (λ (t : WalkPlace). t.id) same))
line_has (q ∷ lines) (suc k) p e = or_second (q.id == p.id) (has_line lines p.id) (line_has lines k p e)

has_dropped : (k : ℕ) (lines : List WalkPlace) (id : ℕ) → has_line (drop k lines) id ≡ true → has_line lines id ≡ true
has_dropped zero lines id h = h
has_dropped (suc k) [] id h = h
has_dropped (suc k) (q ∷ lines) id h = or_second (q.id == id) (has_line lines id) (has_dropped k lines id h)

-- what is at a depth has a line
at_has : (d : ℕ) (lines : List WalkPlace) (k id : ℕ) → slice_get (ids_at d lines) k ≡ Some id → has_line lines id ≡ true
at_has d [] k id e = absurd cc
at_has d (q ∷ lines) k id e = elim (order q.depth d) [
  | inl less ↦ let none : slice_get {X = ℕ} [] k ≡ Some id = subst (λ (t : List ℕ). slice_get t k ≡ Some id) (at_less d q lines less) e in absurd cc
  | inr g ↦ elim g [
    | inl same ↦ at k (subst (λ (t : List ℕ). slice_get t k ≡ Some id) (at_same d q lines same) e) (λ j f. at_has d lines j id f)
    | inr more ↦ or_second (q.id == id) (has_line lines id) (at_has d lines k id (subst (λ (t : List ℕ). slice_get t k ≡ Some id) (at_more d q lines more) e))
  ]
]
  where
    at : (k : ℕ) → slice_get (q.id ∷ ids_at d lines) k ≡ Some id → ((j : ℕ) → slice_get (ids_at d lines) j ≡ Some id → has_line lines id ≡ true) → has_line (q ∷ lines) id ≡ true
    at zero f more = let same : q.id ≡ id = cc in or_first (q.id == id) (has_line lines id) (same_is q.id id same)
    at (suc j) f more = or_second (q.id == id) (has_line lines id) (more j f)

-- ---- each object that is reached has a line

-- at its first line it is in full
first_full : (heap : List Object) (before : List WalkPlace) (id : ℕ) (o : Object) → has_line before id ≡ false → slice_get heap id ≡ Some o → in_full heap before id ≡ Some o
first_full heap before id o h e = rw (h, e) refl

pub full_under : (heap : List Object) (before : List WalkPlace) (id : ℕ) (o : Object) → in_full heap before id ≡ Some o → under heap before id ≡ content o
full_under heap before id o e = ap (λ (x : Option Object). option_map_or content x []) e

-- and its content is behind it
held_has : (heap : List Object) (asked : ℕ) (lines : List WalkPlace) (a b : ℕ) → IsOutline heap asked lines → has_line lines a ≡ true → Holds heap a b → has_line lines b ≡ true
held_has heap asked lines a b o h holds =
    let first = first_line_of lines a h in
    let k : ℕ = first.0 in
    let p : WalkPlace = first.1 in
    let object : slice_get heap p.id ≡ Some holds.0 = ap (slice_get heap) first.2.is ∙ holds.1 in
    let before : has_line (take k lines) p.id ≡ false = ap (has_line (take k lines)) first.2.is ∙ first.2.before in
    let here : ids_at (p.depth + 1) (drop (suc k) lines) ≡ content holds.0 =
    o.below k p first.2.there ∙ full_under heap (take k lines) p.id holds.0 (first_full heap (take k lines) p.id holds.0 before object) in
    has_dropped (suc k) lines b (at_has (p.depth + 1) (drop (suc k) lines) holds.2.0 b (ap (λ (t : List ℕ). slice_get t holds.2.0) here ∙ holds.2.1))

pub reached_has : (heap : List Object) (asked : ℕ) (lines : List WalkPlace) → IsOutline heap asked lines → (n id : ℕ) → Reaches heap asked n id → has_line lines id ≡ true
reached_has heap asked lines o zero id r = subst (λ (x : ℕ). has_line lines x ≡ true) (sym r) (line_has lines 0 (record { depth = 0; id = asked }) o.first)
reached_has heap asked lines o (suc n) id r = held_has heap asked lines r.0 id o (reached_has heap asked lines o n r.0 r.1) r.2

-- ---- each line's object is reached

-- each of the places is reached by as many steps as it is deep
abbrev AreReached : List Object → ℕ → List WalkPlace → Type 0
AreReached heap asked [] = Unit {0}
AreReached heap asked (p ∷ places) = Reaches heap asked p.depth p.id × AreReached heap asked places

-- more places, each held by an object that is reached
reached_under : (heap : List Object) (asked a d : ℕ) (ids : List ℕ) (places : List WalkPlace) → Reaches heap asked d a → ((k b : ℕ) → slice_get ids k ≡ Some b → Holds heap a b)
    → AreReached heap asked places → AreReached heap asked (at_depth (d + 1) ids ++ places)
reached_under heap asked a d [] places r h n = n
reached_under heap asked a d (id ∷ ids) places r h n =
    let one : Reaches heap asked (suc d) id = (a, r, h 0 id refl) in
    let e : suc d ≡ d + 1 = omega arith in
    (subst (λ (x : ℕ). Reaches heap asked x id) e one, reached_under heap asked a d ids places r (λ k b f. h (suc k) b f) n)

-- what is under a line is held by its object
under_held : (heap : List Object) (before : List WalkPlace) (a k b : ℕ) → slice_get (under heap before a) k ≡ Some b → Holds heap a b
under_held heap before a k b e = go (has_line before a) refl (slice_get heap a) refl e
  where
    go : (t : Bool) → has_line before a ≡ t → (x : Option Object) → slice_get heap a ≡ x → slice_get (option_map_or content (if t then None else x) []) k ≡ Some b → Holds heap a b
    go true h x f g = absurd cc
    go false h None f g = absurd cc
    go false h (Some o) f g = (o, f, (k, g))

walk_reached : (heap : List Object) (asked : ℕ) (before places lines : List WalkPlace) → IsWalk heap before places lines → AreReached heap asked places
    → (k : ℕ) (p : WalkPlace) → slice_get lines k ≡ Some p → Reaches heap asked p.depth p.id
walk_reached heap asked before places [] w n k p e = absurd cc
walk_reached heap asked before places (q ∷ lines) w n zero p e =
    let same : q ≡ p = cc in
    subst (λ (t : WalkPlace). Reaches heap asked t.depth t.id) same (subst (AreReached heap asked) w.1 n).0
walk_reached heap asked before places (q ∷ lines) w n (suc k) p e =
    let here : AreReached heap asked (q ∷ w.0) = subst (AreReached heap asked) w.1 n in
    walk_reached heap asked (before ++ q ∷ []) (at_depth (q.depth + 1) (under heap before q.id) ++ w.0) lines w.2
    (reached_under heap asked q.id q.depth (under heap before q.id) w.0 here.0 (λ j b f. under_held heap before q.id j b f) here.1) k p e

pub lines_reached : (heap : List Object) (asked : ℕ) (lines : List WalkPlace) → IsWalk heap [] (begin asked) lines → (k : ℕ) (p : WalkPlace) → slice_get lines k ≡ Some p → Reaches heap asked p.depth p.id
lines_reached heap asked lines w k p e = walk_reached heap asked [] (begin asked) lines w (refl, tt) k p e

-- ---- one line in full

taken_has : (lines : List WalkPlace) (j k : ℕ) (p : WalkPlace) → slice_get lines j ≡ Some p → j < k → has_line (take k lines) p.id ≡ true
taken_has [] j k p e h = absurd cc
taken_has (q ∷ lines) j zero p e h = absurd (omega (arith, h))
taken_has (q ∷ lines) zero (suc k) p e h =
    let same : q ≡ p = cc in
    or_first (q.id == p.id) (has_line (take k lines) p.id) (same_is q.id p.id (ap (λ (t : WalkPlace). t.id) same))
taken_has (q ∷ lines) (suc j) (suc k) p e h = or_second (q.id == p.id) (has_line (take k lines) p.id) (taken_has lines j k p e (omega (arith, h)))

-- what is in full was not before
full_new : (heap : List Object) (before : List WalkPlace) (id : ℕ) → IsSome (in_full heap before id) → has_line before id ≡ false
full_new heap before id s = go (has_line before id) refl s
  where
    go : (t : Bool) → has_line before id ≡ t → IsSome (if t then None else slice_get heap id) → has_line before id ≡ false
    go true h g = absurd cc
    go false h g = h

-- of two lines of an object the later one is not in full
not_later : (heap : List Object) (lines : List WalkPlace) (id j k : ℕ) → IsInFull heap lines id j → IsInFull heap lines id k → j < k → ⊥
not_later heap lines id j k x y h =
    let yes_there : has_line (take k lines) id ≡ true = subst (λ (n : ℕ). has_line (take k lines) n ≡ true) x.2 (taken_has lines j k x.0 x.1 h) in
    let not_there : has_line (take k lines) id ≡ false = full_new heap (take k lines) id y.3 in
    cc

pub one_in_full : (heap : List Object) (lines : List WalkPlace) (id j k : ℕ) → IsInFull heap lines id j → IsInFull heap lines id k → j ≡ k
one_in_full heap lines id j k x y = elim (order j k) [
  | inl h ↦ absurd (not_later heap lines id j k x y h)
  | inr g ↦ elim g [ inl e ↦ e | inr h ↦ absurd (not_later heap lines id k j y x h) ]
]

pub is_in_full : (heap : List Object) (lines : List WalkPlace) (id : ℕ) (o : Object) → has_line lines id ≡ true → slice_get heap id ≡ Some o → (k : ℕ) × IsInFull heap lines id k
is_in_full heap lines id o h e =
    let first = first_line_of lines id h in
    (first.0, (first.1, first.2.there, first.2.is, rw (first_full heap (take first.0 lines) id o first.2.before e) refl))
