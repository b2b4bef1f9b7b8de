-- The walk, place by place.
use Rattle.std.proofs.Common.{◌≡◌, ℕ, zero, suc, ◌+◌, ◌<◌, ◌≤◌, Bool, true, false, List, [], ◌∷◌, ◌++◌, length, replicate, get_or, set, cond, take, ◌-◌, Option, None, Some, refl, sym, ap, ◌∙◌, append_assoc, append-nil, length-append, inl, inr, arith}
use Rattle.std.specs.Prelude.{slice_get, Result, Ok, Err, is_ok, is_err, if◌then◌else◌, codes, decimal}
use Rattle.std.proofs.lemmas.Option.{slice_get_cases}
use Rattle.std.proofs.lemmas.List.{length-replicate}
use Rattle.pickle_io.specs.Text.{◌⧺◌}
use Rattle.pickle_ops.specs.Object.{Object}
use Rattle.pickle_io.specs.Device.{each}
use Rattle.pickle_text.specs.Column.{newline}
use Rattle.pickle_text.specs.Words.{id_text}
use Rattle.object_texts.specs.ObjectText.{next_text, object_text}
use Rattle.object_texts.specs.Show.{WalkPlace, again_line, first_line, at_depth, found, content, walk, show_text}
use Rattle.object_texts.specs.Inside.Walking.{unseen, place_line, seen_after, entered, pending, unwritten_text, walk_text}
use Rattle.pickle_text.proofs.Lengths.{one_line}

-- ---- marks of what was seen

unseen-none : (n : ℕ) → unseen (replicate n false) ≡ n
unseen-none zero = refl
unseen-none (suc n) = ap suc (unseen-none n)

-- one that was not seen is seen
unseen-less : (seen : List Bool) (id : ℕ) → id < length seen → get_or seen id false ≡ false → unseen seen ≡ suc (unseen (set seen id true))
unseen-less [] id h e = absurd (omega (arith, h))
unseen-less (false ∷ seen) zero h e = refl
unseen-less (true ∷ seen) zero h e = absurd cc
unseen-less (false ∷ seen) (suc id) h e = ap suc (unseen-less seen id (omega (arith, h)) e)
unseen-less (true ∷ seen) (suc id) h e = unseen-less seen id (omega (arith, h)) e

-- ---- places on the stack

pub pending-push : (depth : ℕ) (stack : List (List ℕ)) (ids : List ℕ) → pending depth (stack ++ ids ∷ []) ≡ at_depth (depth + length stack) ids ++ pending depth stack
pending-push depth [] ids =
    let e : depth + 0 ≡ depth = omega arith in
    rw (e, append-nil) refl
pending-push depth (f ∷ stack) ids =
    let e : (depth + 1) + length stack ≡ depth + suc (length stack) = omega arith in
    ap (λ (t : List WalkPlace). t ++ at_depth depth f) (pending-push (depth + 1) stack ids)
    ∙ append_assoc (at_depth ((depth + 1) + length stack) ids) (pending (depth + 1) stack) (at_depth depth f)
    ∙ ap (λ (d : ℕ). at_depth d ids ++ (pending (depth + 1) stack ++ at_depth depth f)) e

-- ---- the walk at one place

walk-again : (n : ℕ) (heap : List Object) (seen : List Bool) (p : WalkPlace) (places : List WalkPlace) → found heap seen p.id ≡ None
    → walk n heap seen (p ∷ places) ≡ again_line p.depth p.id ++ walk n heap seen places
unfolding walk ◌⧺◌ each
walk-again zero heap seen p places e = refl
walk-again (suc n) heap seen p places e = rw e refl

walk-first : (n m : ℕ) (heap : List Object) (seen : List Bool) (p : WalkPlace) (places : List WalkPlace) (o : Object) → found heap seen p.id ≡ Some o → n ≡ suc m
    → walk n heap seen (p ∷ places) ≡ first_line p.depth p.id o ++ walk m heap (set seen p.id true) (at_depth (p.depth + 1) (content o) ++ places)
unfolding walk ◌⧺◌
walk-first n m heap seen p places o e h = rw (h, e) refl

-- the object of a number that was not seen
pub fresh : (heap : List Object) (seen : List Bool) (id : ℕ) (o : Object) → found heap seen id ≡ Some o → length seen ≡ length heap → (id < length seen) × (get_or seen id false ≡ false)
fresh heap seen id o e same = go (get_or seen id false) refl e
  where
    go : (t : Bool) → get_or seen id false ≡ t → cond t None (slice_get heap id) ≡ Some o → (id < length seen) × (get_or seen id false ≡ false)
    go true h x = absurd cc
    go false h x = elim (slice_get_cases heap id).1 [
      | inl there ↦ (omega (arith, there.0, same), h)
      | inr far ↦ let y : None ≡ Some o = sym far.1 ∙ x in absurd cc
    ]

pub fits : (heap : List Object) (seen : List Bool) (id : ℕ) (o : Object) → found heap seen id ≡ Some o → length seen ≡ length heap → unseen seen ≡ suc (unseen (set seen id true))
fits heap seen id o e same = let f = fresh heap seen id o e same in unseen-less seen id f.0 f.1

pub room-left : (heap : List Object) (seen : List Bool) (id : ℕ) (o : Object) (n cap : ℕ) → found heap seen id ≡ Some o → length seen ≡ length heap → n + unseen seen ≤ cap
    → (n < cap) × ((n + 1) + unseen (set seen id true) ≤ cap)
room-left heap seen id o n cap e same h = let less = fits heap seen id o e same in (omega (arith, less, h), omega (arith, less, h))

-- ---- what is left, step by step

pub left-none : (heap : List Object) (seen : List Bool) → unwritten_text heap seen [] ≡ []
unfolding unwritten_text walk each
left-none heap seen = go (unseen seen)
  where
    go : (n : ℕ) → walk n heap seen [] ≡ []
    go zero = refl
    go (suc n) = refl

left-empty : (heap : List Object) (seen : List Bool) (stack : List (List ℕ)) → unwritten_text heap seen (stack ++ [] ∷ []) ≡ unwritten_text heap seen stack
unfolding unwritten_text
left-empty heap seen stack = ap (walk (unseen seen) heap seen) (pending-push 1 stack [])

left-next : (heap : List Object) (seen : List Bool) (stack : List (List ℕ)) (id : ℕ) (rest : List ℕ) (depth : ℕ) → length seen ≡ length heap → depth ≡ length stack + 1
    → unwritten_text heap seen (stack ++ (id ∷ rest) ∷ []) ≡ place_line depth id (found heap seen id) ++ unwritten_text heap (seen_after seen id (found heap seen id)) ((stack ++ rest ∷ []) ++ entered (found heap seen id))
unfolding unwritten_text
left-next heap seen stack id rest depth same d = go (found heap seen id) refl
  where
    e : 1 + length stack ≡ depth
    e = omega (arith, d)

    places : pending 1 (stack ++ (id ∷ rest) ∷ []) ≡ record { depth = depth; id = id } ∷ pending 1 (stack ++ rest ∷ [])
    places = pending-push 1 stack (id ∷ rest) ∙ ap (λ (k : ℕ). at_depth k (id ∷ rest) ++ pending 1 stack) e
        ∙ ap (λ (ps : List WalkPlace). record { depth = depth; id = id } ∷ ps) (ap (λ (k : ℕ). at_depth k rest ++ pending 1 stack) (sym e) ∙ sym (pending-push 1 stack rest))

    go : (f : Option Object) → found heap seen id ≡ f
        → walk (unseen seen) heap seen (pending 1 (stack ++ (id ∷ rest) ∷ [])) ≡ place_line depth id f ++ walk (unseen (seen_after seen id f)) heap (seen_after seen id f) (pending 1 ((stack ++ rest ∷ []) ++ entered f))
    go None h = ap (walk (unseen seen) heap seen) places ∙ walk-again (unseen seen) heap seen (record { depth = depth; id = id }) (pending 1 (stack ++ rest ∷ [])) h
        ∙ ap (λ (s : List (List ℕ)). again_line depth id ++ walk (unseen seen) heap seen (pending 1 s)) (sym (append-nil (stack ++ rest ∷ [])))
    go (Some o) h =
        let k : 1 + length (stack ++ rest ∷ []) ≡ depth + 1 = omega (arith, length-append stack (rest ∷ []), d) in
        let inner : at_depth (depth + 1) (content o) ++ pending 1 (stack ++ rest ∷ []) ≡ pending 1 ((stack ++ rest ∷ []) ++ content o ∷ []) =
        ap (λ (n : ℕ). at_depth n (content o) ++ pending 1 (stack ++ rest ∷ [])) (sym k) ∙ sym (pending-push 1 (stack ++ rest ∷ []) (content o)) in
        ap (walk (unseen seen) heap seen) places
        ∙ walk-first (unseen seen) (unseen (set seen id true)) heap seen (record { depth = depth; id = id }) (pending 1 (stack ++ rest ∷ [])) o h (fits heap seen id o h same)
        ∙ ap (λ (ps : List WalkPlace). first_line depth id o ++ walk (unseen (set seen id true)) heap (set seen id true) ps) inner

-- the first place: nothing is on the stack
pub left-first : (heap : List Object) (id : ℕ) (seen : List Bool) → seen ≡ replicate (length heap) false
    → show_text heap id ≡ walk_text heap seen id
unfolding unwritten_text show_text ◌⧺◌
left-first heap id seen s = rw (← s) (go (found heap seen id) refl)
  where
    all : unseen seen ≡ length heap
    all = ap unseen s ∙ unseen-none (length heap)

    same : length seen ≡ length heap
    same = ap length s ∙ length-replicate (length heap) false

    go : (f : Option Object) → found heap seen id ≡ f
        → walk (length heap) heap seen (record { depth = 0; id = id } ∷ []) ≡ place_line 0 id f ++ walk (unseen (seen_after seen id f)) heap (seen_after seen id f) (pending 1 (entered f))
    go None h = walk-again (length heap) heap seen (record { depth = 0; id = id }) [] h ∙ ap (λ (n : ℕ). again_line 0 id ++ walk n heap seen []) (sym all)
    go (Some o) h = walk-first (length heap) (unseen (set seen id true)) heap seen (record { depth = 0; id = id }) [] o h (sym all ∙ fits heap seen id o h same)
        ∙ ap (λ (ps : List WalkPlace). first_line 0 id o ++ walk (unseen (set seen id true)) heap (set seen id true) ps) (append-nil (at_depth 1 (content o)))

-- ---- the loop over the stack

-- an object whose content was walked leaves the stack
pub left-popped : (heap : List Object) (seen : List Bool) (old new : List (List ℕ)) (frame : List ℕ) → old ≡ new ++ frame ∷ [] → frame ≡ [] → unwritten_text heap seen old ≡ unwritten_text heap seen new
left-popped heap seen old new frame e h = ap (unwritten_text heap seen) (e ∙ ap (λ (f : List ℕ). new ++ f ∷ []) h) ∙ left-empty heap seen new

-- the next place of the object on top of the stack
pub left-stepped : (heap : List Object) (seen seen-new : List Bool) (old popped pushed new : List (List ℕ)) (frame rest : List ℕ) (depth id : ℕ)
    → length seen ≡ length heap → old ≡ popped ++ frame ∷ [] → frame ≡ id ∷ rest → pushed ≡ popped ++ rest ∷ [] → depth ≡ length popped + 1
    → seen-new ≡ seen_after seen id (found heap seen id) → new ≡ pushed ++ entered (found heap seen id)
    → unwritten_text heap seen old ≡ place_line depth id (found heap seen id) ++ unwritten_text heap seen-new new
left-stepped heap seen seen-new old popped pushed new frame rest depth id same o f p d s n =
    ap (unwritten_text heap seen) (o ∙ ap (λ (x : List ℕ). popped ++ x ∷ []) f) ∙ left-next heap seen popped id rest depth same d
    ∙ ap (λ (x : List Bool). place_line depth id (found heap seen id) ++ unwritten_text heap x ((popped ++ rest ∷ []) ++ entered (found heap seen id))) (sym s)
    ∙ ap (λ (x : List (List ℕ)). place_line depth id (found heap seen id) ++ unwritten_text heap seen-new x) (ap (λ (y : List (List ℕ)). y ++ entered (found heap seen id)) (sym p) ∙ sym n)

-- ---- lines are long enough for the walk to end

line-long : (depth id : ℕ) (f : Option Object) → 2 ≤ length (place_line depth id f)
unfolding again_line first_line next_text
line-long depth id None =
    let x : length (place_line depth id None) ≡ length (decimal depth ⧺ next_text id) + 1 = one_line (decimal depth ⧺ next_text id) newline in
    let y : length (decimal depth ⧺ next_text id) ≡ length (decimal depth) + length (next_text id) = one_line (decimal depth) (next_text id) in
    let z : length (next_text id) ≡ 1 + length (id_text id) = one_line (codes " ") (id_text id) in
    omega (arith, x, y, z)
line-long depth id (Some o) =
    let x : length (place_line depth id (Some o)) ≡ length ((decimal depth ⧺ codes " ") ⧺ object_text id o) + 1 = one_line ((decimal depth ⧺ codes " ") ⧺ object_text id o) newline in
    let y : length ((decimal depth ⧺ codes " ") ⧺ object_text id o) ≡ length (decimal depth ⧺ codes " ") + length (object_text id o) = one_line (decimal depth ⧺ codes " ") (object_text id o) in
    let z : length (decimal depth ⧺ codes " ") ≡ length (decimal depth) + 1 = one_line (decimal depth) (codes " ") in
    omega (arith, x, y, z)

pub smaller-popped : (heap : List Object) (seen : List Bool) (old new : List (List ℕ)) (frame : List ℕ) → old ≡ new ++ frame ∷ [] → frame ≡ []
    → length (unwritten_text heap seen new) + length new < length (unwritten_text heap seen old) + length old
smaller-popped heap seen old new frame e h =
    let l : length old ≡ length new + 1 = ap length e ∙ length-append new (frame ∷ []) in
    let t : length (unwritten_text heap seen old) ≡ length (unwritten_text heap seen new) = ap length (left-popped heap seen old new frame e h) in
    omega (arith, l, t)

entered-short : (f : Option Object) → length (entered f) ≤ 1
entered-short None = omega arith
entered-short (Some o) = omega arith

pub smaller-stepped : (heap : List Object) (seen seen-new : List Bool) (old popped pushed new : List (List ℕ)) (frame rest : List ℕ) (depth id : ℕ)
    → length seen ≡ length heap → old ≡ popped ++ frame ∷ [] → frame ≡ id ∷ rest → pushed ≡ popped ++ rest ∷ [] → depth ≡ length popped + 1
    → seen-new ≡ seen_after seen id (found heap seen id) → new ≡ pushed ++ entered (found heap seen id)
    → length (unwritten_text heap seen-new new) + length new < length (unwritten_text heap seen old) + length old
smaller-stepped heap seen seen-new old popped pushed new frame rest depth id same o f p d s n =
    let t : length (unwritten_text heap seen old) ≡ length (place_line depth id (found heap seen id)) + length (unwritten_text heap seen-new new) =
    ap length (left-stepped heap seen seen-new old popped pushed new frame rest depth id same o f p d s n) ∙ length-append (place_line depth id (found heap seen id)) (unwritten_text heap seen-new new) in
    let l : length old ≡ length popped + 1 = ap length o ∙ length-append popped (frame ∷ []) in
    let q : length pushed ≡ length popped + 1 = ap length p ∙ length-append popped (rest ∷ []) in
    let r : length new ≡ length pushed + length (entered (found heap seen id)) = ap length n ∙ length-append pushed (entered (found heap seen id)) in
    omega (arith, t, l, q, r, line-long depth id (found heap seen id), entered-short (found heap seen id))

-- ---- the marks of what was seen, as they are made

take-none : (n : ℕ) (xs : List Bool) → xs ≡ [] → take n xs ≡ []
take-none n [] e = go n
  where
    none : List Bool
    none = []

    go : (n : ℕ) → take n none ≡ none
    go zero = refl
    go (suc n) = refl
take-none n (x ∷ xs) e = absurd cc

pub filled : {A E : Type 0} (r : Result A E) (items old : List Bool) (n k : ℕ) → is_err r ≡ false → old ≡ [] → k ≡ 0
    → items ≡ (if is_ok r then take n old ++ replicate (n - k) false else old) → items ≡ replicate n false
filled (Ok x) items old n k h o z e =
    let m : n - k ≡ n = omega (arith, z) in
    e ∙ ap (λ (xs : List Bool). xs ++ replicate (n - k) false) (take-none n old o) ∙ ap (λ (x : ℕ). replicate x false) m
filled (Err x) items old n k h o z e = absurd cc

pub unseen-filled : (seen : List Bool) (n : ℕ) → seen ≡ replicate n false → unseen seen ≡ n
unseen-filled seen n e = ap unseen e ∙ unseen-none n
