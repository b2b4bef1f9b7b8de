-- What is left keeps its offsets.
use Rattle.std.proofs.Common.{◌≡◌, ℕ, ◌+◌, ◌-◌, ◌<◌, ◌≤◌, Bool, true, false, List, [], ◌∷◌, ◌++◌, length, take, drop, refl, sym, ap, ◌∙◌, arith, leb-true, leb-false, lt-ltb, length-append, length-take, length-drop}
use Rattle.std.specs.Prelude.{slice_get, nat_le, nat_lt, if◌then◌else◌}
use Rattle.pickle_io.specs.declared.hole.Hole.{Hole}
use Rattle.pickle_io.specs.Holes.{most, AreHoles, passing, in_file, without_from}
use Rattle.pickle_io.specs.HoleLaws.{BytesKeepTheirOffsets, NothingLeftOut}
use Rattle.pickle_io.proofs.Gets.{get_front, get_back, get_drop, get_take}

-- an offset only rises
pub passing_rises : (holes : List Hole) (offset : ℕ) → offset ≤ passing holes offset
passing_rises [] offset = omega arith
passing_rises (h ∷ holes) offset = go (nat_le h.offset offset) (passing_rises holes (offset + h.size))
  where
    go : (b : Bool) → offset + h.size ≤ passing holes (offset + h.size) → offset ≤ (if b then passing holes (offset + h.size) else offset)
    go true ind = omega (arith, ind)
    go false ind = omega arith

-- ---- what is left

-- the first piece, and what comes behind the hole
pub without-cons : (from : ℕ) (h : Hole) (holes : List Hole) (bytes : List ℕ)
    → without_from from (h ∷ holes) bytes ≡ take (h.offset - from) bytes ++ without_from (h.offset + h.size) holes (drop ((h.offset - from) + h.size) bytes)
unfolding without_from
without-cons from h holes bytes = refl

pub without-nil : (from : ℕ) (bytes : List ℕ) → without_from from [] bytes ≡ bytes
unfolding without_from
without-nil from bytes = refl

pub no_longer : (holes : List Hole) (from : ℕ) (bytes : List ℕ) → length (without_from from holes bytes) ≤ length bytes
no_longer [] from bytes = omega (arith, ap length (without-nil from bytes))
no_longer (h ∷ holes) from bytes =
    let n : ℕ = h.offset - from in
    let rest : List ℕ = drop (n + h.size) bytes in
    let behind : List ℕ = without_from (h.offset + h.size) holes rest in
    let size : length (without_from from (h ∷ holes) bytes) ≡ length (take n bytes) + length behind = ap length (without-cons from h holes bytes) ∙ length-append (take n bytes) behind in
    omega (arith, size, length-take n bytes, no_longer holes (h.offset + h.size) rest, length-drop (n + h.size) bytes)

-- ---- the law

keeps : (holes : List Hole) (from p : ℕ) (bytes : List ℕ) → AreHoles from holes → p < length (without_from from holes bytes)
    → slice_get (without_from from holes bytes) p ≡ slice_get bytes (passing holes (p + from) - from)
keeps [] from p bytes are lt =
    let same : p ≡ (p + from) - from = omega arith in
    ap (λ (xs : List ℕ). slice_get xs p) (without-nil from bytes) ∙ ap (slice_get bytes) same
keeps (h ∷ holes) from p bytes are lt =
    ap (λ (xs : List ℕ). slice_get xs p) (without-cons from h holes bytes)
    ∙ go (nat_le h.offset (p + from)) refl (λ q less. keeps holes (h.offset + h.size) q (drop ((h.offset - from) + h.size) bytes) are.1 less)
  where
    n : ℕ
    n = h.offset - from

    end : ℕ
    end = h.offset + h.size

    rest : List ℕ
    rest = drop (n + h.size) bytes

    behind : List ℕ
    behind = without_from end holes rest

    size : p < length (take n bytes) + length behind
    size = omega (arith, lt, ap length (without-cons from h holes bytes), length-append (take n bytes) behind)

    go : (b : Bool) → nat_le h.offset (p + from) ≡ b → ((q : ℕ) → q < length behind → slice_get behind q ≡ slice_get rest (passing holes (q + end) - end))
        → slice_get (take n bytes ++ behind) p ≡ slice_get bytes ((if b then passing holes ((p + from) + h.size) else p + from) - from)
    go false e ind =
        let high : p + from < h.offset = leb-false _ _ e in
        let before : p < n = omega (arith, high) in
        let within : p < length (take n bytes) = omega (arith, size, before, length-take n bytes, no_longer holes end rest, length-drop (n + h.size) bytes) in
        let same : p ≡ (p + from) - from = omega arith in
        get_front (take n bytes) behind p within ∙ get_take n bytes p before ∙ ap (slice_get bytes) same
    go true e ind =
        let low : h.offset ≤ p + from = leb-true _ _ e in
        let full : length (take n bytes) ≡ n = omega (arith, size, low, are.0.apart, length-take n bytes, no_longer holes end rest, length-drop (n + h.size) bytes) in
        let at : p ≡ length (take n bytes) + (p - n) = omega (arith, full, low, are.0.apart) in
        let left : p - n < length behind = omega (arith, size, full, low, are.0.apart) in
        let there : (p - n) + end ≡ (p + from) + h.size = omega (arith, low, are.0.apart) in
        let rises = passing_rises holes ((p + from) + h.size) in
        let same : (n + h.size) + (passing holes ((p + from) + h.size) - end) ≡ passing holes ((p + from) + h.size) - from = omega (arith, low, are.0.apart, rises) in
        ap (slice_get (take n bytes ++ behind)) at ∙ get_back (take n bytes) behind (p - n) ∙ ind (p - n) left
        ∙ ap (λ (x : ℕ). slice_get rest (passing holes x - end)) there ∙ get_drop (n + h.size) bytes (passing holes ((p + from) + h.size) - end) ∙ ap (slice_get bytes) same

near : (holes : List Hole) (p : ℕ) → p < most → in_file holes p ≡ passing holes p
unfolding in_file
near holes p lt = ap (λ (b : Bool). if b then passing holes p else p) (lt-ltb _ _ lt)

pub bytes_keep_their_offsets : BytesKeepTheirOffsets
bytes_keep_their_offsets holes bytes place are small lt =
    let within : place < most = omega (arith, small, lt, no_longer holes 0 bytes) in
    let zero : place + 0 ≡ place = omega arith in
    let same : passing holes (place + 0) - 0 ≡ passing holes place = ap (λ (x : ℕ). x - 0) (ap (passing holes) zero) ∙ (let e : passing holes place - 0 ≡ passing holes place = omega arith in e) in
    keeps holes 0 place bytes are lt ∙ ap (slice_get bytes) (same ∙ sym (near holes place within))

no_holes : (place : ℕ) → in_file [] place ≡ place
unfolding in_file
no_holes place = go (nat_lt place most)
  where
    go : (b : Bool) → (if b then place else place) ≡ place
    go true = refl
    go false = refl

pub nothing_left_out : NothingLeftOut
nothing_left_out bytes place = record { all = without-nil 0 bytes; there = no_holes place }
