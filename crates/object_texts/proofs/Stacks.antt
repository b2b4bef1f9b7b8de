-- The text of a stack that is written object by object, and section by section.
use Rattle.std.proofs.Common.{◌≡◌, ℕ, zero, suc, ◌+◌, ◌-◌, ◌<◌, ◌≤◌, Bool, true, false, List, [], ◌∷◌, ◌++◌, length, take, drop, get_or, Option, Some, None, refl, sym, ap, subst, ◌∙◌, append-nil, append_assoc, inl, inr, arith}
use Rattle.std.specs.Prelude.{slice_get, nat_lt, if◌then◌else◌}
use Rattle.std.specs.List.{flat_map}
use Rattle.std.specs.Option.{option_to_list}
use Rattle.std.proofs.lemmas.Bool.{cases_lt}
use Rattle.std.proofs.lemmas.List.{take_more, take_all, drop_all, drop-append-le, length-take, length-take-le}
use Rattle.std.proofs.lemmas.List.Concat.{flat_map-append}
use Rattle.std.proofs.lemmas.Option.{slice_get-get_or, slice_get_past}
use Rattle.std.proofs.Math.Seq.{take-append_seam, drop-append_seam}
use Rattle.pickle_io.specs.Text.{◌⧺◌}
use Rattle.pickle_machine.specs.State.{Marked, State, objects_below, stack_of, stack_size, marks_of}
use Rattle.pickle_machine.proofs.Shown.{length-stack_of, length-marks_of, last_mark}
use Rattle.pickle_io.specs.Device.{Told, Wrote, Broke, each}
use Rattle.pickle_io.proofs.Devices.{Wrote-none, Wrote-trans, Broke-after, Broke-more}
use Rattle.object_texts.specs.Inside.Between.{between}
use Rattle.object_texts.specs.ObjectText.{next_text}
use Rattle.object_texts.specs.StackText.{section_text, marked_text}

-- ---- objects

nexts-append : (xs ys : List ℕ) → each next_text (xs ++ ys) ≡ each next_text xs ++ each next_text ys
unfolding each
nexts-append xs ys = flat_map-append next_text xs ys

-- one object, or none
pub one_object : (o : Option ℕ) (id : ℕ) → o ≡ Some id → next_text id ≡ each next_text (option_to_list o)
unfolding each
one_object o id e = sym (append-nil (next_text id)) ∙ ap (λ (x : Option ℕ). flat_map next_text (option_to_list x)) (sym e)

no_object : each next_text [] ≡ []
unfolding each
no_object = refl

pub Wrote-no_object : (a : Told) (o : Option ℕ) → o ≡ None → Wrote a a (each next_text (option_to_list o))
Wrote-no_object a o e = rw (e, no_object) (Wrote-none a)

-- one place more
between-next : (xs : List ℕ) (from i : ℕ) → from ≤ i → between from (i + 1) xs ≡ between from i xs ++ option_to_list (slice_get xs i)
between-next xs from i h = elim (cases_lt i (length xs)) [
  | inl within ↦
      let front : length (take i xs) ≡ i = length-take-le i xs (omega (arith, within)) in
      let x = get_or xs i 0 in
      let more : take (i + 1) xs ≡ take i xs ++ x ∷ [] = take_more xs i 0 within in
      ap (drop from) more ∙ drop-append-le from (take i xs) (x ∷ []) (omega (arith, front, h))
      ∙ ap (λ (o : Option ℕ). between from i xs ++ option_to_list o) (sym (slice_get-get_or xs i 0 within))
  | inr past ↦
      ap (drop from) (take_all (i + 1) xs (omega (arith, past)) ∙ sym (take_all i xs past))
      ∙ sym (append-nil (between from i xs)) ∙ ap (λ (o : Option ℕ). between from i xs ++ option_to_list o) (sym (slice_get_past xs i past))
]

between-none : (xs : List ℕ) (from to : ℕ) → to ≤ from → between from to xs ≡ []
between-none xs from to h = drop_all from (take to xs) (omega (arith, length-take to xs, h))

pub nexts-none : (a : Told) (xs : List ℕ) (from : ℕ) → Wrote a a (each next_text (between from from xs))
nexts-none a xs from = rw (between-none xs from from (omega arith), no_object) (Wrote-none a)

pub nexts-all : (a b : Told) (xs : List ℕ) (from i to : ℕ) → from ≤ i → to ≤ i → (from ≤ to → i ≤ to) → (to ≤ from → i ≤ from)
    → Wrote a b (each next_text (between from i xs)) → Wrote a b (each next_text (between from to xs))
nexts-all a b xs from i to h k up down p = elim (cases_lt from to) [
  | inl l ↦ subst (λ (n : ℕ). Wrote a b (each next_text (between from n xs))) (omega (arith, k, up (omega (arith, l)))) p
  | inr l ↦ subst (λ (ids : List ℕ). Wrote a b (each next_text ids)) (between-none xs from i (down l) ∙ sym (between-none xs from to l)) p
]

nexts-parts : (xs : List ℕ) (from i : ℕ) → from ≤ i
    → each next_text (between from (i + 1) xs) ≡ each next_text (between from i xs) ++ each next_text (option_to_list (slice_get xs i))
nexts-parts xs from i h = ap (each next_text) (between-next xs from i h) ∙ nexts-append (between from i xs) (option_to_list (slice_get xs i))

pub nexts-next : (a b c : Told) (xs : List ℕ) (from i : ℕ) → from ≤ i
    → Wrote b c (each next_text (option_to_list (slice_get xs i))) → Wrote a b (each next_text (between from i xs)) → Wrote a c (each next_text (between from (i + 1) xs))
nexts-next a b c xs from i h q p =
    rw (nexts-parts xs from i h) (Wrote-trans a b c (each next_text (between from i xs)) (each next_text (option_to_list (slice_get xs i))) p q)

-- what stands from one place up to another, and what stands after that
between-more : (xs : List ℕ) (from i n : ℕ) → from ≤ i → (rest : List ℕ) × (between from (i + n) xs ≡ between from i xs ++ rest)
between-more xs from i zero h = ([], ap (λ (k : ℕ). between from k xs) (omega arith) ∙ sym (append-nil (between from i xs)))
between-more xs from i (suc n) h =
    let m = between-more xs from i n h in
    let last = option_to_list (slice_get xs (i + n)) in (
      m.0 ++ last,
      ap (λ (k : ℕ). between from k xs) (one_more i n) ∙ between-next xs from (i + n) (omega (arith, h)) ∙ ap (λ (t : List ℕ). t ++ last) m.1
          ∙ append_assoc (between from i xs) m.0 last,
    )
  where
    one_more : (i n : ℕ) → i + suc n ≡ (i + n) + 1
    one_more i n = omega arith

pub nexts-stopped : (a b c : Told) (xs : List ℕ) (from i to : ℕ) → from ≤ i → i < to
    → Broke b c (each next_text (option_to_list (slice_get xs i))) → Wrote a b (each next_text (between from i xs)) → Broke a c (each next_text (between from to xs))
nexts-stopped a b c xs from i to h l q p =
    let s = between-more xs from (i + 1) (to - (i + 1)) (omega (arith, h)) in
    let is : (i + 1) + (to - (i + 1)) ≡ to = omega (arith, l) in
    let parts : each next_text (between from to xs) ≡ (each next_text (between from i xs) ++ each next_text (option_to_list (slice_get xs i))) ++ each next_text s.0 =
    ap (λ (k : ℕ). each next_text (between from k xs)) (sym is) ∙ ap (each next_text) s.1 ∙ nexts-append (between from (i + 1) xs) s.0 ∙ ap (λ (t : List ℕ). t ++ each next_text s.0) (nexts-parts xs from i h) in
    rw parts (Broke-more a c (each next_text (between from i xs) ++ each next_text (option_to_list (slice_get xs i))) (each next_text s.0)
    (Broke-after a b c (each next_text (between from i xs)) (each next_text (option_to_list (slice_get xs i))) p q))

-- ---- sections

-- the lowest sections under marks, so many, the topmost of them first
abbrev pub lowest : ℕ → List Marked → List Marked
lowest i [] = []
lowest i (m ∷ ms) = if nat_lt (length ms) i then m ∷ ms else lowest i ms

pub lowest-none : (ms : List Marked) → lowest 0 ms ≡ []
lowest-none [] = refl
lowest-none (m ∷ ms) = let h : nat_lt (length ms) 0 ≡ false = grind arith in rw h (lowest-none ms)

pub lowest-all : (ms : List Marked) → lowest (length ms) ms ≡ ms
lowest-all [] = refl
lowest-all (m ∷ ms) = let h : nat_lt (length ms) (length (m ∷ ms)) ≡ true = grind arith in rw h refl

pub no_section : marked_text [] ≡ []
unfolding marked_text
no_section = refl

marked_text-above : (m : Marked) (ms : List Marked) → marked_text (m ∷ ms) ≡ marked_text ms ++ section_text m.section m.place
unfolding marked_text ◌⧺◌
marked_text-above m ms = refl

some_same : {x y : ℕ × ℕ} → Some x ≡ Some y → x ≡ y
some_same e = cc

absurd_some : {x : ℕ × ℕ} → Some x ≡ None → ⊥
absurd_some e = absurd cc

-- the section under a mark, by its place from the lowest
record IsSection (ms : List Marked) (i : ℕ) : Type 0 where
  m : Marked
  is : lowest (i + 1) ms ≡ m ∷ lowest i ms
  mark : slice_get (marks_of ms) i ≡ Some (m.place, length (objects_below (m ∷ lowest i ms)))
  above : List ℕ
  front : objects_below ms ≡ objects_below (m ∷ lowest i ms) ++ above

slice_get-front : {X : Type 0} (xs ys : List X) (i : ℕ) → i < length xs → slice_get (xs ++ ys) i ≡ slice_get xs i
slice_get-front [] ys i h = absurd (omega (arith, h))
slice_get-front (x ∷ xs) ys zero h = refl
slice_get-front (x ∷ xs) ys (suc i) h = slice_get-front xs ys i (omega (arith, h))

section_at : (ms : List Marked) (i : ℕ) → i < length ms → IsSection ms i
section_at [] i h = absurd (omega (arith, h))
section_at (m ∷ ms) i h = elim (cases_lt i (length ms)) [
  | inl below ↦
      let s = section_at ms i below in
      let here : nat_lt (length ms) i ≡ false = grind (arith, below) in
      let next : nat_lt (length ms) (i + 1) ≡ false = grind (arith, below) in
      record {
        m = s.m;
        is = rw (here, next) s.is;
        mark = rw here (slice_get-front (marks_of ms) _ i (omega (arith, length-marks_of ms, below)) ∙ s.mark);
        above = s.above ++ m.section;
        front = rw here (ap (λ (t : List ℕ). t ++ m.section) s.front ∙ append_assoc (objects_below (s.m ∷ lowest i ms)) s.above m.section);
      }
  | inr top ↦
      let same : i ≡ length ms = omega (arith, top, h) in
      let here : nat_lt (length ms) i ≡ false = grind (arith, top, same) in
      let next : nat_lt (length ms) (i + 1) ≡ true = grind (arith, same) in
      let all : lowest i ms ≡ ms = ap (λ (n : ℕ). lowest n ms) same ∙ lowest-all ms in
      record {
        m = m;
        is = rw (here, next, all) refl;
        mark = rw (here, all) (ap (slice_get (marks_of (m ∷ ms))) same ∙ last_mark m ms);
        above = [];
        front = rw (here, all) (sym (append-nil (objects_below (m ∷ ms))));
      }
]

marked_text-more : (ms : List Marked) (i : ℕ) → (more : List ℕ) × (marked_text ms ≡ marked_text (lowest i ms) ++ more)
marked_text-more [] i = ([], sym (append-nil (marked_text [])))
marked_text-more (m ∷ ms) i = go (nat_lt (length ms) i) (marked_text-more ms i)
  where
    go : (t : Bool) → (more : List ℕ) × (marked_text ms ≡ marked_text (lowest i ms) ++ more)
        → (more : List ℕ) × (marked_text (m ∷ ms) ≡ marked_text (if t then m ∷ ms else lowest i ms) ++ more)
    go true x = ([], sym (append-nil (marked_text (m ∷ ms))))
    go false x =
        let last = section_text m.section m.place in
        (x.0 ++ last, marked_text-above m ms ∙ ap (λ (t : List ℕ). t ++ last) x.1 ∙ append_assoc (marked_text (lowest i ms)) x.0 last)

-- what stands in the middle of a list
between-middle : (xs ys zs : List ℕ) → between (length xs) (length (xs ++ ys)) ((xs ++ ys) ++ zs) ≡ ys
between-middle xs ys zs = ap (drop (length xs)) (take-append_seam (xs ++ ys) zs) ∙ drop-append_seam xs ys

-- ---- the sections, one after another

pub sections-none : (a : Told) (ms : List Marked) → Wrote a a (marked_text (lowest 0 ms))
sections-none a ms = rw (lowest-none ms, no_section) (Wrote-none a)

pub from-none : (ms : List Marked) → 0 ≡ length (objects_below (lowest 0 ms))
from-none ms = rw (lowest-none ms) refl

-- a section that was found: its text, and where it ends
record Found (s : State) (i from to mark : ℕ) : Type 0 where
  text : marked_text (lowest (i + 1) s.marked) ≡ marked_text (lowest i s.marked) ++ section_text (between from to (stack_of s)) mark
  ends : to ≡ length (objects_below (lowest (i + 1) s.marked))

found : (s : State) (i from to mark : ℕ) → i < length s.marked → from ≡ length (objects_below (lowest i s.marked)) → slice_get (marks_of s.marked) i ≡ Some (mark, to)
    → Found s i from to mark
found s i from to mark h f e =
    let x = section_at s.marked i h in
    let pair = some_same (sym x.mark ∙ e) in
    let place : x.m.place ≡ mark = ap (λ (p : ℕ × ℕ). p.0) pair in
    let end : length (objects_below (x.m ∷ lowest i s.marked)) ≡ to = ap (λ (p : ℕ × ℕ). p.1) pair in
    let below = objects_below (lowest i s.marked) in
    let all : stack_of s ≡ (below ++ x.m.section) ++ (x.above ++ s.top) = ap (λ (t : List ℕ). t ++ s.top) x.front ∙ append_assoc (below ++ x.m.section) x.above s.top in
    let section : between from to (stack_of s) ≡ x.m.section =
    ap (λ (k : ℕ). between k to (stack_of s)) f ∙ ap (λ (k : ℕ). between (length below) k (stack_of s)) (sym end)
    ∙ ap (between (length below) (length (below ++ x.m.section))) all ∙ between-middle below x.m.section (x.above ++ s.top) in
    record {
      text = ap marked_text x.is ∙ marked_text-above x.m (lowest i s.marked)
          ∙ ap (λ (t : List ℕ). marked_text (lowest i s.marked) ++ section_text t x.m.place) (sym section)
          ∙ ap (λ (k : ℕ). marked_text (lowest i s.marked) ++ section_text (between from to (stack_of s)) k) place;
      ends = sym end ∙ ap (λ (ms : List Marked). length (objects_below ms)) (sym x.is);
    }

pub sections-next : (a b c : Told) (s : State) (i from to mark : ℕ) → i < length s.marked → from ≡ length (objects_below (lowest i s.marked))
    → slice_get (marks_of s.marked) i ≡ Some (mark, to) → Wrote b c (section_text (between from to (stack_of s)) mark) → Wrote a b (marked_text (lowest i s.marked))
    → Wrote a c (marked_text (lowest (i + 1) s.marked))
sections-next a b c s i from to mark h f e q p =
    let x = found s i from to mark h f e in
    rw x.text (Wrote-trans a b c (marked_text (lowest i s.marked)) (section_text (between from to (stack_of s)) mark) p q)

pub from-next : (s : State) (i from to mark : ℕ) → i < length s.marked → from ≡ length (objects_below (lowest i s.marked))
    → slice_get (marks_of s.marked) i ≡ Some (mark, to) → to ≡ length (objects_below (lowest (i + 1) s.marked))
from-next s i from to mark h f e = let x = found s i from to mark h f e in x.ends

pub sections-stopped : (a b c : Told) (s : State) (i from to mark : ℕ) → i < length s.marked → from ≡ length (objects_below (lowest i s.marked))
    → slice_get (marks_of s.marked) i ≡ Some (mark, to) → Broke b c (section_text (between from to (stack_of s)) mark) → Wrote a b (marked_text (lowest i s.marked))
    → Broke a c (marked_text s.marked)
sections-stopped a b c s i from to mark h f e q p =
    let x = found s i from to mark h f e in
    let more = marked_text-more s.marked (i + 1) in
    rw more.1 (Broke-more a c (marked_text (lowest (i + 1) s.marked)) more.0
    (rw x.text (Broke-after a b c (marked_text (lowest i s.marked)) (section_text (between from to (stack_of s)) mark) p q)))

-- a mark below the count of marks is there
pub mark_there : (ms : List Marked) (i : ℕ) → i < length ms → slice_get (marks_of ms) i ≡ None → ⊥
mark_there ms i h e = let x = section_at ms i h in absurd_some (sym x.mark ∙ e)

pub sections-all : (a b : Told) (ms : List Marked) (i : ℕ) → i ≡ length ms → Wrote a b (marked_text (lowest i ms)) → Wrote a b (marked_text ms)
sections-all a b ms i h p = subst (λ (xs : List Marked). Wrote a b (marked_text xs)) (ap (λ (k : ℕ). lowest k ms) h ∙ lowest-all ms) p

pub from-all : (ms : List Marked) (i from : ℕ) → i ≡ length ms → from ≡ length (objects_below (lowest i ms)) → from ≡ length (objects_below ms)
from-all ms i from h e = e ∙ ap (λ (xs : List Marked). length (objects_below xs)) (ap (λ (k : ℕ). lowest k ms) h ∙ lowest-all ms)

-- the top section
pub top_between : (s : State) (below size : ℕ) → below ≡ length (objects_below s.marked) → size ≡ stack_size s → between below size (stack_of s) ≡ s.top
top_between s below size b e =
    ap (λ (k : ℕ). between k size (stack_of s)) b ∙ ap (λ (k : ℕ). between (length (objects_below s.marked)) k (stack_of s)) (e ∙ sym (length-stack_of s))
    ∙ ap (λ (t : List ℕ). between (length (objects_below s.marked)) (length (stack_of s)) t) (sym (append-nil (stack_of s))) ∙ between-middle (objects_below s.marked) s.top []
