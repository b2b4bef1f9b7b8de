-- One flat stack with a fence is a stack and a metastack.
use Rattle.std.proofs.Common.{◌≢◌, ◌≡◌, ◌⊎◌, ℕ, zero, suc, ◌+◌, ◌-◌, ◌<◌, ◌≤◌, Bool, true, false, List, [], ◌∷◌, ◌++◌, length, take, drop, Option, Some, None, refl, sym, ap, subst, ◌∙◌, inl, inr, arith, length-append}
use Rattle.std.specs.Prelude.{nat_lt, ◌==◌, slice_get, nat_le, if◌then◌else◌}
use Rattle.std.specs.Option.{unwrap_or}
use Rattle.std.proofs.lemmas.Bool.{lt-ltb, cases_lt, leb-true, le-leb}
use Rattle.std.proofs.lemmas.List.{take-append-le, drop-append-le, length-take-le, length-drop}
use Rattle.pickle_ops.specs.declared.kind.Kind.TheVariants as kind
use Rattle.pickle_loader.specs.Environment.{Value, Plain, Method, Unpickler, World}
use Rattle.pickle_loader.specs.Unpickler.{Raised, append, tell, item, to_mark, load_pop, load_pop_mark}
use Rattle.pickle_loader.specs.FlatStack.{Flat, fence, flat_push, flat_mark, flat_cut_at, between, AreFenced, IsOneStack, PopsAs, LooksAs, CutsAs, OneStack, at_mark, without_mark, DropsAs}

-- ---- marks

fence_within : (ms : List ℕ) (n : ℕ) → AreFenced ms n → fence ms ≤ n
fence_within [] n h = omega arith
fence_within (m ∷ ms) n h = h.0

fenced_more : (ms : List ℕ) (n k : ℕ) → n ≤ k → AreFenced ms n → AreFenced ms k
fenced_more [] n k le h = tt
fenced_more (m ∷ ms) n k le h = (omega (arith, le, h.0), h.1)

fenced_less : (ms : List ℕ) (n k : ℕ) → fence ms ≤ k → AreFenced ms n → AreFenced ms k
fenced_less [] n k le h = tt
fenced_less (m ∷ ms) n k le h = (le, h.1)

-- the sections below a place are those of what is below it
between_front : (vs ws : List Value) (ms : List ℕ) (n : ℕ) → AreFenced ms n → ((m : ℕ) → m ≤ n → take m vs ≡ take m ws) → between vs ms ≡ between ws ms
between_front vs ws [] n h same = refl
between_front vs ws (m ∷ ms) n h same =
    ap (λ (l : List Value). drop (fence ms) l ∷ between vs ms) (same m h.0)
    ∙ ap (λ (r : List (List Value)). drop (fence ms) (take m ws) ∷ r) (between_front vs ws ms m h.1 (λ k le. same k (omega (arith, le, h.0))))

take_take : (vs : List Value) (m n : ℕ) → m ≤ n → take m (take n vs) ≡ take m vs
take_take vs zero n h = refl
take_take [] (suc m) zero h = refl
take_take [] (suc m) (suc n) h = refl
take_take (v ∷ vs) (suc m) zero h = absurd (omega (arith, h))
take_take (v ∷ vs) (suc m) (suc n) h = ap (λ (l : List Value). v ∷ l) (take_take vs m n (omega (arith, h)))

-- ---- the parts

pushes : (f : Flat) (u : Unpickler) (v : Value) → IsOneStack f u → IsOneStack (flat_push v f) (append v u)
pushes f u v o =
    let low : fence f.marks ≤ length f.cells = fence_within f.marks (length f.cells) o.fenced in
    record {
      fenced = fenced_more f.marks (length f.cells) (length (f.cells ++ v ∷ [])) (omega (arith, length-append f.cells (v ∷ []))) o.fenced;
      stack = ap (λ (l : List Value). l ++ v ∷ []) o.stack ∙ sym (drop-append-le (fence f.marks) f.cells (v ∷ []) low);
      metastack = o.metastack ∙ between_front f.cells (f.cells ++ v ∷ []) f.marks (length f.cells) o.fenced (λ m le. sym (take-append-le m f.cells (v ∷ []) le));
    }

take_all : (vs : List Value) → take (length vs) vs ≡ vs
take_all [] = refl
take_all (v ∷ vs) = ap (λ (l : List Value). v ∷ l) (take_all vs)

drop_all : (vs : List Value) → drop (length vs) vs ≡ []
drop_all [] = refl
drop_all (v ∷ vs) = drop_all vs

marks_alike : (f : Flat) (u : Unpickler) → IsOneStack f u → IsOneStack (flat_mark f) (record u { stack = []; metastack = u.stack ∷ u.metastack })
marks_alike f u o = record {
  fenced = (omega arith, o.fenced);
  stack = sym (drop_all f.cells);
  metastack =
      ap (λ (l : List Value). l ∷ u.metastack) (o.stack ∙ ap (drop (fence f.marks)) (sym (take_all f.cells)))
      ∙ ap (λ (r : List (List Value)). drop (fence f.marks) (take (length f.cells) f.cells) ∷ r) o.metastack;
}

-- above the fence
size_above : (f : Flat) (u : Unpickler) → IsOneStack f u → length u.stack + fence f.marks ≡ length f.cells
size_above f u o = omega (arith, ap length o.stack, length-drop (fence f.marks) f.cells, fence_within f.marks (length f.cells) o.fenced)

take_nil : (n : ℕ) → take {A = Value} n [] ≡ []
take_nil zero = refl
take_nil (suc n) = refl

drop_nil : (n : ℕ) → drop {A = Value} n [] ≡ []
drop_nil zero = refl
drop_nil (suc n) = refl

take_drop : (vs : List Value) (k n : ℕ) → take n (drop k vs) ≡ drop k (take (k + n) vs)
take_drop vs zero n = let e : 0 + n ≡ n = omega arith in ap (λ (m : ℕ). take m vs) (sym e)
take_drop [] (suc k) n = take_nil n ∙ ap (drop (suc k)) (sym (take_nil (suc k + n)))
take_drop (v ∷ vs) (suc k) n = let e : suc k + n ≡ suc (k + n) = omega arith in take_drop vs k n ∙ ap (λ (m : ℕ). drop (suc k) (take m (v ∷ vs))) (sym e)

drop_drop : (vs : List Value) (k n : ℕ) → drop n (drop k vs) ≡ drop (k + n) vs
drop_drop vs zero n = let e : 0 + n ≡ n = omega arith in ap (λ (m : ℕ). drop m vs) (sym e)
drop_drop [] (suc k) n = drop_nil n ∙ sym (drop_nil (suc k + n))
drop_drop (v ∷ vs) (suc k) n = let e : suc k + n ≡ suc (k + n) = omega arith in drop_drop vs k n ∙ ap (λ (m : ℕ). drop m (v ∷ vs)) (sym e)

leb_false : (a b : ℕ) → b < a → nat_le a b ≡ false
leb_false a b h = go (nat_le a b) refl
  where
    go : (c : Bool) → nat_le a b ≡ c → nat_le a b ≡ false
    go true e = absurd (omega (arith, leb-true a b e, h))
    go false e = e

pops_by : (f : Flat) (u : Unpickler) (n : ℕ) (b : Bool) → nat_le (fence f.marks + n) (length f.cells) ≡ b → IsOneStack f u
    → PopsAs n u (if b then Some (record { items = drop (length f.cells - n) f.cells; rest = record f { cells = take (length f.cells - n) f.cells } }) else None)
pops_by f u n false e o = λ go.
    let more : length f.cells < fence f.marks + n = over (nat_le (fence f.marks + n) (length f.cells)) e (cases_lt (length f.cells) (fence f.marks + n)) in
    let no_room : nat_le n (length u.stack) ≡ false = leb_false n (length u.stack) (omega (arith, more, size_above f u o)) in
    ap (λ (c : Bool). if c then go (drop (length u.stack - n) u.stack) (record u { stack = take (length u.stack - n) u.stack }) else Raised u.acts) no_room
  where
    over : (b : Bool) → nat_le (fence f.marks + n) (length f.cells) ≡ false → (length f.cells < fence f.marks + n) ⊎ (fence f.marks + n ≤ length f.cells) → length f.cells < fence f.marks + n
    over b e (inl h) = h
    over b e (inr h) = let wrong : true ≡ false = sym (le-leb (fence f.marks + n) (length f.cells) h) ∙ e in absurd cc
pops_by f u n true e o =
    let room : fence f.marks + n ≤ length f.cells = leb-true (fence f.marks + n) (length f.cells) e in
    let size = size_above f u o in
    let fits : nat_le n (length u.stack) ≡ true = le-leb n (length u.stack) (omega (arith, room, size)) in
    let place : fence f.marks + (length u.stack - n) ≡ length f.cells - n = omega (arith, room, size) in
    let left : length (take (length f.cells - n) f.cells) ≡ length f.cells - n = length-take-le (length f.cells - n) f.cells (omega arith) in
    let items : drop (length u.stack - n) u.stack ≡ drop (length f.cells - n) f.cells =
    ap (drop (length u.stack - n)) o.stack ∙ drop_drop f.cells (fence f.marks) (length u.stack - n) ∙ ap (λ (m : ℕ). drop m f.cells) place in
    let stack : take (length u.stack - n) u.stack ≡ drop (fence f.marks) (take (length f.cells - n) f.cells) =
    ap (take (length u.stack - n)) o.stack ∙ take_drop f.cells (fence f.marks) (length u.stack - n) ∙ ap (λ (m : ℕ). drop (fence f.marks) (take m f.cells)) place in (
      record {
        fenced = fenced_less f.marks (length f.cells) (length (take (length f.cells - n) f.cells)) (omega (arith, left, room)) o.fenced;
        stack = stack;
        metastack =
            o.metastack ∙ between_front f.cells (take (length f.cells - n) f.cells) f.marks (length f.cells - n) (fenced_less f.marks (length f.cells) (length f.cells - n) (omega (arith, room)) o.fenced)
            (λ m le. sym (take_take f.cells m (length f.cells - n) le));
      },
      λ go.
          ap (λ (c : Bool). if c then go (drop (length u.stack - n) u.stack) (record u { stack = take (length u.stack - n) u.stack }) else Raised u.acts) fits
          ∙ ap (λ (l : List Value). go l (record u { stack = take (length u.stack - n) u.stack })) items,
    )

-- the top
get_dropped : (vs : List Value) (k i : ℕ) → slice_get (drop k vs) i ≡ slice_get vs (k + i)
get_dropped vs zero i = let e : 0 + i ≡ i = omega arith in ap (slice_get vs) (sym e)
get_dropped [] (suc k) i = refl
get_dropped (v ∷ vs) (suc k) i = let e : suc k + i ≡ suc (k + i) = omega arith in get_dropped vs k i ∙ ap (slice_get (v ∷ vs)) (sym e)

looks_by : (f : Flat) (u : Unpickler) (b : Bool) → nat_le (fence f.marks + 1) (length f.cells) ≡ b → IsOneStack f u → LooksAs u (if b then Some (item (length f.cells - 1) f.cells) else None)
looks_by f u false e o = λ go.
    let none : nat_le 1 (length u.stack) ≡ false = leb_false 1 (length u.stack) (under (cases_lt (length f.cells) (fence f.marks + 1))) in
    ap (λ (c : Bool). if c then go (item (length u.stack - 1) u.stack) else Raised u.acts) none
  where
    under : (length f.cells < fence f.marks + 1) ⊎ (fence f.marks + 1 ≤ length f.cells) → length u.stack < 1
    under (inl h) = omega (arith, h, size_above f u o)
    under (inr h) = let wrong : true ≡ false = sym (le-leb (fence f.marks + 1) (length f.cells) h) ∙ e in absurd cc
looks_by f u true e o = λ go.
    let room : fence f.marks + 1 ≤ length f.cells = leb-true (fence f.marks + 1) (length f.cells) e in
    let size = size_above f u o in
    let some : nat_le 1 (length u.stack) ≡ true = le-leb 1 (length u.stack) (omega (arith, room, size)) in
    let place : fence f.marks + (length u.stack - 1) ≡ length f.cells - 1 = omega (arith, room, size) in
    let value : item (length u.stack - 1) u.stack ≡ item (length f.cells - 1) f.cells =
    ap (item (length u.stack - 1)) o.stack ∙ ap (λ (x : Option Value). unwrap_or x (Plain kind.None)) (get_dropped f.cells (fence f.marks) (length u.stack - 1)) ∙ ap (λ (i : ℕ). item i f.cells) place in
    ap (λ (c : Bool). if c then go (item (length u.stack - 1) u.stack) else Raised u.acts) some ∙ ap go value

-- to the mark
cuts_by : (vs : List Value) (ms : List ℕ) (u : Unpickler) → AreFenced ms (length vs) → u.stack ≡ drop (fence ms) vs → u.metastack ≡ between vs ms → CutsAs u (flat_cut_at vs ms)
cuts_by vs [] u fenced stack meta = λ go. ap (λ (x : List (List Value)). to_mark x u go) meta
cuts_by vs (m ∷ ms) u fenced stack meta =
    let size : length (take m vs) ≡ m = length-take-le m vs fenced.0 in (
      drop (fence ms) (take m vs),
      between vs ms,
      record {
        fenced = subst (λ (n : ℕ). AreFenced ms n) (sym size) fenced.1;
        stack = refl;
        metastack = between_front vs (take m vs) ms m fenced.1 (λ k le. sym (take_take vs k m le));
      },
      λ go. ap (λ (x : List (List Value)). to_mark x u go) meta ∙ ap (λ (l : List Value). go l (record u { stack = drop (fence ms) (take m vs); metastack = between vs ms })) stack,
    )

-- POP
equal_at : (m n : ℕ) → (m == n) ≡ true → m ≡ n
equal_at m n e = grind arith

apart_at : (m n : ℕ) → (m == n) ≡ false → m ≢ n
apart_at m n e = grind arith

lt_false : (n : ℕ) → n ≡ 0 → nat_lt 0 n ≡ false
lt_false n e = ap (nat_lt 0) e

drops_mark : (w : World) (vs : List Value) (ms : List ℕ) (u : Unpickler) → AreFenced ms (length vs) → u.stack ≡ drop (fence ms) vs → u.metastack ≡ between vs ms → at_mark ms (length vs) ≡ true
    → DropsAs w u (Some (record { cells = vs; marks = without_mark ms }))
drops_mark w vs [] u fenced stack meta e = absurd cc
drops_mark w vs (m ∷ ms) u fenced stack meta e =
    let here : m ≡ length vs = equal_at m (length vs) e in
    let none : nat_lt 0 (length u.stack) ≡ false = lt_false (length u.stack) (omega (arith, ap length stack, length-drop m vs, here)) in
    let all : take m vs ≡ vs = ap (λ (k : ℕ). take k vs) here ∙ take_all vs in (
      drop (fence ms) (take m vs),
      between vs ms,
      record { fenced = subst (λ (k : ℕ). AreFenced ms k) here fenced.1; stack = ap (drop (fence ms)) all; metastack = refl },
      ap (λ (b : Bool). if b then tell w Method (record u { stack = take (length u.stack - 1) u.stack }) else load_pop_mark w u) none
          ∙ ap (λ (x : List (List Value)). to_mark x u (λ items q. tell w Method q)) meta,
    )

-- with no mark at the top
drops_under : (w : World) (vs : List Value) (ms : List ℕ) (u : Unpickler) → AreFenced ms (length vs) → u.stack ≡ drop (fence ms) vs → u.metastack ≡ between vs ms → at_mark ms (length vs) ≡ false → length vs ≤ fence ms
    → load_pop w u ≡ Raised u.acts
drops_under w vs [] u fenced stack meta e h =
    let none : nat_lt 0 (length u.stack) ≡ false = lt_false (length u.stack) (omega (arith, ap length stack, h)) in
    ap (λ (b : Bool). if b then tell w Method (record u { stack = take (length u.stack - 1) u.stack }) else load_pop_mark w u) none
    ∙ ap (λ (x : List (List Value)). to_mark x u (λ items q. tell w Method q)) meta
drops_under w vs (m ∷ ms) u fenced stack meta e h = absurd (apart_at m (length vs) e (omega (arith, h, fenced.0)))

drops_value : (w : World) (f : Flat) (u : Unpickler) → IsOneStack f u → fence f.marks < length f.cells → DropsAs w u (Some (record f { cells = take (length f.cells - 1) f.cells }))
drops_value w f u o h =
    let size = size_above f u o in
    let some : nat_lt 0 (length u.stack) ≡ true = lt-ltb 0 (length u.stack) (omega (arith, h, size)) in
    let room : nat_le (fence f.marks + 1) (length f.cells) ≡ true = le-leb (fence f.marks + 1) (length f.cells) (omega (arith, h)) in
    let popped = pops_by f u 1 true room o in (
      take (length u.stack - 1) u.stack,
      u.metastack,
      popped.0,
      ap (λ (b : Bool). if b then tell w Method (record u { stack = take (length u.stack - 1) u.stack }) else load_pop_mark w u) some,
    )

drops_by : (w : World) (f : Flat) (u : Unpickler) (a b : Bool) → at_mark f.marks (length f.cells) ≡ a → nat_le (length f.cells) (fence f.marks) ≡ b → IsOneStack f u
    → DropsAs w u (if a then Some (record f { marks = without_mark f.marks }) else if b then None else Some (record f { cells = take (length f.cells - 1) f.cells }))
drops_by w f u true b e g o = drops_mark w f.cells f.marks u o.fenced o.stack o.metastack e
drops_by w f u false true e g o = drops_under w f.cells f.marks u o.fenced o.stack o.metastack e (leb-true (length f.cells) (fence f.marks) g)
drops_by w f u false false e g o = drops_value w f u o (more (cases_lt (fence f.marks) (length f.cells)))
  where
    more : (fence f.marks < length f.cells) ⊎ (length f.cells ≤ fence f.marks) → fence f.marks < length f.cells
    more (inl h) = h
    more (inr h) = let wrong : true ≡ false = sym (le-leb (length f.cells) (fence f.marks) h) ∙ g in absurd cc

pub one_stack : OneStack
one_stack = record {
  begins = λ acts. record { fenced = tt; stack = refl; metastack = refl };
  pushes = pushes;
  marks = marks_alike;
  pops = λ f u n o. pops_by f u n (nat_le (fence f.marks + n) (length f.cells)) refl o;
  looks = λ f u o. looks_by f u (nat_le (fence f.marks + 1) (length f.cells)) refl o;
  cuts = λ f u o. cuts_by f.cells f.marks u o.fenced o.stack o.metastack;
  drops = λ w f u o. drops_by w f u (at_mark f.marks (length f.cells)) (nat_le (length f.cells) (fence f.marks)) refl refl o;
}
