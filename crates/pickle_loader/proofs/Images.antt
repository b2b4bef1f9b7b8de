-- The unpickler that holds what a state holds, under a map from numbers of objects to values; and what is listed of acts.
use Rattle.std.proofs.Common.{◌≡◌, ℕ, zero, suc, ◌-◌, ◌<◌, ◌≤◌, Bool, true, false, cond, List, [], ◌∷◌, ◌++◌, length, map, take, drop, get_or, Option, Some, refl, ap, ◌∙◌, arith}
use Rattle.std.specs.Prelude.{slice_get, nat_le, nat_lt, if◌then◌else◌}
use Rattle.std.specs.Option.{unwrap_or}
use Rattle.std.specs.Map.{lookup}
use Rattle.std.specs.Ordering.{nat_cmp, match_ordering}
use Rattle.std.specs.declared.cmp.Ordering.{Ordering}
use Rattle.std.specs.declared.cmp.Ordering.TheVariants.{Less, Equal, Greater}
use Rattle.std.specs.Option.{option_map}
use Rattle.std.specs.BTreeMap.{insert_entry, is_at}
use Rattle.std.proofs.lemmas.List.{length-map, take-map, drop-map}
use Rattle.pickle_ops.specs.declared.kind.Kind.TheVariants as kind
use Rattle.pickle_machine.specs.State.{Marked, State}
use Rattle.pickle_machine.specs.Move.{deep, last_of, without, under, deeper, cut}
use Rattle.pickle_loader.specs.Environment.{Value, Plain, Act, Unpickler}
use Rattle.pickle_loader.specs.Unpickler.{Step, Raised, item, pop, on_top, to_mark, pop_mark}
use Rattle.pickle_loader.specs.Listed.{is_listed, listed_of}
use Rattle.pickle_loader.specs.Laws.{sections, entries}

-- ---- what is listed of acts

pub listed-append : (xs ys : List Act) → listed_of (xs ++ ys) ≡ listed_of xs ++ listed_of ys
listed-append [] ys = refl
listed-append (x ∷ xs) ys = go (is_listed x) (listed-append xs ys)
  where
    go : (b : Bool) → listed_of (xs ++ ys) ≡ listed_of xs ++ listed_of ys → (if b then x ∷ listed_of (xs ++ ys) else listed_of (xs ++ ys)) ≡ (if b then x ∷ listed_of xs else listed_of xs) ++ listed_of ys
    go true ih = ap (λ (l : List Act). x ∷ l) ih
    go false ih = ih

-- ---- the unpickler of a state

abbrev pub image : (ℕ → Value) → State → ℕ → List Act → Unpickler
image V s proto acts = record { stack = map V s.top; metastack = sections V s.marked; memo = entries V s.memo; proto = proto; buffers = s.buffers; acts = acts }

-- the values that are popped are those of the objects that are taken
pub pop_image : (V : ℕ → Value) (s : State) (proto : ℕ) (acts : List Act) (n : ℕ) (go : List Value → Unpickler → Step) → nat_le n (length s.top) ≡ true
    → pop n (image V s proto acts) go ≡ go (map V (last_of n s)) (image V (without n s) proto acts)
pop_image V s proto acts n go h =
    let u : Unpickler = image V s proto acts in
    ap (λ (m : ℕ). if nat_le n m then go (drop (m - n) (map V s.top)) (record u { stack = take (m - n) (map V s.top) }) else Raised acts) (length-map s.top V)
    ∙ ap (λ (b : Bool). if b then go (drop (length s.top - n) (map V s.top)) (record u { stack = take (length s.top - n) (map V s.top) }) else Raised acts) h
    ∙ ap (λ (l : List Value). go l (record u { stack = take (length s.top - n) (map V s.top) })) (drop-map V (length s.top - n) s.top)
    ∙ ap (λ (l : List Value). go (map V (last_of n s)) (record u { stack = l })) (take-map V (length s.top - n) s.top)

get_mapped : (V : ℕ → Value) (xs : List ℕ) (i : ℕ) (d : Value) → i < length xs → unwrap_or (slice_get (map V xs) i) d ≡ V (get_or xs i 0)
get_mapped V [] i d h = absurd (omega arith)
get_mapped V (x ∷ xs) zero d h = refl
get_mapped V (x ∷ xs) (suc i) d h = get_mapped V xs i d (omega (arith, h))

pub within_le : (n m : ℕ) → nat_le n m ≡ true → n ≤ m
within_le n m h = grind arith

pub top_image : (V : ℕ → Value) (xs : List ℕ) → 0 < length xs → item (length (map V xs) - 1) (map V xs) ≡ V (deep 0 xs)
top_image V xs h =
    ap (λ (m : ℕ). item (m - 1) (map V xs)) (length-map xs V)
    ∙ get_mapped V xs (length xs - 1) (Plain kind.None) (omega (arith, h))
    ∙ ap (λ (m : ℕ). V (get_or xs m 0)) (omega (arith, h))

pub on_top_image : (V : ℕ → Value) (s : State) (proto : ℕ) (acts : List Act) (go : Value → Step) → nat_le 1 (length s.top) ≡ true → on_top (image V s proto acts) go ≡ go (V (deep 0 s.top))
on_top_image V s proto acts go h =
    let more : 1 ≤ length s.top = within_le 1 (length s.top) h in
    ap (λ (m : ℕ). if nat_le 1 m then go (item (length (map V s.top) - 1) (map V s.top)) else Raised acts) (length-map s.top V)
    ∙ ap (λ (b : Bool). if b then go (item (length (map V s.top) - 1) (map V s.top)) else Raised acts) h
    ∙ ap go (top_image V s.top (omega (arith, more)))

-- the only value that is popped is that of the top
get_dropped : (V : ℕ → Value) (xs : List ℕ) (m : ℕ) → m < length xs → item 0 (map V (drop m xs)) ≡ V (get_or xs m 0)
get_dropped V [] m h = absurd (omega arith)
get_dropped V (x ∷ xs) zero h = refl
get_dropped V (x ∷ xs) (suc m) h = get_dropped V xs m (omega (arith, h))

pub last_image : (V : ℕ → Value) (s : State) → 0 < length s.top → item 0 (map V (last_of 1 s)) ≡ V (deep 0 s.top)
last_image V s h = get_dropped V s.top (length s.top - 1) (omega (arith, h)) ∙ ap (λ (m : ℕ). V (get_or s.top m 0)) (omega (arith, h))

mark_go : (V : ℕ → Value) (ms : List Marked) (u : Unpickler) (go : List Value → Unpickler → Step) → nat_lt 0 (length ms) ≡ true
    → to_mark (sections V ms) u go ≡ go u.stack (record u { stack = map V (under ms); metastack = sections V (deeper ms) })
mark_go V [] u go h = absurd cc
mark_go V (m ∷ ms) u go h = refl

pub mark_image : (V : ℕ → Value) (s : State) (proto : ℕ) (acts : List Act) (go : List Value → Unpickler → Step) → nat_lt 0 (length s.marked) ≡ true
    → pop_mark (image V s proto acts) go ≡ go (map V s.top) (image V (cut s) proto acts)
mark_image V s proto acts go h = mark_go V s.marked (image V s proto acts) go h

-- ---- the memo

insert_by : (V : ℕ → Value) (o : Ordering) (e : ℕ × ℕ) (es : List (ℕ × ℕ)) (key v : ℕ) (rest : List (ℕ × ℕ)) (more : List (ℕ × Value)) → more ≡ entries V rest
    → match_ordering o ((key, V v) ∷ entries V (e ∷ es)) ((e.0, V v) ∷ entries V es) ((e.0, V e.1) ∷ more) ≡ entries V (match_ordering o ((key, v) ∷ e ∷ es) ((e.0, v) ∷ es) (e ∷ rest))
insert_by V Less e es key v rest more h = refl
insert_by V Equal e es key v rest more h = refl
insert_by V Greater e es key v rest more h = ap (λ (l : List (ℕ × Value)). (e.0, V e.1) ∷ l) h

pub insert_image : (V : ℕ → Value) (es : List (ℕ × ℕ)) (key v : ℕ) → insert_entry nat_cmp (entries V es) key (V v) ≡ entries V (insert_entry nat_cmp es key v)
insert_image V [] key v = refl
insert_image V (e ∷ es) key v = insert_by V (nat_cmp key e.0) e es key v (insert_entry nat_cmp es key v) (insert_entry nat_cmp (entries V es) key (V v)) (insert_image V es key v)

lookup_by : (V : ℕ → Value) (b : Bool) (v : ℕ) (x : Option ℕ) (y : Option Value) → y ≡ option_map V x → cond b (Some (V v)) y ≡ option_map V (cond b (Some v) x)
lookup_by V true v x y h = refl
lookup_by V false v x y h = h

pub lookup_image : (V : ℕ → Value) (es : List (ℕ × ℕ)) (key : ℕ) → lookup (is_at (nat_cmp key)) (entries V es) ≡ option_map V (lookup (is_at (nat_cmp key)) es)
lookup_image V [] key = refl
lookup_image V (e ∷ es) key = lookup_by V (is_at (nat_cmp key) e.0) e.1 (lookup (is_at (nat_cmp key)) es) (lookup (is_at (nat_cmp key)) (entries V es)) (lookup_image V es key)
