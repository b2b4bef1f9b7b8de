-- An unpickler that holds nothing from elsewhere and reached nothing: what its parts keep.
use Rattle.std.proofs.Common.{◌≡◌, ℕ, zero, suc, ◌-◌, Bool, true, false, cond, List, [], ◌∷◌, ◌++◌, length, take, drop, Option, Some, None, refl}
use Rattle.std.specs.Prelude.{All, nat_le, if◌then◌else◌, ⊤}
use Rattle.std.specs.Map.{lookup}
use Rattle.std.specs.Ordering.{nat_cmp, match_ordering}
use Rattle.std.specs.declared.cmp.Ordering.{Ordering}
use Rattle.std.specs.declared.cmp.Ordering.TheVariants.{Less, Equal, Greater}
use Rattle.std.specs.BTreeMap.{insert_entry, is_at}
use Rattle.std.proofs.lemmas.List.Elements.{All-head, All-tail, All-push, All-take, All-drop, All-weaker}
use Rattle.pickle_loader.specs.Environment.{PyType, Value, Plain, Own, Foreign, is_elsewhere, Act, Make, Reply, Raises, Answers, Unpickler, World}
use Rattle.pickle_loader.specs.Unpickler.{Step, Ran, Stopped, Raised, acted, append, answered, ask, tell, make, item, pop, on_top, to_mark, pop_mark}
use Rattle.pickle_reach.specs.declared.granted.Granted.{Granted}
use Rattle.reach_laws.specs.Reached.{kind_names, value_names, act_reaches, NoneReaches}

-- ---- values

-- not from elsewhere; and a module's name only where such a text may be held
abbrev pub tame : Bool → Value → Bool
tame named (Plain k) = if kind_names k then named else true
tame named (Own t n) = true
tame named (Foreign t n) = false

abbrev pub Tame : Bool → Value → Type 0
Tame named v = tame named v ≡ true

abbrev pub AreBelow : Bool → List (List Value) → Type 0
AreBelow named [] = ⊤
AreBelow named (s ∷ ss) = All (Tame named) s × AreBelow named ss

abbrev pub AreKept : Bool → List (ℕ × Value) → Type 0
AreKept named [] = ⊤
AreKept named (e ∷ es) = Tame named e.1 × AreKept named es

-- a text may be held from now on
wider : (a b : Bool) (v : Value) → (a ≡ true → b ≡ true) → Tame a v → Tame b v
wider a b (Plain k) more t = by (kind_names k) t
  where
    by : (x : Bool) → (if x then a else true) ≡ true → (if x then b else true) ≡ true
    by true t = more t
    by false t = refl
wider a b (Own ty n) more t = refl
wider a b (Foreign ty n) more t = let two : false ≡ true = t in absurd cc

wider_below : (a b : Bool) (ss : List (List Value)) → (a ≡ true → b ≡ true) → AreBelow a ss → AreBelow b ss
wider_below a b [] more t = tt
wider_below a b (s ∷ ss) more t = (All-weaker (Tame a) (Tame b) (λ v h. wider a b v more h) s t.0, wider_below a b ss more t.1)

wider_kept : (a b : Bool) (es : List (ℕ × Value)) → (a ≡ true → b ≡ true) → AreKept a es → AreKept b es
wider_kept a b [] more t = tt
wider_kept a b (e ∷ es) more t = (wider a b e.1 more t.0, wider_kept a b es more t.1)

pub own_only : (named : Bool) (v : Value) → Tame named v → is_elsewhere v ≡ false
own_only named (Plain k) t = refl
own_only named (Own ty n) t = refl
own_only named (Foreign ty n) t = let two : false ≡ true = t in absurd cc

pub no_name : (v : Value) → Tame false v → value_names v ≡ false
no_name (Plain k) t = by (kind_names k) t
  where
    by : (x : Bool) → (if x then false else true) ≡ true → x ≡ false
    by true t = let two : false ≡ true = t in absurd cc
    by false t = refl
no_name (Own ty n) t = refl
no_name (Foreign ty n) t = let two : false ≡ true = t in absurd cc

pub item_tame : (named : Bool) (i : ℕ) (vs : List Value) → All (Tame named) vs → Tame named (item i vs)
item_tame named i [] all = refl
item_tame named zero (v ∷ vs) all = All-head (Tame named) v vs all
item_tame named (suc i) (v ∷ vs) all = item_tame named i vs (All-tail (Tame named) v vs all)

kept_by : (named : Bool) (o : Ordering) (e : ℕ × Value) (es rest : List (ℕ × Value)) (key : ℕ) (v : Value) → Tame named v → Tame named e.1 → AreKept named es → AreKept named rest
    → AreKept named (match_ordering o ((key, v) ∷ e ∷ es) ((e.0, v) ∷ es) (e ∷ rest))
kept_by named Less e es rest key v h first all more = (h, (first, all))
kept_by named Equal e es rest key v h first all more = (h, all)
kept_by named Greater e es rest key v h first all more = (first, more)

pub kept_insert : (named : Bool) (es : List (ℕ × Value)) (key : ℕ) (v : Value) → Tame named v → AreKept named es → AreKept named (insert_entry nat_cmp es key v)
kept_insert named [] key v h all = (h, tt)
kept_insert named (e ∷ es) key v h all = kept_by named (nat_cmp key e.0) e es (insert_entry nat_cmp es key v) key v h all.0 all.1 (kept_insert named es key v h all.1)

abbrev pub IsFound : Bool → Option Value → Type 0
IsFound named None = ⊤
IsFound named (Some v) = Tame named v

found_by : (named b : Bool) (v : Value) (x : Option Value) → Tame named v → IsFound named x → IsFound named (cond b (Some v) x)
found_by named true v x h more = h
found_by named false v x h more = more

pub found : (named : Bool) (es : List (ℕ × Value)) (key : ℕ) → AreKept named es → IsFound named (lookup (is_at (nat_cmp key)) es)
found named [] key all = tt
found named (e ∷ es) key all = found_by named (is_at (nat_cmp key) e.0) e.1 (lookup (is_at (nat_cmp key)) es) all.0 (found named es key all.1)

-- ---- unpicklers

pub record IsTame (g : Granted) (named : Bool) (u : Unpickler) : Type 0 where
  pub stack : All (Tame named) u.stack
  pub below : AreBelow named u.metastack
  pub memo : AreKept named u.memo
  pub acts : NoneReaches g u.acts

pub widened : (g : Granted) (a b : Bool) (u : Unpickler) → (a ≡ true → b ≡ true) → IsTame g a u → IsTame g b u
widened g a b u more t = record {
  stack = All-weaker (Tame a) (Tame b) (λ v h. wider a b v more h) u.stack t.stack;
  below = wider_below a b u.metastack more t.below;
  memo = wider_kept a b u.memo more t.memo;
  acts = t.acts;
}

abbrev pub StepTame : Granted → Bool → Step → Type 0
StepTame g named (Ran q) = IsTame g named q
StepTame g named (Stopped v q) = IsTame g named q
StepTame g named (Raised acts) = NoneReaches g acts

pub either : (g : Granted) (named b : Bool) (x y : Step) → StepTame g named x → StepTame g named y → StepTame g named (if b then x else y)
either g named true x y s t = s
either g named false x y s t = t

pub act_more : (g : Granted) (acts : List Act) (a : Act) → act_reaches g a ≡ false → NoneReaches g acts → NoneReaches g (acts ++ a ∷ [])
act_more g acts a e all = All-push (λ (b : Act). act_reaches g b ≡ false) acts a all e

pub acted_tame : (g : Granted) (named : Bool) (u : Unpickler) (a : Act) → act_reaches g a ≡ false → IsTame g named u → IsTame g named (acted a u)
acted_tame g named u a e t = record { stack = t.stack; below = t.below; memo = t.memo; acts = act_more g u.acts a e t.acts }

pub pushed_tame : (g : Granted) (named : Bool) (u : Unpickler) (v : Value) → Tame named v → IsTame g named u → IsTame g named (append v u)
pushed_tame g named u v h t = record { stack = All-push (Tame named) u.stack v t.stack h; below = t.below; memo = t.memo; acts = t.acts }

answer_tame : (g : Granted) (named : Bool) (r : Reply) (a : Act) (u : Unpickler) (go : Value → Unpickler → Step) → act_reaches g a ≡ false → IsTame g named u
    → ((v : Value) (q : Unpickler) → IsTame g named q → StepTame g named (go v q)) → StepTame g named (answered r a u go)
answer_tame g named Raises a u go e t next = act_more g u.acts a e t.acts
answer_tame g named (Answers ty) a u go e t next = next (Foreign ty (length u.acts)) (acted a u) (acted_tame g named u a e t)

pub ask_tame : (w : World) (g : Granted) (named : Bool) (a : Act) (u : Unpickler) (go : Value → Unpickler → Step) → act_reaches g a ≡ false → IsTame g named u
    → ((v : Value) (q : Unpickler) → IsTame g named q → StepTame g named (go v q)) → StepTame g named (ask w a u go)
ask_tame w g named a u go e t next = answer_tame g named (w.reply u.acts a) a u go e t next

pub tell_tame : (w : World) (g : Granted) (named : Bool) (a : Act) (u : Unpickler) → act_reaches g a ≡ false → IsTame g named u → StepTame g named (tell w a u)
tell_tame w g named a u e t = ask_tame w g named a u (λ v q. Ran q) e t (λ v q h. h)

pub make_tame : (g : Granted) (named : Bool) (ty : PyType) (items : List Value) (u : Unpickler) → IsTame g named u → StepTame g named (make ty items u)
make_tame g named ty items u t = pushed_tame g named (acted (Make ty items) u) (Own ty (length u.acts)) refl (acted_tame g named u (Make ty items) refl t)

pub pop_tame : (g : Granted) (named : Bool) (n : ℕ) (u : Unpickler) (go : List Value → Unpickler → Step) → IsTame g named u
    → ((vs : List Value) (q : Unpickler) → All (Tame named) vs → IsTame g named q → StepTame g named (go vs q)) → StepTame g named (pop n u go)
pop_tame g named n u go t next =
    let q : Unpickler = record u { stack = take (length u.stack - n) u.stack } in
    let kept : IsTame g named q = record { stack = All-take (Tame named) (length u.stack - n) u.stack t.stack; below = t.below; memo = t.memo; acts = t.acts } in
    either g named (nat_le n (length u.stack)) (go (drop (length u.stack - n) u.stack) q) (Raised u.acts) (next (drop (length u.stack - n) u.stack) q (All-drop (Tame named) (length u.stack - n) u.stack t.stack) kept) t.acts

pub top_tame : (g : Granted) (named : Bool) (u : Unpickler) (go : Value → Step) → IsTame g named u → ((v : Value) → Tame named v → StepTame g named (go v)) → StepTame g named (on_top u go)
top_tame g named u go t next =
    let v : Value = item (length u.stack - 1) u.stack in
    either g named (nat_le 1 (length u.stack)) (go v) (Raised u.acts) (next v (item_tame named (length u.stack - 1) u.stack t.stack)) t.acts

mark_by : (g : Granted) (named : Bool) (ms : List (List Value)) (u : Unpickler) (go : List Value → Unpickler → Step) → AreBelow named ms → IsTame g named u
    → ((vs : List Value) (q : Unpickler) → All (Tame named) vs → IsTame g named q → StepTame g named (go vs q)) → StepTame g named (to_mark ms u go)
mark_by g named [] u go below t next = t.acts
mark_by g named (s ∷ ms) u go below t next = next u.stack (record u { stack = s; metastack = ms }) t.stack (record { stack = below.0; below = below.1; memo = t.memo; acts = t.acts })

pub mark_tame : (g : Granted) (named : Bool) (u : Unpickler) (go : List Value → Unpickler → Step) → IsTame g named u
    → ((vs : List Value) (q : Unpickler) → All (Tame named) vs → IsTame g named q → StepTame g named (go vs q)) → StepTame g named (pop_mark u go)
mark_tame g named u go t next = mark_by g named u.metastack u go t.below t next
