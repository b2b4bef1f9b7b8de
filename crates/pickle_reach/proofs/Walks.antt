-- The walk over spots: what it keeps, and what is known where it ends.
use Rattle.std.proofs.Common.{◌≡◌, ℕ, ◌+◌, ◌-◌, ◌≤◌, ◌<◌, Bool, true, false, List, [], ◌∷◌, ◌++◌, length, Option, Some, None, refl, sym, ap, subst, ◌∙◌, inl, inr, arith}
use Rattle.std.specs.Prelude.{◌⊎◌, slice_index_or, ◌&&◌, if◌then◌else◌, drop, All, Contains, Result, Ok, Err}
use Rattle.std.specs.List.{remove}
use Rattle.std.proofs.lemmas.Bool.{cases_lt, cases_order, and_parts}
use Rattle.std.proofs.lemmas.List.{get_or_default}
use Rattle.std.proofs.lemmas.List.Edits.{length-remove, get_or-remove_below, get_or-remove_above}
use Rattle.std.proofs.lemmas.List.Elements.{All-nil, All-cons, All-push, All-weaker, All-contains, All-contains_itself, All-from_get_or, Contains-append_right}
use Rattle.std.proofs.lemmas.List.Kept.{AllPairs-cons}
use Rattle.std.proofs.lemmas.List.Quantifiers.{all_pairs_remove}
use Rattle.pickle_ops.specs.declared.fault.FrontFault.{FrontFault}
use Rattle.pickle_lenient.specs.declared.taken.Frames.{Frames}
use Rattle.pickle_lenient.specs.declared.taken.Taken.{Taken}
use Rattle.pickle_lenient.specs.declared.fault.NotTaken.{NotTaken}
use Rattle.pickle_lenient.specs.declared.fault.NotTaken.TheVariants as stop
use Rattle.pickle_lenient.specs.Stream.{taken, IsNotTaken}
use Rattle.pickle_reach.specs.declared.granted.Granted.{Granted}
use Rattle.pickle_reach.specs.declared.spot.Spot.{Spot}
use Rattle.pickle_reach.specs.declared.spot.Step.{Step}
use Rattle.pickle_reach.specs.declared.spot.Visit.{Visit}
use Rattle.pickle_reach.specs.declared.spot.Step.TheVariants as step
use Rattle.pickle_reach.specs.Item.{reaches, ends}
use Rattle.pickle_reach.specs.Reach.{Turn, as_shown, first_spot, behind, step_by, step_at, reaches_on, reaches_from, stands_on, stands_from, MayStand, IsFirst, IsNone, AreDistinct, ComesFrom, IsNext, WaitsMore, StandsOften, most_waiting, most_visits}
use Rattle.pickle_reach.specs.Inside.{IsLeast, IsWithin, IsBehind, LeadsTo, Leads, IsSettled, IsVisited, Known, Waits, IsLeft}
use Rattle.pickle_reach.proofs.Steps.{Other, leads_more}

-- ---- lists

here : (xs : List Spot) (i : ℕ) (x : Spot) → i < length xs → x ≡ slice_index_or xs i x → Contains xs x
here xs i x less is = (i, less, sym is)

from_remove : (xs : List Spot) (i : ℕ) (x : Spot) → i < length xs → Contains (remove xs i) x → Contains xs x
from_remove xs i x less (k, within, is) = elim (cases_lt k i) [
  | inl low ↦ (k, omega (arith, low, less), sym (get_or-remove_below xs i x k low less) ∙ is)
  | inr high ↦ (k + 1, omega (arith, within, length-remove xs i less), sym (get_or-remove_above xs i x k high less) ∙ is)
]

-- one of a list is at this place, or another of it
place_or : (xs : List Spot) (i : ℕ) (s t : Spot) → i < length xs → s ≡ slice_index_or xs i s → Contains xs t → (t ≡ s) ⊎ Contains (remove xs i) t
place_or xs i s t less is (k, within, at) = elim (cases_order k i) [
  | inl same ↦ inl (sym at ∙ ap (λ (n : ℕ). slice_index_or xs n t) same ∙ get_or_default xs i t s less ∙ sym is)
  | inr (inl low) ↦ inr (k, omega (arith, low, length-remove xs i less, less), get_or-remove_below xs i t k low less ∙ at)
  | inr (inr high) ↦
      let next : k - 1 + 1 ≡ k = omega (arith, high) in
      inr (
        k - 1,
        omega (arith, high, within, length-remove xs i less),
        get_or-remove_above xs i t (k - 1) (omega (arith, high)) less ∙ ap (λ (n : ℕ). slice_index_or xs n t) next ∙ at,
      )
]

-- the one at a place is none of the others
others_apart : (xs : List Spot) (i : ℕ) (s : Spot) → i < length xs → s ≡ slice_index_or xs i s → AreDistinct xs → All (Other s) (remove xs i)
others_apart xs i s less is alone = All-from_get_or (Other s) (remove xs i) s (λ k within. at k within)
  where
    size : length (remove xs i) + 1 ≡ length xs
    size = length-remove xs i less

    at : (k : ℕ) → k < length (remove xs i) → Other s (slice_index_or (remove xs i) k s)
    at k within = elim (cases_lt k i) [
      | inl low ↦ λ e. alone k i s low less (sym (get_or-remove_below xs i s k low less) ∙ sym e ∙ is)
      | inr high ↦ λ e. alone i (k + 1) s (omega (arith, high)) (omega (arith, within, size)) (sym is ∙ e ∙ get_or-remove_above xs i s k high less)
    ]

cons_all : (xs : List Spot) (s : Spot) → All (Contains (s ∷ xs)) xs
cons_all xs s = All-weaker (Contains xs) (Contains (s ∷ xs)) (λ t c. Contains-append_right (s ∷ []) xs t c) xs (All-contains_itself xs)

cons_head : (xs : List Spot) (s : Spot) → Contains (s ∷ xs) s
cons_head xs s = (0, omega arith, refl)

none_there : (xs : List Spot) (t : Spot) {A : Type 0} → length xs ≡ 0 → Contains xs t → A
none_there xs t none (k, less, is) = absurd (omega (arith, less, none))

-- ---- items in turn

stands_by : (x : Step) (here there : Spot → Option Spot) (s t : Spot) → ((b : Spot) → here b ≡ Some s → there b ≡ Some t) → stands_on x here ≡ Some s → stands_on x there ≡ Some t
stands_by step.Reaches here there s t more e = absurd cc
stands_by step.Ends here there s t more e = absurd cc
stands_by (step.Goes b) here there s t more e = more b e

spot_is : (a b : Spot) → Some a ≡ Some b → a ≡ b
spot_is a b e = cc

stands_more : (g : Granted) (bytes : List ℕ) (mix : List Turn) (turn : Turn) (a s t : Spot) → stands_from g bytes mix a ≡ Some s → step_at g bytes turn.frames s ≡ step.Goes t → stands_from g bytes (mix ++ turn ∷ []) a ≡ Some (as_shown turn.shown t)
unfolding stands_from
stands_more g bytes [] turn a s t e goes =
    ap (λ (b : Spot). stands_on (step_at g bytes turn.frames b) (λ c. stands_from g bytes [] (as_shown turn.shown c))) (spot_is a s e)
    ∙ ap (λ (x : Step). stands_on x (λ c. stands_from g bytes [] (as_shown turn.shown c))) goes
stands_more g bytes (h ∷ mix) turn a s t e goes =
    stands_by (step_at g bytes h.frames a) (λ c. stands_from g bytes mix (as_shown h.shown c)) (λ c. stands_from g bytes (mix ++ turn ∷ []) (as_shown h.shown c)) s (as_shown turn.shown t)
    (λ b there. stands_more g bytes mix turn (as_shown h.shown b) s t there goes) e

stands_first : (g : Granted) (bytes : List ℕ) → MayStand g bytes first_spot
unfolding stands_from
stands_first g bytes = ([], refl)

stands_behind : (g : Granted) (bytes : List ℕ) (s t : Spot) → MayStand g bytes s → IsBehind g bytes s t → MayStand g bytes t
stands_behind g bytes s t stands b =
    (stands.0 ++ b.turn ∷ [], stands_more g bytes stands.0 b.turn first_spot s b.next stands.1 b.goes ∙ ap (λ (u : Spot). Some u) (sym b.is))

-- ---- offsets never fall

goes_is : (a b : Bool) (u t : Spot) → (if a then step.Reaches else if b then step.Ends else step.Goes u) ≡ step.Goes t → u ≡ t
goes_is true b u t e = absurd cc
goes_is false true u t e = absurd cc
goes_is false false u t e = cc

step_ahead : (g : Granted) (s t : Spot) (r : Result Taken FrontFault) → step_by g s r ≡ step.Goes t → s.offset ≤ t.offset
step_ahead g s t (Err f) e = absurd cc
step_ahead g s t (Ok item) e = let is = goes_is (reaches g s.named item.op) (ends item.op) (behind s item) t e in omega (arith, ap (λ (u : Spot). u.offset) is)

goes_ahead : (g : Granted) (bytes : List ℕ) (f : Frames) (s t : Spot) → step_at g bytes f s ≡ step.Goes t → s.offset ≤ t.offset
unfolding step_at
goes_ahead g bytes f s t e = step_ahead g s t (taken f s.left (drop s.offset bytes)) e

shown_offset : (shown : Bool) (t : Spot) → (as_shown shown t).offset ≡ t.offset
shown_offset true t = refl
shown_offset false t = refl

on_ahead : (x : Step) (low : ℕ) (shown : Bool) (go : Spot → Option Spot) (t : Spot) → ((u : Spot) → x ≡ step.Goes u → low ≤ u.offset) → ((u : Spot) → go u ≡ Some t → u.offset ≤ t.offset)
    → stands_on x (λ c. go (as_shown shown c)) ≡ Some t → low ≤ t.offset
on_ahead step.Reaches low shown go t first more e = absurd cc
on_ahead step.Ends low shown go t first more e = absurd cc
on_ahead (step.Goes u) low shown go t first more e = omega (arith, first u refl, more (as_shown shown u) e, shown_offset shown u)

stands_ahead : (g : Granted) (bytes : List ℕ) (mix : List Turn) (s t : Spot) → stands_from g bytes mix s ≡ Some t → s.offset ≤ t.offset
unfolding stands_from
stands_ahead g bytes [] s t e = omega (arith, ap (λ (u : Spot). u.offset) (spot_is s t e))
stands_ahead g bytes (turn ∷ mix) s t e =
    on_ahead (step_at g bytes turn.frames s) s.offset turn.shown (stands_from g bytes mix) t (λ u is. goes_ahead g bytes turn.frames s u is) (λ u h. stands_ahead g bytes mix u t h) e

-- ---- where all that is led to is known

on_some : (x : Step) (P : Spot → Type 0) (shown : Bool) (go : Spot → Option Spot) (t : Spot) → LeadsTo x P → stands_on x (λ c. go (as_shown shown c)) ≡ Some t → (a : Spot) × P a × (go a ≡ Some t)
on_some step.Reaches P shown go t leads e = absurd leads
on_some step.Ends P shown go t leads e = absurd cc
on_some (step.Goes c) P shown go t leads e = (as_shown shown c, leads shown, e)

on_none : (x : Step) (P : Spot → Type 0) (shown : Bool) (go : Spot → Bool) → LeadsTo x P → ((a : Spot) → P a → go a ≡ false) → reaches_on x (λ c. go (as_shown shown c)) ≡ false
on_none step.Reaches P shown go leads more = absurd leads
on_none step.Ends P shown go leads more = refl
on_none (step.Goes c) P shown go leads more = more (as_shown shown c) (leads shown)

-- a spot where a loader may stand was looked at, or comes from one that waits
ahead_or : (g : Granted) (bytes : List ℕ) (seen waiting : List Spot) (low : ℕ) → All (Leads g bytes (Known seen waiting)) seen → All (λ s. low ≤ s.offset) waiting → (mix : List Turn) (a t : Spot) → Known seen waiting a
    → stands_from g bytes mix a ≡ Some t → Contains seen t ⊎ (low ≤ t.offset)
unfolding stands_from
ahead_or g bytes seen waiting low leads above [] a t (inl c) e = inl (subst (Contains seen) (spot_is a t e) c)
ahead_or g bytes seen waiting low leads above [] a t (inr c) e =
    let high : low ≤ a.offset = All-contains (λ (s : Spot). low ≤ s.offset) waiting a above c in
    inr (omega (arith, high, ap (λ (u : Spot). u.offset) (spot_is a t e)))
ahead_or g bytes seen waiting low leads above (turn ∷ mix) a t (inl c) e =
    let on = on_some (step_at g bytes turn.frames a) (Known seen waiting) turn.shown (stands_from g bytes mix) t (All-contains (Leads g bytes (Known seen waiting)) seen a leads c turn.frames) e in
    ahead_or g bytes seen waiting low leads above mix on.0 t on.1 on.2
ahead_or g bytes seen waiting low leads above (turn ∷ mix) a t (inr c) e =
    let high : low ≤ a.offset = All-contains (λ (s : Spot). low ≤ s.offset) waiting a above c in
    let on : a.offset ≤ t.offset = stands_ahead g bytes (turn ∷ mix) a t e in
    inr (omega (arith, high, on))

-- nothing waits: all of them were looked at, and nothing is reached
all_seen : (g : Granted) (bytes : List ℕ) (seen : List Spot) → All (Leads g bytes (Contains seen)) seen → (mix : List Turn) (a t : Spot) → Contains seen a → stands_from g bytes mix a ≡ Some t → Contains seen t
unfolding stands_from
all_seen g bytes seen leads [] a t c e = subst (Contains seen) (spot_is a t e) c
all_seen g bytes seen leads (turn ∷ mix) a t c e =
    let on = on_some (step_at g bytes turn.frames a) (Contains seen) turn.shown (stands_from g bytes mix) t (All-contains (Leads g bytes (Contains seen)) seen a leads c turn.frames) e in
    all_seen g bytes seen leads mix on.0 t on.1 on.2

none_reached : (g : Granted) (bytes : List ℕ) (seen : List Spot) → All (Leads g bytes (Contains seen)) seen → (mix : List Turn) (a : Spot) → Contains seen a → reaches_from g bytes mix a ≡ false
unfolding reaches_from
none_reached g bytes seen leads [] a c = refl
none_reached g bytes seen leads (turn ∷ mix) a c =
    on_none (step_at g bytes turn.frames a) (Contains seen) turn.shown (reaches_from g bytes mix) (All-contains (Leads g bytes (Contains seen)) seen a leads c turn.frames) (λ b h. none_reached g bytes seen leads mix b h)

-- where a loader reaches something its item is read
pub no_reach : (g : Granted) (bytes : List ℕ) (f : Frames) (s : Spot) (why : NotTaken) (e : FrontFault) → why ≡ stop.Fault e → IsNotTaken f s.left (drop s.offset bytes) why → step_at g bytes f s ≡ step.Reaches → ⊥
unfolding step_at
no_reach g bytes f s why e is w hit =
    let fault : taken f s.left (drop s.offset bytes) ≡ Err e = subst (IsNotTaken f s.left (drop s.offset bytes)) is w in
    let ends : step.Ends ≡ step.Reaches = sym (ap (step_by g s) fault) ∙ hit in
    absurd cc

-- ---- the first spot

pub begun : (g : Granted) (bytes : List ℕ) (items rest : List Spot) (s : Spot) → items ≡ rest ++ s ∷ [] → rest ≡ [] → s ≡ first_spot → IsLeft g bytes 0 0 true items
begun g bytes items rest s is none first =
    subst (IsLeft g bytes 0 0 true) (sym (is ∙ ap (λ (l : List Spot). l ++ s ∷ []) none ∙ ap (λ (t : Spot). t ∷ []) first)) start
  where
    next : IsNext g bytes 0 first_spot
    next = record { stands = stands_first g bytes; ahead = omega arith; comes = inl refl }

    start : IsLeft g bytes 0 0 true (first_spot ∷ [])
    start = record {
      seen = [];
      count = refl;
      first = inr (0, omega arith, refl);
      leads = All-nil (Leads g bytes (Known [] (first_spot ∷ [])));
      stand = All-nil (MayStand g bytes);
      settles = λ e. All-nil (IsSettled g bytes);
      below = All-nil (λ (t : Spot). t.offset ≤ 0);
      latest = λ more. absurd (omega (arith, more));
      waits = All-push (Waits g bytes 0) [] first_spot (All-nil (Waits g bytes 0)) (record { next = next; within = omega arith });
      distinct = λ i j d low within. absurd (omega (arith, within));
      alone = λ i j d low within. absurd (omega (arith, low, within));
      apart = All-nil (λ (t : Spot). All (Other t) (first_spot ∷ []));
    }

-- ---- one more

-- what is known of the spot that is looked at
pub record Now (g : Granted) (bytes : List ℕ) (last : ℕ) (old : List Spot) (place : ℕ) (s : Spot) : Type 0 where
  pub less : place < length old
  pub is : s ≡ slice_index_or old place s
  pub least : IsLeast old place

at_least : (g : Granted) (bytes : List ℕ) (last : ℕ) (old : List Spot) (place : ℕ) (s : Spot) → Now g bytes last old place s → (t : Spot) → Contains old t → s.offset ≤ t.offset
at_least g bytes last old place s now t (k, within, at) =
    let low : (slice_index_or old place s).offset ≤ (slice_index_or old k s).offset = now.least s k within in
    let same : slice_index_or old k s ≡ t = get_or_default old k s t within ∙ at in
    omega (arith, low, ap (λ (u : Spot). u.offset) now.is, ap (λ (u : Spot). u.offset) same)

pub record Kept (g : Granted) (bytes : List ℕ) (visits last : ℕ) (settled : Bool) (old gone new : List Spot) (place : ℕ) (s : Spot) (visit : Visit) : Type 0 where
  pub left : IsLeft g bytes visits last settled old
  pub now : Now g bytes last old place s
  pub others : gone ≡ remove old place
  pub seen : IsVisited g bytes s gone new visit
  pub miss : visit.reached ≡ None

waits_next : (g : Granted) (bytes : List ℕ) (visits last : ℕ) (settled : Bool) (old gone new : List Spot) (place : ℕ) (s : Spot) (visit : Visit) → Kept g bytes visits last settled old gone new place s visit → MayStand g bytes s → last ≤ s.offset
    → (t : Spot) → Contains gone t ⊎ IsBehind g bytes s t → Waits g bytes s.offset t
waits_next g bytes visits last settled old gone new place s visit k stands high t (inl c) =
    let c' : Contains old t = from_remove old place t k.now.less (subst (λ (l : List Spot). Contains l t) k.others c) in
    let w = All-contains (Waits g bytes last) old t k.left.waits c' in
    record { next = record { stands = w.next.stands; ahead = at_least g bytes last old place s k.now t c'; comes = come w.next.comes }; within = w.within }
  where
    come : (t ≡ first_spot) ⊎ ComesFrom g bytes last t → (t ≡ first_spot) ⊎ ComesFrom g bytes s.offset t
    come (inl e) = inl e
    come (inr from) = inr (record { from = from.from; stands = from.stands; before = omega (arith, from.before, high); turn = from.turn; next = from.next; goes = from.goes; is = from.is })
waits_next g bytes visits last settled old gone new place s visit k stands high t (inr b) = record {
  next = record {
    stands = stands_behind g bytes s t stands b;
    ahead = omega (arith, b.ahead);
    comes = inr (record { from = s; stands = stands; before = omega arith; turn = b.turn; next = b.next; goes = b.goes; is = b.is });
  };
  within = b.within;
}

known_next : (g : Granted) (bytes : List ℕ) (visits last : ℕ) (settled : Bool) (old gone new : List Spot) (place : ℕ) (s : Spot) (visit : Visit) (k : Kept g bytes visits last settled old gone new place s visit) (t : Spot)
    → Known k.left.seen old t → Known (s ∷ k.left.seen) new t
known_next g bytes visits last settled old gone new place s visit k t (inl c) = inl (All-contains (Contains (s ∷ k.left.seen)) k.left.seen t (cons_all k.left.seen s) c)
known_next g bytes visits last settled old gone new place s visit k t (inr c) = go (place_or old place s t k.now.less k.now.is c)
  where
    go : (t ≡ s) ⊎ Contains (remove old place) t → Known (s ∷ k.left.seen) new t
    go (inl e) = inl (subst (Contains (s ∷ k.left.seen)) (sym e) (cons_head k.left.seen s))
    go (inr rest) = inr (All-contains (Contains new) gone t k.seen.kept (subst (λ (l : List Spot). Contains l t) (sym k.others) rest))

-- one that was looked at, and the one that is, are none of those that wait now
apart_next : (g : Granted) (bytes : List ℕ) (visits last : ℕ) (settled : Bool) (old gone new : List Spot) (place : ℕ) (s : Spot) (visit : Visit) (k : Kept g bytes visits last settled old gone new place s visit) (v : Spot)
    → ((t : Spot) → Contains gone t → Other v t) → v.offset ≤ s.offset → All (Other v) new
apart_next g bytes visits last settled old gone new place s visit k v before low =
    All-weaker (λ (t : Spot). Contains gone t ⊎ IsBehind g bytes s t) (Other v) (λ t h. either t h) new k.seen.fresh
  where
    either : (t : Spot) → Contains gone t ⊎ IsBehind g bytes s t → Other v t
    either t (inl c) = before t c
    either t (inr b) = λ e. absurd (omega (arith, low, b.ahead, ap (λ (u : Spot). u.offset) e))

kept_on : (g : Granted) (bytes : List ℕ) (visits last : ℕ) (settled : Bool) (old gone new : List Spot) (place : ℕ) (s : Spot) (visit : Visit) → Kept g bytes visits last settled old gone new place s visit → IsLeft g bytes (visits + 1) s.offset (settled && visit.settled) new
kept_on g bytes visits last settled old gone new place s visit k =
    let w : Waits g bytes last s = All-contains (Waits g bytes last) old s k.left.waits (here old place s k.now.less k.now.is) in
    let high : last ≤ s.offset = w.next.ahead in
    let known = known_next g bytes visits last settled old gone new place s visit k in
    record {
      seen = s ∷ k.left.seen;
      count = omega (arith, k.left.count);
      first = known first_spot k.left.first;
      leads = All-cons (Leads g bytes (Known (s ∷ k.left.seen) new)) s k.left.seen
          (λ f. leads_more (step_at g bytes f s) (Contains new) (Known (s ∷ k.left.seen) new) (λ t c. inr c) (k.seen.leads k.miss f))
          (All-weaker (Leads g bytes (Known k.left.seen old)) (Leads g bytes (Known (s ∷ k.left.seen) new)) (λ v h f. leads_more (step_at g bytes f v) (Known k.left.seen old) (Known (s ∷ k.left.seen) new) known (h f)) k.left.seen k.left.leads);
      stand = All-cons (MayStand g bytes) s k.left.seen w.next.stands k.left.stand;
      settles = λ e. let both = and_parts settled visit.settled e in All-cons (IsSettled g bytes) s k.left.seen (k.seen.settled both.1) (k.left.settles both.0);
      below = All-cons (λ (v : Spot). v.offset ≤ s.offset) s k.left.seen (omega arith) (All-weaker (λ (v : Spot). v.offset ≤ last) (λ (v : Spot). v.offset ≤ s.offset) (λ v h. omega (arith, h, high)) k.left.seen k.left.below);
      latest = λ more. (s, cons_head k.left.seen s, refl);
      waits = All-weaker (λ (t : Spot). Contains gone t ⊎ IsBehind g bytes s t) (Waits g bytes s.offset) (λ t h. waits_next g bytes visits last settled old gone new place s visit k w.next.stands high t h) new k.seen.fresh;
      distinct = AllPairs-cons Other s k.left.seen (All-weaker (λ (v : Spot). All (Other v) old) (Other s) (λ v h e. All-contains (Other v) old s h (here old place s k.now.less k.now.is) (sym e)) k.left.seen k.left.apart) k.left.distinct;
      alone = k.seen.alone (subst AreDistinct (sym k.others) (all_pairs_remove Other old place k.now.less k.left.alone));
      apart = All-cons (λ (v : Spot). All (Other v) new) s k.left.seen
          (apart_next g bytes visits last settled old gone new place s visit k s (λ t c. All-contains (Other s) (remove old place) t (others_apart old place s k.now.less k.now.is k.left.alone) (subst (λ (l : List Spot). Contains l t) k.others c)) (omega arith))
          (both_all k.left.seen k.left.apart k.left.below high);
    }
  where
    one : (v : Spot) → All (Other v) old → v.offset ≤ last → last ≤ s.offset → All (Other v) new
    one v h low high =
        apart_next g bytes visits last settled old gone new place s visit k v (λ t c. All-contains (Other v) old t h (from_remove old place t k.now.less (subst (λ (l : List Spot). Contains l t) k.others c))) (omega (arith, low, high))

    both_all : (vs : List Spot) → All (λ v. All (Other v) old) vs → All (λ v. v.offset ≤ last) vs → last ≤ s.offset → All (λ v. All (Other v) new) vs
    both_all vs a b high = λ i d less. one (slice_index_or vs i d) (a i d less) (b i d less) high

-- ---- as the walk has them

pub left_next : (g : Granted) (bytes : List ℕ) (visits last : ℕ) (settled : Bool) (old gone new : List Spot) (place : ℕ) (s : Spot) (visit : Visit) → IsLeft g bytes visits last settled old → place < length old
    → s ≡ slice_index_or old place s → IsLeast old place → gone ≡ remove old place → IsVisited g bytes s gone new visit → visit.reached ≡ None → IsLeft g bytes (visits + 1) s.offset (settled && visit.settled) new
left_next g bytes visits last settled old gone new place s visit left less is least others seen miss =
    kept_on g bytes visits last settled old gone new place s visit
    (record { left = left; now = record { less = less; is = is; least = least }; others = others; seen = seen; miss = miss })

-- what waits is within the bytes
pub left_within : (g : Granted) (bytes : List ℕ) (visits last : ℕ) (settled : Bool) (old : List Spot) (place : ℕ) (s : Spot) → IsLeft g bytes visits last settled old → place < length old → s ≡ slice_index_or old place s → IsWithin bytes s
left_within g bytes visits last settled old place s left less is =
    let w : Waits g bytes last s = All-contains (Waits g bytes last) old s left.waits (here old place s less is) in
    w.within

-- something is reached there, and by no spot before it
pub left_reaches : (g : Granted) (bytes : List ℕ) (visits last : ℕ) (settled : Bool) (old : List Spot) (place : ℕ) (s : Spot) (f : Frames) → IsLeft g bytes visits last settled old → place < length old → s ≡ slice_index_or old place s
    → IsLeast old place → step_at g bytes f s ≡ step.Reaches → IsFirst g bytes s f
left_reaches g bytes visits last settled old place s f left less is least hit =
    let w : Waits g bytes last s = All-contains (Waits g bytes last) old s left.waits (here old place s less is) in
    record {
      within = omega (arith, w.within);
      stands = w.next.stands;
      reaches = hit;
      first = λ other stands way e. go other way e (ahead_or g bytes left.seen old s.offset left.leads above stands.0 first_spot other left.first stands.1);
    }
  where
    above : All (λ t. s.offset ≤ t.offset) old
    above =
        All-weaker (Contains old) (λ (t : Spot). s.offset ≤ t.offset) (λ t c. at_least g bytes last old place s (record { less = less; is = is; least = least }) t c) old (All-contains_itself old)

    go : (other : Spot) (way : Frames) → step_at g bytes way other ≡ step.Reaches → Contains left.seen other ⊎ (s.offset ≤ other.offset) → s.offset ≤ other.offset
    go other way e (inr high) = high
    go other way e (inl c) =
        let leads = All-contains (Leads g bytes (Known left.seen old)) left.seen other left.leads c way in
        absurd (subst (λ (x : Step). LeadsTo x (Known left.seen old)) e leads)

-- nothing waits any more
pub none_left : (g : Granted) (bytes : List ℕ) (visits last : ℕ) (settled : Bool) (old : List Spot) → length old ≡ 0 → IsLeft g bytes visits last settled old → IsNone g bytes last settled
none_left g bytes visits last settled old none left =
    let first : Contains left.seen first_spot = known first_spot left.first in
    let some : 0 < visits = omega (arith, left.count, first.1) in
    let last_one = left.latest some in
    record {
      nothing = λ mix. none_reached g bytes left.seen leads mix first_spot first;
      last = last_one.0;
      last_is = last_one.2;
      stands = All-contains (MayStand g bytes) left.seen last_one.0 left.stand last_one.1;
      greatest = λ other stands. All-contains (λ (v : Spot). v.offset ≤ last) left.seen other left.below (all_seen g bytes left.seen leads stands.0 first_spot other first stands.1);
      whatever = λ e more mix. none_reached g (bytes ++ more) left.seen (leads_more_bytes e more) mix first_spot first;
    }
  where
    known : (t : Spot) → Known left.seen old t → Contains left.seen t
    known t (inl c) = c
    known t (inr c) = none_there old t none c

    leads : All (Leads g bytes (Contains left.seen)) left.seen
    leads =
        All-weaker (Leads g bytes (Known left.seen old)) (Leads g bytes (Contains left.seen)) (λ v h f. leads_more (step_at g bytes f v) (Known left.seen old) (Contains left.seen) known (h f)) left.seen left.leads

    leads_more_bytes : settled ≡ true → (more : List ℕ) → All (Leads g (bytes ++ more) (Contains left.seen)) left.seen
    leads_more_bytes e more = λ i d less f. subst (λ (x : Step). LeadsTo x (Contains left.seen)) (sym (left.settles e i d less more f)) (leads i d less f)

-- more wait than may
pub more_left : (g : Granted) (bytes : List ℕ) (visits last : ℕ) (settled : Bool) (old : List Spot) → most_waiting < length old → IsLeft g bytes visits last settled old → WaitsMore g bytes
more_left g bytes visits last settled old more left = record {
  offset = last;
  spots = old;
  more = more;
  distinct = left.alone;
  next = All-weaker (Waits g bytes last) (IsNext g bytes last) (λ t w. w.next) old left.waits;
}

-- as many were looked at as are
pub often_left : (g : Granted) (bytes : List ℕ) (visits last : ℕ) (settled : Bool) (old : List Spot) → visits ≡ most_visits (length bytes) → IsLeft g bytes visits last settled old → StandsOften g bytes
often_left g bytes visits last settled old many left = record { spots = left.seen; many = left.count ∙ many; distinct = left.distinct; stand = left.stand }
