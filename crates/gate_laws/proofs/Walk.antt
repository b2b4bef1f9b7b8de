-- Along acts: what those before an act come of, and that each is permitted.
use Rattle.std.proofs.Common.{◌≡◌, ◌⊎◌, ℕ, zero, suc, ◌+◌, Bool, true, false, List, [], ◌∷◌, ◌++◌, length, Option, Some, refl, sym, ap, subst, ◌∙◌, inl, inr, arith}
use Rattle.std.specs.Prelude.{◌&&◌, ◌||◌, not, slice_get, if◌then◌else◌}
use Rattle.std.proofs.lemmas.List.{append-nil, append_assoc}
use Rattle.pickle_loader.specs.Environment.{is_elsewhere, Act, Make, Fill, View, Method}
use Rattle.pickle_loader.specs.Listed.{is_listed, listed_of}
use Rattle.pickle_loader.specs.ByFrames.{IsAct}
use Rattle.pickle_allow.specs.declared.list.Use.TheVariants as use_of
use Rattle.pickle_allow.specs.declared.list.Entry.{Entry}
use Rattle.pickle_allow.specs.Allow.{Source, may_use}
use Rattle.pickle_allow.specs.Source.{source_at}
use Rattle.gate_laws.specs.Permitted.{value_source, answer_source, permits, permits_all}

-- ---- tests

pub both : (a b : Bool) → (a && b) ≡ true → (a ≡ true) × (b ≡ true)
both true b e = (refl, e)
both false b e = absurd cc

pub and_both : (a b : Bool) → a ≡ true → b ≡ true → (a && b) ≡ true
and_both true b e f = f
and_both false b e f = e

-- ---- one of some acts

pub in_front : (a : Act) (xs ys : List Act) → IsAct a xs → IsAct a (xs ++ ys)
in_front a [] ys h = absurd h
in_front a (x ∷ xs) ys (inl e) = inl e
in_front a (x ∷ xs) ys (inr h) = inr (in_front a xs ys h)

pub behind : (a : Act) (xs ys : List Act) → IsAct a ys → IsAct a (xs ++ ys)
behind a [] ys h = h
behind a (x ∷ xs) ys h = inr (behind a xs ys h)

pub in_either : (a : Act) (xs ys : List Act) → IsAct a (xs ++ ys) → IsAct a xs ⊎ IsAct a ys
in_either a [] ys h = inr h
in_either a (x ∷ xs) ys (inl e) = inl (inl e)
in_either a (x ∷ xs) ys (inr h) = elim (in_either a xs ys h) [
  | inl front ↦ inl (inr front)
  | inr back ↦ inr back
]

pub one_of : (a b : Act) → IsAct a (b ∷ []) → a ≡ b
one_of a b (inl e) = e
one_of a b (inr h) = absurd h

listed_head : (a x : Act) (xs : List Act) (b : Bool) → is_listed x ≡ b → a ≡ x → is_listed a ≡ true → IsAct a (if b then x ∷ listed_of xs else listed_of xs)
listed_head a x xs true e same h = inl same
listed_head a x xs false e same h = let no : true ≡ false = sym h ∙ ap is_listed same ∙ e in absurd cc

listed_tail : (a x : Act) (xs : List Act) (b : Bool) → IsAct a (listed_of xs) → IsAct a (if b then x ∷ listed_of xs else listed_of xs)
listed_tail a x xs true h = inr h
listed_tail a x xs false h = h

-- an act that is listed is one of those that are
pub is_among_listed : (a : Act) (xs : List Act) → IsAct a xs → is_listed a ≡ true → IsAct a (listed_of xs)
is_among_listed a [] h l = absurd h
is_among_listed a (x ∷ xs) (inl e) l = listed_head a x xs (is_listed x) refl e l
is_among_listed a (x ∷ xs) (inr h) l = listed_tail a x xs (is_listed x) (is_among_listed a xs h l)

pub act_at : (xs : List Act) (k : ℕ) (a : Act) → slice_get xs k ≡ Some a → IsAct a xs
act_at [] k a e = absurd cc
act_at (x ∷ xs) zero a e = inl cc
act_at (x ∷ xs) (suc k) a e = inr (act_at xs k a e)

-- what is not listed is permitted
free_fill : (b c : Bool) → b ≡ false → (not b || c) ≡ true
free_fill true c e = absurd cc
free_fill false c e = refl

pub unlisted : (list : List Entry) (before : List (Option Source)) (a : Act) → is_listed a ≡ false → permits list before a ≡ true
unlisted list before (Make t items) e = refl
unlisted list before (View v) e = refl
unlisted list before Method e = refl
unlisted list before (Fill how target items) e = free_fill (is_elsewhere target) (may_use list use_of.Fill (value_source before target)) e
unlisted list before _ e = absurd cc

-- ---- sources, as acts follow

-- behind these acts
abbrev pub sources_by : List (Option Source) → List Act → List (Option Source)
sources_by before [] = before
sources_by before (a ∷ acts) = sources_by (before ++ answer_source before a ∷ []) acts

pub sources_append : (before : List (Option Source)) (xs ys : List Act) → sources_by before (xs ++ ys) ≡ sources_by (sources_by before xs) ys
sources_append before [] ys = refl
sources_append before (x ∷ xs) ys = sources_append (before ++ answer_source before x ∷ []) xs ys

pub sources_more : (before : List (Option Source)) (acts : List Act) → (more : List (Option Source)) × (sources_by before acts ≡ before ++ more)
sources_more before [] = ([], sym (append-nil before))
sources_more before (a ∷ acts) =
    let rest = sources_more (before ++ answer_source before a ∷ []) acts in
    (answer_source before a ∷ rest.0, rest.1 ∙ append_assoc before (answer_source before a ∷ []) rest.0)

-- what an object comes of stays
pub source_stays : (from more : List (Option Source)) (i : ℕ) (s : Source) → source_at from i ≡ Some s → source_at (from ++ more) i ≡ Some s
source_stays [] more i s e = absurd cc
source_stays (x ∷ from) more zero s e = e
source_stays (x ∷ from) more (suc i) s e = source_stays from more i s e

pub source_behind : (before : List (Option Source)) (acts : List Act) (i : ℕ) (s : Source) → source_at before i ≡ Some s → source_at (sources_by before acts) i ≡ Some s
source_behind before acts i s e =
    let more = sources_more before acts in
    ap (λ (l : List (Option Source)). source_at l i) more.1 ∙ source_stays before more.0 i s e

pub last_source : (from more : List (Option Source)) (x : Option Source) → source_at ((from ++ x ∷ []) ++ more) (length from) ≡ x
last_source [] more x = refl
last_source (y ∷ from) more x = last_source from more x

-- ---- permitted acts

pub all_append : (list : List Entry) (before : List (Option Source)) (xs ys : List Act) → permits_all list before xs ≡ true → permits_all list (sources_by before xs) ys ≡ true → permits_all list before (xs ++ ys) ≡ true
all_append list before [] ys e f = f
all_append list before (x ∷ xs) ys e f =
    let two = both (permits list before x) (permits_all list (before ++ answer_source before x ∷ []) xs) e in
    and_both (permits list before x) (permits_all list (before ++ answer_source before x ∷ []) (xs ++ ys)) two.0 (all_append list (before ++ answer_source before x ∷ []) xs ys two.1 f)

pub one_longer : (l : List (Option Source)) (x : Option Source) (k : ℕ) → length l + suc k ≡ length (l ++ x ∷ []) + k
one_longer [] x k = omega arith
one_longer (y ∷ l) x k = let rest : length l + suc k ≡ length (l ++ x ∷ []) + k = one_longer l x k in omega (arith, rest)

-- an act among permitted ones: what the acts before it come of, by which it is permitted
pub record Placed (list : List Entry) (before : List (Option Source)) (acts : List Act) (k : ℕ) (a : Act) : Type 0 where
  pub front : List (Option Source)
  pub permitted : permits list front a ≡ true
  pub source : source_at (sources_by before acts) (length before + k) ≡ answer_source front a
  pub stays : (i : ℕ) (s : Source) → source_at front i ≡ Some s → source_at (sources_by before acts) i ≡ Some s

pub placed : (list : List Entry) (before : List (Option Source)) (acts : List Act) (k : ℕ) (a : Act) → permits_all list before acts ≡ true → slice_get acts k ≡ Some a → Placed list before acts k a
placed list before [] k a e f = absurd cc
placed list before (x ∷ acts) zero a e f =
    let same : x ≡ a = cc in
    let here = both (permits list before x) (permits_all list (before ++ answer_source before x ∷ []) acts) e in
    let more = sources_more (before ++ answer_source before x ∷ []) acts in
    let place : length before + 0 ≡ length before = omega arith in
    record {
      front = before;
      permitted = ap (permits list before) (sym same) ∙ here.0;
      source =
          ap (λ (i : ℕ). source_at (sources_by (before ++ answer_source before x ∷ []) acts) i) place
          ∙ ap (λ (l : List (Option Source)). source_at l (length before)) more.1
          ∙ last_source before more.0 (answer_source before x)
          ∙ ap (answer_source before) same;
      stays = λ i s g. source_behind (before ++ answer_source before x ∷ []) acts i s (source_stays before (answer_source before x ∷ []) i s g);
    }
placed list before (x ∷ acts) (suc k) a e f =
    let here = both (permits list before x) (permits_all list (before ++ answer_source before x ∷ []) acts) e in
    let rest = placed list (before ++ answer_source before x ∷ []) acts k a here.1 f in
    let place : length before + suc k ≡ length (before ++ answer_source before x ∷ []) + k = one_longer before (answer_source before x) k in
    record {
      front = rest.front;
      permitted = rest.permitted;
      source = ap (λ (i : ℕ). source_at (sources_by (before ++ answer_source before x ∷ []) acts) i) place ∙ rest.source;
      stays = rest.stays;
    }

-- more acts are permitted where each that is listed is, behind those before it
pub permits_more : (list : List Entry) (acts more : List Act) → permits_all list [] acts ≡ true
    → ((a : Act) (front : List Act) → IsAct a more → is_listed a ≡ true → permits list (sources_by [] (acts ++ front)) a ≡ true) → permits_all list [] (acts ++ more) ≡ true
permits_more list acts more e good = all_append list [] acts more e (go [] more (λ a front h l. good a front h l))
  where
    by_list : (a : Act) (front : List Act) (b : Bool) → is_listed a ≡ b → (is_listed a ≡ true → permits list (sources_by [] (acts ++ front)) a ≡ true) → permits list (sources_by [] (acts ++ front)) a ≡ true
    by_list a front true is h = h is
    by_list a front false is h = unlisted list (sources_by [] (acts ++ front)) a is

    go : (front rest : List Act) → ((a : Act) (f : List Act) → IsAct a rest → is_listed a ≡ true → permits list (sources_by [] (acts ++ f)) a ≡ true) → permits_all list (sources_by (sources_by [] acts) front) rest ≡ true
    go front [] h = refl
    go front (x ∷ rest) h =
        let is : sources_by [] (acts ++ front) ≡ sources_by (sources_by [] acts) front = sources_append [] acts front in
        let here : permits list (sources_by (sources_by [] acts) front) x ≡ true = subst (λ (l : List (Option Source)). permits list l x ≡ true) is (by_list x front (is_listed x) refl (h x front (inl refl))) in
        let next : sources_by (sources_by [] acts) (front ++ x ∷ []) ≡ sources_by (sources_by [] acts) front ++ answer_source (sources_by (sources_by [] acts) front) x ∷ [] = sources_append (sources_by [] acts) front (x ∷ []) in
        and_both (permits list (sources_by (sources_by [] acts) front) x) (permits_all list (sources_by (sources_by [] acts) front ++ answer_source (sources_by (sources_by [] acts) front) x ∷ []) rest) here
        (subst (λ (l : List (Option Source)). permits_all list l rest ≡ true) next (go (front ++ x ∷ []) rest (λ a f g l. h a f (inr g) l)))
