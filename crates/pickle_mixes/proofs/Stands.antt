-- The places that are found are exactly those at which some mix may stand and act.
use Rattle.std.proofs.Common.{◌≡◌, ℕ, zero, suc, Bool, true, false, List, [], ◌∷◌, ◌++◌, length, Option, Some, None, refl, sym, ap, subst, ◌∙◌}
use Rattle.std.specs.Prelude.{nat_lt, if◌then◌else◌, All, Result, Ok, Err}
use Rattle.std.specs.Option.{option_map}
use Rattle.std.proofs.lemmas.List.Elements.{All-nil, All-cons, All-head, All-tail}
use Rattle.pickle_ops.specs.declared.fault.FrontFault.{FrontFault}
use Rattle.pickle_lenient.specs.declared.taken.Frames.{Frames}
use Rattle.pickle_lenient.specs.declared.taken.Frames.TheVariants as frames
use Rattle.pickle_lenient.specs.declared.taken.Taken.{Taken}
use Rattle.pickle_mixes.specs.declared.place.Place.{Place}
use Rattle.pickle_mixes.specs.Acting.{most_ahead, most_visits, first_place, item_at, place_behind, acts_at, with_place, is_over, with_taken, with_way, with_next, with_acting, acting_from}
use Rattle.pickle_mixes.specs.Laws.{Turn, left_of, behind_item, on_from, stands_from, MayStand, PlacesAreStoodAt, PlacesAreFound}
use Rattle.pickle_mixes.proofs.Looks.{with_all, behind_shown, IsTold, first_told, told_on, told_acts}

-- ---- each is found

shown_is : (shown : Bool) (p : Place) (t : Taken) → place_behind p t.size (left_of shown t.left) ≡ behind_shown shown p t
shown_is true p t = refl
shown_is false p t = refl

-- one that is stood at from one that is told is told
told_by : (many : Bool) (bytes : List ℕ) (found : List Place) (f : Frames) (shown : Bool) (p q : Place) (r : Result Taken FrontFault) (go : Place → Option Place) → IsTold many bytes found p → item_at bytes f p ≡ r → on_from (behind_item many p shown r) go ≡ Some q
    → (m : Place) × IsTold many bytes found m × (go m ≡ Some q)
told_by many bytes found f shown p q (Err e) go told is stands = absurd cc
told_by many bytes found f shown p q (Ok t) go told is stands = by (is_over many t.op) refl stands
  where
    by : (b : Bool) → is_over many t.op ≡ b → on_from (if b then None else Some (place_behind p t.size (left_of shown t.left))) go ≡ Some q → (m : Place) × IsTold many bytes found m × (go m ≡ Some q)
    by true over e = absurd cc
    by false on e = (behind_shown shown p t, told_on many bytes found p f t shown told is on, ap go (sym (shown_is shown p t)) ∙ e)

all_told : (many : Bool) (bytes : List ℕ) (found : List Place) (mix : List Turn) (p q : Place) → IsTold many bytes found p → stands_from many bytes mix p ≡ Some q → IsTold many bytes found q
unfolding stands_from
all_told many bytes found [] p q told e = let same : p ≡ q = cc in subst (IsTold many bytes found) same told
all_told many bytes found (turn ∷ mix) p q told e =
    let m = told_by many bytes found turn.frames turn.shown p q (item_at bytes turn.frames p) (λ (x : Place). stands_from many bytes mix x) told refl e in
    all_told many bytes found mix m.0 q m.1 m.2

pub places_are_found : PlacesAreFound
places_are_found many bytes found is p stands acts = told_acts many bytes found p (all_told many bytes found stands.0 first_place p (first_told many bytes found is) stands.1) acts

-- ---- each is stood at

on_by : (x : Option Place) (here there : Place → Option Place) (p q : Place) → ((m : Place) → here m ≡ Some p → there m ≡ Some q) → on_from x here ≡ Some p → on_from x there ≡ Some q
on_by None here there p q more e = absurd cc
on_by (Some m) here there p q more e = more m e

stands_more : (many : Bool) (bytes : List ℕ) (mix : List Turn) (turn : Turn) (a p q : Place) → stands_from many bytes mix a ≡ Some p → behind_item many p turn.shown (item_at bytes turn.frames p) ≡ Some q → stands_from many bytes (mix ++ turn ∷ []) a ≡ Some q
unfolding stands_from
stands_more many bytes [] turn a p q e goes =
    let same : a ≡ p = cc in
    ap (λ (x : Place). on_from (behind_item many x turn.shown (item_at bytes turn.frames x)) (λ (y : Place). Some y)) same ∙ ap (λ (x : Option Place). on_from x (λ (y : Place). Some y)) goes
stands_more many bytes (h ∷ mix) turn a p q e goes =
    on_by (behind_item many a h.shown (item_at bytes h.frames a)) (λ (x : Place). stands_from many bytes mix x) (λ (x : Place). stands_from many bytes (mix ++ turn ∷ []) x) p q
    (λ m there. stands_more many bytes mix turn m p q there goes) e

stands_behind : (many : Bool) (bytes : List ℕ) (f : Frames) (shown : Bool) (p : Place) (t : Taken) → MayStand many bytes p → item_at bytes f p ≡ Ok t → is_over many t.op ≡ false → MayStand many bytes (behind_shown shown p t)
stands_behind many bytes f shown p t stands is on =
    let goes : behind_item many p shown (item_at bytes f p) ≡ Some (behind_shown shown p t) =
    ap (behind_item many p shown) is ∙ ap (λ (b : Bool). if b then None else Some (place_behind p t.size (left_of shown t.left))) on ∙ ap (λ (q : Place). Some q) (shown_is shown p t) in
    (stands.0 ++ record { frames = f; shown = shown } ∷ [], stands_more many bytes stands.0 (record { frames = f; shown = shown }) first_place p (behind_shown shown p t) stands.1 goes)

-- the places that are added are stood at
abbrev Stood : Bool → List ℕ → List Place → Type 0
Stood many bytes places = All (MayStand many bytes) places

way_stood : (many : Bool) (bytes : List ℕ) (p : Place) (f : Frames) (r : Result Taken FrontFault) (places : List Place) → item_at bytes f p ≡ r → MayStand many bytes p → Stood many bytes places → Stood many bytes (with_taken many p r places)
way_stood many bytes p f (Err e) places is stands all = all
way_stood many bytes p f (Ok t) places is stands all = by (is_over many t.op) refl
  where
    by : (b : Bool) → is_over many t.op ≡ b → Stood many bytes (if b then places else with_place (place_behind p t.size t.left) (with_place (place_behind p t.size 0) places))
    by true over = all
    by false on =
        with_all (MayStand many bytes) (place_behind p t.size t.left) (with_place (place_behind p t.size 0) places) (stands_behind many bytes f false p t stands is on)
        (with_all (MayStand many bytes) (place_behind p t.size 0) places (stands_behind many bytes f true p t stands is on) all)

next_stood : (many : Bool) (bytes : List ℕ) (p : Place) (places : List Place) → MayStand many bytes p → Stood many bytes places → Stood many bytes (with_next many bytes p places)
unfolding with_next
next_stood many bytes p places stands all =
    let held = with_way many bytes p frames.Held places in
    let buffered = with_way many bytes p frames.Buffered held in
    way_stood many bytes p frames.Ignored (item_at bytes frames.Ignored p) buffered refl stands
    (way_stood many bytes p frames.Buffered (item_at bytes frames.Buffered p) held refl stands (way_stood many bytes p frames.Held (item_at bytes frames.Held p) places refl stands all))

-- what is found
abbrev IsGood : Bool → List ℕ → Place → Type 0
IsGood many bytes p = MayStand many bytes p × (acts_at bytes p ≡ true)

good_by : (many : Bool) (bytes : List ℕ) (n : ℕ) (q : Place) (ahead rest : List Place) (b c : Bool) (x : Option (List Place)) → acts_at bytes q ≡ b → MayStand many bytes q → ((l : List Place) → x ≡ Some l → All (IsGood many bytes) l)
    → (if c then None else option_map (with_acting b q) x) ≡ Some rest → All (IsGood many bytes) rest
good_by many bytes n q ahead rest b true x does stands more e = absurd cc
good_by many bytes n q ahead rest b false None does stands more e = absurd cc
good_by many bytes n q ahead rest true false (Some l) does stands more e = let same : q ∷ l ≡ rest = cc in subst (All (IsGood many bytes)) same (All-cons (IsGood many bytes) q l (stands, does) (more l refl))
good_by many bytes n q ahead rest false false (Some l) does stands more e = let same : l ≡ rest = cc in subst (All (IsGood many bytes)) same (more l refl)

good_from : (many : Bool) (bytes : List ℕ) (n : ℕ) (ahead rest : List Place) → Stood many bytes ahead → acting_from many bytes n ahead ≡ Some rest → All (IsGood many bytes) rest
unfolding acting_from
good_from many bytes zero ahead rest all e = absurd cc
good_from many bytes (suc n) [] rest all e = let same : [] ≡ rest = cc in subst (All (IsGood many bytes)) same (All-nil (IsGood many bytes))
good_from many bytes (suc n) (q ∷ ahead) rest all e =
    good_by many bytes n q ahead rest (acts_at bytes q) (nat_lt most_ahead (length (q ∷ ahead))) (acting_from many bytes n (with_next many bytes q ahead)) refl (All-head (MayStand many bytes) q ahead all)
    (λ l is. good_from many bytes n (with_next many bytes q ahead) l (next_stood many bytes q ahead (All-head (MayStand many bytes) q ahead all) (All-tail (MayStand many bytes) q ahead all)) is) e

first_stood : (many : Bool) (bytes : List ℕ) → MayStand many bytes first_place
unfolding stands_from
first_stood many bytes = ([], refl)

pub places_are_stood_at : PlacesAreStoodAt
places_are_stood_at many bytes found is =
    good_from many bytes (most_visits (length bytes)) (first_place ∷ []) found (All-cons (MayStand many bytes) first_place [] (first_stood many bytes) (All-nil (MayStand many bytes))) is
