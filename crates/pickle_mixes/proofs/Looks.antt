-- Looking at a place, and the walk over all places: what is added, and that each place that loaders come to is looked at.
use Rattle.std.proofs.Common.{◌≡◌, ℕ, zero, suc, ◌+◌, ◌-◌, ◌≤◌, ◌<◌, Bool, true, false, List, [], ◌∷◌, ◌++◌, length, Option, Some, None, refl, sym, ap, subst, ◌∙◌, inl, inr, arith}
use Rattle.std.specs.Prelude.{◌⊎◌, slice_index_or, ◌==◌, nat_lt, if◌then◌else◌, take, drop, All, Contains, Result, Ok, Err, IfOk, OnOk}
use Rattle.std.specs.List.{list_any, insert, remove}
use Rattle.std.specs.Option.{option_map}
use Rattle.std.proofs.lemmas.Bool.{eqb-true, le-ltb, lt-ltb, and_parts, or_cases}
use Rattle.std.proofs.lemmas.List.{take-append-drop, append_assoc, length-drop}
use Rattle.std.proofs.lemmas.List.Elements.{All-nil, All-cons, All-head, All-tail, All-append, All-take, All-drop, All-contains_itself, Contains-append_left, Contains-append_right, Contains-append_cases}
use Rattle.pickle_ops.specs.Spelling.{Operation}
use Rattle.pickle_ops.specs.declared.fault.FrontFault.{FrontFault}
use Rattle.pickle_lenient.specs.declared.taken.Frames.{Frames}
use Rattle.pickle_lenient.specs.declared.taken.Frames.TheVariants as frames
use Rattle.pickle_lenient.specs.declared.taken.Taken.{Taken}
use Rattle.pickle_lenient.specs.Stream.{taken, IsTaken}
use Rattle.pickle_mixes.specs.declared.place.Place.{Place}
use Rattle.pickle_mixes.specs.Acting.{most_ahead, most_visits, first_place, item_at, place_behind, acts_by, acts_at, is_same, rank, with_place, is_over, with_item, with_taken, with_way, with_next, with_acting, acting_from, acting_places}
use Rattle.pickle_mixes.specs.Inside.{IsIn, LookedBy, IsLooked}

-- ---- a place that is added

insert_all : (P : Place → Type 0) (places : List Place) (i : ℕ) (p : Place) → All P places → P p → All P (insert places i p)
insert_all P places i p all one = All-append P (take i places) (p ∷ drop i places) (All-take P i places all) (All-cons P p (drop i places) one (All-drop P i places all))

insert_has : (places : List Place) (i : ℕ) (p : Place) → Contains (insert places i p) p
insert_has places i p = Contains-append_right (take i places) (p ∷ drop i places) p (0, omega arith, refl)

insert_keeps : (places : List Place) (i : ℕ) (p q : Place) → Contains places q → Contains (insert places i p) q
insert_keeps places i p q c = either (Contains-append_cases (take i places) (drop i places) q (subst (λ (l : List Place). Contains l q) (sym (take-append-drop i places)) c))
  where
    either : Contains (take i places) q ⊎ Contains (drop i places) q → Contains (insert places i p) q
    either (inl a) = Contains-append_left (take i places) (p ∷ drop i places) q a
    either (inr b) = Contains-append_right (take i places) (p ∷ drop i places) q (Contains-append_right (p ∷ []) (drop i places) q b)

same_is : (p q : Place) → is_same p q ≡ true → p ≡ q
same_is p q e =
    let both = and_parts (p.offset == q.offset) (p.left == q.left) e in
    ap (λ (n : ℕ). record { offset = n; left = p.left }) (eqb-true p.offset q.offset both.0) ∙ ap (λ (n : ℕ). record { offset = q.offset; left = n }) (eqb-true p.left q.left both.1)

any_has : (p : Place) (places : List Place) → list_any (is_same p) places ≡ true → Contains places p
any_has p [] e = absurd cc
any_has p (q ∷ places) e = either (any_has p places) (or_cases (is_same p q) (list_any (is_same p) places) e)
  where
    either : (list_any (is_same p) places ≡ true → Contains places p) → (is_same p q ≡ true) ⊎ (list_any (is_same p) places ≡ true) → Contains (q ∷ places) p
    either more (inl same) = (0, omega arith, sym (same_is p q same))
    either more (inr there) = Contains-append_right (q ∷ []) places p (more there)

pub with_all : (P : Place → Type 0) (p : Place) (places : List Place) → P p → All P places → All P (with_place p places)
unfolding with_place
with_all P p places one all = by (list_any (is_same p) places)
  where
    by : (b : Bool) → All P (if b then places else insert places (rank p places) p)
    by true = all
    by false = insert_all P places (rank p places) p all one

with_has : (p : Place) (places : List Place) → Contains (with_place p places) p
unfolding with_place
with_has p places = by (list_any (is_same p) places) refl
  where
    by : (b : Bool) → list_any (is_same p) places ≡ b → Contains (if b then places else insert places (rank p places) p) p
    by true e = any_has p places e
    by false e = insert_has places (rank p places) p

with_keeps : (p q : Place) (places : List Place) → Contains places q → Contains (with_place p places) q
unfolding with_place
with_keeps p q places c = by (list_any (is_same p) places)
  where
    by : (b : Bool) → Contains (if b then places else insert places (rank p places) p) q
    by true = c
    by false = insert_keeps places (rank p places) p q c

-- ---- the places behind an item

item_all : (P : Place → Type 0) (many : Bool) (p : Place) (o : Operation) (size left : ℕ) (places : List Place) → P (place_behind p size left) → P (place_behind p size 0) → All P places → All P (with_item many p o size left places)
item_all P many p o size left places full none all = by (is_over many o)
  where
    by : (b : Bool) → All P (if b then places else with_place (place_behind p size left) (with_place (place_behind p size 0) places))
    by true = all
    by false = with_all P (place_behind p size left) (with_place (place_behind p size 0) places) full (with_all P (place_behind p size 0) places none all)

item_keeps : (many : Bool) (p q : Place) (o : Operation) (size left : ℕ) (places : List Place) → Contains places q → Contains (with_item many p o size left places) q
item_keeps many p q o size left places c = by (is_over many o)
  where
    by : (b : Bool) → Contains (if b then places else with_place (place_behind p size left) (with_place (place_behind p size 0) places)) q
    by true = c
    by false = with_keeps (place_behind p size left) q (with_place (place_behind p size 0) places) (with_keeps (place_behind p size 0) q places c)

-- a place behind an item, with what is in the buffer only shown, or not
abbrev pub behind_shown : Bool → Place → Taken → Place
behind_shown true p t = place_behind p t.size 0
behind_shown false p t = place_behind p t.size t.left

item_has : (many : Bool) (p : Place) (t : Taken) (shown : Bool) (places : List Place) → is_over many t.op ≡ false → Contains (with_item many p t.op t.size t.left places) (behind_shown shown p t)
item_has many p t shown places on =
    subst (λ (b : Bool). Contains (if b then places else with_place (place_behind p t.size t.left) (with_place (place_behind p t.size 0) places)) (behind_shown shown p t)) (sym on) (by shown)
  where
    by : (b : Bool) → Contains (with_place (place_behind p t.size t.left) (with_place (place_behind p t.size 0) places)) (behind_shown b p t)
    by true = with_keeps (place_behind p t.size t.left) (place_behind p t.size 0) (with_place (place_behind p t.size 0) places) (with_has (place_behind p t.size 0) places)
    by false = with_has (place_behind p t.size t.left) (with_place (place_behind p t.size 0) places)

taken_keeps : (many : Bool) (p q : Place) (r : Result Taken FrontFault) (places : List Place) → Contains places q → Contains (with_taken many p r places) q
taken_keeps many p q (Ok t) places c = item_keeps many p q t.op t.size t.left places c
taken_keeps many p q (Err f) places c = c

way_has : (many : Bool) (bytes : List ℕ) (p : Place) (f : Frames) (t : Taken) (shown : Bool) (places : List Place) → item_at bytes f p ≡ Ok t → is_over many t.op ≡ false → Contains (with_way many bytes p f places) (behind_shown shown p t)
way_has many bytes p f t shown places is on = subst (λ (r : Result Taken FrontFault). Contains (with_taken many p r places) (behind_shown shown p t)) (sym is) (item_has many p t shown places on)

way_keeps : (many : Bool) (bytes : List ℕ) (p q : Place) (f : Frames) (places : List Place) → Contains places q → Contains (with_way many bytes p f places) q
way_keeps many bytes p q f places c = taken_keeps many p q (item_at bytes f p) places c

next_keeps : (many : Bool) (bytes : List ℕ) (p q : Place) (places : List Place) → Contains places q → Contains (with_next many bytes p places) q
unfolding with_next
next_keeps many bytes p q places c =
    let held = with_way many bytes p frames.Held places in
    let buffered = with_way many bytes p frames.Buffered held in
    way_keeps many bytes p q frames.Ignored buffered (way_keeps many bytes p q frames.Buffered held (way_keeps many bytes p q frames.Held places c))

next_has : (many : Bool) (bytes : List ℕ) (p : Place) (f : Frames) (t : Taken) (shown : Bool) (places : List Place) → item_at bytes f p ≡ Ok t → is_over many t.op ≡ false → Contains (with_next many bytes p places) (behind_shown shown p t)
unfolding with_next
next_has many bytes p frames.Held t shown places is on =
    let held = with_way many bytes p frames.Held places in
    let buffered = with_way many bytes p frames.Buffered held in
    way_keeps many bytes p (behind_shown shown p t) frames.Ignored buffered (way_keeps many bytes p (behind_shown shown p t) frames.Buffered held (way_has many bytes p frames.Held t shown places is on))
next_has many bytes p frames.Buffered t shown places is on =
    let held = with_way many bytes p frames.Held places in
    let buffered = with_way many bytes p frames.Buffered held in
    way_keeps many bytes p (behind_shown shown p t) frames.Ignored buffered (way_has many bytes p frames.Buffered t shown held is on)
next_has many bytes p frames.Ignored t shown places is on =
    let held = with_way many bytes p frames.Held places in
    let buffered = with_way many bytes p frames.Buffered held in
    way_has many bytes p frames.Ignored t shown buffered is on

-- ---- one place, as the functions have it

behind_in : (bytes : List ℕ) (p : Place) (size left : ℕ) → IsIn bytes p → size + left ≤ length (drop p.offset bytes) → IsIn bytes (place_behind p size left)
behind_in bytes p size left within fits = let rest = length-drop p.offset bytes in omega (arith, rest, fits, within)

take_whole : (n : ℕ) (xs : List ℕ) → length xs ≤ n → take n xs ≡ xs
take_whole zero [] less = refl
take_whole zero (x ∷ xs) less = absurd (omega (arith, less))
take_whole (suc n) [] less = refl
take_whole (suc n) (x ∷ xs) less = ap (λ (l : List ℕ). x ∷ l) (take_whole n xs (omega (arith, less)))

pub rest_whole : (n : ℕ) (xs : List ℕ) → take (length xs - n) (drop n xs) ≡ drop n xs
rest_whole n xs = let size = length-drop n xs in take_whole (length xs - n) (drop n xs) (omega (arith, size))

pub looked_taken : (many : Bool) (bytes : List ℕ) (p : Place) (f : Frames) (old new : List Place) (acts : Bool) (t : Taken) → IsIn bytes p → IsTaken f p.left (drop p.offset bytes) t → acts ≡ acts_by p (Ok t) → new ≡ with_item many p t.op t.size t.left old
    → LookedBy many bytes p f old new acts
looked_taken many bytes p f old new acts t within taken does next = record {
  does = does ∙ ap (acts_by p) (sym taken.is);
  next = next ∙ ap (λ (r : Result Taken FrontFault). with_taken many p r old) (sym taken.is);
  within = λ all.
      subst (All (IsIn bytes)) (sym next)
      (item_all (IsIn bytes) many p t.op t.size t.left old (behind_in bytes p t.size t.left within taken.within) (behind_in bytes p t.size 0 within (omega (arith, taken.within))) all);
}

pub looked_ok : {E : Type 0} (many : Bool) (bytes : List ℕ) (p : Place) (f : Frames) (old new : List Place) (t : Taken) (r : Result Bool E) → IsIn bytes p → IsTaken f p.left (take (length bytes - p.offset) (drop p.offset bytes)) t → IfOk r (λ acts. acts ≡ acts_by p (Ok t))
    → OnOk r (new ≡ with_item many p t.op t.size t.left old) → IfOk r (LookedBy many bytes p f old new)
looked_ok many bytes p f old new t (Ok acts) within taken does next = looked_taken many bytes p f old new acts t within (subst (λ (b : List ℕ). IsTaken f p.left b t) (rest_whole p.offset bytes) taken) does next
looked_ok many bytes p f old new t (Err e) within taken does next = tt

pub looked_fault : (many : Bool) (bytes : List ℕ) (p : Place) (f : Frames) (old : List Place) (e : FrontFault) → item_at bytes f p ≡ Err e → LookedBy many bytes p f old old false
looked_fault many bytes p f old e is = record { does = ap (acts_by p) (sym is); next = ap (λ (r : Result Taken FrontFault). with_taken many p r old) (sym is); within = λ all. all }

pub looked_each : (many : Bool) (bytes : List ℕ) (p : Place) (a b c d : List Place) (x y z : Bool) → LookedBy many bytes p frames.Held a b x → LookedBy many bytes p frames.Buffered b c y → LookedBy many bytes p frames.Ignored c d z → IsLooked many bytes p a d x
unfolding with_next acts_at
looked_each many bytes p a b c d x y z held buffered ignored = record {
  does = held.does;
  next = ignored.next ∙ ap (with_way many bytes p frames.Ignored) (buffered.next ∙ ap (with_way many bytes p frames.Buffered) held.next);
  within = λ all. ignored.within (buffered.within (held.within all));
}

-- ---- the walk

-- what is found behind what was found
abbrev pub found_on : List Place → Option (List Place) → Option (List Place)
found_on found more = option_map (λ (l : List Place). found ++ l) more

-- what the walk keeps: from the places that are ahead it finds the rest
pub record IsAhead (many : Bool) (bytes : List ℕ) (visits : ℕ) (found ahead : List Place) : Type 0 where
  pub finds : found_on found (acting_from many bytes visits ahead) ≡ acting_places many bytes
  pub inside : All (IsIn bytes) ahead

nothing_found : (x : Option (List Place)) → found_on [] x ≡ x
nothing_found None = refl
nothing_found (Some l) = refl

pub walk_begun : (many : Bool) (bytes : List ℕ) (found ahead none : List Place) (visits : ℕ) (p : Place) → found ≡ [] → ahead ≡ none ++ p ∷ [] → none ≡ [] → p ≡ first_place → visits ≡ most_visits (length bytes) → IsAhead many bytes visits found ahead
walk_begun many bytes found ahead none visits p empty is before first most =
    subst (λ (n : ℕ). IsAhead many bytes n found ahead) (sym most) (subst (λ (l : List Place). IsAhead many bytes (most_visits (length bytes)) l ahead) (sym empty) (subst (IsAhead many bytes (most_visits (length bytes)) []) (sym whole) start))
  where
    whole : ahead ≡ first_place ∷ []
    whole = is ∙ ap (λ (l : List Place). l ++ p ∷ []) before ∙ ap (λ (q : Place). q ∷ []) first

    start : IsAhead many bytes (most_visits (length bytes)) [] (first_place ∷ [])
    start = record { finds = nothing_found (acting_places many bytes); inside = All-cons (IsIn bytes) first_place [] (omega arith) (All-nil (IsIn bytes)) }

found_none : (found : List Place) → found ++ [] ≡ found
found_none [] = refl
found_none (p ∷ found) = ap (λ (l : List Place). p ∷ l) (found_none found)

found_more : (found : List Place) (b : Bool) (p : Place) (x : Option (List Place)) → found_on (found ++ with_acting b p []) x ≡ found_on found (option_map (with_acting b p) x)
found_more found b p None = refl
found_more found true p (Some l) = ap (λ (k : List Place). Some k) (append_assoc found (p ∷ []) l)
found_more found false p (Some l) = ap (λ (k : List Place). Some (k ++ l)) (found_none found)

-- one that is looked at is the first
first_of : (ahead : List Place) (p : Place) → 0 < length ahead → p ≡ slice_index_or ahead 0 p → ahead ≡ p ∷ remove ahead 0
first_of [] p some is = absurd (omega (arith, some))
first_of (q ∷ ahead) p some is = ap (λ (x : Place). x ∷ ahead) (sym is) ∙ ap (λ (l : List Place). p ∷ l) (whole ahead)
  where
    whole : (xs : List Place) → xs ≡ drop 0 xs
    whole [] = refl
    whole (x ∷ xs) = refl

pub first_inside : (many : Bool) (bytes : List ℕ) (visits : ℕ) (found ahead : List Place) (p : Place) → IsAhead many bytes visits found ahead → 0 < length ahead → p ≡ slice_index_or ahead 0 p → IsIn bytes p
first_inside many bytes visits found ahead p kept some is = All-head (IsIn bytes) p (remove ahead 0) (subst (All (IsIn bytes)) (first_of ahead p some is) kept.inside)

step_from : (many : Bool) (bytes : List ℕ) (visits : ℕ) (p : Place) (rest : List Place) → 0 < visits → length (p ∷ rest) ≤ most_ahead
    → acting_from many bytes visits (p ∷ rest) ≡ option_map (with_acting (acts_at bytes p) p) (acting_from many bytes (visits - 1) (with_next many bytes p rest))
unfolding acting_from
step_from many bytes zero p rest some few = absurd (omega (arith, some))
step_from many bytes (suc n) p rest some few =
    let same : n ≡ suc n - 1 = omega arith in
    ap (λ (b : Bool). if b then None else option_map (with_acting (acts_at bytes p) p) (acting_from many bytes n (with_next many bytes p rest))) (le-ltb most_ahead (length (p ∷ rest)) few)
    ∙ ap (λ (m : ℕ). option_map (with_acting (acts_at bytes p) p) (acting_from many bytes m (with_next many bytes p rest))) same

pub walk_next : (many : Bool) (bytes : List ℕ) (visits less : ℕ) (found more ahead rest next : List Place) (p : Place) (acts : Bool) → IsAhead many bytes visits found ahead → 0 < visits → less ≡ visits - 1 → 0 < length ahead → length ahead ≤ most_ahead
    → p ≡ slice_index_or ahead 0 p → rest ≡ remove ahead 0 → IsLooked many bytes p rest next acts → more ≡ found ++ with_acting acts p [] → IsAhead many bytes less more next
walk_next many bytes visits less found more ahead rest next p acts kept some is_less full few is others looked grown =
    let whole : ahead ≡ p ∷ rest = first_of ahead p full is ∙ ap (λ (l : List Place). p ∷ l) (sym others) in
    record {
      finds =
          ap (λ (l : List Place). found_on l (acting_from many bytes less next)) grown ∙ found_more found acts p (acting_from many bytes less next)
          ∙ ap (λ (b : Bool). found_on found (option_map (with_acting b p) (acting_from many bytes less next))) looked.does
          ∙ ap (λ (l : List Place). found_on found (option_map (with_acting (acts_at bytes p) p) (acting_from many bytes less l))) looked.next
          ∙ ap (λ (n : ℕ). found_on found (option_map (with_acting (acts_at bytes p) p) (acting_from many bytes n (with_next many bytes p rest)))) is_less
          ∙ ap (found_on found) (sym (step_from many bytes visits p rest some (subst (λ (l : List Place). length l ≤ most_ahead) whole few)))
          ∙ ap (λ (l : List Place). found_on found (acting_from many bytes visits l)) (sym whole) ∙ kept.finds;
      inside = looked.within (All-tail (IsIn bytes) p rest (subst (All (IsIn bytes)) whole kept.inside));
    }

over_by : (many : Bool) (bytes : List ℕ) (found : List Place) (visits : ℕ) (ahead : List Place) → 0 < visits → length ahead ≡ 0 → found_on found (acting_from many bytes visits ahead) ≡ Some found
unfolding acting_from
over_by many bytes found zero ahead some none = absurd (omega (arith, some))
over_by many bytes found (suc n) [] some none = ap (λ (l : List Place). Some l) (found_none found)
over_by many bytes found (suc n) (p ∷ ahead) some none = absurd (omega (arith, none))

-- nothing is ahead
pub walk_over : (many : Bool) (bytes : List ℕ) (visits : ℕ) (found ahead : List Place) → IsAhead many bytes visits found ahead → 0 < visits → length ahead ≡ 0 → acting_places many bytes ≡ Some found
walk_over many bytes visits found ahead kept some none = sym kept.finds ∙ over_by many bytes found visits ahead some none

full_by : (many : Bool) (bytes : List ℕ) (visits : ℕ) (ahead : List Place) → most_ahead < length ahead → acting_from many bytes visits ahead ≡ None
unfolding acting_from
full_by many bytes zero ahead over = refl
full_by many bytes (suc n) [] over = absurd (omega (arith, over))
full_by many bytes (suc n) (p ∷ ahead) over =
    ap (λ (b : Bool). if b then None else option_map (with_acting (acts_at bytes p) p) (acting_from many bytes n (with_next many bytes p ahead))) (lt-ltb most_ahead (length (p ∷ ahead)) over)

-- there are too many
pub walk_full : (many : Bool) (bytes : List ℕ) (visits : ℕ) (found ahead : List Place) → IsAhead many bytes visits found ahead → most_ahead < length ahead → acting_places many bytes ≡ None
walk_full many bytes visits found ahead kept over = sym kept.finds ∙ ap (found_on found) (full_by many bytes visits ahead over)

pub walk_long : (many : Bool) (bytes : List ℕ) (visits : ℕ) (found ahead : List Place) → IsAhead many bytes visits found ahead → visits ≡ 0 → acting_places many bytes ≡ None
unfolding acting_from
walk_long many bytes visits found ahead kept none = sym kept.finds ∙ ap (λ (n : ℕ). found_on found (acting_from many bytes n ahead)) none

-- ---- each place that loaders come to is looked at

-- a walk that found these has this place ahead
pub record IsTold (many : Bool) (bytes : List ℕ) (found : List Place) (p : Place) : Type 0 where
  pub visits : ℕ
  pub ahead : List Place
  pub rest : List Place
  pub is : acting_from many bytes visits ahead ≡ Some rest
  pub there : Contains ahead p
  pub all : All (Contains found) rest

pub first_told : (many : Bool) (bytes : List ℕ) (found : List Place) → acting_places many bytes ≡ Some found → IsTold many bytes found first_place
first_told many bytes found is = record { visits = most_visits (length bytes); ahead = first_place ∷ []; rest = found; is = is; there = (0, omega arith, refl); all = All-contains_itself found }

-- it looks at one, and goes on
record Opened (many : Bool) (bytes : List ℕ) (found : List Place) (n : ℕ) (q : Place) (ahead rest : List Place) : Type 0 where
  next : List Place
  is : acting_from many bytes n (with_next many bytes q ahead) ≡ Some next
  acts : acts_at bytes q ≡ true → Contains found q
  all : All (Contains found) next

opened_by : (many : Bool) (bytes : List ℕ) (found : List Place) (n : ℕ) (q : Place) (ahead rest : List Place) (b c : Bool) (x : Option (List Place)) → acts_at bytes q ≡ b → acting_from many bytes n (with_next many bytes q ahead) ≡ x
    → (if c then None else option_map (with_acting b q) x) ≡ Some rest → All (Contains found) rest → Opened many bytes found n q ahead rest
opened_by many bytes found n q ahead rest b true x does is e all = absurd cc
opened_by many bytes found n q ahead rest b false None does is e all = absurd cc
opened_by many bytes found n q ahead rest true false (Some l) does is e all =
    let same : q ∷ l ≡ rest = cc in
    let every : All (Contains found) (q ∷ l) = subst (All (Contains found)) (sym same) all in
    record { next = l; is = is; acts = λ h. All-head (Contains found) q l every; all = All-tail (Contains found) q l every }
opened_by many bytes found n q ahead rest false false (Some l) does is e all =
    let same : l ≡ rest = cc in
    record { next = l; is = is; acts = λ h. absurd (two (sym does ∙ h)); all = subst (All (Contains found)) (sym same) all }
  where
    two : false ≡ true → ⊥
    two h = absurd cc

opened : (many : Bool) (bytes : List ℕ) (found : List Place) (n : ℕ) (q : Place) (ahead rest : List Place) → acting_from many bytes (suc n) (q ∷ ahead) ≡ Some rest → All (Contains found) rest → Opened many bytes found n q ahead rest
unfolding acting_from
opened many bytes found n q ahead rest e all =
    opened_by many bytes found n q ahead rest (acts_at bytes q) (nat_lt most_ahead (length (q ∷ ahead))) (acting_from many bytes n (with_next many bytes q ahead)) refl refl e all

-- one of these is the first, or another
first_or : (q p : Place) (ahead : List Place) → Contains (q ∷ ahead) p → (q ≡ p) ⊎ Contains ahead p
first_or q p ahead c = go c.0 c.1 c.2
  where
    go : (k : ℕ) → k < length (q ∷ ahead) → slice_index_or (q ∷ ahead) k p ≡ p → (q ≡ p) ⊎ Contains ahead p
    go zero less is = inl is
    go (suc k) less is = inr (k, omega (arith, less), is)

none_there : (p : Place) {A : Type 0} → Contains [] p → A
none_there p (k, less, is) = absurd (omega (arith, less))

none_from : (many : Bool) (bytes : List ℕ) (ahead rest : List Place) {A : Type 0} → acting_from many bytes zero ahead ≡ Some rest → A
unfolding acting_from
none_from many bytes ahead rest e = absurd cc

on_from : (many : Bool) (bytes : List ℕ) (found : List Place) (p : Place) (f : Frames) (t : Taken) (shown : Bool) → item_at bytes f p ≡ Ok t → is_over many t.op ≡ false
    → (n : ℕ) (ahead rest : List Place) → acting_from many bytes n ahead ≡ Some rest → Contains ahead p → All (Contains found) rest → IsTold many bytes found (behind_shown shown p t)
on_from many bytes found p f t shown takes on zero ahead rest is c all = none_from many bytes ahead rest is
on_from many bytes found p f t shown takes on (suc n) [] rest is c all = none_there p c
on_from many bytes found p f t shown takes on (suc n) (q ∷ ahead) rest is c all =
    let o = opened many bytes found n q ahead rest is all in
    go o (λ there. on_from many bytes found p f t shown takes on n (with_next many bytes q ahead) o.next o.is there o.all) (first_or q p ahead c)
  where
    go : (o : Opened many bytes found n q ahead rest) → (Contains (with_next many bytes q ahead) p → IsTold many bytes found (behind_shown shown p t)) → (q ≡ p) ⊎ Contains ahead p → IsTold many bytes found (behind_shown shown p t)
    go o more (inl here) = record {
      visits = n;
      ahead = with_next many bytes q ahead;
      rest = o.next;
      is = o.is;
      there = subst (λ (r : Place). Contains (with_next many bytes r ahead) (behind_shown shown p t)) (sym here) (next_has many bytes p f t shown ahead takes on);
      all = o.all;
    }
    go o more (inr later) = more (next_keeps many bytes q p ahead later)

-- behind each item that a loader takes at such a place there is another
pub told_on : (many : Bool) (bytes : List ℕ) (found : List Place) (p : Place) (f : Frames) (t : Taken) (shown : Bool) → IsTold many bytes found p → item_at bytes f p ≡ Ok t → is_over many t.op ≡ false → IsTold many bytes found (behind_shown shown p t)
told_on many bytes found p f t shown told takes on = on_from many bytes found p f t shown takes on told.visits told.ahead told.rest told.is told.there told.all

acts_from : (many : Bool) (bytes : List ℕ) (found : List Place) (p : Place) → acts_at bytes p ≡ true → (n : ℕ) (ahead rest : List Place) → acting_from many bytes n ahead ≡ Some rest → Contains ahead p → All (Contains found) rest → Contains found p
acts_from many bytes found p does zero ahead rest is c all = none_from many bytes ahead rest is
acts_from many bytes found p does (suc n) [] rest is c all = none_there p c
acts_from many bytes found p does (suc n) (q ∷ ahead) rest is c all =
    let o = opened many bytes found n q ahead rest is all in
    go o (λ there. acts_from many bytes found p does n (with_next many bytes q ahead) o.next o.is there o.all) (first_or q p ahead c)
  where
    go : (o : Opened many bytes found n q ahead rest) → (Contains (with_next many bytes q ahead) p → Contains found p) → (q ≡ p) ⊎ Contains ahead p → Contains found p
    go o more (inl here) = subst (Contains found) here (o.acts (ap (acts_at bytes) here ∙ does))
    go o more (inr later) = more (next_keeps many bytes q p ahead later)

-- and it is found, if one acts there
pub told_acts : (many : Bool) (bytes : List ℕ) (found : List Place) (p : Place) → IsTold many bytes found p → acts_at bytes p ≡ true → Contains found p
told_acts many bytes found p told does = acts_from many bytes found p does told.visits told.ahead told.rest told.is told.there told.all
