-- The search for an item at which loaders part; and as long as they do not, a mix does what is done where frames are in a buffer.
use Rattle.std.proofs.Common.{◌≡◌, ◌⊎◌, ℕ, zero, suc, ◌<◌, ◌≤◌, ◌==◌, Bool, true, false, List, [], ◌∷◌, drop, Option, Some, None, Ok, refl, sym, ap, ap₂, subst, ◌∙◌, inl, inr, arith}
use Rattle.std.specs.Prelude.{nat_lt, is_some, if◌then◌else◌, Result, Err}
use Rattle.std.proofs.lemmas.Bool.{cases_Bool, eqb-true, ltb-false}
use Rattle.pickle_ops.specs.declared.fault.FrontFault.{FrontFault}
use Rattle.pickle_ops.specs.declared.fault.FrontFault.TheVariants as fault
use Rattle.pickle_lenient.specs.declared.taken.Frames.{Frames}
use Rattle.pickle_lenient.specs.declared.taken.Frames.TheVariants as frames
use Rattle.pickle_lenient.specs.declared.taken.Taken.{Taken}
use Rattle.pickle_lenient.specs.Stream.{taken}
use Rattle.pickle_text.specs.declared.closing.Closing.{Closing}
use Rattle.pickle_calls.specs.declared.naming.Detail.{Detail}
use Rattle.pickle_calls.specs.declared.naming.Detail.TheVariants as detail
use Rattle.pickle_further.specs.declared.seek.Sought.TheVariants as sought
use Rattle.pickle_further.specs.declared.way.Pickles.{Pickles}
use Rattle.pickle_further.specs.declared.way.Way.{Way}
use Rattle.pickle_further.specs.declared.way.Spot.{Spot}
use Rattle.pickle_further.specs.Splits.{leaves_by, are_apart, splits}
use Rattle.pickle_further.specs.Going.{Standing, Going, going, stands_after, search}
use Rattle.pickle_further.specs.Parts.{standing_first, file_frames}
use Rattle.pickle_loader.specs.Environment.{World}
use Rattle.pickle_loader.specs.Onward.{Onward, stands_behind, stands, reads_on, load_way}
use Rattle.pickle_loader.specs.CLoad.{CLoaded, seen_loaded, COnward, c_load_more, c_load_read, c_load_on, c_load_way, as_in_c}
use Rattle.pickle_loader.proofs.Losses.{shifted, over, first_is}
use Rattle.pickle_loader.proofs.Items.{none_taken}
use Rattle.pickle_loader.proofs.Ways.{by_items, ready_at}
use Rattle.pickle_loader.proofs.CLoads.{one_load}
use Rattle.pickle_loader.proofs.Details.{stands_named}
use Rattle.pickle_loader.proofs.Buffers.{plain_item, none_of, buffered_same}
use Rattle.reach_laws.specs.Mixed.{c_opened, c_as_shown, c_load_turn, c_load_mixed}
use Rattle.reach_laws.specs.Filed.{file_turn, file_mix}
use Rattle.reach_laws.proofs.Filed.{kept_empty}
use Rattle.reach_laws.proofs.Lossless.{plain_more, shown_now, shown_rest, reading}

-- ---- the search

-- of the first n items none is one at which loaders part
abbrev pub NoSplit : Way → Standing → ℕ → Type 0
NoSplit w p n = (j : ℕ) (q : Standing) → j < n → stands w p j ≡ Some q → splits w.frames q.at.left q.rest ≡ false

abbrev pub FoundSplit : Way → Standing → ℕ → Option Standing → Type 0
FoundSplit w p n None = NoSplit w p n
FoundSplit w p n (Some q) = (k : ℕ) × (stands w p k ≡ Some q) × NoSplit w p k

at_first : (w : Way) (p q : Standing) → splits w.frames p.at.left p.rest ≡ false → stands w p 0 ≡ Some q → splits w.frames q.at.left q.rest ≡ false
at_first w p q is there = ap (λ (x : Standing). splits w.frames x.at.left x.rest) (sym (first_is w p q there)) ∙ is

leads_on : (p : Standing) (g : Going) → g.gone.closing ≡ None → stands_behind p g ≡ Some (stands_after p g)
leads_on p g goes = ap (λ (x : Option Closing). if is_some x then None else Some (stands_after p g)) goes

ends_there : (p : Standing) (g : Going) (c : Closing) → g.gone.closing ≡ Some c → stands_behind p g ≡ None
ends_there p g c ends = ap (λ (x : Option Closing). if is_some x then None else Some (stands_after p g)) ends

none_over : (w : Way) (p : Standing) (n : ℕ) (c : Closing) → splits w.frames p.at.left p.rest ≡ false → (going w p).gone.closing ≡ Some c → NoSplit w p n
none_over w p n c is ends zero q less there = at_first w p q is there
none_over w p n c is ends (suc j) q less there = let bad : None ≡ Some q = sym (over w p j (ends_there p (going w p) c ends)) ∙ there in absurd cc

none_behind : (w : Way) (p : Standing) (n : ℕ) → splits w.frames p.at.left p.rest ≡ false → (going w p).gone.closing ≡ None → NoSplit w (stands_after p (going w p)) n → NoSplit w p (suc n)
none_behind w p n is goes more zero q less there = at_first w p q is there
none_behind w p n is goes more (suc j) q less there =
    let r : Standing = stands_after p (going w p) in
    more j q (omega (arith, less)) (sym (shifted w p r j (leads_on p (going w p) goes)) ∙ there)

found_here : (w : Way) (p : Standing) (n : ℕ) → FoundSplit w p n (Some p)
unfolding stands
found_here w p n = (0, refl, λ j q less there. absurd (omega (arith, less)))

found_behind : (w : Way) (p : Standing) (n : ℕ) (x : Option Standing) → splits w.frames p.at.left p.rest ≡ false → (going w p).gone.closing ≡ None → FoundSplit w (stands_after p (going w p)) n x → FoundSplit w p (suc n) x
found_behind w p n None is goes more = none_behind w p n is goes more
found_behind w p n (Some q) is goes (k, there, none) =
    (suc k, shifted w p (stands_after p (going w p)) k (leads_on p (going w p) goes) ∙ there, none_behind w p k is goes none)

found_on : (w : Way) (p : Standing) (n : ℕ) (b : Bool) (c : Option Closing) (more : Option Standing) → splits w.frames p.at.left p.rest ≡ b → (going w p).gone.closing ≡ c → FoundSplit w (stands_after p (going w p)) n more
    → FoundSplit w p (suc n) (if b then Some p else (if is_some c then None else more))
found_on w p n true c more is ends found = found_here w p (suc n)
found_on w p n false (Some c) more is ends found = none_over w p (suc n) c is ends
found_on w p n false None more is goes found = found_behind w p n more is goes found

pub split_is_found : (n : ℕ) (w : Way) (p : Standing) → FoundSplit w p n (search sought.Split n w p)
unfolding search
split_is_found zero w p = λ j q less there. absurd (omega (arith, less))
split_is_found (suc n) w p =
    found_on w p n (splits w.frames p.at.left p.rest) (going w p).gone.closing (search sought.Split n w (stands_after p (going w p))) refl refl (split_is_found n w (stands_after p (going w p)))

-- ---- where more is read

-- nothing is taken of no bytes
pub nothing_splits : (f : Frames) (left : ℕ) (rest : List ℕ) → rest ≡ [] → splits f left rest ≡ false
unfolding splits
nothing_splits f left rest none =
    let bare : splits f left [] ≡ false =
    ap (λ (x : Result Taken FrontFault). if left == 0 then false else are_apart (leaves_by x) (leaves_by (taken f 0 []))) (none_taken f left)
    ∙ ap (λ (x : Result Taken FrontFault). if left == 0 then false else are_apart (leaves_by (Err fault.Ended)) (leaves_by x)) (none_taken f 0) ∙ either (left == 0) in
    ap (λ (l : List ℕ). splits f left l) none ∙ bare
  where
    either : (b : Bool) → (if b then false else false) ≡ false
    either true = refl
    either false = refl

-- where the load of the reading with a buffer goes on, loaders do not part
abbrev pub Quiet : World → Pickles → List ℕ → ℕ → Type 0
Quiet w p bytes i =
    reads_on p (seen_loaded (c_load_way w (reading p) bytes i).now) ≡ true
    → splits (file_frames p) (c_load_way w (reading p) bytes i).left (c_load_way w (reading p) bytes i).rest ≡ false

-- of the same bytes
moved : (f : Frames) (a b : ℕ) (xs ys : List ℕ) → a ≡ b → xs ≡ ys → splits f b ys ≡ false → splits f a xs ≡ false
moved f a b xs ys e g is = ap (λ (n : ℕ). splits f n xs) e ∙ ap (splits f b) g ∙ is

-- where it is, as long as more is read
pub record IsThere (w : World) (p : Pickles) (bytes : List ℕ) (i : ℕ) (q : Standing) : Type 0 where
  pub rest : (c_load_way w (reading p) bytes i).rest ≡ q.rest
  pub left : (c_load_way w (reading p) bytes i).left ≡ q.at.left

pub is_there : (w : World) (p : Pickles) (bytes : List ℕ) (i : ℕ) (q : Standing) → stands (reading p) (standing_first detail.Cut p bytes) i ≡ Some q → reads_on p (seen_loaded (c_load_way w (reading p) bytes i).now) ≡ true → IsThere w p bytes i q
is_there w p bytes i q there on =
    let same = one_load w (reading p) bytes i in
    let r = ready_at (as_in_c w) (reading p) bytes i q there (ap (λ (z : Onward). reads_on p z.now) (sym same) ∙ on) in
    record { rest = ap (λ (z : Onward). z.rest) same ∙ r.rest; left = ap (λ (z : Onward). z.left) same ∙ r.left }

pub nothing_there : (w : World) (p : Pickles) (bytes : List ℕ) (i : ℕ) → stands (reading p) (standing_first detail.Cut p bytes) i ≡ None → reads_on p (seen_loaded (c_load_way w (reading p) bytes i).now) ≡ true → (c_load_way w (reading p) bytes i).rest ≡ []
nothing_there w p bytes i there on =
    let same = one_load w (reading p) bytes i in
    let reads : reads_on p (load_way (as_in_c w) (reading p) bytes i).now ≡ true = ap (λ (z : Onward). reads_on p z.now) (sym same) ∙ on in
    elim ((by_items (as_in_c w) (reading p) bytes).over i there) [
      | inl off ↦ let bad : true ≡ false = sym reads ∙ off in absurd cc
      | inr over ↦ ap (λ (z : Onward). z.rest) same ∙ over
    ]

quiet_by : (how : Detail) (w : World) (p : Pickles) (bytes : List ℕ) (i : ℕ) → ((q : Standing) → stands (reading p) (standing_first how p bytes) i ≡ Some q → splits (file_frames p) q.at.left q.rest ≡ false)
    → (x : Option Standing) → stands (reading p) (standing_first detail.Cut p bytes) i ≡ x → Quiet w p bytes i
quiet_by how w p bytes i none (Some q) there on =
    let y : COnward = c_load_way w (reading p) bytes i in
    let is = is_there w p bytes i q there on in
    let named = stands_named detail.Cut how (reading p) bytes i q there in
    moved (file_frames p) y.left named.other.at.left y.rest named.other.rest (is.left ∙ sym (ap (λ (s : Spot). s.left) named.at)) (is.rest ∙ sym named.rest) (none named.other named.there)
quiet_by how w p bytes i none None there on = nothing_splits (file_frames p) (c_load_way w (reading p) bytes i).left (c_load_way w (reading p) bytes i).rest (nothing_there w p bytes i there on)

pub quiet : (how : Detail) (w : World) (p : Pickles) (bytes : List ℕ) (i : ℕ) → ((q : Standing) → stands (reading p) (standing_first how p bytes) i ≡ Some q → splits (file_frames p) q.at.left q.rest ≡ false) → Quiet w p bytes i
quiet how w p bytes i none = quiet_by how w p bytes i none (stands (reading p) (standing_first detail.Cut p bytes) i) refl

-- ---- a turn

-- what a mix holds that has nothing in its buffer, or what is there
abbrev pub Like : COnward → COnward → Type 0
Like x y = (x.now ≡ y.now) × (x.rest ≡ y.rest) × ((x.left ≡ y.left) ⊎ (x.left ≡ 0))

pub shown_left : (b : Bool) (x : COnward) → x.left ≡ 0 → (c_as_shown b x).left ≡ 0
shown_left true x e = refl
shown_left false x e = e

-- what was in the buffer may be shown
like_shown : (b : Bool) (x y : COnward) → x ≡ y → Like (c_as_shown b x) y
like_shown true x y e = (ap (λ (z : COnward). z.now) e, ap (λ (z : COnward). z.rest) e, inr refl)
like_shown false x y e = (ap (λ (z : COnward). z.now) e, ap (λ (z : COnward). z.rest) e, inl (ap (λ (z : COnward). z.left) e))

abbrev emptied : COnward → COnward
emptied y = record y { left = 0 }

one_taken : (a b : Taken) (x : Result Taken FrontFault) → x ≡ Ok a → x ≡ Ok b → a ≡ b
one_taken a b (Ok x) e f = let one : x ≡ a = cc in let two : x ≡ b = cc in sym one ∙ two
one_taken a b (Err g) e f = absurd cc

-- with an empty buffer, where loaders do not part
like_read : (w : World) (p : Pickles) (b : Bool) (y : COnward) (r s : Result Taken FrontFault) → taken (file_frames p) 0 y.rest ≡ r → taken (file_frames p) y.left y.rest ≡ s → are_apart (leaves_by s) (leaves_by r) ≡ false
    → Like (c_as_shown b (c_load_read w p (emptied y) r)) (c_load_read w p y s)
like_read w p b y (Ok item) (Ok other) is was none =
    let kept = none_of other.lost (nat_lt 0 item.left) none in
    let empty : item.left ≡ 0 = omega (arith, ltb-false 0 item.left kept.1) in
    let one : taken frames.Ignored 0 y.rest ≡ Ok (plain_item item) = buffered_same (file_frames p) 0 0 y.rest item is (kept_empty p y.rest item is) in
    let two : taken frames.Ignored 0 y.rest ≡ Ok (plain_item other) = buffered_same (file_frames p) y.left 0 y.rest other was kept.0 in
    let same : plain_item item ≡ plain_item other = one_taken (plain_item item) (plain_item other) (taken frames.Ignored 0 y.rest) one two in
    let x : COnward = c_load_read w p (emptied y) (Ok item) in (
      shown_now b x ∙ sym (plain_more w p item y.now) ∙ ap (λ (t : Taken). c_load_more w p t y.now) same ∙ plain_more w p other y.now,
      shown_rest b x ∙ ap (λ (t : Taken). drop t.size y.rest) same,
      inr (shown_left b x empty),
    )
like_read w p b y (Err f) (Err g) is was none =
    let x : COnward = c_load_read w p (emptied y) (Err f) in (shown_now b x, shown_rest b x, inr (shown_left b x refl))
like_read w p b y (Ok item) (Err g) is was none = absurd cc
like_read w p b y (Err f) (Ok other) is was none = absurd cc

pub apart_not : (f : Frames) (left : ℕ) (bytes : List ℕ) → splits f left bytes ≡ false → (left == 0) ≡ false → are_apart (leaves_by (taken f left bytes)) (leaves_by (taken f 0 bytes)) ≡ false
unfolding splits
apart_not f left bytes is some = sym (ap (λ (b : Bool). if b then false else are_apart (leaves_by (taken f left bytes)) (leaves_by (taken f 0 bytes))) some) ∙ is

-- where it is as in the buffer
read_same : (w : World) (p : Pickles) (b : Bool) (y : COnward) (left : ℕ) → left ≡ y.left → Like (c_as_shown b (c_load_read w p (record y { left = left }) (taken (file_frames p) left y.rest))) (c_load_read w p y (taken (file_frames p) y.left y.rest))
read_same w p b y left e =
    like_shown b (c_load_read w p (record y { left = left }) (taken (file_frames p) left y.rest)) (c_load_read w p y (taken (file_frames p) y.left y.rest))
    (ap (λ (n : ℕ). c_load_read w p (record y { left = n }) (taken (file_frames p) n y.rest)) e)

read_like : (w : World) (p : Pickles) (b : Bool) (y : COnward) (left : ℕ) → (left ≡ y.left) ⊎ (left ≡ 0) → splits (file_frames p) y.left y.rest ≡ false
    → Like (c_as_shown b (c_load_read w p (record y { left = left }) (taken (file_frames p) left y.rest))) (c_load_read w p y (taken (file_frames p) y.left y.rest))
read_like w p b y left (inl e) none = read_same w p b y left e
read_like w p b y left (inr e) none = elim (cases_Bool (y.left == 0)) [
  | inl zero_left ↦ read_same w p b y left (e ∙ sym (eqb-true y.left 0 zero_left))
  | inr some ↦
      subst (λ (n : ℕ). Like (c_as_shown b (c_load_read w p (record y { left = n }) (taken (file_frames p) n y.rest))) (c_load_read w p y (taken (file_frames p) y.left y.rest))) (sym e)
      (like_read w p b y (taken (file_frames p) 0 y.rest) (taken (file_frames p) y.left y.rest) refl refl (apart_not (file_frames p) y.left y.rest none some))
]

turn_by : (w : World) (p : Pickles) (b : Bool) (y : COnward) (left : ℕ) (c : Bool) → reads_on p (seen_loaded y.now) ≡ c → (left ≡ y.left) ⊎ (left ≡ 0) → ((left ≡ y.left) ⊎ (reads_on p (seen_loaded y.now) ≡ true → splits (file_frames p) y.left y.rest ≡ false))
    → Like (if c then c_as_shown b (c_load_read w p (record y { left = left }) (taken (file_frames p) left y.rest)) else record y { left = left })
    (if c then c_load_read w p y (taken (file_frames p) y.left y.rest) else y)
turn_by w p b y left true on which (inl level) = read_same w p b y left level
turn_by w p b y left true on which (inr none) = read_like w p b y left which (none on)
turn_by w p b y left false off which none = (refl, refl, which)

pub turn_like : (w : World) (p : Pickles) (b : Bool) (x y : COnward) → Like x y → ((x.left ≡ y.left) ⊎ (reads_on p (seen_loaded y.now) ≡ true → splits (file_frames p) y.left y.rest ≡ false)) → Like (c_load_turn w (file_turn p b) x) (c_load_on w (reading p) y)
turn_like w p b x y like none =
    let is : record y { left = x.left } ≡ x = ap₂ (λ (now : CLoaded) (rest : List ℕ). record { now = now; rest = rest; left = x.left }) (sym like.0) (sym like.1) in
    subst (λ (z : COnward). Like (c_load_turn w (file_turn p b) z) (c_load_on w (reading p) y)) is
    (turn_by w p b y x.left (reads_on p (seen_loaded y.now)) refl like.2 none)

-- ---- along a mix

pub next_like : (w : World) (p : Pickles) (bytes : List ℕ) (b : Bool) (x : COnward) (i : ℕ) → (x.left ≡ (c_load_way w (reading p) bytes i).left) ⊎ Quiet w p bytes i → Like x (c_load_way w (reading p) bytes i)
    → Like (c_load_turn w (file_turn p b) x) (c_load_way w (reading p) bytes (suc i))
unfolding c_load_way
next_like w p bytes b x i none like = turn_like w p b x (c_load_way w (reading p) bytes i) like none

pub along : (w : World) (p : Pickles) (bytes : List ℕ) (from : ℕ) (shown : List Bool) (x : COnward) (i : ℕ) → from ≤ i → ((i : ℕ) → from ≤ i → Quiet w p bytes i) → Like x (c_load_way w (reading p) bytes i)
    → (m : ℕ) × ((c_load_mixed w (file_mix p shown) x).now ≡ (c_load_way w (reading p) bytes m).now)
unfolding c_load_mixed
along w p bytes from [] x i far none like = (i, like.0)
along w p bytes from (b ∷ shown) x i far none like =
    along w p bytes from shown (c_load_turn w (file_turn p b) x) (suc i) (omega (arith, far)) none (next_like w p bytes b x i (inr (none i far)) like)

pub open_like : (w : World) (p : Pickles) (bytes : List ℕ) → Like (c_opened bytes) (c_load_way w (reading p) bytes 0)
unfolding c_load_way
open_like w p bytes = (refl, refl, inr refl)
