-- Where loaders part at an item behind which no frame begins: each mix does what is done where frames are in a buffer, or what is done where they
-- are ignored.
use Rattle.std.proofs.Common.{◌≡◌, ◌⊎◌, ℕ, zero, suc, ◌<◌, ◌≤◌, ◌==◌, Bool, true, false, List, [], ◌∷◌, length, drop, Option, Some, None, Ok, refl, sym, ap, subst, ◌∙◌, inl, inr, arith}
use Rattle.std.specs.Prelude.{◌||◌, nat_lt, is_some, if◌then◌else◌, Result, Err}
use Rattle.std.specs.List.{list_any}
use Rattle.std.proofs.lemmas.Bool.{cases_Bool, cases_lt, eqb-true, ltb-false}
use Rattle.pickle_ops.specs.declared.fault.FrontFault.{FrontFault}
use Rattle.pickle_ops.specs.declared.fault.FrontFault.TheVariants as fault
use Rattle.pickle_lenient.specs.declared.taken.Frames.{Frames}
use Rattle.pickle_lenient.specs.declared.taken.Frames.TheVariants as frames
use Rattle.pickle_lenient.specs.declared.taken.Taken.{Taken}
use Rattle.pickle_lenient.specs.Stream.{taken}
use Rattle.pickle_calls.specs.declared.naming.Detail.{Detail}
use Rattle.pickle_calls.specs.declared.naming.Detail.TheVariants as detail
use Rattle.pickle_further.specs.declared.way.Pickles.{Pickles}
use Rattle.pickle_further.specs.Splits.{leaves_by, are_apart, splits}
use Rattle.pickle_further.specs.Going.{Standing, Going, going, stands_after}
use Rattle.pickle_further.specs.Parts.{ignoring, standing_first, is_frame_code, split_at, mixed_from, file_frames}
use Rattle.pickle_loader.specs.Environment.{Act, World}
use Rattle.pickle_loader.specs.Dispatch.{acts_of}
use Rattle.pickle_loader.specs.Onward.{reads_on, stands_behind, stands_on, stands}
use Rattle.pickle_loader.specs.CLoad.{CLoaded, CFailed, seen_loaded, COnward, c_load_more, c_load_read, c_load_way}
use Rattle.pickle_loader.proofs.Buffers.{plain_item, none_of, buffered_same, stands_next}
use Rattle.pickle_loader.proofs.Details.{stands_named}
use Rattle.pickle_loader.proofs.Items.{none_taken}
use Rattle.pickle_loader.proofs.Reaches.{few}
use Rattle.pickle_loader.proofs.Ways.{behind_is}
use Rattle.reach_laws.specs.Mixed.{c_opened, c_as_shown, c_load_turn, c_load_mixed}
use Rattle.reach_laws.specs.Filed.{file_turn, file_mix}
use Rattle.reach_laws.proofs.Filed.{kept_empty, no_more, turn_is}
use Rattle.reach_laws.proofs.Lossless.{plain_more, shown_now, shown_rest, off_turn, failed_stays, way_next, reading, DidSo}
use Rattle.reach_laws.proofs.NoFrames.{NoFrame, none_dropped, stays_empty}
use Rattle.reach_laws.proofs.Splits.{FoundSplit, split_is_found, nothing_splits, Quiet, is_there, nothing_there, quiet, Like, shown_left, apart_not, next_like, along, open_like}

abbrev acts_in : CLoaded → List Act
acts_in l = acts_of (seen_loaded l)

abbrev mixed : World → Pickles → List Bool → COnward → COnward
mixed w p shown x = c_load_mixed w (file_mix p shown) x

-- ---- a turn

-- what ended stays
off_stays : (w : World) (p : Pickles) (shown : List Bool) (x : COnward) → reads_on p (seen_loaded x.now) ≡ false → mixed w p shown x ≡ x
unfolding c_load_mixed
off_stays w p [] x off = refl
off_stays w p (b ∷ shown) x off = ap (c_load_mixed w (file_mix p shown)) (off_turn w p b x off) ∙ off_stays w p shown x off

-- where nothing is taken it raises
err_turn : (w : World) (p : Pickles) (b : Bool) (shown : List Bool) (x : COnward) (f : FrontFault) → taken (file_frames p) x.left x.rest ≡ Err f → reads_on p (seen_loaded x.now) ≡ true
    → acts_in (mixed w p shown (c_load_turn w (file_turn p b) x)).now ≡ acts_in x.now
err_turn w p b shown x f takes on =
    let acts : List Act = acts_in x.now in
    let turn : c_load_turn w (file_turn p b) x ≡ c_as_shown b (record x { now = CFailed acts }) =
    ap (λ (c : Bool). if c then c_as_shown b (c_load_read w p x (taken (file_frames p) x.left x.rest)) else x) on ∙ ap (λ (r : Result Taken FrontFault). c_as_shown b (c_load_read w p x r)) takes in
    ap acts_in (failed_stays w p shown (c_load_turn w (file_turn p b) x) acts (ap (λ (v : COnward). v.now) turn ∙ shown_now b (record x { now = CFailed acts })))

-- where nothing is lost it is as where frames are ignored
record Plainly (w : World) (p : Pickles) (bytes : List ℕ) (i : ℕ) (x : COnward) : Type 0 where
  now : x.now ≡ (c_load_way w (ignoring p) bytes i).now
  rest : x.rest ≡ (c_load_way w (ignoring p) bytes i).rest

plain_turn : (w : World) (p : Pickles) (bytes : List ℕ) (b : Bool) (x : COnward) (i : ℕ) (item : Taken) → taken (file_frames p) x.left x.rest ≡ Ok item → reads_on p (seen_loaded x.now) ≡ true → item.lost ≡ false → Plainly w p bytes i x
    → Plainly w p bytes (suc i) (c_load_turn w (file_turn p b) x)
plain_turn w p bytes b x i item takes on kept plain =
    let y : COnward = c_load_way w (ignoring p) bytes i in
    let z : COnward = record { now = c_load_more w p item x.now; rest = drop item.size x.rest; left = item.left } in
    let turn : c_load_turn w (file_turn p b) x ≡ c_as_shown b z = turn_is w p b x item on takes in
    let plainly : taken frames.Ignored y.left y.rest ≡ Ok (plain_item item) = ap (taken frames.Ignored y.left) (sym plain.rest) ∙ buffered_same (file_frames p) x.left y.left x.rest item takes kept in
    let next = way_next w p bytes i (plain_item item) (ap (λ (l : CLoaded). reads_on p (seen_loaded l)) (sym plain.now) ∙ on) plainly in
    record {
      now = ap (λ (v : COnward). v.now) turn ∙ shown_now b z ∙ sym (plain_more w p item x.now) ∙ ap (c_load_more w p (plain_item item)) plain.now ∙ ap (λ (v : COnward). v.now) (sym next);
      rest = ap (λ (v : COnward). v.rest) turn ∙ shown_rest b z ∙ ap (drop item.size) plain.rest ∙ ap (λ (v : COnward). v.rest) (sym next);
    }

-- ---- with an empty buffer, into which nothing comes

abbrev NextZero : World → Pickles → List ℕ → List Bool → COnward → ℕ → Type 0
NextZero w p bytes shown x i = Plainly w p bytes i x → x.left ≡ 0 → NoFrame x.rest → DidSo w p bytes frames.Ignored (mixed w p shown x)

zero_read : (w : World) (p : Pickles) (bytes : List ℕ) (b : Bool) (shown : List Bool) (x : COnward) (i : ℕ) (r : Result Taken FrontFault) → taken (file_frames p) x.left x.rest ≡ r → reads_on p (seen_loaded x.now) ≡ true → Plainly w p bytes i x → x.left ≡ 0 → NoFrame x.rest
    → NextZero w p bytes shown (c_load_turn w (file_turn p b) x) (suc i) → DidSo w p bytes frames.Ignored (mixed w p shown (c_load_turn w (file_turn p b) x))
zero_read w p bytes b shown x i (Err f) takes on plain empty none next = (i, err_turn w p b shown x f takes on ∙ ap acts_in plain.now)
zero_read w p bytes b shown x i (Ok item) takes on plain empty none next =
    let bare : taken (file_frames p) 0 x.rest ≡ Ok item = ap (λ (n : ℕ). taken (file_frames p) n x.rest) (sym empty) ∙ takes in
    let z : COnward = record { now = c_load_more w p item x.now; rest = drop item.size x.rest; left = item.left } in
    let turn : c_load_turn w (file_turn p b) x ≡ c_as_shown b z = turn_is w p b x item on takes in
    next (plain_turn w p bytes b x i item takes on (kept_empty p x.rest item bare) plain)
    (ap (λ (v : COnward). v.left) turn ∙ shown_left b z (stays_empty p x.rest item none bare))
    (subst NoFrame (sym (ap (λ (v : COnward). v.rest) turn ∙ shown_rest b z)) (none_dropped item.size x.rest none))

zero_by : (w : World) (p : Pickles) (bytes : List ℕ) (b : Bool) (shown : List Bool) (x : COnward) (i : ℕ) (c : Bool) → reads_on p (seen_loaded x.now) ≡ c → Plainly w p bytes i x → x.left ≡ 0 → NoFrame x.rest
    → NextZero w p bytes shown (c_load_turn w (file_turn p b) x) (suc i) → DidSo w p bytes frames.Ignored (mixed w p shown (c_load_turn w (file_turn p b) x))
zero_by w p bytes b shown x i true on plain empty none next = zero_read w p bytes b shown x i (taken (file_frames p) x.left x.rest) refl on plain empty none next
zero_by w p bytes b shown x i false off plain empty none next =
    (i, ap (λ (v : COnward). acts_in v.now) (ap (mixed w p shown) (off_turn w p b x off) ∙ off_stays w p shown x off) ∙ ap acts_in plain.now)

along_zero : (w : World) (p : Pickles) (bytes : List ℕ) (shown : List Bool) (x : COnward) (i : ℕ) → NextZero w p bytes shown x i
unfolding c_load_mixed
along_zero w p bytes [] x i plain empty none = (i, ap acts_in plain.now)
along_zero w p bytes (b ∷ shown) x i plain empty none =
    zero_by w p bytes b shown x i (reads_on p (seen_loaded x.now)) refl plain empty none (along_zero w p bytes shown (c_load_turn w (file_turn p b) x) (suc i))

-- ---- with a buffer into which nothing comes any more

abbrev StillAt : Pickles → COnward → Type 0
StillAt p y = reads_on p (seen_loaded y.now) ≡ true → (y.rest ≡ []) ⊎ ((y.left ≡ 0) × NoFrame y.rest)

still_read : (w : World) (p : Pickles) (y : COnward) (r : Result Taken FrontFault) → taken (file_frames p) y.left y.rest ≡ r → (y.rest ≡ []) ⊎ ((y.left ≡ 0) × NoFrame y.rest) → StillAt p (c_load_read w p y r)
still_read w p y (Err f) is h on = absurd (no_more p (acts_in y.now) on)
still_read w p y (Ok item) is (inl none) on =
    let two : Err fault.Ended ≡ Ok item = sym (none_taken (file_frames p) y.left) ∙ ap (taken (file_frames p) y.left) (sym none) ∙ is in absurd cc
still_read w p y (Ok item) is (inr (empty, none)) on =
    inr (stays_empty p y.rest item none (ap (λ (n : ℕ). taken (file_frames p) n y.rest) (sym empty) ∙ is), none_dropped item.size y.rest none)

still_by : (w : World) (p : Pickles) (y : COnward) (c : Bool) → reads_on p (seen_loaded y.now) ≡ c → StillAt p y → StillAt p (if c then c_load_read w p y (taken (file_frames p) y.left y.rest) else y)
still_by w p y true on still = still_read w p y (taken (file_frames p) y.left y.rest) refl (still on)
still_by w p y false off still = still

still_next : (w : World) (p : Pickles) (bytes : List ℕ) (i : ℕ) → StillAt p (c_load_way w (reading p) bytes i) → StillAt p (c_load_way w (reading p) bytes (suc i))
unfolding c_load_way
still_next w p bytes i still = let y : COnward = c_load_way w (reading p) bytes i in still_by w p y (reads_on p (seen_loaded y.now)) refl still

still_from : (w : World) (p : Pickles) (bytes : List ℕ) (from : ℕ) → StillAt p (c_load_way w (reading p) bytes from) → (i : ℕ) → from ≤ i → StillAt p (c_load_way w (reading p) bytes i)
still_from w p bytes from still zero far = let same : from ≡ 0 = omega (arith, far) in subst (λ (j : ℕ). StillAt p (c_load_way w (reading p) bytes j)) same still
still_from w p bytes from still (suc i) far = elim (cases_lt i from) [
  | inl less ↦ let same : from ≡ suc i = omega (arith, far, less) in subst (λ (j : ℕ). StillAt p (c_load_way w (reading p) bytes j)) same still
  | inr behind ↦ still_next w p bytes i (still_from w p bytes from still i behind)
]

empty_splits : (f : Frames) (left : ℕ) (bytes : List ℕ) → left ≡ 0 → splits f left bytes ≡ false
unfolding splits
empty_splits f left bytes empty = ap (λ (n : ℕ). if n == 0 then false else are_apart (leaves_by (taken f n bytes)) (leaves_by (taken f 0 bytes))) empty

still_quiet : (w : World) (p : Pickles) (bytes : List ℕ) (i : ℕ) → StillAt p (c_load_way w (reading p) bytes i) → Quiet w p bytes i
still_quiet w p bytes i still on =
    let y : COnward = c_load_way w (reading p) bytes i in
    elim (still on) [
      | inl none ↦ nothing_splits (file_frames p) y.left y.rest none
      | inr empty ↦ empty_splits (file_frames p) y.left y.rest empty.0
    ]

-- ---- behind the item at which they part

-- there it stands, and no frame follows
record Parts (how : Detail) (p : Pickles) (bytes : List ℕ) (k : ℕ) (q : Standing) : Type 0 where
  there : stands (reading p) (standing_first how p bytes) k ≡ Some q
  empty : (going (reading p) q).gone.left ≡ 0
  none : NoFrame q.rest

-- the same as the loads see it
record Seen (p : Pickles) (bytes : List ℕ) (k : ℕ) (q : Standing) : Type 0 where
  there : stands (reading p) (standing_first detail.Cut p bytes) k ≡ Some q
  empty : (going (reading p) q).gone.left ≡ 0
  none : NoFrame q.rest

seen_so : (how : Detail) (p : Pickles) (bytes : List ℕ) (k : ℕ) (q : Standing) → Parts how p bytes k q → (r : Standing) × Seen p bytes k r
seen_so how p bytes k q parts =
    let named = stands_named how detail.Cut (reading p) bytes k q parts.there in (
      named.other,
      record { there = named.there; empty = ap (λ (g : Going). g.gone.left) named.goes ∙ parts.empty; none = subst NoFrame (sym named.rest) parts.none },
    )

still_to : (w : World) (p : Pickles) (bytes : List ℕ) (k : ℕ) (q : Standing) (x : Option Standing) → Seen p bytes k q → stands (reading p) (standing_first detail.Cut p bytes) (suc k) ≡ x → stands_behind q (going (reading p) q) ≡ x
    → StillAt p (c_load_way w (reading p) bytes (suc k))
still_to w p bytes k q None seen there leads on = inl (nothing_there w p bytes (suc k) there on)
still_to w p bytes k q (Some r) seen there leads on =
    let g : Going = going (reading p) q in
    let behind : stands_after q g ≡ r = behind_is q r g (is_some g.gone.closing) leads in
    let is = is_there w p bytes (suc k) r there on in
    inr (
      is.left ∙ ap (λ (s : Standing). s.at.left) (sym behind) ∙ seen.empty,
      subst NoFrame (sym (is.rest ∙ ap (λ (s : Standing). s.rest) (sym behind))) (none_dropped g.gone.size q.rest seen.none),
    )

still_behind : (w : World) (p : Pickles) (bytes : List ℕ) (k : ℕ) (q : Standing) → Seen p bytes k q → StillAt p (c_load_way w (reading p) bytes (suc k))
still_behind w p bytes k q seen =
    let first : Standing = standing_first detail.Cut p bytes in
    let leads : stands (reading p) first (suc k) ≡ stands_behind q (going (reading p) q) = stands_next (reading p) first k ∙ ap (stands_on (reading p)) seen.there in
    still_to w p bytes k q (stands (reading p) first (suc k)) seen refl (sym leads)

-- ---- along a mix

-- it did what one of both readings did at some point
abbrev pub Did : World → Pickles → List ℕ → COnward → Type 0
Did w p bytes x = DidSo w p bytes (file_frames p) x ⊎ DidSo w p bytes frames.Ignored x

record Both (w : World) (p : Pickles) (bytes : List ℕ) (i : ℕ) (x : COnward) : Type 0 where
  like : Like x (c_load_way w (reading p) bytes i)
  plain : Plainly w p bytes i x

-- at the item at which they part
at_parting : (w : World) (p : Pickles) (bytes : List ℕ) (k : ℕ) (q : Standing) (b : Bool) (shown : List Bool) (x : COnward) → Seen p bytes k q → Both w p bytes k x → reads_on p (seen_loaded x.now) ≡ true → Did w p bytes (mixed w p (b ∷ shown) x)
unfolding c_load_mixed
at_parting w p bytes k q b shown x seen both on = by both.like.2
  where
    y : COnward
    y = c_load_way w (reading p) bytes k

    by : (x.left ≡ (c_load_way w (reading p) bytes k).left) ⊎ (x.left ≡ 0) → Did w p bytes (mixed w p (b ∷ shown) x)
    by (inl level) =
        let still = still_behind w p bytes k q seen in
        let quiet_on : (i : ℕ) → suc k ≤ i → Quiet w p bytes i = λ i far. still_quiet w p bytes i (still_from w p bytes (suc k) still i far) in
        let like = next_like w p bytes b x k (inl level) both.like in
        let all = along w p bytes (suc k) shown (c_load_turn w (file_turn p b) x) (suc k) (omega arith) quiet_on like in
        inl (all.0, ap acts_in all.1)
    by (inr empty) =
        let is = is_there w p bytes k q seen.there (ap (λ (l : CLoaded). reads_on p (seen_loaded l)) (sym both.like.0) ∙ on) in
        let none : NoFrame x.rest = subst NoFrame (sym (both.like.1 ∙ is.rest)) seen.none in
        inr (along_zero w p bytes (b ∷ shown) x k both.plain empty none)

-- where they do not part nothing is lost
apart_lost : (item : Taken) (r : Result Taken FrontFault) → are_apart (leaves_by (Ok item)) (leaves_by r) ≡ false → item.lost ≡ false
apart_lost item (Ok other) e = (none_of item.lost (nat_lt 0 other.left) e).0
apart_lost item (Err f) e = absurd cc

lost_not : (p : Pickles) (left : ℕ) (bytes : List ℕ) (item : Taken) → splits (file_frames p) left bytes ≡ false → taken (file_frames p) left bytes ≡ Ok item → item.lost ≡ false
lost_not p left bytes item none is = elim (cases_Bool (left == 0)) [
  | inl empty ↦ kept_empty p bytes item (ap (λ (n : ℕ). taken (file_frames p) n bytes) (sym (eqb-true left 0 empty)) ∙ is)
  | inr some ↦
      let together = apart_not (file_frames p) left bytes none some in
      apart_lost item (taken (file_frames p) 0 bytes) (ap (λ (r : Result Taken FrontFault). are_apart (leaves_by r) (leaves_by (taken (file_frames p) 0 bytes))) (sym is) ∙ together)
]

kept_item : (w : World) (p : Pickles) (bytes : List ℕ) (x : COnward) (i : ℕ) (item : Taken) → taken (file_frames p) x.left x.rest ≡ Ok item → reads_on p (seen_loaded x.now) ≡ true → Quiet w p bytes i → Like x (c_load_way w (reading p) bytes i) → item.lost ≡ false
kept_item w p bytes x i item takes on none like = by like.2
  where
    y : COnward
    y = c_load_way w (reading p) bytes i

    by : (x.left ≡ (c_load_way w (reading p) bytes i).left) ⊎ (x.left ≡ 0) → item.lost ≡ false
    by (inl level) =
        let there : taken (file_frames p) y.left y.rest ≡ Ok item = sym (ap (taken (file_frames p) x.left) like.1 ∙ ap (λ (n : ℕ). taken (file_frames p) n y.rest) level) ∙ takes in
        lost_not p y.left y.rest item (none (ap (λ (l : CLoaded). reads_on p (seen_loaded l)) (sym like.0) ∙ on)) there
    by (inr empty) = kept_empty p x.rest item (ap (λ (n : ℕ). taken (file_frames p) n x.rest) (sym empty) ∙ takes)

abbrev NextBoth : World → Pickles → List ℕ → List Bool → COnward → ℕ → Type 0
NextBoth w p bytes shown x i = Both w p bytes i x → Did w p bytes (mixed w p shown x)

both_read : (w : World) (p : Pickles) (bytes : List ℕ) (b : Bool) (shown : List Bool) (x : COnward) (i : ℕ) (r : Result Taken FrontFault) → taken (file_frames p) x.left x.rest ≡ r → reads_on p (seen_loaded x.now) ≡ true → Quiet w p bytes i → Both w p bytes i x
    → NextBoth w p bytes shown (c_load_turn w (file_turn p b) x) (suc i) → Did w p bytes (mixed w p shown (c_load_turn w (file_turn p b) x))
both_read w p bytes b shown x i (Err f) takes on none both next = inl (i, err_turn w p b shown x f takes on ∙ ap acts_in both.like.0)
both_read w p bytes b shown x i (Ok item) takes on none both next =
    next (record {
      like = next_like w p bytes b x i (inr none) both.like;
      plain = plain_turn w p bytes b x i item takes on (kept_item w p bytes x i item takes on none both.like) both.plain;
    })

both_off : (w : World) (p : Pickles) (bytes : List ℕ) (shown : List Bool) (x : COnward) (i : ℕ) → reads_on p (seen_loaded x.now) ≡ false → Both w p bytes i x → Did w p bytes (mixed w p shown x)
both_off w p bytes shown x i off both = inl (i, ap (λ (v : COnward). acts_in v.now) (off_stays w p shown x off) ∙ ap acts_in both.like.0)

along_both : (w : World) (p : Pickles) (bytes : List ℕ) (k : ℕ) (q : Standing) → Seen p bytes k q → ((i : ℕ) → i < k → Quiet w p bytes i) → (shown : List Bool) (x : COnward) (i : ℕ) → i ≤ k → NextBoth w p bytes shown x i
unfolding c_load_mixed
along_both w p bytes k q seen none [] x i within both = inl (i, ap acts_in both.like.0)
along_both w p bytes k q seen none (b ∷ shown) x i within both = elim (cases_Bool (reads_on p (seen_loaded x.now))) [
  | inl on ↦ elim (cases_lt i k) [
    | inl less ↦
        both_read w p bytes b shown x i (taken (file_frames p) x.left x.rest) refl on (none i less) both
        (along_both w p bytes k q seen none shown (c_load_turn w (file_turn p b) x) (suc i) (omega (arith, less)))
    | inr far ↦
        let same : i ≡ k = omega (arith, far, within) in
        at_parting w p bytes k q b shown x seen (subst (λ (j : ℕ). Both w p bytes j x) same both) on
  ]
  | inr off ↦ both_off w p bytes (b ∷ shown) x i off both
]

open_both : (w : World) (p : Pickles) (bytes : List ℕ) → Both w p bytes 0 (c_opened bytes)
unfolding c_load_way
open_both w p bytes = record { like = open_like w p bytes; plain = record { now = refl; rest = refl } }

-- ---- all mixes

none_follows : (b : Bool) (offset : ℕ) → (if b then Some offset else None) ≡ None → b ≡ false
none_follows true offset e = let bad : Some offset ≡ None = e in absurd cc
none_follows false offset e = refl

did_by : (how : Detail) (w : World) (p : Pickles) (bytes : List ℕ) (shown : List Bool) (x : Option Standing) → FoundSplit (reading p) (standing_first how p bytes) (suc (length bytes)) x → mixed_from (reading p) x ≡ None → Did w p bytes (mixed w p shown (c_opened bytes))
did_by how w p bytes shown None found none =
    let first : Standing = standing_first how p bytes in
    let quiet_on : (i : ℕ) → 0 ≤ i → Quiet w p bytes i = λ i far. quiet how w p bytes i (λ q there. found i q (omega (arith, few (reading p) first i q there)) there) in
    let all = along w p bytes 0 shown (c_opened bytes) 0 (omega arith) quiet_on (open_like w p bytes) in
    inl (all.0, ap acts_in all.1)
did_by how w p bytes shown (Some q) (k, there, before) none =
    let follows : (nat_lt 0 (going (reading p) q).gone.left || list_any is_frame_code q.rest) ≡ false = none_follows (nat_lt 0 (going (reading p) q).gone.left || list_any is_frame_code q.rest) q.at.offset none in
    let both = none_of (nat_lt 0 (going (reading p) q).gone.left) (list_any is_frame_code q.rest) follows in
    let seen = seen_so how p bytes k q (record { there = there; empty = omega (arith, ltb-false 0 (going (reading p) q).gone.left both.0); none = both.1 }) in
    along_both w p bytes k seen.0 seen.1 (λ i less. quiet how w p bytes i (λ r at. before i r less at)) shown (c_opened bytes) 0 (omega arith) (open_both w p bytes)

-- where no frames may be mixed, each mix did at each point what one of both readings did at some point
pub each_did : (how : Detail) (w : World) (p : Pickles) (bytes : List ℕ) (shown : List Bool) → mixed_from (reading p) (split_at how (reading p) bytes) ≡ None → Did w p bytes (c_load_mixed w (file_mix p shown) (c_opened bytes))
each_did how w p bytes shown none = did_by how w p bytes shown (split_at how (reading p) bytes) (split_is_found (suc (length bytes)) (reading p) (standing_first how p bytes)) none
