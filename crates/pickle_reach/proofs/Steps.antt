-- One spot: what it leads to, and what waits once it was looked at.
use Rattle.std.proofs.Common.{◌≡◌, ℕ, ◌<◌, Bool, true, false, List, [], ◌∷◌, ◌++◌, Option, Some, None, refl, sym, subst, ◌∙◌, inl, inr, arith}
use Rattle.std.specs.Prelude.{◌≢◌, ◌⊎◌, All, Contains, Result, Ok, Err, OnOk}
use Rattle.std.proofs.lemmas.List.Elements.{All-push, All-weaker, All-same, All-contains, All-contains_itself, Contains-append_left, Contains-push}
use Rattle.std.proofs.lemmas.List.Quantifiers.{all_pairs_push}
use Rattle.pickle_lenient.specs.declared.taken.Frames.{Frames}
use Rattle.pickle_lenient.specs.declared.taken.Frames.TheVariants as frames
use Rattle.pickle_reach.specs.declared.granted.Granted.{Granted}
use Rattle.pickle_reach.specs.declared.spot.Spot.{Spot}
use Rattle.pickle_reach.specs.declared.spot.Step.{Step}
use Rattle.pickle_reach.specs.declared.spot.Visit.{Visit}
use Rattle.pickle_reach.specs.declared.spot.Step.TheVariants as step
use Rattle.pickle_reach.specs.Reach.{as_shown, step_at, AreDistinct}
use Rattle.pickle_reach.specs.Inside.{Added, AddedBoth, IsWithin, GoesOn, VisitedBy, IsBehind, LeadsTo, Leads, IsSettled, IsVisited}

abbrev pub Other : Spot → Spot → Type 0
Other s t = s ≢ t

-- ---- the spots that wait

itself : (old new : List Spot) → new ≡ old → All (Contains new) old
itself old new same = subst (λ (l : List Spot). All (Contains l) old) (sym same) (All-contains_itself old)

added_fresh : (old new : List Spot) (s : Spot) → Added old s new → All (λ t. Contains old t ⊎ (t ≡ s)) new
added_fresh old new s (inl (is, apart)) =
    All-same (λ (t : Spot). Contains old t ⊎ (t ≡ s)) new (old ++ s ∷ []) is
    (All-push (λ (t : Spot). Contains old t ⊎ (t ≡ s)) old s (All-weaker (Contains old) (λ (t : Spot). Contains old t ⊎ (t ≡ s)) (λ t c. inl c) old (All-contains_itself old)) (inr refl))
added_fresh old new s (inr (is, there)) =
    All-same (λ (t : Spot). Contains old t ⊎ (t ≡ s)) new old is (All-weaker (Contains old) (λ (t : Spot). Contains old t ⊎ (t ≡ s)) (λ t c. inl c) old (All-contains_itself old))

added_kept : (old new : List Spot) (s : Spot) → Added old s new → All (Contains new) old
added_kept old new s (inl (is, apart)) =
    subst (λ (l : List Spot). All (Contains l) old) (sym is) (All-weaker (Contains old) (Contains (old ++ s ∷ [])) (λ t c. Contains-append_left old (s ∷ []) t c) old (All-contains_itself old))
added_kept old new s (inr (is, there)) = itself old new is

added_there : (old new : List Spot) (s : Spot) → Added old s new → Contains new s
added_there old new s (inl (is, apart)) = subst (λ (l : List Spot). Contains l s) (sym is) (Contains-push old s)
added_there old new s (inr (is, there)) = subst (λ (l : List Spot). Contains l s) (sym is) there

added_alone : (old new : List Spot) (s : Spot) → Added old s new → AreDistinct old → AreDistinct new
added_alone old new s (inl (is, apart)) alone = subst AreDistinct (sym is) (all_pairs_push Other old s alone apart)
added_alone old new s (inr (is, there)) alone = subst AreDistinct (sym is) alone

pub both : {A : Type 0} {E : Type 0} (old mid new : List Spot) (s t : Spot) (r : Result A E) → Added old s mid → t ≡ as_shown true s → OnOk r (Added mid t new) → OnOk r (AddedBoth old s new)
both old mid new s t (Ok x) first is second = (mid, first, subst (λ (u : Spot). Added mid u new) is second)
both old mid new s t (Err e) first is second = tt

-- ---- what a spot leads to

pub leads_more : (x : Step) (P Q : Spot → Type 0) → ((t : Spot) → P t → Q t) → LeadsTo x P → LeadsTo x Q
leads_more step.Reaches P Q f h = h
leads_more step.Ends P Q f h = tt
leads_more (step.Goes t) P Q f h = λ shown. f (as_shown shown t) (h shown)

-- the same with what is in the buffer behind it only shown
abbrev pub step_shown : Step → Step
step_shown step.Reaches = step.Reaches
step_shown step.Ends = step.Ends
step_shown (step.Goes t) = step.Goes (as_shown true t)

pub leads_shown : (x : Step) (P : Spot → Type 0) → LeadsTo x P → LeadsTo (step_shown x) P
leads_shown step.Reaches P h = h
leads_shown step.Ends P h = tt
leads_shown (step.Goes t) P h = λ shown. either shown
  where
    either : (b : Bool) → P (as_shown b (as_shown true t))
    either true = h true
    either false = h true

-- ---- by what is done with frames

-- one way was looked at
pub record By (g : Granted) (bytes : List ℕ) (f : Frames) (s : Spot) (old new : List Spot) (reached : Bool) : Type 0 where
  pub fresh : All (λ t. Contains old t ⊎ IsBehind g bytes s t) new
  pub kept : All (Contains new) old
  pub alone : AreDistinct old → AreDistinct new
  pub reaches : reached ≡ true → step_at g bytes f s ≡ step.Reaches
  pub leads : reached ≡ false → LeadsTo (step_at g bytes f s) (Contains new)

pub not_both : (b : Bool) → b ≡ true → b ≡ false → ⊥
not_both b e f = let two : true ≡ false = sym e ∙ f in absurd cc

stays_fresh : (g : Granted) (bytes : List ℕ) (s : Spot) (old new : List Spot) → new ≡ old → All (λ t. Contains old t ⊎ IsBehind g bytes s t) new
stays_fresh g bytes s old new same =
    All-same (λ (t : Spot). Contains old t ⊎ IsBehind g bytes s t) new old same
    (All-weaker (Contains old) (λ (t : Spot). Contains old t ⊎ IsBehind g bytes s t) (λ t c. inl c) old (All-contains_itself old))

behind_is : (g : Granted) (bytes : List ℕ) (f : Frames) (s t u : Spot) (shown : Bool) → step_at g bytes f s ≡ step.Goes t → GoesOn bytes s (step.Goes t) → u ≡ as_shown shown t → IsBehind g bytes s u
behind_is g bytes f s t u shown goes on is = record {
  turn = record { frames = f; shown = shown };
  next = t;
  goes = goes;
  is = is;
  within = subst (IsWithin bytes) (sym is) (within shown);
  ahead = subst (λ (v : Spot). s.offset < v.offset) (sym is) (ahead shown);
}
  where
    within : (b : Bool) → IsWithin bytes (as_shown b t)
    within true = omega (arith, on.0)
    within false = on.0

    ahead : (b : Bool) → s.offset < (as_shown b t).offset
    ahead true = on.1
    ahead false = on.1

-- of the first of two that were added: it was there, or is behind
step_fresh : (g : Granted) (bytes : List ℕ) (f : Frames) (s t : Spot) (old mid new : List Spot) → step_at g bytes f s ≡ step.Goes t → GoesOn bytes s (step.Goes t) → Added old t mid → Added mid (as_shown true t) new
    → All (λ u. Contains old u ⊎ IsBehind g bytes s u) new
step_fresh g bytes f s t old mid new goes on first second =
    All-weaker (λ (u : Spot). Contains mid u ⊎ (u ≡ as_shown true t)) (λ (u : Spot). Contains old u ⊎ IsBehind g bytes s u) (λ u h. later u h) new (added_fresh mid new (as_shown true t) second)
  where
    earlier : (u : Spot) → Contains old u ⊎ (u ≡ t) → Contains old u ⊎ IsBehind g bytes s u
    earlier u (inl c) = inl c
    earlier u (inr e) = inr (behind_is g bytes f s t u false goes on e)

    later : (u : Spot) → Contains mid u ⊎ (u ≡ as_shown true t) → Contains old u ⊎ IsBehind g bytes s u
    later u (inl c) = earlier u (All-contains (λ (v : Spot). Contains old v ⊎ (v ≡ t)) mid u (added_fresh old mid t first) c)
    later u (inr e) = inr (behind_is g bytes f s t u true goes on e)

more_kept : (old mid new : List Spot) → All (Contains mid) old → All (Contains new) mid → All (Contains new) old
more_kept old mid new first second = All-weaker (Contains mid) (Contains new) (λ t c. All-contains (Contains new) mid t second c) old first

by_step : (g : Granted) (bytes : List ℕ) (f : Frames) (s : Spot) (old new : List Spot) (reached : Bool) (x : Step) → step_at g bytes f s ≡ x → GoesOn bytes s x → VisitedBy x old new reached → By g bytes f s old new reached
by_step g bytes f s old new reached step.Reaches is on (same, hit) = record {
  fresh = stays_fresh g bytes s old new same;
  kept = itself old new same;
  alone = λ alone. subst AreDistinct (sym same) alone;
  reaches = λ e. is;
  leads = λ e. absurd (not_both reached hit e);
}
by_step g bytes f s old new reached step.Ends is on (same, miss) = record {
  fresh = stays_fresh g bytes s old new same;
  kept = itself old new same;
  alone = λ alone. subst AreDistinct (sym same) alone;
  reaches = λ e. absurd (not_both reached e miss);
  leads = λ e. subst (λ (y : Step). LeadsTo y (Contains new)) (sym is) tt;
}
by_step g bytes f s old new reached (step.Goes t) is on ((mid, first, second), miss) = record {
  fresh = step_fresh g bytes f s t old mid new is on first second;
  kept = more_kept old mid new (added_kept old mid t first) (added_kept mid new (as_shown true t) second);
  alone = λ alone. added_alone mid new (as_shown true t) second (added_alone old mid t first alone);
  reaches = λ e. absurd (not_both reached e miss);
  leads = λ e. subst (λ (y : Step). LeadsTo y (Contains new)) (sym is) (λ shown. there shown);
}
  where
    there : (b : Bool) → Contains new (as_shown b t)
    there true = added_there mid new (as_shown true t) second
    there false = All-contains (Contains new) mid t (added_kept mid new (as_shown true t) second) (added_there old mid t first)

-- what is known of one way that was looked at
pub record Seen (g : Granted) (bytes : List ℕ) (f : Frames) (s : Spot) (old new : List Spot) (reached : Bool) : Type 0 where
  pub on : GoesOn bytes s (step_at g bytes f s)
  pub visited : VisitedBy (step_at g bytes f s) old new reached

by_seen : (g : Granted) (bytes : List ℕ) (f : Frames) (s : Spot) (old new : List Spot) (reached b : Bool) → Seen g bytes f s old new reached → reached ≡ b → By g bytes f s old new b
by_seen g bytes f s old new reached b seen is = subst (By g bytes f s old new) is (by_step g bytes f s old new reached (step_at g bytes f s) refl seen.on seen.visited)

-- ---- by all of it

more_fresh : (g : Granted) (bytes : List ℕ) (s : Spot) (old mid new : List Spot) → All (λ t. Contains old t ⊎ IsBehind g bytes s t) mid → All (λ t. Contains mid t ⊎ IsBehind g bytes s t) new
    → All (λ t. Contains old t ⊎ IsBehind g bytes s t) new
more_fresh g bytes s old mid new first second =
    All-weaker (λ (t : Spot). Contains mid t ⊎ IsBehind g bytes s t) (λ (t : Spot). Contains old t ⊎ IsBehind g bytes s t) (λ t h. either t h) new second
  where
    either : (t : Spot) → Contains mid t ⊎ IsBehind g bytes s t → Contains old t ⊎ IsBehind g bytes s t
    either t (inl c) = All-contains (λ (u : Spot). Contains old u ⊎ IsBehind g bytes s u) mid t first c
    either t (inr b) = inr b

abbrev pub unsettled : Option Frames → Visit
unsettled o = record { reached = o; settled = false }

abbrev pub settled : Option Frames → Visit
settled o = record { reached = o; settled = true }

pub first_visited : (g : Granted) (bytes : List ℕ) (s : Spot) (a b : List Spot) (p : Bool) → Seen g bytes frames.Held s a b p → p ≡ true → IsVisited g bytes s a b (unsettled (Some frames.Held))
first_visited g bytes s a b p seen hit =
    let x = by_seen g bytes frames.Held s a b p true seen hit in
    record { fresh = x.fresh; kept = x.kept; alone = x.alone; reaches = x.reaches refl; leads = λ e. absurd cc; settled = λ e. absurd cc }

pub second_visited : (g : Granted) (bytes : List ℕ) (s : Spot) (a b c : List Spot) (p q : Bool) → Seen g bytes frames.Held s a b p → p ≡ false → Seen g bytes frames.Buffered s b c q → q ≡ true
    → IsVisited g bytes s a c (unsettled (Some frames.Buffered))
second_visited g bytes s a b c p q one miss two hit =
    let x = by_seen g bytes frames.Held s a b p false one miss in
    let y = by_seen g bytes frames.Buffered s b c q true two hit in
    record {
      fresh = more_fresh g bytes s a b c x.fresh y.fresh;
      kept = more_kept a b c x.kept y.kept;
      alone = λ alone. y.alone (x.alone alone);
      reaches = y.reaches refl;
      leads = λ e. absurd cc;
      settled = λ e. absurd cc;
    }

pub third_visited : (g : Granted) (bytes : List ℕ) (s : Spot) (a b c d : List Spot) (p q r : Bool) → Seen g bytes frames.Held s a b p → p ≡ false → Seen g bytes frames.Buffered s b c q → q ≡ false
    → Seen g bytes frames.Ignored s c d r → r ≡ true → IsVisited g bytes s a d (unsettled (Some frames.Ignored))
third_visited g bytes s a b c d p q r one first two second three hit =
    let x = by_seen g bytes frames.Held s a b p false one first in
    let y = by_seen g bytes frames.Buffered s b c q false two second in
    let z = by_seen g bytes frames.Ignored s c d r true three hit in
    record {
      fresh = more_fresh g bytes s a b d x.fresh (more_fresh g bytes s b c d y.fresh z.fresh);
      kept = more_kept a b d x.kept (more_kept b c d y.kept z.kept);
      alone = λ alone. z.alone (y.alone (x.alone alone));
      reaches = z.reaches refl;
      leads = λ e. absurd cc;
      settled = λ e. absurd cc;
    }

pub none_visited : (g : Granted) (bytes : List ℕ) (s : Spot) (a b c d : List Spot) (p q r : Bool) → Seen g bytes frames.Held s a b p → p ≡ false → Seen g bytes frames.Buffered s b c q → q ≡ false
    → Seen g bytes frames.Ignored s c d r → r ≡ false → IsVisited g bytes s a d (unsettled None)
none_visited g bytes s a b c d p q r one first two second three miss =
    let x = by_seen g bytes frames.Held s a b p false one first in
    let y = by_seen g bytes frames.Buffered s b c q false two second in
    let z = by_seen g bytes frames.Ignored s c d r false three miss in
    record {
      fresh = more_fresh g bytes s a b d x.fresh (more_fresh g bytes s b c d y.fresh z.fresh);
      kept = more_kept a b d x.kept (more_kept b c d y.kept z.kept);
      alone = λ alone. z.alone (y.alone (x.alone alone));
      reaches = tt;
      leads = λ e f. by x y z f;
      settled = λ e. absurd cc;
    }
  where
    by : By g bytes frames.Held s a b false → By g bytes frames.Buffered s b c false → By g bytes frames.Ignored s c d false → (f : Frames) → LeadsTo (step_at g bytes f s) (Contains d)
    by x y z frames.Held = leads_more (step_at g bytes frames.Held s) (Contains b) (Contains d) (λ t h. All-contains (Contains d) b t (more_kept b c d y.kept z.kept) h) (x.leads refl)
    by x y z frames.Buffered = leads_more (step_at g bytes frames.Buffered s) (Contains c) (Contains d) (λ t h. All-contains (Contains d) c t z.kept h) (y.leads refl)
    by x y z frames.Ignored = z.leads refl

-- ---- by one reading, where the others lead to the same, or to the same with its buffer shown

-- what an operation comes to that is read alike, whatever follows
pub record PlainStep (g : Granted) (bytes : List ℕ) (s : Spot) (x : Step) : Type 0 where
  pub held : step_at g bytes frames.Held s ≡ x
  pub buffered : step_at g bytes frames.Buffered s ≡ x
  pub ignored : step_at g bytes frames.Ignored s ≡ step_shown x
  pub settled : IsSettled g bytes s

plain_leads : (g : Granted) (bytes : List ℕ) (s : Spot) (new : List Spot) (x : Step) → PlainStep g bytes s x → LeadsTo (step_at g bytes frames.Held s) (Contains new) → Leads g bytes (Contains new) s
plain_leads g bytes s new x p h frames.Held = h
plain_leads g bytes s new x p h frames.Buffered = subst (λ (y : Step). LeadsTo y (Contains new)) (p.held ∙ sym p.buffered) h
plain_leads g bytes s new x p h frames.Ignored =
    subst (λ (y : Step). LeadsTo y (Contains new)) (sym p.ignored) (leads_shown x (Contains new) (subst (λ (y : Step). LeadsTo y (Contains new)) p.held h))

plain_by : (g : Granted) (bytes : List ℕ) (s : Spot) (old new : List Spot) (reached b : Bool) (x : Step) → PlainStep g bytes s x → GoesOn bytes s x → VisitedBy x old new reached → reached ≡ b → By g bytes frames.Held s old new b
plain_by g bytes s old new reached b x p on visited is = subst (By g bytes frames.Held s old new) is (by_step g bytes frames.Held s old new reached x p.held on visited)

pub plain_reached : (g : Granted) (bytes : List ℕ) (s : Spot) (old new : List Spot) (reached : Bool) (x : Step) → PlainStep g bytes s x → GoesOn bytes s x → VisitedBy x old new reached → reached ≡ true
    → IsVisited g bytes s old new (settled (Some frames.Held))
plain_reached g bytes s old new reached x p on visited hit =
    let y = plain_by g bytes s old new reached true x p on visited hit in
    record { fresh = y.fresh; kept = y.kept; alone = y.alone; reaches = y.reaches refl; leads = λ e. absurd cc; settled = λ e. p.settled }

pub plain_none : (g : Granted) (bytes : List ℕ) (s : Spot) (old new : List Spot) (reached : Bool) (x : Step) → PlainStep g bytes s x → GoesOn bytes s x → VisitedBy x old new reached → reached ≡ false
    → IsVisited g bytes s old new (settled None)
plain_none g bytes s old new reached x p on visited miss =
    let y = plain_by g bytes s old new reached false x p on visited miss in
    record { fresh = y.fresh; kept = y.kept; alone = y.alone; reaches = tt; leads = λ e. plain_leads g bytes s new x p (y.leads refl); settled = λ e. p.settled }

-- each loader ends there
pub ended_visited : (g : Granted) (bytes : List ℕ) (s : Spot) (old : List Spot) → PlainStep g bytes s step.Ends → IsVisited g bytes s old old (settled None)
ended_visited g bytes s old p = plain_none g bytes s old old false step.Ends p tt (refl, refl) refl
