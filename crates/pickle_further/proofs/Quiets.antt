-- Bytes of which no loader that keeps frames in a buffer loses any, and at which none part: nothing of that kind is found.
use Rattle.std.proofs.Common.{◌≡◌, ℕ, zero, suc, ◌+◌, ◌==◌, Bool, true, false, List, [], drop, length, Option, Some, None, Ok, Err, refl, sym, ap, ap₂, subst, ◌∙◌, inl, inr, arith, ◌<◌, ◌≤◌}
use Rattle.std.specs.Prelude.{if◌then◌else◌, is_some, Result}
use Rattle.std.proofs.lemmas.Bool.{cases_Bool}
use Rattle.std.proofs.lemmas.List.{drop-drop, length-drop}
use Rattle.pickle_io.specs.Text.{◌⧺◌}
use Rattle.pickle_io.specs.declared.hole.Hole.{Hole}
use Rattle.pickle_ops.specs.declared.fault.FrontFault.{FrontFault}
use Rattle.pickle_doc.specs.declared.fault.TailFault.TheVariants as tail
use Rattle.pickle_machine.specs.State.{State}
use Rattle.pickle_machine.specs.Move.{fresh}
use Rattle.pickle_machine.specs.declared.refusal.Refusal.{Refusal}
use Rattle.pickle_machine.specs.declared.loader.LoaderMove.{LoaderMove}
use Rattle.pickle_machine.specs.Loader.{loader_move}
use Rattle.pickle_lenient.specs.declared.pass.Passed.{Passed}
use Rattle.pickle_lenient.specs.declared.taken.Frames.{Frames}
use Rattle.pickle_lenient.specs.declared.taken.Frames.TheVariants as frames
use Rattle.pickle_lenient.specs.declared.taken.Taken.{Taken}
use Rattle.pickle_lenient.specs.Stream.{buffered, taken}
use Rattle.pickle_lenient.specs.Passing.{IsPassed, Passes, PassesAll, PassesSome}
use Rattle.pickle_text.specs.declared.closing.Closing.{Closing}
use Rattle.pickle_text.specs.declared.closing.Closing.TheVariants as closing
use Rattle.pickle_calls.specs.declared.naming.Detail.{Detail}
use Rattle.pickle_calls.specs.Manner.{Manner}
use Rattle.pickle_further.specs.declared.way.Pickles.{Pickles}
use Rattle.pickle_further.specs.declared.way.Pickles.TheVariants as pickles
use Rattle.pickle_further.specs.declared.way.Way.{Way}
use Rattle.pickle_further.specs.declared.going.Gone.{Gone}
use Rattle.pickle_further.specs.declared.seek.Sought.{Sought}
use Rattle.pickle_further.specs.declared.seek.Sought.TheVariants as sought
use Rattle.pickle_further.specs.declared.quiet.Passing.TheVariants as passing
use Rattle.pickle_further.specs.Splits.{leaves_by, are_apart, splits}
use Rattle.pickle_further.specs.Going.{Standing, Going, nothing, over, gone_to, gone_by, going, moved_so, used_op, stands_after, is_sought, search_on, search}
use Rattle.pickle_further.specs.Parts.{Wording, buffering, of_file, standing_first, part_text_in, text_from_in, found_text_in, mixed_from, file_frames, first_mixed, mixed_text_in, lost_text_in}
use Rattle.pickle_further.specs.CallsText.{first_loss}
use Rattle.pickle_further.specs.Quiet.{keeps_frames, is_of_frames, IsQuiet, EndsAlike, GoesAlike, IsPassing, IsPassingAll, TakesNothing}

-- ---- one item

-- it is not what is looked for
other : (x : Sought) (f : Frames) (left : ℕ) (rest : List ℕ) (g : Gone) → is_of_frames x ≡ true → g.lost ≡ false → splits f left rest ≡ false → is_sought x f left rest g ≡ false
other sought.Event f left rest g e whole alike = let two : false ≡ true = e in cc
other sought.Lost f left rest g e whole alike = whole
other sought.Split f left rest g e whole alike = alike

if_none : (b : Bool) (more : Option Standing) → more ≡ None → (if b then None else more) ≡ None
if_none true more e = refl
if_none false more e = e

goes_on : (x : Sought) (w : Way) (g : Gone) (p : Standing) (more : Option Standing) → is_of_frames x ≡ true → g.lost ≡ false → splits w.frames p.at.left p.rest ≡ false → more ≡ None
    → search_on x w g p more ≡ None
goes_on x w g p more e whole alike none = rw (other x w.frames p.at.left p.rest g e whole alike) (if_none (is_some g.closing) more none)

ended : (x : Sought) (w : Way) (c : Closing) (p : Standing) (more : Option Standing) → is_of_frames x ≡ true → splits w.frames p.at.left p.rest ≡ false → search_on x w (nothing c) p more ≡ None
ended x w c p more e alike = rw (other x w.frames p.at.left p.rest (nothing c) e refl alike) refl

step_ends : (x : Sought) (n : ℕ) (w : Way) (p : Standing) (f : FrontFault) → is_of_frames x ≡ true → taken w.frames p.at.left p.rest ≡ Err f → splits w.frames p.at.left p.rest ≡ false
    → search x (suc n) w p ≡ None
unfolding search going
step_ends x n w p f e is alike =
    let g : going w p ≡ over p.state (closing.Fault (tail.Front f) p.at.offset) = ap (gone_by w p) is in
    ap (λ (y : Going). search_on x w y.gone p (search x n w (stands_after p y))) g
    ∙ ended x w (closing.Fault (tail.Front f) p.at.offset) p (search x n w (stands_after p (over p.state (closing.Fault (tail.Front f) p.at.offset)))) e alike

step_goes : (x : Sought) (n : ℕ) (w : Way) (p : Standing) (t : Taken) → is_of_frames x ≡ true → taken w.frames p.at.left p.rest ≡ Ok t → t.lost ≡ false
    → splits w.frames p.at.left p.rest ≡ false → ((q : Standing) → q.rest ≡ drop t.size p.rest → q.at.left ≡ t.left → search x n w q ≡ None)
    → search x (suc n) w p ≡ None
unfolding search going
step_goes x n w p t e is whole alike next =
    let m : LoaderMove = loader_move t.op.opcode t.row (fresh p.state) in
    ap (λ (y : Result Taken FrontFault). search_on x w (gone_by w p y).gone p (search x n w (stands_after p (gone_by w p y)))) is
    ∙ go m (moved_so m (used_op m t.op) p.at.place p.state)
  where
    go : (m : LoaderMove) (r : Result State Refusal) → search_on x w (gone_to w p t m r).gone p (search x n w (stands_after p (gone_to w p t m r))) ≡ None
    go m (Err r) =
        ended x w _ p (search x n w (stands_after p (gone_to w p t m (Err r)))) e alike
    go m (Ok s) =
        goes_on x w (gone_to w p t m (Ok s)).gone p (search x n w (stands_after p (gone_to w p t m (Ok s)))) e whole alike (next (stands_after p (gone_to w p t m (Ok s))) refl refl)

-- ---- quiet bytes

nothing_yet : (x : Sought) (w : Way) (p : Standing) → search x 0 w p ≡ None
unfolding search
nothing_yet x w p = refl

same_taken : (f : Frames) (a b : ℕ) (x y : List ℕ) → a ≡ b → x ≡ y → taken f a x ≡ taken f b y
same_taken f a b x y e g = ap₂ (λ (n : ℕ) (l : List ℕ). taken f n l) e g

same_splits : (f : Frames) (a b : ℕ) (x y : List ℕ) → a ≡ b → x ≡ y → splits f a x ≡ splits f b y
same_splits f a b x y e g = ap₂ (λ (n : ℕ) (l : List ℕ). splits f n l) e g

pub quiet_ends : (left : ℕ) (rest : List ℕ) → IsPassingAll left rest passing.Ends → IsQuiet left rest
quiet_ends left rest a x zero w p e k is there = nothing_yet x w p
quiet_ends left rest a x (suc n) w p e k is there =
    let h : EndsAlike w.frames left rest = a w.frames k in
    step_ends x n w p h.fault e (same_taken w.frames p.at.left left p.rest rest there is ∙ h.is) (same_splits w.frames p.at.left left p.rest rest there is ∙ h.alike)

-- an item is taken, and behind it they are quiet
quiet_step : (left : ℕ) (rest : List ℕ) (n more : ℕ) → ((f : Frames) → keeps_frames f ≡ true → (t : Taken) × (taken f left rest ≡ Ok t) × (t.lost ≡ false) × (splits f left rest ≡ false) × (t.size ≡ n) × (t.left ≡ more))
    → IsQuiet more (drop n rest) → IsQuiet left rest
quiet_step left rest n more a q x zero w p e k is there = nothing_yet x w p
quiet_step left rest n more a q x (suc m) w p e k is there =
    let h = a w.frames k in
    step_goes x m w p h.0 e (same_taken w.frames p.at.left left p.rest rest there is ∙ h.1) h.2 (same_splits w.frames p.at.left left p.rest rest there is ∙ h.3)
    (λ r drops lefts. q x m w r e k (drops ∙ ap₂ (λ (i : ℕ) (l : List ℕ). drop i l) h.4 is) (lefts ∙ h.5))

pub quiet_goes : (left : ℕ) (rest : List ℕ) (to : Passed) → IsPassingAll left rest (passing.Goes to) → IsQuiet to.left (drop to.size rest) → IsQuiet left rest
quiet_goes left rest to a q = quiet_step left rest to.size to.left (λ f k. let h : GoesAlike f left rest to = a f k in (h.item, h.is, h.whole, h.alike, h.size, h.left_over)) q

-- ---- opcodes that are passed

alike_by : (f : Frames) (left : ℕ) (rest : List ℕ) (t : Taken) → taken f left rest ≡ Ok t → t.lost ≡ false → ((left == 0) ≡ false → (u : Taken) × (taken f 0 rest ≡ Ok u) × (u.left ≡ 0)) → splits f left rest ≡ false
unfolding splits
alike_by f left rest t is whole more = elim (cases_Bool (left == 0)) [
  | inl hit ↦ rw hit refl
  | inr miss ↦
      let u = more miss in
      rw (miss, is, u.1, whole, u.2) refl
]

passed_by : (f : Frames) (left : ℕ) (rest : List ℕ) (n more : ℕ) → Passes left rest n more → keeps_frames f ≡ true
    → (t : Taken) × (taken f left rest ≡ Ok t) × (t.lost ≡ false) × (splits f left rest ≡ false) × (t.size ≡ n) × (t.left ≡ more)
unfolding taken
passed_by frames.Ignored left rest n more a k = let two : false ≡ true = k in absurd cc
passed_by frames.Buffered left rest n more a k =
    let h : IsPassed true left rest n more = a true in
    (h.taken, h.is, h.whole, alike_by frames.Buffered left rest h.taken h.is h.whole h.other, h.size, h.leaves)
passed_by frames.Held left rest n more a k =
    let h : IsPassed false left rest n more = a false in
    (h.taken, h.is, h.whole, alike_by frames.Held left rest h.taken h.is h.whole h.other, h.size, h.leaves)

passes_all : (k left : ℕ) (rest : List ℕ) (n more : ℕ) → PassesAll k left rest n more → IsQuiet more (drop n rest) → IsQuiet left rest
passes_all zero left rest n more a q = subst (λ (l : ℕ). IsQuiet l rest) a.1 (subst (λ (i : ℕ). IsQuiet more (drop i rest)) a.0 q)
passes_all (suc k) left rest n more (first, now, last, before, one, is) q =
    let behind : drop n rest ≡ drop last (drop first rest) = ap (λ (i : ℕ). drop i rest) is ∙ sym (drop-drop last first rest) in
    let there : IsQuiet more (drop last (drop first rest)) = subst (IsQuiet more) behind q in
    passes_all k left rest first now before (quiet_step now (drop first rest) last more (λ f kept. passed_by f now (drop first rest) last more one kept) there)

pub quiet_passes : (left : ℕ) (rest : List ℕ) (n more : ℕ) → PassesSome left rest n more → IsQuiet more (drop n rest) → IsQuiet left rest
quiet_passes left rest n more a q = passes_all a.0 left rest n more a.1 q

-- ---- the loop

held : (left : ℕ) (bytes : List ℕ) (to : Passed) → IsPassingAll left bytes (passing.Goes to) → (0 < to.size) × (to.size + to.left ≤ length bytes)
held left bytes to a = let h : GoesAlike frames.Held left bytes to = a frames.Held refl in (h.some, h.within)

pub fits : (left : ℕ) (bytes : List ℕ) (to : Passed) → IsPassingAll left bytes (passing.Goes to) → to.size ≤ length bytes
fits left bytes to a = omega (arith, (held left bytes to a).1)

-- some bytes were passed, and then an item
pub less : (rest behind next : List ℕ) (size left : ℕ) (to : Passed) → behind ≡ drop size rest → next ≡ drop to.size behind → IsPassingAll left behind (passing.Goes to) → length next < length rest
less rest behind next size left to is goes a =
    let h = held left behind to a in
    omega (arith, h.0, h.1, ap length is, length-drop size rest, ap length goes, length-drop to.size behind)

pub ends_quiet : (start left more size : ℕ) (bytes rest behind : List ℕ) → PassesSome left rest size more → behind ≡ drop size rest → IsPassingAll more behind passing.Ends → (IsQuiet left rest → IsQuiet start bytes) → IsQuiet start bytes
ends_quiet start left more size bytes rest behind passes is a k = k (quiet_passes left rest size more passes (subst (IsQuiet more) is (quiet_ends more behind a)))

pub goes_quiet : (start left more size : ℕ) (bytes rest behind next : List ℕ) (to : Passed) → PassesSome left rest size more → behind ≡ drop size rest → next ≡ drop to.size behind → IsPassingAll more behind (passing.Goes to)
    → (IsQuiet left rest → IsQuiet start bytes) → IsQuiet to.left next → IsQuiet start bytes
goes_quiet start left more size bytes rest behind next to passes is goes a k q =
    k (quiet_passes left rest size more passes (subst (IsQuiet more) is (quiet_goes more behind to a (subst (IsQuiet to.left) goes q))))

pub stays_within : (behind next : List ℕ) (more : ℕ) (to : Passed) → next ≡ drop to.size behind → IsPassingAll more behind (passing.Goes to) → to.left ≤ length next
stays_within behind next more to goes a = omega (arith, (held more behind to a).1, ap length goes, length-drop to.size behind)

-- ---- what is not found

pub no_loss : (how : Detail) (p : Pickles) (bytes : List ℕ) → IsQuiet 0 bytes → search sought.Lost (suc (length bytes)) (buffering p) (standing_first how p bytes) ≡ None
no_loss how p bytes q = q sought.Lost (suc (length bytes)) (buffering p) (standing_first how p bytes) refl refl refl refl

pub none_lost : (how : Detail) (bytes : List ℕ) → IsQuiet 0 bytes → first_loss how bytes ≡ None
none_lost how bytes q = rw (no_loss how pickles.OneMemo bytes q) refl

file_keeps : (p : Pickles) → keeps_frames (file_frames p) ≡ true
file_keeps pickles.First = refl
file_keeps pickles.All = refl
file_keeps pickles.OneMemo = refl

pub none_mixed : (how : Detail) (p : Pickles) (bytes : List ℕ) → IsQuiet 0 bytes → first_mixed how p bytes ≡ None
none_mixed how p bytes q = ap (mixed_from (of_file p)) (q sought.Split (suc (length bytes)) (of_file p) (standing_first how p bytes) refl (file_keeps p) refl refl)

pub no_lost_text : (tell : Wording) (how : Manner) (p : Pickles) (bytes : List ℕ) → IsQuiet 0 bytes → lost_text_in tell how p bytes ≡ []
unfolding ◌⧺◌
no_lost_text tell how p bytes q =
    ap₂ (λ (x : Option Standing) (y : Option ℕ). found_text_in tell how.holes (buffering p) x ⧺ mixed_text_in tell how.holes y) (no_loss how.detail p bytes q) (none_mixed how.detail p bytes q)

-- ---- nothing is taken

none_found : (x : Option Standing) (tell : Wording) (holes : List Hole) (w : Way) → x ≡ None → part_text_in tell holes w x ≡ []
none_found x tell holes w e = ap (part_text_in tell holes w) e

pub no_text_from : (tell : Wording) (holes : List Hole) (w : Way) (p : Standing) → w.frames ≡ frames.Ignored → p.at.left ≡ 0 → TakesNothing p.rest → text_from_in tell holes w p ≡ []
unfolding text_from_in search going
no_text_from tell holes w p ignored none (f, is) =
    let t : taken w.frames p.at.left p.rest ≡ Err f = ap₂ (λ (x : Frames) (n : ℕ). taken x n p.rest) ignored none ∙ is in
    let g : going w p ≡ over p.state (closing.Fault (tail.Front f) p.at.offset) = ap (gone_by w p) t in
    none_found _ tell holes w (ap (λ (y : Going). search_on sought.Event w y.gone p (search sought.Event (length p.rest) w (stands_after p y))) g)
