-- The lines of what loaders do.
use Rattle.std.proofs.Common.{◌≡◌, ℕ, zero, suc, ◌+◌, ◌-◌, ◌*◌, ◌^◌, ◌≤◌, ◌==◌, Bool, true, false, List, [], ◌++◌, length, Option, Some, None, refl, sym, ap, subst, ◌∙◌, append_assoc, arith, rules, inl, inr}
use Rattle.std.specs.Prelude.{if◌then◌else◌, drop, Result, Ok, Err, IfErr, IsErrAnd}
use Rattle.std.specs.Option.{option_map_or}
use Rattle.std.proofs.lemmas.List.{length-drop, append-nil}
use Rattle.pickle_io.specs.Text.{◌⧺◌}
use Rattle.pickle_io.specs.Device.{Told, Wrote, Broke}
use Rattle.pickle_io.proofs.Devices.{Wrote-none, Wrote-trans, Broke-after, Broke-more}
use Rattle.pickle_ops.specs.declared.fault.FrontFault.TheVariants as front
use Rattle.pickle_doc.specs.declared.fault.TailFault.TheVariants as tail
use Rattle.pickle_machine.specs.State.{State}
use Rattle.pickle_io.specs.declared.hole.Hole.{Hole}
use Rattle.pickle_io.specs.Holes.{in_file}
use Rattle.pickle_text.specs.declared.closing.Closing.{Closing}
use Rattle.pickle_text.specs.declared.closing.Closing.TheVariants as closing
use Rattle.pickle_calls.specs.declared.course.Course.{Course}
use Rattle.pickle_calls.specs.declared.naming.Naming.{Naming}
use Rattle.pickle_text.specs.declared.stop.TextStop.{TextStop}
use Rattle.pickle_text.specs.declared.stop.TextStop.TheVariants as stop
use Rattle.pickle_calls.specs.Naming.{naming_after}
use Rattle.pickle_calls.specs.CallsLine.{imports_of, calls_of}
use Rattle.pickle_calls.specs.Telling.{Telling}
use Rattle.pickle_calls.specs.Calls.{CountedText, counted_in}
use Rattle.pickle_calls.proofs.Walking.{few_imports, few_calls}
use Rattle.pickle_further.specs.declared.way.Way.{Way}
use Rattle.pickle_further.specs.declared.way.Spot.{Spot}
use Rattle.pickle_further.specs.declared.going.Gone.{Gone}
use Rattle.pickle_further.specs.Leads.{or_first, event_leads}
use Rattle.pickle_further.proofs.Leading.{or_first_assoc, or_first_none}
use Rattle.pickle_further.specs.Going.{Standing, going, stands_after, spot_after, Tale, tale_over, tale_after, tale_in}
use Rattle.pickle_further.specs.CallsText.{CutsText}
use Rattle.pickle_further.specs.Inside.{standing, Goes, here, tale_here, ended, WroteTale, InTale}

-- ---- writing

-- nothing is written yet
pub tale_begins : (a : Told) (t : Tale) (m : Naming) → InTale t a a (record { imports = 0; calls = 0; naming = m; left = 0 }) None t
tale_begins a t m = record { front = []; written = Wrote-none a; lines = refl; imports = omega arith; calls = omega arith; closing = refl; leads = refl }

joined : (front e more : List ℕ) → front ++ (e ++ more) ≡ (front ++ e) ++ more
joined front e more = sym (append_assoc front e more)

after_line : (front : List ℕ) (e : CountedText) (l : Option ℕ) (t : Tale) → front ++ (tale_after e l t).lines.text ≡ (front ++ e.text) ++ t.lines.text
unfolding ◌⧺◌
after_line front e l t = joined front e.text t.lines.text

counts : (whole a b c next : ℕ) → whole ≡ a + (b + c) → next ≡ a + b → whole ≡ next + c
counts whole a b c next is e = omega (arith, is, e)

-- a line more is written
pub line_written : (whole : Tale) (a b c : Told) (course next : Course) (found more : Option ℕ) (e : CountedText) (l : Option ℕ) (t : Tale) → InTale whole a b course found (tale_after e l t) → Wrote b c e.text
    → next.imports ≡ course.imports + e.imports → next.calls ≡ course.calls + e.calls → more ≡ or_first found l → InTale whole a c next more t
line_written whole a b c course next found more e l t w q i j f = record {
  front = w.front ++ e.text;
  written = Wrote-trans a b c w.front e.text w.written q;
  lines = w.lines ∙ after_line w.front e l t;
  imports = counts whole.lines.imports course.imports e.imports t.lines.imports next.imports w.imports i;
  calls = counts whole.lines.calls course.calls e.calls t.lines.calls next.calls w.calls j;
  closing = w.closing;
  leads = w.leads ∙ or_first_assoc found l t.leads ∙ ap (λ (x : Option ℕ). or_first x t.leads) (sym f);
}

-- the line is cut short
pub line_broken : (whole : Tale) (a b c : Told) (course : Course) (found : Option ℕ) (e : CountedText) (l : Option ℕ) (t : Tale) → InTale whole a b course found (tale_after e l t) → Broke b c e.text → Broke a c whole.lines.text
line_broken whole a b c course found e l t w q =
    rw (w.lines ∙ after_line w.front e l t) (Broke-more a c (w.front ++ e.text) t.lines.text (Broke-after a b c w.front e.text w.written q))

-- it ends
pub tale_done : (whole : Tale) (a b : Told) (course : Course) (found : Option ℕ) (c : Closing) → InTale whole a b course found (tale_over c) → WroteTale a b whole (record { course = course; closing = c; leads = found })
tale_done whole a b course found c w = record {
  written = subst (Wrote a b) (sym (w.lines ∙ append-nil w.front)) w.written;
  imports = omega (arith, w.imports);
  calls = omega (arith, w.calls);
  closing = sym w.closing;
  leads = sym (w.leads ∙ or_first_none found);
}

pub memory_stops : (whole : Tale) (a b : Told) (course : Course) (found : Option ℕ) (t : Tale) → InTale whole a b course found t → CutsText a b whole.lines.text stop.Memory
memory_stops whole a b course found t w = (t.lines.text, record { front = w.front; parts = w.lines; wrote = w.written })

-- ---- items

is_zero : (n : ℕ) → (n == 0) ≡ true → n ≡ 0
is_zero n e = search rules

inside : (a b : Closing) → Some a ≡ Some b → a ≡ b
inside a b e = cc

no_some : (c : Closing) → None ≡ Some c → ⊥
no_some c e = cc

-- it ends after this item
pub ends_here : (say : Telling) (holes : List Hole) (n : ℕ) (w : Way) (p : Standing) (gone : Gone) (c : Closing) → ended gone n p.at.offset ≡ Some c
    → tale_here say holes n w p gone ≡ tale_after (counted_in say (in_file holes p.at.offset) p.naming p.state.heap gone.event) (event_leads p.state.heap gone.event) (tale_over c)
unfolding tale_in
ends_here say holes n w p gone c e = ap (tale_after (counted_in say (in_file holes p.at.offset) p.naming p.state.heap gone.event) (event_leads p.state.heap gone.event)) (go (n == 0) refl gone.closing e)
  where
    go : (b : Bool) → (n == 0) ≡ b → (x : Option Closing) → option_map_or Some x (if b then Some (closing.Fault (tail.Front front.Ended) (p.at.offset + gone.size)) else None) ≡ Some c
        → option_map_or tale_over x (tale_in say holes n w (stands_after p (here gone p))) ≡ tale_over c
    go true is None e = ap (λ (m : ℕ). tale_in say holes m w (stands_after p (here gone p))) (is_zero n is) ∙ ap tale_over (inside _ c e)
    go false is None e = absurd (no_some c e)
    go b is (Some x) e = ap tale_over (inside x c e)

no_none : (c : Closing) → Some c ≡ None → ⊥
no_none c e = cc

pub record GoesBehind (say : Telling) (holes : List Hole) (n : ℕ) (w : Way) (p : Standing) (gone : Gone) : Type 0 where
  pub before : ℕ
  pub count : n ≡ suc before
  pub tale_is : tale_here say holes n w p gone ≡ tale_after (counted_in say (in_file holes p.at.offset) p.naming p.state.heap gone.event) (event_leads p.state.heap gone.event) (tale_in say holes n w (stands_after p (here gone p)))

-- it does not
pub goes_behind : {say : Telling} (holes : List Hole) (n : ℕ) (w : Way) (p : Standing) (gone : Gone) → ended gone n p.at.offset ≡ None → GoesBehind say holes n w p gone
goes_behind {say = say} holes n w p gone e = go n gone.closing refl e
  where
    go : (n : ℕ) (x : Option Closing) → gone.closing ≡ x → option_map_or Some x (if n == 0 then Some (closing.Fault (tail.Front front.Ended) (p.at.offset + gone.size)) else None) ≡ None
        → GoesBehind say holes n w p gone
    go zero None is e = absurd (no_none _ e)
    go (suc m) None is e = record { before = m; count = refl; tale_is = rw is refl }
    go n (Some x) is e = absurd (no_none x e)

-- what the next item comes to, by the state after it
pub next_tale : (say : Telling) (holes : List Hole) (n : ℕ) (w : Way) (p : Standing) (gone : Gone) (t : State) → Goes (going w p) gone t
    → tale_in say holes (suc n) w p ≡ tale_here say holes n w (standing t p.rest p.at p.naming) gone
unfolding tale_in
next_tale say holes n w p gone t g = elim g.state [
  | inl same ↦ rw (same, g.is) refl
  | inr over ↦
      let silent : (going w p).gone.event ≡ None = sym (ap (λ (x : Gone). x.event) g.is) ∙ over.silent in
      let ends : (going w p).gone.closing ≡ Some over.closing.0 = sym (ap (λ (x : Gone). x.closing) g.is) ∙ over.closing.1 in
      rw (silent, ends, over.silent, over.closing.1, say.silent (in_file holes p.at.offset) p.naming (going w p).state.heap, say.silent (in_file holes p.at.offset) p.naming t.heap) refl
]

-- ---- the loop

pub record InLoop (say : Telling) (holes : List Hole) (w : Way) (whole : Tale) (old now : Told) (s : State) (rest : List ℕ) (at : Spot) (gone : Gone) (course : Course) (found : Option ℕ) (left : ℕ) : Type 0 where
  pub in_tale : InTale whole old now course found (tale_here say holes left w (standing s rest at course.naming) gone)
  pub size : gone.size ≤ length rest
  pub few : left ≤ 2 ^ 30
  pub small : length rest ≤ 2 ^ 30
  pub heap : length s.heap + 2 * left ≤ 2 ^ 32 - 8
  pub offset_fits : at.offset + length rest ≤ 2 ^ 32
  pub place_fits : at.place + left ≤ 2 ^ 32
  pub imports : course.imports + left ≤ 2 ^ 30
  pub calls : course.calls + left ≤ 2 ^ 30

-- the item behind this one
abbrev pub behind : State → List ℕ → Spot → Gone → Naming → Standing
behind s rest at gone m = standing s (drop gone.size rest) (spot_after at gone) m

-- the tale is this item's line, and what comes then
goes_in_tale : (say : Telling) (holes : List Hole) (w : Way) (whole : Tale) (a b c : Told) (s t : State) (rest : List ℕ) (at : Spot) (gone next : Gone) (course more : Course) (found first : Option ℕ) (left m : ℕ)
    → InTale whole a b course found (tale_here say holes left w (standing s rest at course.naming) gone) → Wrote b c (say.line (in_file holes at.offset) course.naming s.heap gone.event)
    → more.imports ≡ course.imports + imports_of s.heap gone.event → more.calls ≡ course.calls + calls_of s.heap gone.event
    → more.naming ≡ naming_after gone.row (length s.heap) course.naming → first ≡ or_first found (event_leads s.heap gone.event)
    → left ≡ suc m
    → tale_here say holes left w (standing s rest at course.naming) gone ≡ tale_after (counted_in say (in_file holes at.offset) course.naming s.heap gone.event) (event_leads s.heap gone.event) (tale_in say holes left w (behind s rest at gone (naming_after gone.row (length s.heap) course.naming)))
    → Goes (going w (behind s rest at gone more.naming)) next t
    → InTale whole a c more first (tale_here say holes m w (behind t rest at gone more.naming) next)
goes_in_tale say holes w whole a b c s t rest at gone next course more found first left m k q i j naming f suc_is is g =
    let p : Standing = behind s rest at gone more.naming in
    let named : tale_in say holes left w (behind s rest at gone (naming_after gone.row (length s.heap) course.naming)) ≡ tale_in say holes left w p = ap (λ (n : Naming). tale_in say holes left w (behind s rest at gone n)) (sym naming) in
    let l : Option ℕ = event_leads s.heap gone.event in
    let same_tale : tale_here say holes left w (standing s rest at course.naming) gone ≡ tale_after (counted_in say (in_file holes at.offset) course.naming s.heap gone.event) l (tale_in say holes left w p) =
    is ∙ ap (tale_after (counted_in say (in_file holes at.offset) course.naming s.heap gone.event) l) named in
    let here_is : InTale whole a b course found (tale_after (counted_in say (in_file holes at.offset) course.naming s.heap gone.event) l (tale_in say holes left w p)) = subst (InTale whole a b course found) same_tale k in
    let line : InTale whole a c more first (tale_in say holes left w p) = line_written whole a b c course more found first (counted_in say (in_file holes at.offset) course.naming s.heap gone.event) l (tale_in say holes left w p) here_is q i j f in
    let then_is : tale_in say holes left w p ≡ tale_here say holes m w (behind t rest at gone more.naming) next = ap (λ (n : ℕ). tale_in say holes n w p) suc_is ∙ next_tale say holes m w p next t g in
    subst (InTale whole a c more first) then_is line

pub goes_round : {say : Telling} (holes : List Hole) (w : Way) (whole : Tale) (a b c : Told) (s t : State) (rest : List ℕ) (at : Spot) (gone next : Gone) (course more : Course) (found first : Option ℕ) (left : ℕ)
    → InLoop say holes w whole a b s rest at gone course found left → Wrote b c (say.line (in_file holes at.offset) course.naming s.heap gone.event)
    → more.imports ≡ course.imports + imports_of s.heap gone.event → more.calls ≡ course.calls + calls_of s.heap gone.event
    → more.naming ≡ naming_after gone.row (length s.heap) course.naming → first ≡ or_first found (event_leads s.heap gone.event)
    → ended gone left at.offset ≡ None
    → Goes (going w (behind s rest at gone more.naming)) next t
    → next.size ≤ length (drop gone.size rest) → length t.heap ≤ length s.heap + 2
    → InLoop say holes w whole a c t (drop gone.size rest) (spot_after at gone) next more first (left - 1)
goes_round {say = say} holes w whole a b c s t rest at gone next course more found first left k q i j naming f none g size heap =
    let behind = goes_behind holes left w (standing s rest at course.naming) gone none in
    let m : ℕ = behind.before in
    let less : left - 1 ≡ m = omega (arith, behind.count) in
    let shorter : length (drop gone.size rest) ≡ length rest - gone.size = length-drop gone.size rest in
    rw less (record {
      in_tale = goes_in_tale say holes w whole a b c s t rest at gone next course more found first left m k.in_tale q i j naming f behind.count behind.tale_is g;
      size = size;
      few = omega (arith, k.few, behind.count);
      small = omega (arith, k.small, shorter);
      heap = omega (arith, k.heap, heap, behind.count);
      offset_fits = omega (arith, k.offset_fits, shorter, k.size);
      place_fits = omega (arith, k.place_fits, behind.count);
      imports = omega (arith, k.imports, i, few_imports s.heap gone.event, behind.count);
      calls = omega (arith, k.calls, j, few_calls s.heap gone.event, behind.count);
    })

-- the line of an item after which it ends
pub last_line : {say : Telling} (holes : List Hole) (w : Way) (whole : Tale) (a b c : Told) (s : State) (rest : List ℕ) (at : Spot) (gone : Gone) (course more : Course) (found first : Option ℕ) (left : ℕ) (x : Closing)
    → InLoop say holes w whole a b s rest at gone course found left → Wrote b c (say.line (in_file holes at.offset) course.naming s.heap gone.event)
    → more.imports ≡ course.imports + imports_of s.heap gone.event → more.calls ≡ course.calls + calls_of s.heap gone.event
    → first ≡ or_first found (event_leads s.heap gone.event)
    → ended gone left at.offset ≡ Some x → WroteTale a c whole (record { course = more; closing = x; leads = first })
last_line {say = say} holes w whole a b c s rest at gone course more found first left x k q i j f e =
    tale_done whole a c more first x (line_written whole a b c course more found first (counted_in say (in_file holes at.offset) course.naming s.heap gone.event) (event_leads s.heap gone.event) (tale_over x)
    (subst (InTale whole a b course found) (ends_here say holes left w (standing s rest at course.naming) gone x e) k.in_tale) q i j f)

-- the line is cut short
pub item_broken : {say : Telling} (holes : List Hole) (w : Way) (whole : Tale) (a b c : Told) (s : State) (rest : List ℕ) (at : Spot) (gone : Gone) (course : Course) (found : Option ℕ) (left : ℕ)
    → InLoop say holes w whole a b s rest at gone course found left → Broke b c (say.line (in_file holes at.offset) course.naming s.heap gone.event) → Broke a c whole.lines.text
item_broken {say = say} holes w whole a b c s rest at gone course found left k q =
    line_broken whole a b c course found (counted_in say (in_file holes at.offset) course.naming s.heap gone.event) (event_leads s.heap gone.event) _ k.in_tale q

-- memory runs out behind the line of an item
pub memory_behind : {say : Telling} (holes : List Hole) (w : Way) (whole : Tale) (a b c : Told) (s : State) (rest : List ℕ) (at : Spot) (gone : Gone) (course : Course) (found : Option ℕ) (left : ℕ)
    → InLoop say holes w whole a b s rest at gone course found left → Wrote b c (say.line (in_file holes at.offset) course.naming s.heap gone.event)
    → CutsText a c whole.lines.text stop.Memory
memory_behind {say = say} holes w whole a b c s rest at gone course found left k q =
    let e : CountedText = counted_in say (in_file holes at.offset) course.naming s.heap gone.event in
    let more : Course = record { imports = course.imports + e.imports; calls = course.calls + e.calls; naming = course.naming; left = course.left } in
    let l : Option ℕ = event_leads s.heap gone.event in
    memory_stops whole a c more (or_first found l) _ (line_written whole a b c course more found (or_first found l) e l _ k.in_tale q refl refl refl)

-- ---- errors

pub cut_failed : {A : Type 0} (text : List ℕ) (a b : Told) (r : Result A TextStop) → IsErrAnd r (λ e. e ≡ stop.Failed) → Broke a b text → IfErr r (CutsText a b text)
cut_failed text a b (Ok x) h w = absurd h
cut_failed text a b (Err e) h w = rw h w

pub err_is : {A : Type 0} (P : TextStop → Type 0) (x : TextStop) (r : Result A TextStop) → IsErrAnd r (λ e. e ≡ x) → P x → IfErr r P
err_is P x (Ok y) h w = absurd h
err_is P x (Err e) h w = rw h w

pub memory_is : (a b : Told) (text : List ℕ) (x : TextStop) → x ≡ stop.Memory → CutsText a b text stop.Memory → CutsText a b text x
memory_is a b text x is w = rw is w
