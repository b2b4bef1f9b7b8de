-- Each reach of a reading has its line: what a reading finds on its way.
use Rattle.std.proofs.Common.{◌≡◌, ◌≢◌, ◌⊎◌, ℕ, zero, suc, ◌+◌, ◌-◌, ◌<◌, ◌≤◌, true, false, List, [], ◌∷◌, ◌++◌, length, Option, Some, None, Ok, Err, refl, sym, ap, subst, ◌∙◌, inl, inr, append_assoc, arith}
use Rattle.std.specs.Prelude.{is_some, if◌then◌else◌, Result}
use Rattle.std.proofs.lemmas.Bool.{cases_lt}
use Rattle.pickle_ops.specs.declared.fault.FrontFault.{FrontFault}
use Rattle.pickle_machine.specs.declared.refusal.Refusal.{Refusal}
use Rattle.pickle_machine.specs.declared.loader.LoaderMove.{LoaderMove}
use Rattle.pickle_machine.specs.State.{State}
use Rattle.pickle_machine.specs.Move.{fresh}
use Rattle.pickle_machine.specs.Loader.{loader_move}
use Rattle.pickle_lenient.specs.declared.taken.Taken.{Taken}
use Rattle.pickle_lenient.specs.declared.taken.Frames.TheVariants as frames
use Rattle.pickle_lenient.specs.Stream.{taken}
use Rattle.pickle_io.specs.declared.hole.Hole.{Hole}
use Rattle.pickle_io.specs.Holes.{in_file}
use Rattle.pickle_calls.specs.declared.naming.Detail.{Detail}
use Rattle.pickle_text.specs.declared.closing.Closing.{Closing}
use Rattle.pickle_calls.specs.declared.event.Event.{Event}
use Rattle.pickle_calls.specs.CallsLine.{event_line, line_of}
use Rattle.calls_laws.specs.LineLaws.{if_any}
use Rattle.pickle_further.specs.declared.way.Way.{Way}
use Rattle.pickle_further.specs.declared.seek.Sought.TheVariants as sought
use Rattle.pickle_further.specs.Going.{Standing, Going, used_op, moved_so, gone_to, gone_by, going, stands_after, tale_of, search}
use Rattle.pickle_further.specs.Parts.{header, ignoring, standing_first, loss_at}
use Rattle.pickle_loader.specs.Environment.{Value, Plain}
use Rattle.pickle_ops.specs.declared.kind.Kind.TheVariants as kind
use Rattle.pickle_loader.specs.Listed.{acts_listed}
use Rattle.pickle_loader.specs.Onward.{stands_behind, stands_on, stands, acts_gone, unbuffered, NoneLost, IsFound}
use Rattle.pickle_loader.specs.Text.{line_gone, line_on, lines_before, all_lines, part_end_lines, part_lines, lines_from, IsAmong}
use Rattle.pickle_loader.proofs.Lines.{long}
use Rattle.pickle_loader.proofs.Losses.{shifted, over, first_is, loss_is_found}
use Rattle.pickle_loader.proofs.Ways.{behind_is, shrinks}
use Rattle.pickle_loader.proofs.Buffers.{goes_on, stood_before, stands_next, buffered_same, flat, flat_to, plain_item, buffered_is_read}

-- ---- among lines

pub among_left : (x : List ℕ) (a b : List (List ℕ)) → IsAmong x a → IsAmong x (a ++ b)
among_left x a b (front, back, e) = (front, back ++ b, ap (λ (ls : List (List ℕ)). ls ++ b) e ∙ append_assoc front (x ∷ back) b)

pub among_right : (x : List ℕ) (a b : List (List ℕ)) → IsAmong x b → IsAmong x (a ++ b)
among_right x a b (front, back, e) = (a ++ front, back, ap (λ (ls : List (List ℕ)). a ++ ls) e ∙ sym (append_assoc a front (x ∷ back)))

pub among_any : (x : List ℕ) → x ≢ [] → IsAmong x (if_any x)
among_any [] h = absurd (h refl)
among_any (b ∷ x) h = ([], [], refl)

-- ---- an event

pub tells_event : (V : ℕ → Value) (proto : ℕ) (q : Standing) (g : Going) → acts_gone V proto q g ≢ [] → (e : Event) × (g.gone.event ≡ Some e)
tells_event V proto q g h = go g.gone.event refl
  where
    go : (x : Option Event) → g.gone.event ≡ x → (e : Event) × (g.gone.event ≡ Some e)
    go None e = absurd (h (ap (λ (y : Option Event). acts_listed V proto (fresh q.state) g.state y) e))
    go (Some e) is = (e, is)

pub line_some : (holes : List Hole) (q : Standing) (g : Going) (e : Event) → g.gone.event ≡ Some e → line_gone holes q g ≢ []
line_some holes q g e is = λ none.
    let line : line_gone holes q g ≡ event_line (in_file holes q.at.offset) q.naming g.state.heap e = ap (line_of (in_file holes q.at.offset) q.naming g.state.heap) is in
    absurd (omega (arith, long (in_file holes q.at.offset) q.naming g.state.heap e, ap (λ (l : List ℕ). length l) (sym line ∙ none)))

-- ---- along a reading

pub onward : (w : Way) (p q : Standing) (k j : ℕ) → stands w p k ≡ Some q → stands w p (k + j) ≡ stands w q j
unfolding stands
onward w p q k zero e = let sum : k + 0 ≡ k = omega arith in ap (stands w p) sum ∙ e
onward w p q k (suc j) e = let sum : k + suc j ≡ suc (k + j) = omega arith in ap (stands w p) sum ∙ ap (stands_on w) (onward w p q k j e)

pub earlier : (w : Way) (p : Standing) (n k : ℕ) (q : Standing) → k ≤ n → stands w p n ≡ Some q → (r : Standing) × (stands w p k ≡ Some r)
earlier w p zero k q h e = let none : k ≡ 0 = omega (arith, h) in (q, ap (stands w p) none ∙ e)
earlier w p (suc n) k q h e = elim (cases_lt k (suc n)) [
  | inl less ↦ let s = stood_before w (stands w p n) q (sym (stands_next w p n) ∙ e) in earlier w p n k s.before (omega (arith, less)) s.there
  | inr far ↦ let same : k ≡ suc n = omega (arith, h, far) in (q, ap (stands w p) same ∙ e)
]

-- an item takes a byte
pub few : (w : Way) (p : Standing) (n : ℕ) (q : Standing) → stands w p n ≡ Some q → n + length q.rest ≤ length p.rest
few w p zero q e = omega (arith, ap (λ (x : Standing). length x.rest) (first_is w p q e))
few w p (suc n) q e =
    let s = stood_before w (stands w p n) q (sym (stands_next w p n) ∙ e) in
    let g : Going = going w s.before in
    let on : g.gone.closing ≡ None = goes_on s.before q g g.gone.closing refl s.leads in
    let leads : stands_after s.before g ≡ q = behind_is s.before q g (is_some g.gone.closing) s.leads in
    omega (arith, few w p n s.before s.there, shrinks w s.before on, ap (λ (x : Standing). length x.rest) leads)

-- ---- the first item with an event

pub record Found (n : ℕ) (w : Way) (p : Standing) (k : ℕ) : Type 0 where
  pub place : ℕ
  pub at : Standing
  pub within : place ≤ k
  pub there : stands w p place ≡ Some at
  pub is : search sought.Event n w p ≡ Some at

found_here : (n : ℕ) (w : Way) (p : Standing) (k : ℕ) (y : Event) → (going w p).gone.event ≡ Some y → Found (suc n) w p k
unfolding search stands
found_here n w p k y e = record {
  place = 0;
  at = p;
  within = omega arith;
  there = refl;
  is = ap (λ (z : Option Event). if is_some z then Some p else (if is_some (going w p).gone.closing then None else search sought.Event n w (stands_after p (going w p)))) e;
}

search_goes : (n : ℕ) (w : Way) (p : Standing) → (going w p).gone.event ≡ None → (going w p).gone.closing ≡ None → search sought.Event (suc n) w p ≡ search sought.Event n w (stands_after p (going w p))
unfolding search
search_goes n w p e f =
    ap (λ (z : Option Event). if is_some z then Some p else (if is_some (going w p).gone.closing then None else search sought.Event n w (stands_after p (going w p)))) e
    ∙ ap (λ (z : Option Closing). if is_some z then None else search sought.Event n w (stands_after p (going w p))) f

abbrev pub HasEvent : Way → Standing → Type 0
HasEvent w q = (e : Event) × ((going w q).gone.event ≡ Some e)

found_next : (n : ℕ) (w : Way) (p r : Standing) (k : ℕ) → stands_behind p (going w p) ≡ Some r → search sought.Event (suc n) w p ≡ search sought.Event n w r → Found n w r k → Found (suc n) w p (suc k)
found_next n w p r k leads goes f = record {
  place = suc f.place;
  at = f.at;
  within = omega (arith, f.within);
  there = shifted w p r f.place leads ∙ f.there;
  is = goes ∙ f.is;
}

found_by : (n : ℕ) (w : Way) (p : Standing) (k : ℕ) (q : Standing) (x : Option Event) (c : Option Closing) → (going w p).gone.event ≡ x → (going w p).gone.closing ≡ c → k < suc n → stands w p k ≡ Some q → HasEvent w q
    → ((r : Standing) (j : ℕ) → j < n → stands w r j ≡ Some q → Found n w r j) → Found (suc n) w p k
found_by n w p k q (Some y) c is ends less there ev more = found_here n w p k y is
found_by n w p zero q None c is ends less there ev more =
    let wrong : None ≡ Some ev.0 = sym is ∙ ap (λ (x : Standing). (going w x).gone.event) (first_is w p q there) ∙ ev.1 in absurd cc
found_by n w p (suc k) q None (Some y) is ends less there ev more =
    let wrong : None ≡ Some q = sym (over w p k (ap (λ (z : Option Closing). if is_some z then None else Some (stands_after p (going w p))) ends)) ∙ there in absurd cc
found_by n w p (suc k) q None None is ends less there ev more =
    let r : Standing = stands_after p (going w p) in
    let leads : stands_behind p (going w p) ≡ Some r = ap (λ (z : Option Closing). if is_some z then None else Some r) ends in
    found_next n w p r k leads (search_goes n w p is ends) (more r k (omega (arith, less)) (sym (shifted w p r k leads) ∙ there))

found_from : (n : ℕ) (w : Way) (p : Standing) (k : ℕ) (q : Standing) → k < n → stands w p k ≡ Some q → HasEvent w q → Found n w p k
found_from zero w p k q less there ev = absurd (omega (arith, less))
found_from (suc n) w p k q less there ev =
    found_by n w p k q (going w p).gone.event (going w p).gone.closing refl refl less there ev (λ r j small stood. found_from n w r j q small stood ev)

-- ---- the lines of a reading

pub among_before : (holes : List Hole) (w : Way) (p : Standing) (n m : ℕ) (q : Standing) → n < m → stands w p n ≡ Some q → line_gone holes q (going w q) ≢ [] → IsAmong (line_gone holes q (going w q)) (lines_before holes w p m)
unfolding lines_before
among_before holes w p n zero q less there some = absurd (omega (arith, less))
among_before holes w p n (suc m) q less there some =
    let line : List ℕ = line_gone holes q (going w q) in
    elim (cases_lt n m) [
      | inl before ↦ among_left line (lines_before holes w p m) (line_on holes w (stands w p m)) (among_before holes w p n m q before there some)
      | inr last ↦
          let same : m ≡ n = omega (arith, less, last) in
          among_right line (lines_before holes w p m) (line_on holes w (stands w p m))
          (subst (λ (x : Option Standing). IsAmong line (line_on holes w x)) (sym (ap (stands w p) same ∙ there)) (among_any line some))
    ]

-- from the first item with a line on, none is left out
pub among_from : (holes : List Hole) (w : Way) (p : Standing) (k : ℕ) (q : Standing) → stands w p k ≡ Some q → HasEvent w q → IsAmong (line_gone holes q (going w q)) (lines_from holes w p)
among_from holes w p k q there ev =
    let line : List ℕ = line_gone holes q (going w q) in
    let f = found_from (suc (length p.rest)) w p k q (omega (arith, few w p k q there)) there ev in
    let j : ℕ = k - f.place in
    let sum : f.place + j ≡ k = omega (arith, f.within) in
    let behind : stands w f.at j ≡ Some q = sym (onward w p f.at f.place j f.there) ∙ ap (stands w p) sum ∙ there in
    let all = among_before holes w f.at j (suc (length f.at.rest)) q (omega (arith, few w f.at j q behind)) behind (line_some holes q (going w q) ev.0 ev.1) in
    subst (λ (x : Option Standing). IsAmong line (part_lines holes w x)) (sym f.is)
    (among_right line (header w.frames ∷ []) (all_lines holes w f.at ++ part_end_lines holes (tale_of holes w f.at)) (among_left line (all_lines holes w f.at) (part_end_lines holes (tale_of holes w f.at)) all))

-- ---- a reading with a buffer

none_at_fault : {A : Type 0} {B : Type 0} (b : B) → None ≡ Some b → A
none_at_fault b e = absurd cc

flat_moved : (w : Way) (q : Standing) (item : Taken) (m : LoaderMove) (z : Result State Refusal) (e : Event) → taken w.frames q.at.left q.rest ≡ Ok item → (gone_to w q item m z).gone.event ≡ Some e
    → (gone_to w q item m z).gone.lost ≡ false → (taken frames.Ignored 0 q.rest ≡ Ok (plain_item item)) × (gone_to (ignoring w.pickles) (unbuffered q) (plain_item item) m z ≡ flat (gone_to w q item m z))
flat_moved w q item m (Ok t) e is ev lost = (buffered_same w.frames q.at.left 0 q.rest item is lost, flat_to w q item m (Ok t))
flat_moved w q item m (Err r) e is ev lost = none_at_fault e ev

flat_by : (w : Way) (q : Standing) (y : Result Taken FrontFault) (e : Event) → taken w.frames q.at.left q.rest ≡ y → (gone_by w q y).gone.event ≡ Some e → (gone_by w q y).gone.lost ≡ false
    → gone_by (ignoring w.pickles) (unbuffered q) (taken frames.Ignored 0 q.rest) ≡ flat (gone_by w q y)
flat_by w q (Err f) e is ev lost = none_at_fault e ev
flat_by w q (Ok item) e is ev lost =
    let m : LoaderMove = loader_move item.op.opcode item.row (fresh q.state) in
    let both = flat_moved w q item m (moved_so m (used_op m item.op) q.at.place q.state) e is ev lost in
    ap (gone_by (ignoring w.pickles) (unbuffered q)) both.0 ∙ both.1

pub flat_item : (w : Way) (q : Standing) (e : Event) → (going w q).gone.event ≡ Some e → (going w q).gone.lost ≡ false → going (ignoring w.pickles) (unbuffered q) ≡ flat (going w q)
unfolding going
flat_item w q e ev lost = flat_by w q (taken w.frames q.at.left q.rest) e refl ev lost

-- an item with an event is an item of the reading that ignores frames; or it stands behind the first that loses bytes
pub record IsPlainly (how : Detail) (w : Way) (bytes : List ℕ) (n : ℕ) (q : Standing) : Type 0 where
  pub there : stands (ignoring w.pickles) (standing_first how w.pickles bytes) n ≡ Some (unbuffered q)
  pub goes : going (ignoring w.pickles) (unbuffered q) ≡ flat (going w q)

pub record IsBehindLoss (how : Detail) (w : Way) (bytes : List ℕ) (n : ℕ) (q : Standing) : Type 0 where
  pub first : Standing
  pub found : loss_at how w bytes ≡ Some first
  pub place : ℕ
  pub stood : stands w (standing_first how w.pickles bytes) place ≡ Some first
  pub none : NoneLost w (standing_first how w.pickles bytes) place
  pub lost : (going w first).gone.lost ≡ true
  pub before : place ≤ n
  pub there : stands w first (n - place) ≡ Some q

plainly : (how : Detail) (w : Way) (bytes : List ℕ) (n : ℕ) (q : Standing) → stands w (standing_first how w.pickles bytes) n ≡ Some q → HasEvent w q → NoneLost w (standing_first how w.pickles bytes) (suc n) → IsPlainly how w bytes n q
plainly how w bytes n q there ev none =
    let same = buffered_is_read how (λ id. Plain kind.None) w bytes n q there (λ j r less stood. none j r (omega (arith, less)) stood) in
    record { there = same.0; goes = flat_item w q ev.0 ev.1 (none n q (omega arith) there) }

by_loss : (how : Detail) (w : Way) (bytes : List ℕ) (n : ℕ) (q : Standing) (x : Option Standing) → loss_at how w bytes ≡ x → IsFound w (standing_first how w.pickles bytes) (suc (length bytes)) x
    → stands w (standing_first how w.pickles bytes) n ≡ Some q → HasEvent w q → (IsPlainly how w bytes n q) ⊎ (IsBehindLoss how w bytes n q)
by_loss how w bytes n q None is none there ev =
    let small : n + length q.rest ≤ length bytes = few w (standing_first how w.pickles bytes) n q there in
    inl (plainly how w bytes n q there ev (λ j r less stood. none j r (omega (arith, less, small)) stood))
by_loss how w bytes n q (Some r) is (j, stood, none, lost) there ev = elim (cases_lt n j) [
  | inl less ↦ inl (plainly how w bytes n q there ev (λ i p before at. none i p (omega (arith, less, before)) at))
  | inr most ↦
      let sum : j + (n - j) ≡ n = omega (arith, most) in
      inr (record {
        first = r;
        found = is;
        place = j;
        stood = stood;
        none = none;
        lost = lost;
        before = most;
        there = sym (onward w (standing_first how w.pickles bytes) r j (n - j) stood) ∙ ap (stands w (standing_first how w.pickles bytes)) sum ∙ there;
      })
]

pub plain_or_lost : (how : Detail) (w : Way) (bytes : List ℕ) (n : ℕ) (q : Standing) → stands w (standing_first how w.pickles bytes) n ≡ Some q → HasEvent w q → (IsPlainly how w bytes n q) ⊎ (IsBehindLoss how w bytes n q)
plain_or_lost how w bytes n q there ev = by_loss how w bytes n q (loss_at how w bytes) refl (loss_is_found (suc (length bytes)) w (standing_first how w.pickles bytes)) there ev
