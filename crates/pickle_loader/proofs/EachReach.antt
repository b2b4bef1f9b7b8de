-- Each reach of a reading has its line in the text.
use Rattle.std.proofs.Common.{◌≡◌, ◌≢◌, ℕ, zero, suc, ◌+◌, ◌-◌, ◌^◌, ◌<◌, ◌≤◌, Bool, true, false, List, [], ◌∷◌, ◌++◌, length, Option, Some, None, Ok, refl, sym, ap, subst, ◌∙◌, inl, inr, arith}
use Rattle.std.specs.Prelude.{if◌then◌else◌, Result}
use Rattle.std.proofs.lemmas.Bool.{cases_lt}
use Rattle.pickle_ops.specs.declared.kind.Kind.TheVariants as kind
use Rattle.pickle_ops.specs.Spelling.{Operation}
use Rattle.pickle_ops.specs.Row.{row_of}
use Rattle.pickle_doc.specs.declared.fault.Finish.{Finish}
use Rattle.pickle_doc.specs.declared.fault.Finish.TheVariants as finish
use Rattle.pickle_doc.specs.DocUnit.{is_stop}
use Rattle.pickle_doc.specs.Document.{Contents, IsFormed, document_bytes, finish_of, items_of}
use Rattle.pickle_doc.specs.Place.{ops_of, item_at}
use Rattle.pickle_doc.proofs.Ends.{stopped_last}
use Rattle.pickle_machine.specs.declared.refusal.Refusal.{Refusal}
use Rattle.pickle_machine.specs.State.{State, start}
use Rattle.pickle_machine.specs.Move.{fresh}
use Rattle.pickle_machine.specs.Loader.{asks_less, move_as}
use Rattle.pickle_machine.specs.declared.loader.LoaderMove.{LoaderMove}
use Rattle.pickle_machine.specs.LoaderLaws.{one_move}
use Rattle.pickle_machine.specs.Run.{run}
use Rattle.pickle_machine.proofs.LoaderRows.{loaders_take_moves}
use Rattle.pickle_io.specs.declared.hole.Hole.{Hole}
use Rattle.pickle_io.specs.Holes.{in_file}
use Rattle.pickle_calls.specs.declared.event.Event.{Event}
use Rattle.pickle_calls.specs.declared.end.Ending.TheVariants as ending
use Rattle.pickle_text.specs.declared.closing.Closing.{Closing}
use Rattle.pickle_text.specs.declared.closing.Closing.TheVariants as closing
use Rattle.pickle_calls.specs.Event.{before_of, event_of}
use Rattle.pickle_calls.specs.CallsLine.{line_of}
use Rattle.pickle_text.specs.Reached.{reached}
use Rattle.pickle_text.specs.Closing.{refused_on}
use Rattle.pickle_calls.specs.Manner.{Manner}
use Rattle.pickle_calls.specs.Telling.{for_people}
use Rattle.pickle_calls.specs.Calls.{CountedText, CallsEnd, entry_at, is_inside, left_at, or_here, first_inside, closing_of, closing_to, kept_by, end_to, end_from, calls_end}
use Rattle.calls_laws.specs.LineLaws.{if_any, item_lines}
use Rattle.pickle_text.proofs.Places.{is_reached}
use Rattle.pickle_calls.proofs.Walking.{entry_is}
use Rattle.pickle_further.specs.declared.way.Pickles.{Pickles}
use Rattle.pickle_further.specs.declared.way.Pickles.TheVariants as pickles
use Rattle.pickle_further.specs.Going.{Standing, Going, event_by, then_as, moved_so, gone_to, going}
use Rattle.pickle_further.specs.Parts.{ignoring, buffering, are_many, is_open, standing_at, standing_first}
use Rattle.pickle_loader.specs.Environment.{Value, Plain}
use Rattle.pickle_loader.specs.Onward.{stands, begins_anew, unbuffered}
use Rattle.pickle_loader.specs.Text.{line_gone, lines_from, lines_if, behind_lines, lost_lines, mixed_lines, parts_lines, document_last, document_lines, IsAmong}
use Rattle.pickle_loader.proofs.Still.{move_to}
use Rattle.pickle_loader.proofs.Leads.{event_fresh, moved_on_fresh}
use Rattle.pickle_loader.proofs.Lines.{all_reached}
use Rattle.pickle_loader.proofs.Losses.{first_is}
use Rattle.pickle_loader.proofs.Bytes.{run_before, no_tail, last_stop}
use Rattle.pickle_loader.proofs.Readings.{beside_all, accepted_move, reads_item, item_taken, going_item, event_less, anew_state}
use Rattle.pickle_loader.proofs.Ends.{IsThrough, going_end, rest_end}
use Rattle.pickle_loader.proofs.Buffers.{goes_on, stood_before, stands_next}
use Rattle.pickle_loader.proofs.Streamed.{Where, alike_all, turn_of, going_of}
use Rattle.pickle_loader.proofs.Reaches.{among_left, among_right, among_any, line_some, onward, earlier, few, HasEvent, among_from, IsBehindLoss, plain_or_lost}

-- ---- the line of an accepted item

line_item : (holes : List Hole) (p : Pickles) (q : Standing) (o : Operation) (t : State) → begins_anew p ≡ true → move_as (asks_less (row_of o) (fresh q.state)) o q.at.place q.state ≡ Ok t
    → line_gone holes q (gone_to (ignoring p) q (item_taken o) (one_move (asks_less (row_of o) (fresh q.state))) (Ok t))
    ≡ line_of (in_file holes q.at.offset) q.naming t.heap (event_of (row_of o) (before_of (fresh q.state)) t)
line_item holes p q o t anew moves =
    let m : LoaderMove = one_move (asks_less (row_of o) (fresh q.state)) in
    let at : ℕ = in_file holes q.at.offset in
    let moved : moved_so m o q.at.place q.state ≡ Ok t = ap (λ (x : Result State Refusal). then_as m o q.at.place x) moves in
    ap (λ (x : State). line_of at q.naming x.heap (event_by m q.state t None)) (anew_state p o.opcode t anew)
    ∙ ap (λ (e : Option Event). line_of at q.naming t.heap e) (event_fresh m o q.at.place q.state t (sym (moved_on_fresh m o q.at.place q.state) ∙ moved))
    ∙ ap (λ (e : Option Event). line_of at q.naming t.heap e) (event_less (row_of o) (fresh q.state) (before_of (fresh q.state)) t)

abbrev pub no_value : ℕ → Value
no_value id = Plain kind.None

abbrev pub First : Manner → Pickles → Contents → Standing
First how p d = standing_first how.detail p (document_bytes d)

-- a document, and how it is read
pub record IsReadSo (p : Pickles) (d : Contents) : Type 0 where
  pub formed : IsFormed d
  pub small : length (document_bytes d) < 2 ^ 64
  pub anew : begins_anew p ≡ true
  pub mode : d.many ≡ are_many p
  pub framing : d.loose ≡ false

pub stands_so : (how : Manner) (p : Pickles) (d : Contents) (k : ℕ) (s : State) (q : Standing) → IsReadSo p d → run (start d.many) (ops_of d) k ≡ Some s → stands (ignoring p) (First how p d) k ≡ Some q → q ≡ standing_at how.detail d k s
stands_so how p d k s q r e there = (beside_all how.detail no_value p d r.formed r.small r.anew r.mode k s q e there).stands_there

-- what an accepted item comes to
pub record Accepted (how : Manner) (p : Pickles) (d : Contents) (k : ℕ) (t : State) (q : Standing) : Type 0 where
  pub item : Operation
  pub there : item_at d k ≡ Some item
  pub goes : going (ignoring p) q ≡ gone_to (ignoring p) q (item_taken item) (one_move (asks_less (row_of item) (fresh q.state))) (Ok t)
  pub line : (entry_at how d k).text ≡ line_gone how.holes q (going (ignoring p) q)

pub accepted_here : (how : Manner) (p : Pickles) (d : Contents) (k : ℕ) (s t : State) → IsReadSo p d → run (start d.many) (ops_of d) k ≡ Some s → run (start d.many) (ops_of d) (suc k) ≡ Some t → Accepted how p d k t (standing_at how.detail d k s)
accepted_here how p d k s t r from to =
    let m = move_to (start d.many) (ops_of d) k t to in
    let at : Standing = standing_at how.detail d k m.before in
    let same : m.before ≡ s = one_state (run (start d.many) (ops_of d) k) m.before s m.reached from in
    let moves = loaders_take_moves m.item k m.before t (accepted_move m.item k m.before t m.accepted m.leads) in
    let both = going_item p at m.item t refl (reads_item d k m.item r.formed r.small m.there) moves.one moves.next in
    subst (λ (x : State). Accepted how p d k t (standing_at how.detail d k x)) same (record {
      item = m.item;
      there = m.there;
      goes = both.1;
      line =
          ap (λ (c : CountedText). c.text) (entry_is for_people how d k m.item m.before t m.there m.reached to)
          ∙ sym (line_item how.holes p at m.item t r.anew moves.next)
          ∙ ap (λ (g : Going). line_gone how.holes at g) (sym both.1);
    })
  where
    one_state : (x : Option State) (a b : State) → x ≡ Some a → x ≡ Some b → a ≡ b
    one_state x a b e f = cc

pub accepted_at : (how : Manner) (p : Pickles) (d : Contents) (k : ℕ) (t : State) (q : Standing) → IsReadSo p d → run (start d.many) (ops_of d) (suc k) ≡ Some t → stands (ignoring p) (First how p d) k ≡ Some q → Accepted how p d k t q
accepted_at how p d k t q r to there =
    let m = move_to (start d.many) (ops_of d) k t to in
    subst (Accepted how p d k t) (sym (stands_so how p d k m.before q r m.reached there)) (accepted_here how p d k m.before t r m.reached to)

among_items : (how : Manner) (d : Contents) (k n : ℕ) → k < n → (entry_at how d k).text ≢ [] → IsAmong (entry_at how d k).text (item_lines how d n)
among_items how d k zero less some = absurd (omega (arith, less))
among_items how d k (suc n) less some = elim (cases_lt k n) [
  | inl before ↦ among_left (entry_at how d k).text (item_lines how d n) (if_any (entry_at how d n).text) (among_items how d k n before some)
  | inr last ↦
      let same : n ≡ k = omega (arith, less, last) in
      among_right (entry_at how d k).text (item_lines how d n) (if_any (entry_at how d n).text)
      (subst (λ (j : ℕ). IsAmong (entry_at how d k).text (if_any (entry_at how d j).text)) (sym same) (among_any (entry_at how d k).text some))
]

-- ---- where the lines end

inside_below : (d : Contents) (n j : ℕ) → first_inside d n ≡ Some j → j < n
unfolding first_inside
inside_below d zero j e = absurd cc
inside_below d (suc n) j e = go (first_inside d n) (is_inside d.many (item_at d n) (left_at d n)) (inside_below d n) refl e
  where
    go : (x : Option ℕ) (b : Bool) → ((i : ℕ) → first_inside d n ≡ Some i → i < n) → first_inside d n ≡ x → or_here x b n ≡ Some j → j < suc n
    go (Some i) b before is f = let same : i ≡ j = cc in omega (arith, before i is, same)
    go None true before is f = let same : n ≡ j = cc in omega (arith, same)
    go None false before is f = absurd cc

-- the machine reaches the place, and where no loader goes on, all items are accepted and the last is STOP
pub record EndIs (d : Contents) (e : CallsEnd) : Type 0 where
  pub state : State
  pub reached : run (start d.many) (ops_of d) e.place ≡ Some state
  pub closed : is_open e.ending ≡ false → (e.place ≡ length (ops_of d)) × (first_inside d (length (ops_of d)) ≡ None) × (finish_of d ≡ finish.Stopped)

closed_so : (d : Contents) (k : ℕ) (r : Option Refusal) → is_open (ending.Closed 0 (closing_to d k r)) ≡ false → (r ≡ None) × (finish_of d ≡ finish.Stopped)
closed_so d k (Some r) e = absurd cc
closed_so d k None e = (refl, go (finish_of d) refl e)
  where
    go : (f : Finish) → finish_of d ≡ f → is_open (ending.Closed 0 (closing_of d f)) ≡ false → finish_of d ≡ finish.Stopped
    go finish.Stopped is x = is
    go (finish.Fault f) is x = absurd cc

open_kept : (n : ℕ) (c : Closing) → is_open (ending.Closed n c) ≡ is_open (ending.Closed 0 c)
open_kept n closing.Stopped = refl
open_kept n (closing.Refused k r) = refl
open_kept n (closing.Fault f offset) = refl

end_reached : (d : Contents) (k : ℕ) (s : State) → run (start d.many) (ops_of d) k ≡ Some s → k ≤ length (ops_of d) → ((j : ℕ) (t : State) → j ≤ length (ops_of d) → run (start d.many) (ops_of d) j ≡ Some t → j ≤ k)
    → (x : Option ℕ) → first_inside d k ≡ x → EndIs d (end_from d k x)
end_reached d k s here within most (Some j) is =
    let less : j < k = inside_below d k j is in
    let before = run_before (start d.many) (ops_of d) k (suc j) s here (omega (arith, less)) in
    record { state = before.0; reached = before.1; closed = λ e. absurd cc }
end_reached d k s here within most None is =
    let c : Closing = closing_to d k (refused_on (item_at d k) s) in
    subst (λ (y : Option State). EndIs d (end_to d k y)) (sym here) (record {
      state = s;
      reached = here;
      closed = λ e.
          let both = closed_so d k (refused_on (item_at d k) s) (sym (open_kept (kept_by d c) c) ∙ e) in
          let all : k ≡ length (ops_of d) = all_reached d k s (item_at d k) refl here both.0 most within in
          (all, ap (first_inside d) (sym all) ∙ is, both.1);
    })

pub end_is : (d : Contents) → EndIs d (calls_end d)
unfolding calls_end
end_is d =
    let far = is_reached (start d.many) (ops_of d) (length (ops_of d)) in
    let k : ℕ = reached (start d.many) (ops_of d) (length (ops_of d)) in
    end_reached d k far.state far.is far.within far.most (first_inside d k) refl

-- ---- behind the last STOP

pub record IsOver (d : Contents) : Type 0 where
  pub last : State
  pub runs : run (start d.many) (ops_of d) (length (ops_of d)) ≡ Some last
  pub quiet : first_inside d (length (ops_of d)) ≡ None
  pub stopped : finish_of d ≡ finish.Stopped

no_event_over : (p : Pickles) (r q : Standing) (j : ℕ) → r.rest ≡ [] → stands (ignoring p) r j ≡ Some q → HasEvent (ignoring p) q → ⊥
no_event_over p r q j none there ev =
    let small = few (ignoring p) r j q there in
    let first : j ≡ 0 = omega (arith, small, ap (λ (l : List ℕ). length l) none) in
    let same : r ≡ q = first_is (ignoring p) r q (ap (stands (ignoring p) r) (sym first) ∙ there) in
    let nothing : going (ignoring p) q ≡ _ = going_end p q (ap (λ (x : Standing). x.rest) (sym same) ∙ none) in
    let wrong : None ≡ Some ev.0 = ap (λ (g : Going). g.gone.event) (sym nothing) ∙ ev.1 in absurd cc

stop_closes : (q r : Standing) (o : Operation) (t : State) (m : LoaderMove) → is_stop o.opcode ≡ true → m.last ≡ None → (gone_to (ignoring pickles.First) q (item_taken o) m (Ok t)).gone.closing ≡ None → ⊥
stop_closes q r o t m stop last e =
    let closes : (gone_to (ignoring pickles.First) q (item_taken o) m (Ok t)).gone.closing ≡ Some closing.Stopped = rw (last, stop) refl in
    let wrong : Some closing.Stopped ≡ None = sym closes ∙ e in absurd cc

-- the one pickle is over with its STOP
pub first_over : (how : Manner) (d : Contents) (k : ℕ) (o : Operation) (q : Standing) → IsReadSo pickles.First d → (x : IsOver d) → length (ops_of d) ≡ suc k → item_at d k ≡ Some o → is_stop o.opcode ≡ true
    → stands (ignoring pickles.First) (First how pickles.First d) (suc k) ≡ Some q → ⊥
first_over how d k o q r x size here stop there =
    let s = stood_before (ignoring pickles.First) (stands (ignoring pickles.First) (First how pickles.First d) k) q (sym (stands_next (ignoring pickles.First) (First how pickles.First d) k) ∙ there) in
    let a = accepted_at how pickles.First d k x.last s.before r (ap (run (start d.many) (ops_of d)) (sym size) ∙ x.runs) s.there in
    let on : (going (ignoring pickles.First) s.before).gone.closing ≡ None = goes_on s.before q (going (ignoring pickles.First) s.before) _ refl s.leads in
    let same : o ≡ a.item = one_item (item_at d k) o a.item here a.there in
    stop_closes s.before q a.item x.last (one_move (asks_less (row_of a.item) (fresh s.before.state))) (ap (λ (y : Operation). is_stop y.opcode) (sym same) ∙ stop) refl
    (ap (λ (g : Going). g.gone.closing) (sym a.goes) ∙ on)
  where
    one_item : (x : Option Operation) (o p : Operation) → x ≡ Some o → x ≡ Some p → o ≡ p
    one_item x o p e f = cc

none_over : (how : Manner) (p : Pickles) (d : Contents) (n : ℕ) (q : Standing) → IsReadSo p d → IsOver d → length (ops_of d) ≤ n → stands (ignoring p) (First how p d) n ≡ Some q → HasEvent (ignoring p) q → ⊥
none_over how pickles.First d n q r x most there ev =
    let last = last_stop (items_of d) (stopped_last d r.formed x.stopped) in
    let at = earlier (ignoring pickles.First) (First how pickles.First d) n (suc last.0) q (omega (arith, most, last.2)) there in
    first_over how d last.0 last.1 at.0 r x last.2 last.3 last.4 at.1
none_over how pickles.All d n q r x most there ev =
    let size : ℕ = length (ops_of d) in
    let tail : d.tail ≡ [] = zero_length_of d.tail (no_tail d r.formed r.mode x.stopped) in
    let at = earlier (ignoring pickles.All) (First how pickles.All d) n size q most there in
    let same = stands_so how pickles.All d size x.last at.0 r x.runs at.1 in
    let rest : at.0.rest ≡ [] = ap (λ (y : Standing). y.rest) same ∙ rest_end d size refl tail in
    let sum : size + (n - size) ≡ n = omega (arith, most) in
    no_event_over pickles.All at.0 q (n - size) rest (sym (onward (ignoring pickles.All) (First how pickles.All d) at.0 size (n - size) at.1) ∙ ap (stands (ignoring pickles.All) (First how pickles.All d)) sum ∙ there) ev
  where
    zero_length_of : (l : List ℕ) → length l ≡ 0 → l ≡ []
    zero_length_of [] e = refl
    zero_length_of (b ∷ l) e = absurd (omega (arith, e))
none_over how pickles.OneMemo d n q r x most there ev = let wrong : false ≡ true = r.anew in absurd cc

-- ---- of a document

pub in_parts : (how : Manner) (p : Pickles) (d : Contents) (line : List ℕ) → IsAmong line (parts_lines how p d (calls_end d)) → IsAmong line (document_lines how p d)
in_parts how p d line h = among_right line (item_lines how d (calls_end d).place ++ document_last how d) (parts_lines how p d (calls_end d)) h

behind_end : (how : Manner) (p : Pickles) (d : Contents) (n : ℕ) (q : Standing) (b : Bool) → is_open (calls_end d).ending ≡ b → IsReadSo p d → (x : EndIs d (calls_end d)) → (calls_end d).place ≤ n → stands (ignoring p) (First how p d) n ≡ Some q
    → HasEvent (ignoring p) q → IsAmong (line_gone how.holes q (going (ignoring p) q)) (parts_lines how p d (calls_end d))
behind_end how p d n q false closed r x most there ev =
    let all = x.closed closed in
    absurd (none_over how p d n q r (record { last = x.state; runs = ap (run (start d.many) (ops_of d)) (sym all.0) ∙ x.reached; quiet = all.1; stopped = all.2 }) (omega (arith, most, all.0)) there ev)
behind_end how p d n q true goes r x most there ev =
    let line : List ℕ = line_gone how.holes q (going (ignoring p) q) in
    let e : CallsEnd = calls_end d in
    let at = earlier (ignoring p) (First how p d) n e.place q most there in
    let same = stands_so how p d e.place x.state at.0 r x.reached at.1 in
    let sum : e.place + (n - e.place) ≡ n = omega (arith, most) in
    let behind : stands (ignoring p) at.0 (n - e.place) ≡ Some q = sym (onward (ignoring p) (First how p d) at.0 e.place (n - e.place) at.1) ∙ ap (stands (ignoring p) (First how p d)) sum ∙ there in
    let lines : IsAmong line (lines_from how.holes (ignoring p) (standing_at how.detail d e.place x.state)) = subst (λ (y : Standing). IsAmong line (lines_from how.holes (ignoring p) y)) same (among_from how.holes (ignoring p) at.0 (n - e.place) q behind ev) in
    let first : IsAmong line (behind_lines how p d e.place (run (start d.many) (ops_of d) e.place)) = subst (λ (y : Option State). IsAmong line (behind_lines how p d e.place y)) (sym x.reached) lines in
    let lossy : List (List ℕ) = lost_lines how (buffering p) (document_bytes d) ++ mixed_lines how p (document_bytes d) in
    subst (λ (b : Bool). IsAmong line (if b then behind_lines how p d e.place (run (start d.many) (ops_of d) e.place) ++ lossy else [])) (sym goes)
    (among_left line (behind_lines how p d e.place (run (start d.many) (ops_of d) e.place)) lossy first)

pub ignoring_reach : (how : Manner) (p : Pickles) (d : Contents) (n : ℕ) (q : Standing) → IsReadSo p d → stands (ignoring p) (First how p d) n ≡ Some q → HasEvent (ignoring p) q
    → IsAmong (line_gone how.holes q (going (ignoring p) q)) (document_lines how p d)
ignoring_reach how p d n q r there ev =
    let x = end_is d in
    let e : CallsEnd = calls_end d in
    let line : List ℕ = line_gone how.holes q (going (ignoring p) q) in
    elim (cases_lt n e.place) [
      | inl less ↦
          let after = run_before (start d.many) (ops_of d) e.place (suc n) x.state x.reached (omega (arith, less)) in
          let a = accepted_at how p d n after.0 q r after.1 there in
          let some : (entry_at how d n).text ≢ [] = λ none. line_some how.holes q (going (ignoring p) q) ev.0 ev.1 (sym a.line ∙ none) in
          let item : IsAmong line (item_lines how d e.place) = subst (λ (l : List ℕ). IsAmong l (item_lines how d e.place)) a.line (among_items how d n e.place less some) in
          among_left line (item_lines how d e.place ++ document_last how d) (parts_lines how p d e) (among_left line (item_lines how d e.place) (document_last how d) item)
      | inr most ↦ in_parts how p d line (behind_end how p d n q (is_open e.ending) refl r x most there ev)
    ]

-- ---- frames in a buffer

-- where the lines end with STOP, nothing is lost
none_lost : (how : Manner) (p : Pickles) (d : Contents) (n : ℕ) (q : Standing) → IsReadSo p d → (x : IsOver d) → d.tail ≡ [] → stands (buffering p) (First how p d) n ≡ Some q → (going (buffering p) q).gone.lost ≡ false
unfolding Where
none_lost how p d n q r x tail there =
    let t : IsThrough d = record { last = x.last; runs = x.runs; quiet = x.quiet; tail = tail } in
    let a = alike_all how.detail no_value p d r.formed r.small r.anew (r.mode, r.framing) t n in
    let w : Where how.detail p d n (Some q) = subst (Where how.detail p d n) (sym a.stood ∙ there) a.there in
    let turn = turn_of how.detail no_value p d n q r.formed r.small r.anew (r.mode, r.framing) t w.0 w.1 w.2 in
    ap (λ (g : Going). g.gone.lost) (going_of p d n q turn).0 ∙ turn.lost

-- what is behind the first part, where loaders go on
pub in_lossy : (how : Manner) (p : Pickles) (d : Contents) (line : List ℕ) → is_open (calls_end d).ending ≡ true → IsAmong line (lost_lines how (buffering p) (document_bytes d) ++ mixed_lines how p (document_bytes d)) → IsAmong line (parts_lines how p d (calls_end d))
in_lossy how p d line goes h =
    let e : CallsEnd = calls_end d in
    let lossy : List (List ℕ) = lost_lines how (buffering p) (document_bytes d) ++ mixed_lines how p (document_bytes d) in
    subst (λ (b : Bool). IsAmong line (if b then behind_lines how p d e.place (run (start d.many) (ops_of d) e.place) ++ lossy else [])) (sym goes)
    (among_right line (behind_lines how p d e.place (run (start d.many) (ops_of d) e.place)) lossy h)

-- what is behind the first loss stands in its part, where loaders go on
pub lost_in_parts : (how : Manner) (p : Pickles) (d : Contents) (n : ℕ) (q : Standing) → is_open (calls_end d).ending ≡ true → IsBehindLoss how.detail (buffering p) (document_bytes d) n q → HasEvent (buffering p) q
    → IsAmong (line_gone how.holes q (going (buffering p) q)) (parts_lines how p d (calls_end d))
lost_in_parts how p d n q goes l ev =
    let line : List ℕ = line_gone how.holes q (going (buffering p) q) in
    let e : CallsEnd = calls_end d in
    let lines : IsAmong line (lost_lines how (buffering p) (document_bytes d)) =
    subst (λ (y : Option Standing). IsAmong line (lines_if how.holes (buffering p) y)) (sym l.found) (among_from how.holes (buffering p) l.first (n - l.place) q l.there ev) in
    in_lossy how p d line goes (among_left line (lost_lines how (buffering p) (document_bytes d)) (mixed_lines how p (document_bytes d)) lines)

behind_loss : (how : Manner) (d : Contents) (n : ℕ) (q : Standing) (b : Bool) → is_open (calls_end d).ending ≡ b → IsReadSo pickles.All d → (x : EndIs d (calls_end d)) → IsBehindLoss how.detail (buffering pickles.All) (document_bytes d) n q
    → HasEvent (buffering pickles.All) q → IsAmong (line_gone how.holes q (going (buffering pickles.All) q)) (parts_lines how pickles.All d (calls_end d))
behind_loss how d n q false closed r x l ev =
    let all = x.closed closed in
    let over : IsOver d = record { last = x.state; runs = ap (run (start d.many) (ops_of d)) (sym all.0) ∙ x.reached; quiet = all.1; stopped = all.2 } in
    let kept = none_lost how pickles.All d l.place l.first r over (no_bytes d.tail (no_tail d r.formed r.mode all.2)) l.stood in
    let wrong : true ≡ false = sym l.lost ∙ kept in absurd cc
  where
    no_bytes : (l : List ℕ) → length l ≡ 0 → l ≡ []
    no_bytes [] e = refl
    no_bytes (b ∷ l) e = absurd (omega (arith, e))
behind_loss how d n q true goes r x l ev = lost_in_parts how pickles.All d n q goes l ev

pub buffering_reach : (how : Manner) (d : Contents) (n : ℕ) (q : Standing) → IsReadSo pickles.All d → stands (buffering pickles.All) (First how pickles.All d) n ≡ Some q → HasEvent (buffering pickles.All) q
    → IsAmong (line_gone how.holes q (going (buffering pickles.All) q)) (document_lines how pickles.All d)
buffering_reach how d n q r there ev =
    let p : Pickles = pickles.All in
    let line : List ℕ = line_gone how.holes q (going (buffering p) q) in
    elim (plain_or_lost how.detail (buffering p) (document_bytes d) n q there ev) [
      | inl plain ↦
          let same : going (ignoring p) (unbuffered q) ≡ _ = plain.goes in
          let here = ignoring_reach how p d n (unbuffered q) r plain.there (ev.0, ap (λ (g : Going). g.gone.event) same ∙ ev.1) in
          subst (λ (g : Going). IsAmong (line_gone how.holes (unbuffered q) g) (document_lines how p d)) same here
      | inr lost ↦ in_parts how p d line (behind_loss how d n q (is_open (calls_end d).ending) refl r (end_is d) lost ev)
    ]
