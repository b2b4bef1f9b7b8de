-- Wherever the machine stands, a reading of the document's bytes stands too.
use Rattle.std.proofs.Common.{◌≡◌, ℕ, zero, suc, ◌+◌, ◌^◌, ◌<◌, Bool, true, false, List, [], ◌∷◌, ◌++◌, length, drop, Option, Some, None, Ok, refl, sym, ap, subst, ◌∙◌, arith, length-append}
use Rattle.std.specs.Prelude.{◌==◌, ◌&&◌, is_some, if◌then◌else◌}
use Rattle.pickle_ops.specs.declared.opcode.Opcode.{Opcode}
use Rattle.pickle_ops.specs.Spelling.{Operation, spelling, size_of}
use Rattle.pickle_ops.specs.Row.{row_of}
use Rattle.pickle_doc.specs.DocUnit.{is_stop, bytes_of}
use Rattle.pickle_doc.specs.Document.{Contents, IsFormed, OnlyLastStops, items_of, document_bytes}
use Rattle.pickle_doc.specs.Place.{ops_of, item_at, offset_of}
use Rattle.pickle_machine.specs.State.{State, start}
use Rattle.pickle_machine.specs.Move.{fresh}
use Rattle.pickle_machine.specs.Loader.{asks_less}
use Rattle.pickle_machine.specs.LoaderLaws.{one_move}
use Rattle.pickle_machine.specs.Run.{run}
use Rattle.pickle_machine.proofs.LoaderRows.{loaders_take_moves}
use Rattle.pickle_calls.specs.declared.naming.Detail.{Detail}
use Rattle.pickle_text.specs.declared.closing.Closing.{Closing}
use Rattle.pickle_text.specs.declared.closing.Closing.TheVariants as closing
use Rattle.pickle_further.specs.declared.way.Pickles.{Pickles}
use Rattle.pickle_further.specs.declared.way.Pickles.TheVariants as pickles
use Rattle.pickle_further.specs.Going.{Standing, Going, stops, stopped_after, gone_to, going, stands_after}
use Rattle.pickle_further.specs.Parts.{ignoring, buffering, are_many, standing_at, standing_first}
use Rattle.pickle_loader.specs.Environment.{Value}
use Rattle.pickle_loader.specs.Onward.{begins_anew, stands_behind, stands_on, stands, state_by, state_on, state_behind, unbuffered}
use Rattle.pickle_loader.proofs.Cuts.{zero_only}
use Rattle.pickle_loader.proofs.Still.{move_to, no_stop}
use Rattle.pickle_loader.proofs.Bytes.{drop_next}
use Rattle.pickle_loader.proofs.Readings.{rest_is, reads_item, item_taken, going_item, first_stands, next_stands, anew_state, accepted_move}
use Rattle.pickle_loader.proofs.Ends.{IsThrough}
use Rattle.pickle_loader.proofs.Streamed.{Where, turn_of, going_of, alike_all}

abbrev First : Detail → Pickles → Contents → Standing
First how p d = standing_first how p (document_bytes d)

-- ---- an item

-- what the item at k comes to, at the place where the machine stands
abbrev gone_at : Detail → Pickles → Contents → ℕ → State → Operation → State → Going
gone_at how p d k s o t = gone_to (ignoring p) (standing_at how d k s) (item_taken o) (one_move (asks_less (row_of o) (fresh s))) (Ok t)

record Item (how : Detail) (p : Pickles) (d : Contents) (k : ℕ) (t : State) : Type 0 where
  before : State
  item : Operation
  reached : run (start d.many) (ops_of d) k ≡ Some before
  there : item_at d k ≡ Some item
  goes : going (ignoring p) (standing_at how d k before) ≡ gone_at how p d k before item t

item_of : (how : Detail) (p : Pickles) (d : Contents) (k : ℕ) (t : State) → IsFormed d → length (document_bytes d) < 2 ^ 64 → run (start d.many) (ops_of d) (suc k) ≡ Some t → Item how p d k t
item_of how p d k t formed small e =
    let m = move_to (start d.many) (ops_of d) k t e in
    let moves = loaders_take_moves m.item k m.before t (accepted_move m.item k m.before t m.accepted m.leads) in
    let both = going_item p (standing_at how d k m.before) m.item t refl (reads_item d k m.item formed small m.there) moves.one moves.next in
    record { before = m.before; item = m.item; reached = m.reached; there = m.there; goes = both.1 }

-- ---- where another item comes

-- bytes are behind it
more_behind : (d : Contents) (k : ℕ) (o : Operation) → item_at d k ≡ Some o → 0 < length (drop (offset_of d k) (document_bytes d))
more_behind d k o there =
    let here : drop (offset_of d k) (document_bytes d) ≡ bytes_of (o ∷ drop (suc k) (ops_of d)) ++ d.tail =
    rest_is (items_of d) d.tail k ∙ ap (λ (l : List Operation). bytes_of l ++ d.tail) (drop_next (ops_of d) k o there) in
    let size : length (spelling o) ≡ size_of o = omega arith in
    let front : length (bytes_of (o ∷ drop (suc k) (ops_of d))) ≡ length (spelling o) + length (bytes_of (drop (suc k) (ops_of d))) = length-append (spelling o) (bytes_of (drop (suc k) (ops_of d))) in
    omega (arith, size, front, ap length here, length-append (bytes_of (o ∷ drop (suc k) (ops_of d))) d.tail)

neither : (b : Bool) → (if b && false then Some closing.Stopped else None) ≡ None
neither true = refl
neither false = refl

some_more : (o : Opcode) (more : ℕ) (b : Bool) → (more == 0) ≡ b → 0 < more → (if is_stop o && (more == 0) then Some closing.Stopped else None) ≡ None
some_more o more true e some = absurd (omega (arith, some, zero_only more e))
some_more o more false e some = ap (λ (c : Bool). if is_stop o && c then Some closing.Stopped else None) e ∙ neither (is_stop o)

-- it goes on there
goes_on : (p : Pickles) (o : Opcode) (more : ℕ) → begins_anew p ≡ true → (are_many p ≡ false → is_stop o ≡ false) → 0 < more → stopped_after p o more ≡ None
goes_on pickles.First o more anew one some = ap (λ (b : Bool). if b && true then Some closing.Stopped else None) (one refl)
goes_on pickles.All o more anew one some = some_more o more (more == 0) refl some
goes_on pickles.OneMemo o more anew one some = absurd cc

no_stop_at : (d : Contents) (k : ℕ) (o q : Operation) → IsFormed d → d.many ≡ false → item_at d k ≡ Some o → item_at d (suc k) ≡ Some q → is_stop o.opcode ≡ false
no_stop_at d k o q formed one there next = no_stop (items_of d) k o q (subst (λ (b : Bool). OnlyLastStops b (items_of d)) one formed.last_stops) there next

-- ---- along the items

abbrev StandsSo : Detail → Pickles → Contents → ℕ → State → Type 0
StandsSo how p d k s = stands (ignoring p) (First how p d) k ≡ Some (standing_at how d k s)

stands_first : (how : Detail) (p : Pickles) (d : Contents) (s : State) → d.many ≡ are_many p → run (start d.many) (ops_of d) 0 ≡ Some s → StandsSo how p d 0 s
unfolding stands run
stands_first how p d s mode e = let same : start d.many ≡ s = cc in ap Some (first_stands how p d mode ∙ ap (standing_at how d 0) same)

stands_next : (how : Detail) (p : Pickles) (d : Contents) (k : ℕ) (t : State) (q : Operation) → IsFormed d → length (document_bytes d) < 2 ^ 64 → begins_anew p ≡ true → d.many ≡ are_many p → run (start d.many) (ops_of d) (suc k) ≡ Some t
    → item_at d (suc k) ≡ Some q → (x : Item how p d k t) → StandsSo how p d k x.before → StandsSo how p d (suc k) t
unfolding stands
stands_next how p d k t q formed small anew mode e next x stood =
    let at : Standing = standing_at how d k x.before in
    let g : Going = gone_at how p d k x.before x.item t in
    let leads : stands_after at g ≡ standing_at how d (suc k) t = next_stands how p d k x.before t x.item anew x.there e in
    let rest : drop g.gone.size at.rest ≡ drop (offset_of d (suc k)) (document_bytes d) = ap (λ (y : Standing). y.rest) leads in
    let some : 0 < length (drop g.gone.size at.rest) = omega (arith, more_behind d (suc k) q next, ap length rest) in
    let on : g.gone.closing ≡ None = goes_on p x.item.opcode (length (drop g.gone.size at.rest)) anew (λ one. no_stop_at d k x.item q formed (mode ∙ one) x.there next) some in
    ap (stands_on (ignoring p)) stood
    ∙ ap (stands_behind at) x.goes
    ∙ ap (λ (c : Option Closing). if is_some c then None else Some (stands_after at g)) on
    ∙ ap Some leads

stands_all : (how : Detail) (p : Pickles) (d : Contents) → IsFormed d → length (document_bytes d) < 2 ^ 64 → begins_anew p ≡ true → d.many ≡ are_many p
    → (k : ℕ) (s : State) (q : Operation) → run (start d.many) (ops_of d) k ≡ Some s → item_at d k ≡ Some q → StandsSo how p d k s
stands_all how p d formed small anew mode zero s q e there = stands_first how p d s mode e
stands_all how p d formed small anew mode (suc k) t q e there =
    let x = item_of how p d k t formed small e in
    stands_next how p d k t q formed small anew mode e there x (stands_all how p d formed small anew mode k x.before x.item x.reached x.there)

by_stop : (b : Bool) (a : State) → state_by (if b then Some closing.Stopped else None) a ≡ Some a
by_stop true a = refl
by_stop false a = refl

-- the state behind n items is that of the machine
pub reached_behind : (how : Detail) (p : Pickles) (d : Contents) → IsFormed d → length (document_bytes d) < 2 ^ 64 → begins_anew p ≡ true → d.many ≡ are_many p
    → (n : ℕ) (s : State) → run (start d.many) (ops_of d) n ≡ Some s → state_behind (ignoring p) (First how p d) n ≡ Some s
unfolding state_behind run
reached_behind how p d formed small anew mode zero s e = ap (λ (b : Bool). Some (start b)) (sym mode) ∙ e
reached_behind how p d formed small anew mode (suc k) t e =
    let x = item_of how p d k t formed small e in
    ap (state_on (ignoring p)) (stands_all how p d formed small anew mode k x.before x.item x.reached x.there)
    ∙ ap (λ (g : Going). state_by g.gone.closing g.state) x.goes
    ∙ by_stop (is_stop x.item.opcode && stops p (length (drop (size_of x.item + 0) (standing_at how d k x.before).rest))) (gone_at how p d k x.before x.item t).state
    ∙ ap Some (anew_state p x.item.opcode t anew)

-- ---- with a buffer

streamed_on : (how : Detail) (V : ℕ → Value) (p : Pickles) (d : Contents) (n : ℕ) (x : Option Standing) → IsFormed d → length (document_bytes d) < 2 ^ 64 → begins_anew p ≡ true → (d.many ≡ are_many p) × (d.loose ≡ false) → IsThrough d
    → stands (buffering p) (First how p d) n ≡ x → Where how p d n x → state_on (buffering p) (stands (buffering p) (First how p d) n) ≡ state_on (ignoring p) (stands (ignoring p) (First how p d) n)
unfolding Where
streamed_on how V p d n None formed small anew mode t is there = ap (state_on (buffering p)) is ∙ sym (ap (state_on (ignoring p)) there)
streamed_on how V p d n (Some q) formed small anew mode t is there =
    let both = going_of p d n q (turn_of how V p d n q formed small anew mode t there.0 there.1 there.2) in
    ap (state_on (buffering p)) is ∙ ap (λ (g : Going). state_by g.gone.closing g.state) (sym both.1) ∙ sym (ap (state_on (ignoring p)) there.0)

pub streamed_behind : (how : Detail) (V : ℕ → Value) (p : Pickles) (d : Contents) → IsFormed d → length (document_bytes d) < 2 ^ 64 → begins_anew p ≡ true → (d.many ≡ are_many p) × (d.loose ≡ false) → IsThrough d
    → (n : ℕ) → state_behind (buffering p) (First how p d) n ≡ state_behind (ignoring p) (First how p d) n
unfolding state_behind
streamed_behind how V p d formed small anew mode t zero = refl
streamed_behind how V p d formed small anew mode t (suc n) =
    let a = alike_all how V p d formed small anew mode t n in
    streamed_on how V p d n a.here formed small anew mode t a.stood a.there
