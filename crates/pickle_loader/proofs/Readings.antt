-- The reading of a document's bytes, frames ignored, goes over its items as the machine does.
use Rattle.std.proofs.Common.{◌≡◌, ℕ, zero, suc, ◌+◌, ◌^◌, ◌<◌, Bool, true, false, cond, List, [], ◌∷◌, ◌++◌, length, take, drop, Option, Some, None, Ok, refl, sym, ap, subst, ◌∙◌, arith, length-append}
use Rattle.std.specs.Prelude.{slice_get, is_some, nat_le, if◌then◌else◌, Result}
use Rattle.std.proofs.Math.Seq.{drop-append-add}
use Rattle.std.proofs.lemmas.List.{append_assoc}
use Rattle.pickle_ops.specs.declared.fault.FrontFault.{FrontFault}
use Rattle.pickle_ops.specs.declared.opcode.Opcode.{Opcode}
use Rattle.pickle_ops.specs.declared.row.Row.{Row}
use Rattle.pickle_ops.specs.declared.row.Row.TheVariants as row
use Rattle.pickle_ops.specs.declared.row.Taking.TheVariants as taking
use Rattle.pickle_ops.specs.declared.row.Cutting.TheVariants as cutting
use Rattle.pickle_ops.specs.Spelling.{Operation, spelling, size_of, IsSpelled, Front, Whole, front_fault}
use Rattle.pickle_ops.specs.Front.{front_of}
use Rattle.pickle_ops.proofs.Fronts.{one_front}
use Rattle.pickle_ops.specs.Row.{row_of}
use Rattle.pickle_doc.specs.declared.fault.TailFault.{TailFault}
use Rattle.pickle_doc.specs.declared.item.Item.{Item}
use Rattle.pickle_doc.specs.DocUnit.{ends_reading, sizes, operations, bytes_of}
use Rattle.pickle_doc.specs.Document.{Contents, IsFormed, items_of, document_bytes, ended_by}
use Rattle.pickle_doc.specs.Fitting.{left_behind, FitsFrom}
use Rattle.pickle_doc.specs.Place.{ops_of, item_at, offset_of}
use Rattle.pickle_doc.proofs.Units.{document_fits, length_bytes}
use Rattle.pickle_machine.specs.declared.refusal.Refusal.{Refusal}
use Rattle.pickle_machine.specs.declared.loader.LoaderMove.{LoaderMove}
use Rattle.pickle_machine.specs.State.{State, start}
use Rattle.pickle_machine.specs.Move.{refusal_at, next, fresh, outcome, move}
use Rattle.pickle_machine.specs.Loader.{takes_call, takes_call_with, takes_obj, takes_string, asks_less, loader_move, move_as}
use Rattle.pickle_machine.specs.LoaderLaws.{one_move}
use Rattle.pickle_machine.specs.Run.{run}
use Rattle.pickle_machine.proofs.LoaderRows.{loaders_take_moves}
use Rattle.pickle_lenient.specs.declared.taken.Frames.TheVariants as frames
use Rattle.pickle_lenient.specs.declared.taken.Taken.{Taken}
use Rattle.pickle_lenient.specs.Lenient.{lenient_at, lenient}
use Rattle.pickle_lenient.specs.Stream.{plain, taken}
use Rattle.pickle_calls.specs.declared.event.Event.{Event}
use Rattle.pickle_calls.specs.declared.event.Before.{Before}
use Rattle.pickle_calls.specs.declared.naming.Naming.{Naming}
use Rattle.pickle_calls.specs.Event.{before_of, event_of}
use Rattle.pickle_calls.specs.Naming.{naming_after}
use Rattle.pickle_calls.specs.Calls.{naming_on, naming_at}
use Rattle.pickle_calls.specs.declared.naming.Detail.{Detail}
use Rattle.pickle_further.specs.declared.way.Pickles.{Pickles}
use Rattle.pickle_further.specs.declared.way.Pickles.TheVariants as pickles
use Rattle.pickle_further.specs.declared.way.Way.{Way}
use Rattle.pickle_further.specs.Going.{Standing, Going as Gone, naming_row, used_op, then_as, moved_so, event_by, state_after, gone_to, gone_as, gone_by, going, stands_after}
use Rattle.pickle_further.specs.Parts.{ignoring, are_many, standing_at, standing_first}
use Rattle.pickle_loader.specs.Environment.{Value, Act}
use Rattle.pickle_loader.specs.Listed.{acts_listed, listed, protocol_after, protocol_at}
use Rattle.pickle_loader.specs.Onward.{stands_on, stands, protocol_read, protocol_on, protocol, acts_gone, acts_on, acts_before, begins_anew, LinesAreRead}
use Rattle.pickle_loader.proofs.Still.{move_to}
use Rattle.pickle_loader.proofs.Listing.{next_listed, next_protocol}
use Rattle.pickle_loader.proofs.Leads.{event_fresh, moved_on_fresh}
use Rattle.pickle_loader.proofs.Bytes.{drop_next}
use Rattle.pickle_loader.proofs.Ways.{behind_is}
use Rattle.pickle_loader.proofs.Cuts.{drop_zero, drop_none, by_last}

-- ---- bytes behind items

-- what is left behind the first j items
pub rest_is : (items : List Item) (tail : List ℕ) (j : ℕ) → drop (sizes (take j items)) (bytes_of (operations items) ++ tail) ≡ bytes_of (drop j (operations items)) ++ tail
rest_is [] tail zero = drop_zero tail
rest_is [] tail (suc j) = drop_zero tail
rest_is (i ∷ items) tail zero = drop_zero (bytes_of (operations (i ∷ items)) ++ tail)
rest_is (i ∷ items) tail (suc j) =
    let size : length (spelling i.op) ≡ size_of i.op = omega arith in
    let sum : sizes (take (suc j) (i ∷ items)) ≡ length (spelling i.op) + sizes (take j items) = omega (arith, size) in
    ap (λ (n : ℕ). drop n ((spelling i.op ++ bytes_of (operations items)) ++ tail)) sum
    ∙ ap (λ (l : List ℕ). drop (length (spelling i.op) + sizes (take j items)) l) (append_assoc (spelling i.op) (bytes_of (operations items)) tail)
    ∙ drop-append-add (spelling i.op) (bytes_of (operations items) ++ tail) (sizes (take j items))
    ∙ rest_is items tail j

-- the offset behind an item
pub next_offset : (items : List Item) (j : ℕ) (o : Operation) → slice_get (operations items) j ≡ Some o → sizes (take (suc j) items) ≡ sizes (take j items) + size_of o
next_offset [] j o e = absurd cc
next_offset (i ∷ items) zero o e =
    let same : i.op ≡ o = cc in
    let none : sizes (take 0 items) ≡ 0 = no_sizes items in
    omega (arith, none, ap size_of same)
  where
    no_sizes : (items : List Item) → sizes (take 0 items) ≡ 0
    no_sizes [] = refl
    no_sizes (x ∷ items) = refl
next_offset (i ∷ items) (suc j) o e = omega (arith, next_offset items j o e)

-- each operation that fits is spelled
spelled_at : (many loose : Bool) (ops : List Operation) (left : ℕ) (tail : List ℕ) (f : Option TailFault) (j : ℕ) (o : Operation) → FitsFrom many loose left ops tail f → slice_get ops j ≡ Some o → IsSpelled o
spelled_at many loose [] left tail f j o fits e = absurd cc
spelled_at many loose (p ∷ ops) left tail f zero o fits e = let same : p ≡ o = cc in subst (λ (x : Operation). IsSpelled x) same fits.0.spelled
spelled_at many loose (p ∷ ops) left tail f (suc j) o fits e =
    by_last (ends_reading many p.opcode) fits.1
    (λ is last. let bad : None ≡ Some o = ap (λ (l : List Operation). slice_get l j) (sym last.none) ∙ e in absurd cc)
    (λ is more. spelled_at many loose ops (left_behind loose left p) tail f j o more e)

-- what loaders read at the front of a spelling
read_so : (bytes : List ℕ) (o : Operation) (behind : List ℕ) → bytes ≡ spelling o ++ behind → IsSpelled o → lenient bytes ≡ Ok (record { op = o; row = row_of o; size = size_of o })
unfolding lenient
read_so bytes o behind e spelled =
    let is : front_of bytes ≡ Whole o.opcode o.arg behind = (one_front bytes).1 (Whole o.opcode o.arg behind) (e, spelled.arg) in
    let good : front_fault (front_of bytes) ≡ None = ap front_fault is ∙ spelled.value in
    ap (λ (x : Option FrontFault). lenient_at bytes (front_of bytes) x) good ∙ ap (λ (x : Front). lenient_at bytes x None) is

-- the bytes at an item are those of its operation
pub reads_item : (d : Contents) (j : ℕ) (o : Operation) → IsFormed d → length (document_bytes d) < 2 ^ 64 → item_at d j ≡ Some o → lenient (drop (offset_of d j) (document_bytes d)) ≡ Ok (record { op = o; row = row_of o; size = size_of o })
reads_item d j o formed small there =
    let all : length (document_bytes d) ≡ length (bytes_of (ops_of d)) + length d.tail = length-append (bytes_of (ops_of d)) d.tail in
    let fits = document_fits d formed (omega (arith, small, all, length_bytes (items_of d), formed.reach)) in
    let behind : List ℕ = bytes_of (drop (suc j) (ops_of d)) ++ d.tail in
    let here : drop (offset_of d j) (document_bytes d) ≡ spelling o ++ behind =
    rest_is (items_of d) d.tail j
    ∙ ap (λ (l : List Operation). bytes_of l ++ d.tail) (drop_next (ops_of d) j o there)
    ∙ append_assoc (spelling o) (bytes_of (drop (suc j) (ops_of d))) d.tail in
    read_so (drop (offset_of d j) (document_bytes d)) o behind here (spelled_at d.many d.loose (ops_of d) 0 d.tail (ended_by d) j o fits there)

-- ---- one item

-- the event of a row that asks for less is that of the row
pub event_less : (r : Row) (s : State) (b : Before) (t : State) → event_of (asks_less r s) b t ≡ event_of r b t
event_less (row.Take taking.Call) s b t = either (takes_call 0 s)
  where
    either : (c : Bool) → event_of (cond c (row.Take taking.Two) (row.Take taking.Call)) b t ≡ event_of (row.Take taking.Call) b t
    either true = refl
    either false = refl
event_less (row.Take taking.CallWith) s b t = either (takes_call_with s)
  where
    either : (c : Bool) → event_of (cond c (row.Take taking.Three) (row.Take taking.CallWith)) b t ≡ event_of (row.Take taking.CallWith) b t
    either true = refl
    either false = refl
event_less (row.Cut cutting.Callable) s b t = either (takes_obj s)
  where
    either : (c : Bool) → event_of (cond c (row.Cut cutting.Any) (row.Cut cutting.Callable)) b t ≡ event_of (row.Cut cutting.Callable) b t
    either true = refl
    either false = refl
event_less (row.Take taking.One) s b t = refl
event_less (row.Take taking.Two) s b t = refl
event_less (row.Take taking.Three) s b t = refl
event_less (row.Take taking.Names) s b t = refl
event_less (row.Cut cutting.Any) s b t = refl
event_less (row.Cut cutting.Pairs) s b t = refl
event_less (row.Protocol n) s b t = refl
event_less (row.Extension n) s b t = refl
event_less row.ReadOnly s b t = either (takes_string s)
  where
    either : (c : Bool) → event_of (cond c row.Nothing row.ReadOnly) b t ≡ event_of row.ReadOnly b t
    either true = refl
    either false = refl
event_less r s b t = refl

-- what an item comes to that the machine accepts
abbrev pub item_taken : Operation → Taken
item_taken o = record { op = o; row = row_of o; size = size_of o + 0; left = 0; lost = false }

gone_item : (p : Pickles) (q : Standing) (o : Operation) (t : State) → loader_move o.opcode (row_of o) (fresh q.state) ≡ one_move (asks_less (row_of o) (fresh q.state)) → move_as (asks_less (row_of o) (fresh q.state)) o q.at.place q.state ≡ Ok t
    → gone_as (ignoring p) q (item_taken o) (loader_move o.opcode (row_of o) (fresh q.state))
    ≡ gone_to (ignoring p) q (item_taken o) (one_move (asks_less (row_of o) (fresh q.state))) (Ok t)
gone_item p q o t one moves =
    ap (λ (m : LoaderMove). gone_to (ignoring p) q (item_taken o) m (moved_so m (used_op m o) q.at.place q.state)) one
    ∙ ap (λ (x : Result State Refusal). gone_to (ignoring p) q (item_taken o) (one_move (asks_less (row_of o) (fresh q.state))) (then_as (one_move (asks_less (row_of o) (fresh q.state))) o q.at.place x)) moves

pub going_item : (p : Pickles) (q : Standing) (o : Operation) (t : State) → q.at.left ≡ 0 → lenient q.rest ≡ Ok (record { op = o; row = row_of o; size = size_of o })
    → loader_move o.opcode (row_of o) (fresh q.state) ≡ one_move (asks_less (row_of o) (fresh q.state)) → move_as (asks_less (row_of o) (fresh q.state)) o q.at.place q.state ≡ Ok t
    → (taken frames.Ignored q.at.left q.rest ≡ Ok (item_taken o)) × (going (ignoring p) q ≡ gone_to (ignoring p) q (item_taken o) (one_move (asks_less (row_of o) (fresh q.state))) (Ok t))
unfolding going taken
going_item p q o t none reads one moves =
    let is : plain (lenient q.rest) ≡ Ok (item_taken o) = ap plain reads in
    (is, ap (λ (x : Result Taken FrontFault). gone_by (ignoring p) q x) is ∙ gone_item p q o t one moves)

-- ---- along the items

-- where both stand
pub record Beside (how : Detail) (V : ℕ → Value) (p : Pickles) (d : Contents) (k : ℕ) (s : State) (q : Standing) : Type 0 where
  pub stands_there : q ≡ standing_at how d k s
  pub acts : acts_before V (ignoring p) (standing_first how p (document_bytes d)) k ≡ listed V d.many (ops_of d) k
  pub proto : protocol (ignoring p) (standing_first how p (document_bytes d)) k ≡ protocol_at (ops_of d) k

stands_zero : (how : Detail) (p : Pickles) (bytes : List ℕ) (q : Standing) → stands (ignoring p) (standing_first how p bytes) 0 ≡ Some q → standing_first how p bytes ≡ q
unfolding stands
stands_zero how p bytes q e = cc

run_zero : (from : State) (ops : List Operation) (s : State) → run from ops 0 ≡ Some s → from ≡ s
unfolding run
run_zero from ops s e = cc

no_sizes : (items : List Item) → sizes (take 0 items) ≡ 0
no_sizes [] = refl
no_sizes (x ∷ items) = refl

pub first_stands : (how : Detail) (p : Pickles) (d : Contents) → d.many ≡ are_many p → standing_first how p (document_bytes d) ≡ standing_at how d 0 (start d.many)
first_stands how p d mode =
    let none : 0 ≡ offset_of d 0 = sym (no_sizes (items_of d)) in
    ap (λ (b : Bool). record { state = start b; rest = document_bytes d; at = record { offset = 0; place = 0; left = 0 }; naming = naming_at how d 0 }) (sym mode)
    ∙ ap (λ (l : List ℕ). record { state = start d.many; rest = l; at = record { offset = 0; place = 0; left = 0 }; naming = naming_at how d 0 }) (sym (drop_zero (document_bytes d)))
    ∙ ap (λ (n : ℕ). record { state = start d.many; rest = drop n (document_bytes d); at = record { offset = n; place = 0; left = 0 }; naming = naming_at how d 0 }) none

beside_first : (how : Detail) (V : ℕ → Value) (p : Pickles) (d : Contents) (s : State) (q : Standing) → d.many ≡ are_many p → start d.many ≡ s → standing_first how p (document_bytes d) ≡ q → Beside how V p d 0 s q
unfolding acts_before protocol listed protocol_at
beside_first how V p d s q mode e f = record { stands_there = sym f ∙ first_stands how p d mode ∙ ap (standing_at how d 0) e; acts = refl; proto = refl }

-- where it stood before
record Came (way : Way) (x : Option Standing) (p : Standing) : Type 0 where
  before : Standing
  stood : x ≡ Some before
  leads : stands_after before (going way before) ≡ p

came : (way : Way) (x : Option Standing) (p : Standing) → stands_on way x ≡ Some p → Came way x p
came way None p e = absurd cc
came way (Some q) p e = record { before = q; stood = refl; leads = behind_is q p (going way q) (is_some (going way q).gone.closing) e }

stands_next : (how : Detail) (p : Pickles) (bytes : List ℕ) (n : ℕ) → stands (ignoring p) (standing_first how p bytes) (suc n) ≡ stands_on (ignoring p) (stands (ignoring p) (standing_first how p bytes) n)
unfolding stands
stands_next how p bytes n = refl

pub anew_state : (p : Pickles) (o : Opcode) (t : State) → begins_anew p ≡ true → state_after p o t ≡ t
anew_state pickles.First o t e = refl
anew_state pickles.All o t e = refl
anew_state pickles.OneMemo o t e = absurd cc

drop_more : (n m : ℕ) (xs : List ℕ) → drop m (drop n xs) ≡ drop (n + m) xs
drop_more zero m xs = ap (drop m) (drop_zero xs) ∙ ap (λ (k : ℕ). drop k xs) (omega arith)
drop_more (suc n) m [] = drop_none m ∙ sym (drop_none (suc n + m))
drop_more (suc n) m (x ∷ xs) = let sum : suc (n + m) ≡ suc n + m = omega arith in drop_more n m xs ∙ ap (λ (k : ℕ). drop k (x ∷ xs)) sum

-- how names are read behind it
named : (r : Row) (n : ℕ) (m : Naming) → naming_after (naming_row r) n m ≡ naming_after r n m
named (row.Get key) n m = go (nat_le (2 ^ 64) key)
  where
    go : (b : Bool) → naming_after (if b then row.Nothing else row.Get key) n m ≡ m
    go true = refl
    go false = refl
named (row.Put key) n m = go (nat_le (2 ^ 64) key)
  where
    go : (b : Bool) → naming_after (if b then row.Nothing else row.Put key) n m ≡ m
    go true = refl
    go false = refl
named r n m = refl

-- the standing behind an item
pub next_stands : (how : Detail) (p : Pickles) (d : Contents) (k : ℕ) (s t : State) (o : Operation) → begins_anew p ≡ true → item_at d k ≡ Some o → run (start d.many) (ops_of d) (suc k) ≡ Some t
    → stands_after (standing_at how d k s) (gone_to (ignoring p) (standing_at how d k s) (item_taken o) (one_move (asks_less (row_of o) (fresh s))) (Ok t)) ≡ standing_at how d (suc k) t
next_stands how p d k s t o anew there to =
    let state : state_after p o.opcode t ≡ t = anew_state p o.opcode t anew in
    let size : offset_of d k + (size_of o + 0) ≡ offset_of d (suc k) = omega (arith, next_offset (items_of d) k o there) in
    let place : k + 1 ≡ suc k = omega arith in
    let names : naming_on (Some o) (Some t) (naming_at how d k) ≡ naming_at how d (suc k) =
    ap (λ (x : Option State). naming_on (Some o) x (naming_at how d k)) (sym to) ∙ ap (λ (x : Option Operation). naming_on x (run (start d.many) (ops_of d) (suc k)) (naming_at how d k)) (sym there) in
    let rest : drop (size_of o + 0) (drop (offset_of d k) (document_bytes d)) ≡ drop (offset_of d (suc k)) (document_bytes d) =
    drop_more (offset_of d k) (size_of o + 0) (document_bytes d) ∙ ap (λ (n : ℕ). drop n (document_bytes d)) size in
    ap (λ (m : Naming). record {
      state = state_after p o.opcode t;
      rest = drop (size_of o + 0) (drop (offset_of d k) (document_bytes d));
      at = record { offset = offset_of d k + (size_of o + 0); place = k + 1; left = 0 };
      naming = m;
    }) (named (row_of o) (length (state_after p o.opcode t).heap) (naming_at how d k))
    ∙ ap (λ (x : State). record {
      state = x;
      rest = drop (size_of o + 0) (drop (offset_of d k) (document_bytes d));
      at = record { offset = offset_of d k + (size_of o + 0); place = k + 1; left = 0 };
      naming = naming_on (Some o) (Some x) (naming_at how d k);
    }) state
    ∙ ap (λ (l : List ℕ). record { state = t; rest = l; at = record { offset = offset_of d k + (size_of o + 0); place = k + 1; left = 0 }; naming = naming_on (Some o) (Some t) (naming_at how d k) }) rest
    ∙ ap (λ (n : ℕ). record { state = t; rest = drop (offset_of d (suc k)) (document_bytes d); at = record { offset = n; place = k + 1; left = 0 }; naming = naming_on (Some o) (Some t) (naming_at how d k) }) size
    ∙ ap (λ (n : ℕ). record { state = t; rest = drop (offset_of d (suc k)) (document_bytes d); at = record { offset = offset_of d (suc k); place = n; left = 0 }; naming = naming_on (Some o) (Some t) (naming_at how d k) }) place
    ∙ ap (λ (m : Naming). record { state = t; rest = drop (offset_of d (suc k)) (document_bytes d); at = record { offset = offset_of d (suc k); place = suc k; left = 0 }; naming = m }) names

-- what is listed of an item
item_acts : (V : ℕ → Value) (p : Pickles) (proto : ℕ) (q : Standing) (o : Operation) (t : State) → begins_anew p ≡ true → move_as (asks_less (row_of o) (fresh q.state)) o q.at.place q.state ≡ Ok t
    → acts_gone V proto q (gone_to (ignoring p) q (item_taken o) (one_move (asks_less (row_of o) (fresh q.state))) (Ok t)) ≡ acts_listed V proto (fresh q.state) t (event_of (row_of o) (before_of (fresh q.state)) t)
item_acts V p proto q o t anew moves =
    let m : LoaderMove = one_move (asks_less (row_of o) (fresh q.state)) in
    let moved : moved_so m o q.at.place q.state ≡ Ok t = ap (λ (x : Result State Refusal). then_as m o q.at.place x) moves in
    ap (λ (x : State). acts_listed V proto (fresh q.state) x (event_by m q.state t None)) (anew_state p o.opcode t anew)
    ∙ ap (λ (e : Option Event). acts_listed V proto (fresh q.state) t e) (event_fresh m o q.at.place q.state t (sym (moved_on_fresh m o q.at.place q.state) ∙ moved))
    ∙ ap (λ (e : Option Event). acts_listed V proto (fresh q.state) t e) (event_less (row_of o) (fresh q.state) (before_of (fresh q.state)) t)

pub accepted_move : (o : Operation) (k : ℕ) (s t : State) → refusal_at o s ≡ None → next o k s ≡ t → move o k s ≡ Ok t
accepted_move o k s t none leads = ap (λ (x : Option Refusal). outcome x (next o k s)) none ∙ ap Ok leads

-- what is listed up to behind an item
pub acts_next : (how : Detail) (V : ℕ → Value) (p : Pickles) (d : Contents) (k : ℕ) (s t : State) (o : Operation) (q : Standing) → IsFormed d → length (document_bytes d) < 2 ^ 64 → begins_anew p ≡ true → item_at d k ≡ Some o
    → run (start d.many) (ops_of d) k ≡ Some s → run (start d.many) (ops_of d) (suc k) ≡ Some t → move o k s ≡ Ok t → stands (ignoring p) (standing_first how p (document_bytes d)) k ≡ Some q → Beside how V p d k s q
    → acts_before V (ignoring p) (standing_first how p (document_bytes d)) (suc k) ≡ listed V d.many (ops_of d) (suc k)
unfolding acts_before
acts_next how V p d k s t o q formed small anew there from to moves stood beside =
    let first : Standing = standing_first how p (document_bytes d) in
    let at : Standing = standing_at how d k s in
    let taken_move = loaders_take_moves o k s t moves in
    let both = going_item p at o t refl (reads_item d k o formed small there) taken_move.one taken_move.next in
    let g : Gone = gone_to (ignoring p) at (item_taken o) (one_move (asks_less (row_of o) (fresh s))) (Ok t) in
    let here : stands (ignoring p) first k ≡ Some at = stood ∙ ap Some beside.stands_there in
    ap (λ (x : Option Standing). acts_before V (ignoring p) first k ++ acts_on V (ignoring p) (protocol (ignoring p) first k) x) here
    ∙ ap (λ (x : Gone). acts_before V (ignoring p) first k ++ acts_gone V (protocol (ignoring p) first k) at x) both.1
    ∙ ap (λ (n : ℕ). acts_before V (ignoring p) first k ++ acts_gone V n at g) beside.proto
    ∙ ap (λ (l : List Act). l ++ acts_gone V (protocol_at (ops_of d) k) at g) beside.acts
    ∙ ap (λ (l : List Act). listed V d.many (ops_of d) k ++ l) (item_acts V p (protocol_at (ops_of d) k) at o t anew taken_move.next)
    ∙ sym (next_listed V d.many (ops_of d) k o s t there from to)

beside_next : (how : Detail) (V : ℕ → Value) (p : Pickles) (d : Contents) (k : ℕ) (s t : State) (o : Operation) (q r : Standing) → IsFormed d → length (document_bytes d) < 2 ^ 64 → begins_anew p ≡ true → item_at d k ≡ Some o
    → run (start d.many) (ops_of d) k ≡ Some s → run (start d.many) (ops_of d) (suc k) ≡ Some t → move o k s ≡ Ok t
    → stands (ignoring p) (standing_first how p (document_bytes d)) k ≡ Some q → stands_after q (going (ignoring p) q) ≡ r → Beside how V p d k s q → Beside how V p d (suc k) t r
unfolding protocol
beside_next how V p d k s t o q r formed small anew there from to moves stood leads beside =
    let first : Standing = standing_first how p (document_bytes d) in
    let at : Standing = standing_at how d k s in
    let taken_move = loaders_take_moves o k s t moves in
    let both = going_item p at o t refl (reads_item d k o formed small there) taken_move.one taken_move.next in
    let here : stands (ignoring p) first k ≡ Some at = stood ∙ ap Some beside.stands_there in
    record {
      stands_there = sym leads ∙ ap (λ (x : Standing). stands_after x (going (ignoring p) x)) beside.stands_there ∙ ap (stands_after at) both.1 ∙ next_stands how p d k s t o anew there to;
      acts = acts_next how V p d k s t o q formed small anew there from to moves stood beside;
      proto =
          ap (λ (x : Option Standing). protocol_on (ignoring p) x (protocol (ignoring p) first k)) here
          ∙ ap (λ (x : Result Taken FrontFault). protocol_read x (protocol (ignoring p) first k)) both.0
          ∙ ap (protocol_after o.opcode o.arg) beside.proto
          ∙ sym (next_protocol (ops_of d) k o there);
    }

pub beside_all : (how : Detail) (V : ℕ → Value) (p : Pickles) (d : Contents) → IsFormed d → length (document_bytes d) < 2 ^ 64 → begins_anew p ≡ true → d.many ≡ are_many p
    → (k : ℕ) (s : State) (q : Standing) → run (start d.many) (ops_of d) k ≡ Some s → stands (ignoring p) (standing_first how p (document_bytes d)) k ≡ Some q → Beside how V p d k s q
beside_all how V p d formed small anew mode zero s q e stood = beside_first how V p d s q mode (run_zero (start d.many) (ops_of d) s e) (stands_zero how p (document_bytes d) q stood)
beside_all how V p d formed small anew mode (suc k) t r e stood =
    let m = move_to (start d.many) (ops_of d) k t e in
    let f = came (ignoring p) (stands (ignoring p) (standing_first how p (document_bytes d)) k) r (sym (stands_next how p (document_bytes d) k) ∙ stood) in
    beside_next how V p d k m.before t m.item f.before r formed small anew m.there m.reached e (accepted_move m.item k m.before t m.accepted m.leads) f.stood f.leads
    (beside_all how V p d formed small anew mode k m.before f.before m.reached f.stood)

pub lines_are_read : LinesAreRead
lines_are_read how V p d formed small anew mode k s q e stood =
    let beside = beside_all how V p d formed small anew mode k s q e stood in
    (beside.stands_there, beside.acts)
