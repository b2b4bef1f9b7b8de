-- Where the lines end with status 0, a reading that keeps frames in a buffer tells what the one tells that ignores frames.
use Rattle.std.proofs.Common.{◌≡◌, ℕ, zero, suc, ◌^◌, ◌<◌, ◌≤◌, Bool, true, false, List, [], ◌++◌, length, drop, Option, Some, None, Ok, Err, refl, sym, ap, subst, ◌∙◌, inl, inr, arith}
use Rattle.std.specs.Prelude.{is_some, if◌then◌else◌, Result}
use Rattle.std.proofs.lemmas.Bool.{cases_lt}
use Rattle.pickle_ops.specs.declared.fault.FrontFault.{FrontFault}
use Rattle.pickle_ops.specs.Spelling.{Operation}
use Rattle.pickle_doc.specs.Document.{Contents, IsFormed, document_bytes}
use Rattle.pickle_doc.specs.Place.{ops_of, item_at, offset_of}
use Rattle.pickle_doc.specs.Fitting.{left_behind}
use Rattle.pickle_machine.specs.declared.refusal.Refusal.{Refusal}
use Rattle.pickle_machine.specs.declared.loader.LoaderMove.{LoaderMove}
use Rattle.pickle_machine.specs.State.{State, start}
use Rattle.pickle_machine.specs.Run.{run}
use Rattle.pickle_machine.specs.Move.{fresh}
use Rattle.pickle_machine.specs.Loader.{loader_move}
use Rattle.pickle_lenient.specs.declared.taken.Frames.TheVariants as frames
use Rattle.pickle_lenient.specs.declared.taken.Taken.{Taken}
use Rattle.pickle_lenient.specs.Stream.{taken}
use Rattle.pickle_calls.specs.declared.naming.Detail.{Detail}
use Rattle.pickle_calls.specs.Calls.{left_on, left_at}
use Rattle.pickle_further.specs.declared.way.Pickles.{Pickles}
use Rattle.pickle_further.specs.Going.{Standing, Going as Gone, used_op, moved_so, gone_to, gone_by, going, stands_after}
use Rattle.pickle_further.specs.Parts.{ignoring, buffering, are_many, standing_first}
use Rattle.pickle_loader.specs.Environment.{Value, Act}
use Rattle.pickle_loader.specs.Onward.{begins_anew, stands_behind, stands_on, stands, protocol_read, protocol_on, protocol, acts_gone, acts_on, acts_before, unbuffered}
use Rattle.pickle_loader.proofs.Items.{none_taken}
use Rattle.pickle_loader.proofs.Buffers.{plain_item, flat, buffered_same, flat_to}
use Rattle.pickle_loader.proofs.Readings.{beside_all, reads_item}
use Rattle.pickle_loader.proofs.Still.{move_to}
use Rattle.pickle_loader.proofs.Bytes.{run_before}
use Rattle.pickle_loader.proofs.Streams.{Kept, Takes, takes_item, quiet_item}
use Rattle.pickle_loader.proofs.Ends.{IsThrough, rest_end}

abbrev From : Detail → Pickles → Contents → Standing
From how p d = standing_first how p (document_bytes d)

-- where both stand: at the same item, or nowhere
unfoldable pub Where : Detail → Pickles → Contents → ℕ → Option Standing → Type 0
Where how p d n None = stands (ignoring p) (From how p d) n ≡ None
Where how p d n (Some q) = (stands (ignoring p) (From how p d) n ≡ Some (unbuffered q)) × (q.at.left ≡ left_at d n) × (n ≤ length (ops_of d))

pub record Alike (how : Detail) (V : ℕ → Value) (p : Pickles) (d : Contents) (n : ℕ) : Type 0 where
  pub here : Option Standing
  pub stood : stands (buffering p) (From how p d) n ≡ here
  pub there : Where how p d n here
  pub acts : acts_before V (buffering p) (From how p d) n ≡ acts_before V (ignoring p) (From how p d) n
  pub proto : protocol (buffering p) (From how p d) n ≡ protocol (ignoring p) (From how p d) n

alike_first : (how : Detail) (V : ℕ → Value) (p : Pickles) (d : Contents) → Alike how V p d 0
unfolding acts_before protocol stands Where
alike_first how V p d = record { here = Some (From how p d); stood = refl; there = (refl, refl, omega arith); acts = refl; proto = refl }

-- nothing more is read
alike_over : (how : Detail) (V : ℕ → Value) (p : Pickles) (d : Contents) (n : ℕ) → stands (buffering p) (From how p d) n ≡ None → stands (ignoring p) (From how p d) n ≡ None → Alike how V p d n → Alike how V p d (suc n)
unfolding acts_before protocol stands Where
alike_over how V p d n e f alike = record {
  here = None;
  stood = ap (stands_on (buffering p)) e;
  there = ap (stands_on (ignoring p)) f;
  acts =
      ap (λ (o : Option Standing). acts_before V (buffering p) (From how p d) n ++ acts_on V (buffering p) (protocol (buffering p) (From how p d) n) o) e
      ∙ ap (λ (l : List Act). l ++ []) alike.acts
      ∙ ap (λ (o : Option Standing). acts_before V (ignoring p) (From how p d) n ++ acts_on V (ignoring p) (protocol (ignoring p) (From how p d) n) o) (sym f);
  proto =
      ap (λ (o : Option Standing). protocol_on (buffering p) o (protocol (buffering p) (From how p d) n)) e
      ∙ alike.proto
      ∙ ap (λ (o : Option Standing). protocol_on (ignoring p) o (protocol (ignoring p) (From how p d) n)) (sym f);
}

-- ---- an item

pub record Turn (p : Pickles) (d : Contents) (n : ℕ) (q : Standing) : Type 0 where
  pub read : Result Taken FrontFault
  pub plain : Result Taken FrontFault
  pub reads : taken frames.Buffered q.at.left q.rest ≡ read
  pub plainly : taken frames.Ignored 0 q.rest ≡ plain
  pub same : (proto : ℕ) → protocol_read read proto ≡ protocol_read plain proto
  pub goes : gone_by (ignoring p) (unbuffered q) plain ≡ flat (gone_by (buffering p) q read)
  pub lost : (gone_by (buffering p) q read).gone.lost ≡ false
  pub left : (gone_by (buffering p) q read).gone.closing ≡ None → ((gone_by (buffering p) q read).gone.left ≡ left_at d (suc n)) × (suc n ≤ length (ops_of d))

pub item_left : (p : Pickles) (q : Standing) (item : Taken) (m : LoaderMove) (z : Result State Refusal) → (gone_to (buffering p) q item m z).gone.closing ≡ None → (gone_to (buffering p) q item m z).gone.left ≡ item.left
item_left p q item m (Ok t) e = refl
item_left p q item m (Err r) e = absurd cc

pub item_lost : (p : Pickles) (q : Standing) (item : Taken) (m : LoaderMove) (z : Result State Refusal) → item.lost ≡ false → (gone_to (buffering p) q item m z).gone.lost ≡ false
item_lost p q item m (Ok t) e = e
item_lost p q item m (Err r) e = refl

turn_item : (p : Pickles) (d : Contents) (n : ℕ) (q : Standing) (o : Operation) → item_at d n ≡ Some o → n < length (ops_of d) → q.at.left ≡ left_at d n → q.rest ≡ drop (offset_of d n) (document_bytes d) → (takes : Takes (left_at d n) o (drop (offset_of d n) (document_bytes d))) → Kept takes.item (left_behind false (left_at d n) o) → Turn p d n q
turn_item p d n q o here less left rest takes kept =
    let item : Taken = takes.item in
    let reads : taken frames.Buffered q.at.left q.rest ≡ Ok item = ap (λ (k : ℕ). taken frames.Buffered k q.rest) left ∙ ap (taken frames.Buffered (left_at d n)) rest ∙ takes.is in
    let m : LoaderMove = loader_move item.op.opcode item.row (fresh q.state) in
    let z : Result State Refusal = moved_so m (used_op m item.op) q.at.place q.state in
    let next : left_behind false (left_at d n) o ≡ left_at d (suc n) = ap (λ (x : Option Operation). left_on x (left_at d n)) (sym here) in
    record {
      read = Ok item;
      plain = Ok (plain_item item);
      reads = reads;
      plainly = buffered_same frames.Buffered q.at.left 0 q.rest item reads kept.lost;
      same = λ proto. refl;
      goes = flat_to (buffering p) q item m z;
      lost = item_lost p q item m z kept.lost;
      left = λ on. (item_left p q item m z on ∙ kept.left ∙ next, omega (arith, less));
    }

turn_end : (p : Pickles) (d : Contents) (n : ℕ) (q : Standing) → q.rest ≡ [] → Turn p d n q
turn_end p d n q none = record {
  read = taken frames.Buffered q.at.left [];
  plain = taken frames.Ignored 0 [];
  reads = ap (taken frames.Buffered q.at.left) none;
  plainly = ap (taken frames.Ignored 0) none;
  same = λ proto. ap (λ (x : Result Taken FrontFault). protocol_read x proto) (none_taken frames.Buffered q.at.left) ∙ ap (λ (x : Result Taken FrontFault). protocol_read x proto) (sym (none_taken frames.Ignored 0));
  goes = ap (gone_by (ignoring p) (unbuffered q)) (none_taken frames.Ignored 0) ∙ ap (λ (x : Result Taken FrontFault). flat (gone_by (buffering p) q x)) (sym (none_taken frames.Buffered q.at.left));
  lost = ap (λ (x : Result Taken FrontFault). (gone_by (buffering p) q x).gone.lost) (none_taken frames.Buffered q.at.left);
  left = λ on. absurd (ends (ap (λ (x : Result Taken FrontFault). (gone_by (buffering p) q x).gone.closing) (sym (none_taken frames.Buffered q.at.left)) ∙ on));
}
  where
    ends : {A : Type 0} {a : A} → Some a ≡ None → ⊥
    ends e = cc

pub going_of : (p : Pickles) (d : Contents) (n : ℕ) (q : Standing) (t : Turn p d n q) → (going (buffering p) q ≡ gone_by (buffering p) q t.read) × (going (ignoring p) (unbuffered q) ≡ flat (going (buffering p) q))
unfolding going
going_of p d n q t =
    let first : going (buffering p) q ≡ gone_by (buffering p) q t.read = ap (gone_by (buffering p) q) t.reads in
    (first, ap (gone_by (ignoring p) (unbuffered q)) t.plainly ∙ t.goes ∙ ap flat (sym first))

next_where : (how : Detail) (p : Pickles) (d : Contents) (n : ℕ) (q : Standing) (g : Gone) (b : Bool) → is_some g.gone.closing ≡ b → stands (ignoring p) (From how p d) (suc n) ≡ (if b then None else Some (unbuffered (stands_after q g)))
    → (b ≡ false → (g.gone.left ≡ left_at d (suc n)) × (suc n ≤ length (ops_of d))) → Where how p d (suc n) (if b then None else Some (stands_after q g))
unfolding Where
next_where how p d n q g true e f left = f
next_where how p d n q g false e f left = (f, (left refl).0, (left refl).1)

not_closed : {A : Type 0} (c : Option A) → is_some c ≡ false → c ≡ None
not_closed None e = refl
not_closed (Some x) e = absurd cc

flat_after : (q : Standing) (g : Gone) (b : Bool) → (if b then None else Some (stands_after (unbuffered q) (flat g))) ≡ (if b then None else Some (unbuffered (stands_after q g)))
flat_after q g true = refl
flat_after q g false = refl

alike_turn : (how : Detail) (V : ℕ → Value) (p : Pickles) (d : Contents) (n : ℕ) (q : Standing) → stands (buffering p) (From how p d) n ≡ Some q → stands (ignoring p) (From how p d) n ≡ Some (unbuffered q) → Turn p d n q → Alike how V p d n → Alike how V p d (suc n)
unfolding acts_before protocol stands
alike_turn how V p d n q stood plain t alike =
    let both = going_of p d n q t in
    let g : Gone = going (buffering p) q in
    let next : stands (ignoring p) (From how p d) (suc n) ≡ (if is_some g.gone.closing then None else Some (unbuffered (stands_after q g))) =
    ap (stands_on (ignoring p)) plain ∙ ap (stands_behind (unbuffered q)) both.1 ∙ flat_after q g (is_some g.gone.closing) in
    record {
      here = stands_behind q g;
      stood = ap (stands_on (buffering p)) stood;
      there = next_where how p d n q g (is_some g.gone.closing) refl next
          (λ on. subst (λ (x : Gone). x.gone.closing ≡ None → (x.gone.left ≡ left_at d (suc n)) × (suc n ≤ length (ops_of d))) (sym both.0) t.left (not_closed g.gone.closing on));
      acts =
          ap (λ (o : Option Standing). acts_before V (buffering p) (From how p d) n ++ acts_on V (buffering p) (protocol (buffering p) (From how p d) n) o) stood
          ∙ ap (λ (k : ℕ). acts_before V (buffering p) (From how p d) n ++ acts_gone V k q g) alike.proto
          ∙ ap (λ (x : Gone). acts_before V (buffering p) (From how p d) n ++ acts_gone V (protocol (ignoring p) (From how p d) n) (unbuffered q) x) (sym both.1)
          ∙ ap (λ (l : List Act). l ++ acts_gone V (protocol (ignoring p) (From how p d) n) (unbuffered q) (going (ignoring p) (unbuffered q))) alike.acts
          ∙ ap (λ (o : Option Standing). acts_before V (ignoring p) (From how p d) n ++ acts_on V (ignoring p) (protocol (ignoring p) (From how p d) n) o) (sym plain);
      proto =
          ap (λ (o : Option Standing). protocol_on (buffering p) o (protocol (buffering p) (From how p d) n)) stood
          ∙ ap (λ (x : Result Taken FrontFault). protocol_read x (protocol (buffering p) (From how p d) n)) t.reads
          ∙ t.same (protocol (buffering p) (From how p d) n)
          ∙ ap (protocol_read t.plain) alike.proto
          ∙ ap (λ (x : Result Taken FrontFault). protocol_read x (protocol (ignoring p) (From how p d) n)) (sym t.plainly)
          ∙ ap (λ (o : Option Standing). protocol_on (ignoring p) o (protocol (ignoring p) (From how p d) n)) (sym plain);
    }

-- ---- all items

pub turn_of : (how : Detail) (V : ℕ → Value) (p : Pickles) (d : Contents) (n : ℕ) (q : Standing) → IsFormed d → length (document_bytes d) < 2 ^ 64 → begins_anew p ≡ true → (d.many ≡ are_many p) × (d.loose ≡ false) → (t : IsThrough d)
    → stands (ignoring p) (From how p d) n ≡ Some (unbuffered q) → q.at.left ≡ left_at d n → n ≤ length (ops_of d) → Turn p d n q
turn_of how V p d n q formed small anew mode t plain left most = elim (cases_lt n (length (ops_of d))) [
  | inl less ↦
      let after = run_before (start d.many) (ops_of d) (length (ops_of d)) (suc n) t.last t.runs (omega (arith, less)) in
      let m = move_to (start d.many) (ops_of d) n after.0 after.1 in
      let beside = beside_all how V p d formed small anew mode.0 n m.before (unbuffered q) m.reached plain in
      let rest : q.rest ≡ drop (offset_of d n) (document_bytes d) = ap (λ (x : Standing). x.rest) beside.stands_there in
      let takes = takes_item d formed mode.1 small n m.item m.there (reads_item d n m.item formed small m.there) in
      turn_item p d n q m.item m.there less left rest takes (takes.kept (quiet_item d formed mode.1 small t.quiet t.tail n m.item m.there))
  | inr over ↦
      let last : n ≡ length (ops_of d) = omega (arith, over, most) in
      let beside = beside_all how V p d formed small anew mode.0 n t.last (unbuffered q) (ap (run (start d.many) (ops_of d)) last ∙ t.runs) plain in
      turn_end p d n q (ap (λ (x : Standing). x.rest) beside.stands_there ∙ rest_end d n last t.tail)
]

alike_where : (how : Detail) (V : ℕ → Value) (p : Pickles) (d : Contents) (n : ℕ) (x : Option Standing) → IsFormed d → length (document_bytes d) < 2 ^ 64 → begins_anew p ≡ true → (d.many ≡ are_many p) × (d.loose ≡ false) → IsThrough d
    → stands (buffering p) (From how p d) n ≡ x → Where how p d n x → Alike how V p d n → Alike how V p d (suc n)
unfolding Where
alike_where how V p d n None formed small anew mode t stood there alike = alike_over how V p d n stood there alike
alike_where how V p d n (Some q) formed small anew mode t stood there alike = alike_turn how V p d n q stood there.0 (turn_of how V p d n q formed small anew mode t there.0 there.1 there.2) alike

pub alike_all : (how : Detail) (V : ℕ → Value) (p : Pickles) (d : Contents) → IsFormed d → length (document_bytes d) < 2 ^ 64 → begins_anew p ≡ true → (d.many ≡ are_many p) × (d.loose ≡ false) → IsThrough d → (n : ℕ) → Alike how V p d n
alike_all how V p d formed small anew mode t zero = alike_first how V p d
alike_all how V p d formed small anew mode t (suc n) = let before = alike_all how V p d formed small anew mode t n in alike_where how V p d n before.here formed small anew mode t before.stood before.there before

-- what the lines tell of the reading with a buffer
pub streamed : (how : Detail) (V : ℕ → Value) (p : Pickles) (d : Contents) → IsFormed d → length (document_bytes d) < 2 ^ 64 → begins_anew p ≡ true → (d.many ≡ are_many p) × (d.loose ≡ false) → IsThrough d → (n : ℕ)
    → acts_before V (buffering p) (From how p d) n ≡ acts_before V (ignoring p) (From how p d) n
streamed how V p d formed small anew mode t n = (alike_all how V p d formed small anew mode t n).acts
