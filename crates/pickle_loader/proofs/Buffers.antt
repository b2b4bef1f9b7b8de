-- A reading that keeps frames in a buffer is, up to the first bytes that it loses, the reading that ignores frames.
use Rattle.std.proofs.Common.{◌≡◌, ℕ, zero, suc, ◌+◌, ◌-◌, Bool, true, false, List, ◌++◌, length, take, drop, Option, Some, None, Ok, Err, refl, sym, ap, subst, ◌∙◌, arith, take_all}
use Rattle.std.specs.Prelude.{◌||◌, ◌&&◌, nat_lt, nat_le, is_some, if◌then◌else◌, Result}
use Rattle.std.proofs.lemmas.Bool.{ltb-false}
use Rattle.std.proofs.lemmas.List.{take-append-drop}
use Rattle.pickle_ops.specs.declared.fault.FrontFault.{FrontFault}
use Rattle.pickle_ops.specs.Front.{front_of}
use Rattle.pickle_doc.specs.DocUnit.{is_stop, is_frame, frame_number}
use Rattle.pickle_machine.specs.declared.refusal.Refusal.{Refusal}
use Rattle.pickle_machine.specs.declared.loader.LoaderMove.{LoaderMove}
use Rattle.pickle_machine.specs.State.{State}
use Rattle.pickle_machine.specs.Move.{fresh}
use Rattle.pickle_machine.specs.Loader.{loader_move}
use Rattle.pickle_lenient.specs.declared.taken.Frames.{Frames}
use Rattle.pickle_lenient.specs.declared.taken.Frames.TheVariants as frames
use Rattle.pickle_lenient.specs.declared.taken.Taken.{Taken}
use Rattle.pickle_lenient.specs.Lenient.{Lenient, lenient}
use Rattle.pickle_lenient.proofs.Behind.{lenient_more}
use Rattle.pickle_lenient.specs.Stream.{first_read, joined, ends_in, refilled, framed, settled, taken_as, plain, within, across, taken}
use Rattle.pickle_text.specs.declared.closing.Closing.{Closing}
use Rattle.pickle_calls.specs.declared.naming.Detail.{Detail}
use Rattle.pickle_further.specs.declared.way.Way.{Way}
use Rattle.pickle_further.specs.Going.{Standing, Going as Gone, used_op, moved_so, gone_to, gone_by, going, stands_after}
use Rattle.pickle_further.specs.Parts.{ignoring, standing_first}
use Rattle.pickle_loader.specs.Environment.{Value, Act}
use Rattle.pickle_loader.specs.Listed.{protocol_after}
use Rattle.pickle_loader.specs.Onward.{stands_behind, stands_on, stands, protocol_read, protocol_on, protocol, acts_gone, acts_on, acts_before, unbuffered, NoneLost, BufferedIsRead}

-- ---- what is taken where nothing is lost

pub none_of : (a b : Bool) → (a || b) ≡ false → (a ≡ false) × (b ≡ false)
none_of true b e = absurd cc
none_of false b e = (refl, e)

-- the item of the same bytes where frames are ignored
abbrev pub plain_item : Taken → Taken
plain_item t = record { op = t.op; row = t.row; size = t.size; left = 0; lost = false }

record Keeps (t item : Taken) : Type 0 where
  same : plain_item t ≡ plain_item item
  lost : t.lost ≡ false

ok_taken : (a b : Taken) (x : Result Taken FrontFault) → x ≡ Ok a → x ≡ Ok b → a ≡ b
ok_taken a b (Ok x) e f = let one : x ≡ a = cc in let two : x ≡ b = cc in sym one ∙ two
ok_taken a b (Err g) e f = absurd cc

keeps_all : (t : Taken) → t.lost ≡ false → Keeps t t
keeps_all t lost = record { same = refl; lost = lost }

keeps_filled : (n : ℕ) (t : Taken) → (refilled n t).lost ≡ false → Keeps t (refilled n t)
keeps_filled n t lost =
    let both = none_of t.lost (nat_lt 0 t.left) lost in
    let size : t.size ≡ t.size + t.left = omega (arith, ltb-false 0 t.left both.1) in
    record { same = ap (λ (m : ℕ). record { op = t.op; row = t.row; size = m; left = 0; lost = false }) size; lost = both.0 }

keeps_framed : (b c : Bool) (n m : ℕ) (t : Taken) → (if b then t else (if c then refilled n t else refilled m t)).lost ≡ false → Keeps t (if b then t else (if c then refilled n t else refilled m t))
keeps_framed true c n m t lost = keeps_all t lost
keeps_framed false true n m t lost = keeps_filled n t lost
keeps_framed false false n m t lost = keeps_filled m t lost

keeps_settled : (b c : Bool) (bytes : List ℕ) (t : Taken) → (if b then refilled 0 t else (if c then framed bytes t (frame_number t.op) else t)).lost ≡ false
    → Keeps t (if b then refilled 0 t else (if c then framed bytes t (frame_number t.op) else t))
keeps_settled true c bytes t lost = keeps_filled 0 t lost
keeps_settled false true bytes t lost =
    keeps_framed (nat_le (frame_number t.op) t.left) (nat_le (frame_number t.op) (length bytes - (t.size + t.left))) (frame_number t.op) (length bytes - (t.size + t.left)) t lost
keeps_settled false false bytes t lost = keeps_all t lost

-- of what is taken
abbrev took : Taken → Result Taken FrontFault
took t = Ok t

keeps_taken : (ends : Bool) (bytes : List ℕ) (t item : Taken) → took (settled ends bytes t) ≡ Ok item → item.lost ≡ false → Keeps t item
keeps_taken ends bytes t item e lost =
    let same : settled ends bytes t ≡ item = ok_taken (settled ends bytes t) item (Ok (settled ends bytes t)) refl e in
    subst (λ (x : Taken). Keeps t x) same (keeps_settled (ends && is_stop t.op.opcode) (is_frame t.op.opcode) bytes t (ap (λ (x : Taken). x.lost) same ∙ lost))

within_same : (ends : Bool) (bytes : List ℕ) (size : ℕ) (x : Result Lenient FrontFault) (item : Taken) → within ends bytes size x ≡ Ok item → item.lost ≡ false → plain x ≡ Ok (plain_item item)
within_same ends bytes size (Ok l) item e lost = let t : Taken = taken_as 0 (size - l.size) l in ap Ok (keeps_taken ends bytes t item e lost).same
within_same ends bytes size (Err f) item e lost = absurd cc

across_same : (ends : Bool) (bytes : List ℕ) (gap : ℕ) (x : Result Lenient FrontFault) (item : Taken) → across ends bytes gap x ≡ Ok item → item.lost ≡ false → (gap ≡ 0) × (plain x ≡ Ok (plain_item item))
across_same ends bytes gap (Ok l) item e lost =
    let t : Taken = taken_as gap 0 l in
    let keeps = keeps_taken ends bytes t item e lost in
    let none : gap ≡ 0 = omega (arith, ltb-false 0 gap keeps.lost) in
    (none, ap (λ (n : ℕ). Ok (record { op = l.op; row = l.row; size = l.size + n; left = 0; lost = false })) (sym none) ∙ ap Ok keeps.same)
across_same ends bytes gap (Err f) item e lost = absurd cc

parted : (left : ℕ) (bytes : List ℕ) → take left bytes ++ drop left bytes ≡ bytes
parted left bytes = take-append-drop left bytes

same_by : (b drops : Bool) (left : ℕ) (bytes : List ℕ) (item : Taken) → ends_in (front_of (take left bytes)) ≡ b
    → (if b then within drops bytes (length (take left bytes)) (lenient (take left bytes)) else across drops bytes (length (take left bytes) - first_read (take left bytes)) (lenient (joined left bytes))) ≡ Ok item → item.lost ≡ false
    → plain (lenient bytes) ≡ Ok (plain_item item)
same_by true drops left bytes item ends e lost =
    ap (λ (l : List ℕ). plain (lenient l)) (sym (parted left bytes)) ∙ ap plain (lenient_more (take left bytes) (drop left bytes) ends)
    ∙ within_same drops bytes (length (take left bytes)) (lenient (take left bytes)) item e lost
same_by false drops left bytes item ends e lost =
    let some : List ℕ = take left bytes in
    let both = across_same drops bytes (length some - first_read some) (lenient (joined left bytes)) item e lost in
    let whole : take (first_read some) some ≡ some = take_all (first_read some) some (omega (arith, both.0)) in
    ap (λ (l : List ℕ). plain (lenient l)) (sym (parted left bytes) ∙ ap (λ (l : List ℕ). l ++ drop left bytes) (sym whole)) ∙ both.1

plain_same : (x : Result Lenient FrontFault) (item : Taken) → plain x ≡ Ok item → plain x ≡ Ok (plain_item item)
plain_same (Ok l) item e = ap (λ (t : Taken). Ok (plain_item t)) (ok_taken (taken_as 0 0 l) item (plain (Ok l)) refl e)
plain_same (Err f) item e = absurd cc

pub buffered_same : (f : Frames) (left n : ℕ) (bytes : List ℕ) (item : Taken) → taken f left bytes ≡ Ok item → item.lost ≡ false → taken frames.Ignored n bytes ≡ Ok (plain_item item)
unfolding taken
buffered_same frames.Ignored left n bytes item e lost = plain_same (lenient bytes) item e
buffered_same frames.Buffered left n bytes item e lost = same_by (ends_in (front_of (take left bytes))) true left bytes item refl e lost
buffered_same frames.Held left n bytes item e lost = same_by (ends_in (front_of (take left bytes))) false left bytes item refl e lost

-- ---- one item

abbrev pub flat : Gone → Gone
flat g = record { gone = record { event = g.gone.event; row = g.gone.row; size = g.gone.size; left = 0; lost = false; closing = g.gone.closing }; state = g.state }

pub flat_to : (w : Way) (q : Standing) (item : Taken) (m : LoaderMove) (z : Result State Refusal) → gone_to (ignoring w.pickles) (unbuffered q) (plain_item item) m z ≡ flat (gone_to w q item m z)
flat_to w q item m (Ok t) = refl
flat_to w q item m (Err r) = refl

-- where it goes on and loses nothing, so does the other reading
record Item (w : Way) (q : Standing) : Type 0 where
  item : Taken
  reads : taken w.frames q.at.left q.rest ≡ Ok item
  plainly : taken frames.Ignored 0 q.rest ≡ Ok (plain_item item)
  goes : going (ignoring w.pickles) (unbuffered q) ≡ flat (going w q)

lost_to : (w : Way) (q : Standing) (item : Taken) (m : LoaderMove) (z : Result State Refusal) → (gone_to w q item m z).gone.closing ≡ None → (gone_to w q item m z).gone.lost ≡ false → item.lost ≡ false
lost_to w q item m (Ok t) e lost = lost
lost_to w q item m (Err r) e lost = absurd cc

item_by : (w : Way) (q : Standing) (y : Result Taken FrontFault) → taken w.frames q.at.left q.rest ≡ y → (gone_by w q y).gone.closing ≡ None → (gone_by w q y).gone.lost ≡ false
    → (item : Taken) × (y ≡ Ok item) × (taken frames.Ignored 0 q.rest ≡ Ok (plain_item item)) × (gone_by (ignoring w.pickles) (unbuffered q) (Ok (plain_item item)) ≡ flat (gone_by w q y))
item_by w q (Err f) is on lost = absurd cc
item_by w q (Ok item) is on lost =
    let m : LoaderMove = loader_move item.op.opcode item.row (fresh q.state) in
    let z : Result State Refusal = moved_so m (used_op m item.op) q.at.place q.state in
    let none : item.lost ≡ false = lost_to w q item m z on lost in
    (item, refl, buffered_same w.frames q.at.left 0 q.rest item is none, flat_to w q item m z)

item_of : (w : Way) (q : Standing) → (going w q).gone.closing ≡ None → (going w q).gone.lost ≡ false → Item w q
unfolding going
item_of w q on lost =
    let x = item_by w q (taken w.frames q.at.left q.rest) refl on lost in
    record { item = x.0; reads = x.1; plainly = x.2; goes = ap (λ (y : Result Taken FrontFault). gone_by (ignoring w.pickles) (unbuffered q) y) x.2 ∙ x.3 }

-- ---- along the items

pub record Alike (how : Detail) (V : ℕ → Value) (w : Way) (bytes : List ℕ) (k : ℕ) (q : Standing) : Type 0 where
  pub stood : stands (ignoring w.pickles) (standing_first how w.pickles bytes) k ≡ Some (unbuffered q)
  pub acts : acts_before V w (standing_first how w.pickles bytes) k ≡ acts_before V (ignoring w.pickles) (standing_first how w.pickles bytes) k
  pub proto : protocol w (standing_first how w.pickles bytes) k ≡ protocol (ignoring w.pickles) (standing_first how w.pickles bytes) k

alike_first : (how : Detail) (V : ℕ → Value) (w : Way) (bytes : List ℕ) (q : Standing) → stands w (standing_first how w.pickles bytes) 0 ≡ Some q → Alike how V w bytes 0 q
unfolding acts_before protocol stands
alike_first how V w bytes q e =
    let same : standing_first how w.pickles bytes ≡ q = cc in
    record { stood = ap (λ (x : Standing). Some (unbuffered x)) same; acts = refl; proto = refl }

pub goes_on : (q p : Standing) (g : Gone) (c : Option Closing) → g.gone.closing ≡ c → stands_behind q g ≡ Some p → g.gone.closing ≡ None
goes_on q p g None is e = is
goes_on q p g (Some c) is e = let bad : None ≡ Some p = ap (λ (b : Bool). if b then None else Some (stands_after q g)) (sym (ap is_some is)) ∙ e in absurd cc

flat_behind : (q p : Standing) (g : Gone) (b : Bool) → (if b then None else Some (stands_after q g)) ≡ Some p → (if b then None else Some (stands_after (unbuffered q) (flat g))) ≡ Some (unbuffered p)
flat_behind q p g true e = absurd cc
flat_behind q p g false e = let same : stands_after q g ≡ p = cc in ap (λ (x : Standing). Some (unbuffered x)) same

alike_next : (how : Detail) (V : ℕ → Value) (w : Way) (bytes : List ℕ) (k : ℕ) (q r : Standing) → stands w (standing_first how w.pickles bytes) k ≡ Some q → stands_behind q (going w q) ≡ Some r → (going w q).gone.lost ≡ false
    → Alike how V w bytes k q → Alike how V w bytes (suc k) r
unfolding acts_before protocol stands
alike_next how V w bytes k q r stood leads lost alike =
    let first : Standing = standing_first how w.pickles bytes in
    let on : (going w q).gone.closing ≡ None = goes_on q r (going w q) (going w q).gone.closing refl leads in
    let x = item_of w q on lost in
    record {
      stood =
          ap (stands_on (ignoring w.pickles)) alike.stood ∙ ap (stands_behind (unbuffered q)) x.goes
          ∙ flat_behind q r (going w q) (is_some (going w q).gone.closing) leads;
      acts =
          ap (λ (o : Option Standing). acts_before V w first k ++ acts_on V w (protocol w first k) o) stood
          ∙ ap (λ (n : ℕ). acts_before V w first k ++ acts_gone V n q (going w q)) alike.proto
          ∙ ap (λ (g : Gone). acts_before V w first k ++ acts_gone V (protocol (ignoring w.pickles) first k) (unbuffered q) g) (sym x.goes)
          ∙ ap (λ (l : List Act). l ++ acts_gone V (protocol (ignoring w.pickles) first k) (unbuffered q) (going (ignoring w.pickles) (unbuffered q))) alike.acts
          ∙ ap (λ (o : Option Standing). acts_before V (ignoring w.pickles) first k ++ acts_on V (ignoring w.pickles) (protocol (ignoring w.pickles) first k) o) (sym alike.stood);
      proto =
          ap (λ (o : Option Standing). protocol_on w o (protocol w first k)) stood
          ∙ ap (λ (y : Result Taken FrontFault). protocol_read y (protocol w first k)) x.reads
          ∙ ap (protocol_after x.item.op.opcode x.item.op.arg) alike.proto
          ∙ ap (λ (y : Result Taken FrontFault). protocol_read y (protocol (ignoring w.pickles) first k)) (sym x.plainly)
          ∙ ap (λ (o : Option Standing). protocol_on (ignoring w.pickles) o (protocol (ignoring w.pickles) first k)) (sym alike.stood);
    }

pub stands_next : (way : Way) (from : Standing) (n : ℕ) → stands way from (suc n) ≡ stands_on way (stands way from n)
unfolding stands
stands_next way from n = refl

pub record Stood (w : Way) (x : Option Standing) (r : Standing) : Type 0 where
  pub before : Standing
  pub there : x ≡ Some before
  pub leads : stands_behind before (going w before) ≡ Some r

pub stood_before : (w : Way) (x : Option Standing) (r : Standing) → stands_on w x ≡ Some r → Stood w x r
stood_before w None r e = absurd cc
stood_before w (Some q) r e = record { before = q; there = refl; leads = e }

pub alike_all : (how : Detail) (V : ℕ → Value) (w : Way) (bytes : List ℕ) (k : ℕ) (q : Standing) → stands w (standing_first how w.pickles bytes) k ≡ Some q → NoneLost w (standing_first how w.pickles bytes) k → Alike how V w bytes k q
alike_all how V w bytes zero q e none = alike_first how V w bytes q e
alike_all how V w bytes (suc k) r e none =
    let x = stood_before w (stands w (standing_first how w.pickles bytes) k) r (sym (stands_next w (standing_first how w.pickles bytes) k) ∙ e) in
    alike_next how V w bytes k x.before r x.there x.leads (none k x.before (omega arith) x.there) (alike_all how V w bytes k x.before x.there (λ j s less there. none j s (omega (arith, less)) there))

pub buffered_is_read : BufferedIsRead
buffered_is_read how V w bytes k q e none =
    let x = alike_all how V w bytes k q e none in
    (x.stood, x.acts)
