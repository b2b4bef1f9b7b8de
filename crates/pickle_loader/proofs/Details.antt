-- How much of an argument is shown changes nothing of a reading.
use Rattle.std.proofs.Common.{◌≡◌, ℕ, zero, suc, Bool, true, false, List, ◌++◌, Option, Some, None, Ok, Err, refl, sym, ap, ap₂, ◌∙◌}
use Rattle.std.specs.Prelude.{is_some, if◌then◌else◌, Result, ⊤}
use Rattle.pickle_ops.specs.declared.fault.FrontFault.{FrontFault}
use Rattle.pickle_machine.specs.declared.refusal.Refusal.{Refusal}
use Rattle.pickle_machine.specs.declared.loader.LoaderMove.{LoaderMove}
use Rattle.pickle_machine.specs.State.{State}
use Rattle.pickle_machine.specs.Move.{fresh}
use Rattle.pickle_machine.specs.Loader.{loader_move}
use Rattle.pickle_lenient.specs.declared.taken.Taken.{Taken}
use Rattle.pickle_lenient.specs.Stream.{taken}
use Rattle.pickle_calls.specs.declared.naming.Naming.{Naming}
use Rattle.pickle_calls.specs.declared.naming.Detail.{Detail}
use Rattle.pickle_calls.specs.Naming.{begin, naming_after}
use Rattle.pickle_further.specs.declared.way.Way.{Way}
use Rattle.pickle_further.specs.Going.{Standing, Going, used_op, moved_so, gone_to, gone_by, going, stands_after}
use Rattle.pickle_further.specs.Parts.{standing_first}
use Rattle.pickle_loader.specs.Environment.{Value, Act}
use Rattle.pickle_loader.specs.Onward.{stands_behind, stands_on, stands, protocol_on, protocol, acts_gone, acts_on, acts_before}
use Rattle.pickle_loader.specs.Text.{DetailTellsAlike}

-- the same with names read otherwise
abbrev said : Naming → Standing → Standing
said m q = record { state = q.state; rest = q.rest; at = q.at; naming = m }

said_to : (w : Way) (m : Naming) (q : Standing) (item : Taken) (x : LoaderMove) (z : Result State Refusal) → gone_to w (said m q) item x z ≡ gone_to w q item x z
said_to w m q item x (Ok t) = refl
said_to w m q item x (Err r) = refl

said_by : (w : Way) (m : Naming) (q : Standing) (y : Result Taken FrontFault) → gone_by w (said m q) y ≡ gone_by w q y
said_by w m q (Err f) = refl
said_by w m q (Ok item) =
    let x : LoaderMove = loader_move item.op.opcode item.row (fresh q.state) in
    said_to w m q item x (moved_so x (used_op x item.op) q.at.place q.state)

going_said : (w : Way) (m : Naming) (q : Standing) → going w (said m q) ≡ going w q
unfolding going
going_said w m q = said_by w m q (taken w.frames q.at.left q.rest)

-- both stand at one item, or nowhere
abbrev Named : Option Standing → Option Standing → Type 0
Named None None = ⊤
Named (Some q) (Some r) = (m : Naming) × (r ≡ said m q)
Named None (Some r) = ⊥
Named (Some q) None = ⊥

named_behind : (q : Standing) (m : Naming) (g : Going) (b : Bool) → Named (if b then None else Some (stands_after q g)) (if b then None else Some (stands_after (said m q) g))
named_behind q m g true = tt
named_behind q m g false = (naming_after g.gone.row _ m, refl)

named_is : (q : Standing) (m : Naming) (g h : Going) → h ≡ g → Named (stands_behind q g) (stands_behind (said m q) h)
named_is q m g h e = rw e (named_behind q m g (is_some g.gone.closing))

named_on : (w : Way) (x y : Option Standing) → Named x y → Named (stands_on w x) (stands_on w y)
named_on w None None h = tt
named_on w (Some q) (Some r) (m, e) = rw e (named_is q m (going w q) (going w (said m q)) (going_said w m q))
named_on w None (Some r) h = absurd h
named_on w (Some q) None h = absurd h

named_all : (w : Way) (p : Standing) (m : Naming) (n : ℕ) → Named (stands w p n) (stands w (said m p) n)
unfolding stands
named_all w p m zero = (m, refl)
named_all w p m (suc n) = named_on w (stands w p n) (stands w (said m p) n) (named_all w p m n)

-- where one stands, so does the other
pub record NamedSo (w : Way) (q : Standing) (y : Option Standing) : Type 0 where
  pub other : Standing
  pub there : y ≡ Some other
  pub goes : going w other ≡ going w q
  pub rest : other.rest ≡ q.rest
  pub at : other.at ≡ q.at

named_some : (w : Way) (x y : Option Standing) (q : Standing) → Named x y → x ≡ Some q → NamedSo w q y
named_some w (Some r) (Some p) q (m, e) is =
    let same : r ≡ q = cc in
    record {
      other = p;
      there = refl;
      goes = ap (going w) e ∙ going_said w m r ∙ ap (going w) same;
      rest = ap (λ (x : Standing). x.rest) e ∙ ap (λ (x : Standing). x.rest) same;
      at = ap (λ (x : Standing). x.at) e ∙ ap (λ (x : Standing). x.at) same;
    }
named_some w (Some r) None q h is = absurd h
named_some w None y q h is = absurd cc

pub stands_named : (a b : Detail) (w : Way) (bytes : List ℕ) (n : ℕ) (q : Standing) → stands w (standing_first a w.pickles bytes) n ≡ Some q → NamedSo w q (stands w (standing_first b w.pickles bytes) n)
stands_named a b w bytes n q is =
    named_some w (stands w (standing_first a w.pickles bytes) n) (stands w (standing_first b w.pickles bytes) n) q (named_all w (standing_first a w.pickles bytes) (begin b 0) n) is

none_named : (x y : Option Standing) → Named x y → x ≡ None → y ≡ None
none_named None None h is = refl
none_named None (Some r) h is = absurd h
none_named (Some q) y h is = absurd cc

pub over_named : (a b : Detail) (w : Way) (bytes : List ℕ) (n : ℕ) → stands w (standing_first a w.pickles bytes) n ≡ None → stands w (standing_first b w.pickles bytes) n ≡ None
over_named a b w bytes n is = none_named (stands w (standing_first a w.pickles bytes) n) (stands w (standing_first b w.pickles bytes) n) (named_all w (standing_first a w.pickles bytes) (begin b 0) n) is

proto_on : (w : Way) (x y : Option Standing) (before : ℕ) → Named x y → protocol_on w x before ≡ protocol_on w y before
proto_on w None None before h = refl
proto_on w (Some q) (Some r) before (m, e) = rw e refl
proto_on w None (Some r) before h = absurd h
proto_on w (Some q) None before h = absurd h

acts_same : (V : ℕ → Value) (w : Way) (x y : Option Standing) (proto : ℕ) → Named x y → acts_on V w proto x ≡ acts_on V w proto y
acts_same V w None None proto h = refl
acts_same V w (Some q) (Some r) proto (m, e) =
    ap (λ (g : Going). acts_gone V proto q g) (sym (going_said w m q)) ∙ ap (λ (y : Standing). acts_gone V proto y (going w y)) (sym e)
acts_same V w None (Some r) proto h = absurd h
acts_same V w (Some q) None proto h = absurd h

proto_all : (w : Way) (p : Standing) (m : Naming) (n : ℕ) → protocol w p n ≡ protocol w (said m p) n
unfolding protocol
proto_all w p m zero = refl
proto_all w p m (suc n) = ap (protocol_on w (stands w p n)) (proto_all w p m n) ∙ proto_on w (stands w p n) (stands w (said m p) n) (protocol w (said m p) n) (named_all w p m n)

acts_all : (V : ℕ → Value) (w : Way) (p : Standing) (m : Naming) (n : ℕ) → acts_before V w p n ≡ acts_before V w (said m p) n
unfolding acts_before
acts_all V w p m zero = refl
acts_all V w p m (suc n) =
    ap₂ (λ (a b : List Act). a ++ b) (acts_all V w p m n)
    (ap (λ (k : ℕ). acts_on V w k (stands w p n)) (proto_all w p m n) ∙ acts_same V w (stands w p n) (stands w (said m p) n) (protocol w (said m p) n) (named_all w p m n))

pub detail_tells_alike : DetailTellsAlike
detail_tells_alike a b V w bytes n = acts_all V w (standing_first a w.pickles bytes) (begin b 0) n
