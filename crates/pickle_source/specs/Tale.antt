-- What a run leaves for its source: what is known of each object, and what its items do that the source may tell, place by place. What item k
-- adds is a function of the item and of the states before it and after it.
-- Source: own.
use Rattle.std.specs.Prelude.{◌≡◌, ℕ, zero, suc, nat_lt, if◌then◌else◌, Bool, true, List, [], ◌∷◌, ◌++◌, length, set, slice_get, Option, Some, None}
use Rattle.std.specs.Option.{option_map_or}
use Rattle.pickle_ops.specs.Spelling.{Operation}
use Rattle.pickle_ops.specs.declared.row.Row.{Row}
use Rattle.pickle_ops.specs.declared.row.Row.TheVariants as row
use Rattle.pickle_ops.specs.declared.row.Filling.{Filling}
use Rattle.pickle_ops.specs.Object.{Object}
use Rattle.pickle_ops.specs.Row.{row_of}
use Rattle.pickle_doc.specs.Document.{Contents, ReadsIn}
use Rattle.pickle_doc.specs.Place.{ops_of, item_at, offset_of}
use Rattle.pickle_machine.specs.State.{State, start}
use Rattle.pickle_machine.specs.Move.{fresh}
use Rattle.pickle_machine.specs.Run.{run}
use Rattle.pickle_text.specs.declared.closing.Closing.{Closing}
use Rattle.object_texts.specs.Report.{Closes}
use Rattle.pickle_calls.specs.declared.event.Before.{Before}
use Rattle.pickle_calls.specs.Event.{before_of, top_of}
use Rattle.pickle_source.specs.declared.fact.Fact.{Fact}
use Rattle.pickle_source.specs.declared.act.Act.{Act}
use Rattle.pickle_source.specs.declared.act.What.{What}
use Rattle.pickle_source.specs.Fact.{fact_at, fact_of, filled}
use Rattle.pickle_source.specs.Act.{count_of, last_of, what_of, first_of, protocol_after}

-- ---- facts

-- the fact of this number becomes another, if it is there
abbrev pub at_fact : (Fact → Fact) → List Fact → ℕ → List Fact
at_fact f facts id = if nat_lt id (length facts) then set facts id (f (fact_at facts id)) else facts

-- the pickle fetches the object again, so that it has a name
abbrev pub given : Fact → Fact
given fact = record fact { named = true }

-- the last n changes of the object of this number were put into it so
abbrev pub filled_by : Filling → ℕ → List Fact → ℕ → Object → List Fact
filled_by f n facts id o = at_fact (filled facts f o.kind (last_of n o.changes)) facts id

abbrev pub filled_at : List Object → Filling → ℕ → List Fact → ℕ → List Fact
filled_at heap f n facts id = option_map_or (filled_by f n facts id) (slice_get heap id) facts

-- the object of this number was made, if it is there
abbrev pub made_facts : List Object → ℕ → List Fact → List Fact
made_facts heap id facts = option_map_or (λ (o : Object). facts ++ fact_of facts o ∷ []) (slice_get heap id) facts

-- after a step of a row, by what is looked at before it and the state after it
abbrev pub noted : Row → Before → State → List Fact → List Fact
noted (row.Change f) b t facts = filled_at t.heap f (count_of f b (before_of t)) facts (top_of t)
noted (row.CutChange f) b t facts = filled_at t.heap f (count_of f b (before_of t)) facts (top_of t)
noted (row.Get key) b t facts = at_fact given facts (top_of t)
noted row.Dup b t facts = at_fact given facts (top_of t)
noted _ b t facts = made_facts t.heap b.next facts

-- ---- acts

-- what the opcode at this offset does, if the source may tell it
abbrev pub act_at : ℕ → ℕ → ℕ → List Act → Option What → List Act
act_at offset protocol first acts None = acts
act_at offset protocol first acts (Some w) = acts ++ record { offset = offset; protocol = protocol; first = first; what = w } ∷ []

abbrev pub noted_act : ℕ → ℕ → Row → Before → State → List Act → List Act
noted_act offset protocol r b t acts = act_at offset protocol (first_of r b t) acts (what_of r b t)

-- ---- the run

-- from the state before the item, as its move is taken on it, to the one after it
abbrev pub facts_on : Option Operation → Option State → Option State → List Fact → List Fact
facts_on (Some o) (Some s) (Some t) facts = noted (row_of o) (before_of (fresh s)) t facts
facts_on (Some o) (Some s) None facts = facts
facts_on (Some o) None t facts = facts
facts_on None s t facts = facts

abbrev pub acts_on : ℕ → ℕ → Option Operation → Option State → Option State → List Act → List Act
acts_on offset protocol (Some o) (Some s) (Some t) acts = noted_act offset protocol (row_of o) (before_of (fresh s)) t acts
acts_on offset protocol (Some o) (Some s) None acts = acts
acts_on offset protocol (Some o) None t acts = acts
acts_on offset protocol None s t acts = acts

-- what is known when n items are read, as far as they have moves
unfoldable pub facts_at : Contents → ℕ → List Fact
facts_at d zero = []
facts_at d (suc k) = facts_on (item_at d k) (run (start d.many) (ops_of d) k) (run (start d.many) (ops_of d) (suc k)) (facts_at d k)

-- the protocol by which names are read at item k
abbrev pub protocol_on : Option Operation → ℕ → ℕ
protocol_on (Some o) protocol = protocol_after (row_of o) protocol
protocol_on None protocol = protocol

abbrev pub protocol_at : Contents → ℕ → ℕ
protocol_at d zero = 0
protocol_at d (suc k) = protocol_on (item_at d k) (protocol_at d k)

-- what the first n items do that the source may tell
unfoldable pub acts_at : Contents → ℕ → List Act
acts_at d zero = []
acts_at d (suc k) =
    acts_on (offset_of d k) (protocol_at d k) (item_at d k) (run (start d.many) (ops_of d) k) (run (start d.many) (ops_of d) (suc k)) (acts_at d k)

-- ---- the tale of a document

-- the items are run from nothing, as far as they have moves; the state that they reach, what is known of its objects, what the items did,
-- and how the run ended
pub record IsTale (d : Contents) (state : State) (facts : List Fact) (acts : List Act) (closing : Closing) : Type 0 where
  pub place : ℕ
  pub reached : run (start d.many) (ops_of d) place ≡ Some state
  pub closes : Closes d place state closing
  pub facts_are : facts ≡ facts_at d place
  pub acts_are : acts ≡ acts_at d place

-- the same of the document that the bytes read as, as several pickles or as one, and with all items loose or with frames
abbrev pub TaleOf : Bool → Bool → List ℕ → State → List Fact → List Act → Closing → Type 0
TaleOf many loose bytes state facts acts closing = (d : Contents) × ReadsIn many loose bytes d × IsTale d state facts acts closing
