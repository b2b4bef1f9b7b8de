-- What is kept of each object while the gate goes over a pickle: what the list grants to it, and what was done with it. These are no definitions of the
-- gate.
use Rattle.std.specs.Prelude.{◌≡◌, ℕ, ◌==◌, ◌&&◌, ◌||◌, not, nat_lt, if◌then◌else◌, Bool, true, false, List, [], ◌∷◌, ◌++◌, length, slice_get, slice_set, Option, Some, None}
use Rattle.std.specs.Option.{option_map_or, unwrap_or}
use Rattle.pickle_ops.specs.declared.kind.Kind.{Kind}
use Rattle.pickle_ops.specs.declared.kind.Kind.TheVariants as kind
use Rattle.pickle_ops.specs.Spelling.{Operation}
use Rattle.pickle_ops.specs.declared.row.Row.{Row}
use Rattle.pickle_ops.specs.Object.{Object}
use Rattle.pickle_machine.specs.State.{State}
use Rattle.pickle_calls.specs.declared.event.Event.{Event}
use Rattle.pickle_calls.specs.declared.event.Event.TheVariants as event
use Rattle.pickle_calls.specs.declared.event.Before.{Before}
use Rattle.pickle_calls.specs.Event.{event_of}
use Rattle.pickle_allow.specs.declared.list.Use.{Use}
use Rattle.pickle_allow.specs.declared.list.Use.TheVariants as use_of
use Rattle.pickle_allow.specs.declared.list.Uses.{Uses}
use Rattle.pickle_allow.specs.declared.list.Entry.{Entry}
use Rattle.pickle_allow.specs.declared.grant.Grant.{Grant}
use Rattle.pickle_allow.specs.Allow.{Source, has}
use Rattle.pickle_allow.specs.Source.{line_text, part_text, import_name, extension_word, persistent_word, buffer_word, source_at, source_of}
use Rattle.pickle_allow.specs.Granted.{grant_of, granted_to}
use Rattle.pickle_allow.specs.Arguments.{may_be_given, may_be_set}
use Rattle.pickle_gate.specs.Gate.{protocol_said, maker_by, part_is, may_name_at, may_be_state, Past, may_happen}
use Rattle.pickle_gate.specs.declared.packed.Kept.{Kept}
use Rattle.pickle_gate.specs.declared.judge.Made.{Made}
use Rattle.pickle_gate.specs.declared.judge.Made.TheVariants as made

-- nothing may be done
abbrev pub no_uses : Uses
no_uses = record { call = false; new = false; state = false; fill = false }

abbrev pub nothing_granted : Grant
nothing_granted = record { now = no_uses; made = no_uses }

-- nothing is granted, and nothing was done
abbrev pub nothing_kept : Kept
nothing_kept = record { grant = nothing_granted; ready = false; used = false; named = false }

-- of an object, by what it comes of
abbrev pub granted : List Entry → Option Source → Grant
granted list None = nothing_granted
granted list (Some s) = grant_of list s

abbrev pub kept_of : List Entry → Option Source → Bool → Bool → Bool → Kept
kept_of list s ready used named = record { grant = granted list s; ready = ready; used = used; named = named }

abbrev pub kept_at : List Kept → ℕ → Kept
kept_at keeps id = unwrap_or (slice_get keeps id) nothing_kept

abbrev pub is_named : List Kept → ℕ → Bool
is_named keeps id = (kept_at keeps id).named

-- of objects that come of these, and with which this was done
pub record AreKept (list : List Entry) (from : List (Option Source)) (past : Past) (keeps : List Kept) : Type 0 where
  pub count : length keeps ≡ length from
  pub each : (id : ℕ) → kept_at keeps id ≡ kept_of list (source_at from id) (past.had id) (past.made id) (past.named id)

-- something may be put into it
abbrev pub may_change : Use → Kept → Bool
may_change what k = has k.grant.now what && not (k.ready || k.used)

-- ---- an object that is made

-- by what the list grants to its name, if it has it
abbrev pub by_grant : Option Grant → Made
by_grant None = made.Forbidden
by_grant (Some g) = made.Allowed (record { grant = g; ready = false; used = false; named = false })

abbrev pub named : List Entry → List ℕ → Made
named list name = by_grant (granted_to list name)

abbrev pub found_made : List Entry → Option (List ℕ) → Made
found_made list None = made.Forbidden
found_made list (Some name) = named list name

-- of what it is made of
abbrev pub made_by : Kept → Kept
made_by k = record { grant = record { now = k.grant.made; made = k.grant.made }; ready = k.ready; used = false; named = k.named }

abbrev pub call_made : Use → Kept → Made
call_made what k = if has k.grant.now what then made.Allowed (made_by k) else made.Forbidden

-- an instance is not made of what has its state
abbrev pub instance_made : Use → Kept → Made
instance_made what k = if has k.grant.now what && not k.ready then made.Allowed (made_by k) else made.Forbidden

-- of the first part of an object
abbrev pub callee : List Kept → Option ℕ → Kept
callee keeps None = nothing_kept
callee keeps (Some id) = kept_at keeps id

abbrev pub called : List Kept → Use → List ℕ → Made
called keeps what parts = call_made what (callee keeps (slice_get parts 0))

abbrev pub instance : List Kept → Use → List ℕ → Made
instance keeps what parts = instance_made what (callee keeps (slice_get parts 0))

abbrev pub making : List Entry → ℕ → List Object → List Kept → Kind → List ℕ → Made
making list proto heap keeps (kind.Global names) parts = found_made list (import_name proto (line_text names.first) (line_text names.second))
making list proto heap keeps kind.StackGlobal parts = found_made list (import_name proto (part_text heap parts 0) (part_text heap parts 1))
making list proto heap keeps (kind.Ext n) parts = named list (extension_word n)
making list proto heap keeps (kind.PersistentLine line) parts = named list persistent_word
making list proto heap keeps kind.Persistent parts = named list persistent_word
making list proto heap keeps (kind.Buffer n) parts = named list buffer_word
making list proto heap keeps kind.Call parts = called keeps use_of.Call parts
making list proto heap keeps kind.New parts = instance keeps use_of.New parts
making list proto heap keeps kind.NewEx parts = instance keeps use_of.New parts
making list proto heap keeps kind.Obj parts = instance keeps use_of.Call parts
making list proto heap keeps (kind.Inst names) parts = made.Forbidden
making list proto heap keeps _ parts = made.Allowed nothing_kept

-- ---- the event of a step

abbrev pub allowed_if : Bool → Made
allowed_if good = if good then made.Allowed nothing_kept else made.Forbidden

-- with arguments that are allowed
abbrev pub only_if : Bool → Made → Made
only_if good m = if good then m else made.Forbidden

-- what comes of it: whether it is allowed, and what is kept of the object that it made
abbrev pub judged_event : List Entry → ℕ → List Object → List Kept → Option Event → Made
judged_event list proto heap keeps None = made.Allowed nothing_kept
judged_event list proto heap keeps (Some (event.Made id)) =
    option_map_or (λ (o : Object). only_if (may_be_given list proto heap o.kind o.parts) (making list proto heap keeps o.kind o.parts)) (slice_get heap id) (made.Allowed nothing_kept)
judged_event list proto heap keeps (Some (event.State value target)) =
    allowed_if (may_change use_of.State (kept_at keeps target) && (may_be_state (is_named keeps) heap value && may_be_set list proto heap value target))
judged_event list proto heap keeps (Some (event.Filled how count target)) = allowed_if (may_change use_of.Fill (kept_at keeps target))

-- what is kept of an object that gets its state, and of one of which something is made
abbrev pub set_ready : Bool → Kept → Kept
set_ready names k = record k { ready = true; named = k.named || names }

abbrev pub set_used : Kept → Kept
set_used k = record k { used = true }

-- what an event gives its state
abbrev pub ready_by : List Object → Option Event → List Kept → List Kept
ready_by heap None keeps = keeps
ready_by heap (Some (event.Made id)) keeps = keeps
ready_by heap (Some (event.State value target)) keeps = slice_set keeps target (set_ready (may_name_at heap value) (kept_at keeps target))
ready_by heap (Some (event.Filled how count target)) keeps = keeps

-- what something is made of
abbrev pub used_by : Option ℕ → List Kept → List Kept
used_by None keeps = keeps
used_by (Some id) keeps = slice_set keeps id (set_used (kept_at keeps id))

-- behind an event: this is kept of the newest of these objects, if nothing is kept of it yet
abbrev pub kept_behind : List Object → Kept → Option Event → List Kept → List Kept
kept_behind heap k e keeps = if nat_lt (length keeps) (length heap) then used_by (maker_by heap e) keeps ++ k ∷ [] else ready_by heap e keeps

-- the event of a step of this row, from what was looked at before it to the state after it: whether it is allowed, and what is kept then
pub record KeepsBehind (list : List Entry) (proto : ℕ) (r : Row) (b : Before) (t : State) (old new : List Kept) (good : Bool) : Type 0 where
  pub bad : good ≡ false → made.Forbidden ≡ judged_event list proto t.heap old (event_of r b t)
  pub fine : good ≡ true → (k : Kept) × (made.Allowed k ≡ judged_event list proto t.heap old (event_of r b t)) × (new ≡ kept_behind t.heap k (event_of r b t) old)

-- the protocol behind an item at this place, from that before it
abbrev pub protocol_here : ℕ → Operation → ℕ → ℕ
protocol_here place o proto = if place == 0 then protocol_said (Some o) else proto

-- ---- the law of what is kept

-- where the gate says that it is allowed, what the list grants to what it comes of; else nothing
abbrev pub judged : List Entry → Bool → Option Source → Bool → Bool → Made
judged list allowed s ready named = if allowed then made.Allowed (kept_of list s ready false named) else made.Forbidden

-- what the object comes of that an event made
abbrev pub event_source : ℕ → List Object → List (Option Source) → Option Event → Option Source
event_source proto heap from None = None
event_source proto heap from (Some (event.Made id)) = option_map_or (λ (o : Object). source_of proto heap from o.kind o.parts) (slice_get heap id) None
event_source proto heap from (Some (event.State value target)) = None
event_source proto heap from (Some (event.Filled how count target)) = None

-- what is kept of objects says of an event what the gate does
abbrev pub KeptIsJudged : Type 0
KeptIsJudged = (list : List Entry) (proto : ℕ) (heap : List Object) (from : List (Option Source)) (past : Past) (keeps : List Kept) (e : Option Event) → AreKept list from past keeps
    → judged_event list proto heap keeps e ≡ judged list (may_happen list proto heap from past e) (event_source proto heap from e) (part_is past.had (maker_by heap e)) (part_is past.named (maker_by heap e))
