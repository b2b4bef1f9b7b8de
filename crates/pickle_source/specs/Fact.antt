-- What is known of the objects of a pickle while it is read: which of them have a name in its source, how deep brackets stand within one
-- another in the literal of each, and which ask nothing of anybody as a key or a member.
-- Source: own. An object that the pickle puts on the stack once is used once, so that its literal can stand where it is used.
use Rattle.std.specs.Prelude.{ℕ, suc, ◌&&◌, ◌||◌, not, nat_lt, max, if◌then◌else◌, Bool, true, false, List, get_or}
use Rattle.std.specs.List.{fold, list_all}
use Rattle.pickle_ops.specs.declared.kind.Kind.{Kind}
use Rattle.pickle_ops.specs.declared.kind.Kind.TheVariants as kind
use Rattle.pickle_ops.specs.declared.row.Filling.{Filling}
use Rattle.pickle_ops.specs.declared.row.Filling.TheVariants as filling
use Rattle.pickle_ops.specs.declared.object.Change.{Change}
use Rattle.pickle_ops.specs.declared.object.Change.TheVariants as change
use Rattle.pickle_ops.specs.Object.{Object}
use Rattle.pickle_source.specs.declared.fact.Fact.{Fact}
use Rattle.pickle_source.specs.Value.{is_value, is_short_value}

-- of a number that names no object
abbrev pub no_fact : Fact
no_fact = record { named = false; depth = 0; plain = false }

abbrev pub fact_at : List Fact → ℕ → Fact
fact_at facts id = get_or facts id no_fact

-- ---- depth

-- so many brackets may stand within one another; what is deeper has a name
abbrev pub most_depth : ℕ
most_depth = 6

-- the depth of what holds an object of this depth, or its name
abbrev pub over : ℕ → ℕ
over depth = if nat_lt depth most_depth then suc depth else 1

-- of what holds these objects
abbrev pub deepest : List Fact → List ℕ → ℕ
deepest facts ids = fold (λ (most id : ℕ). max most (over (fact_at facts id).depth)) 0 ids

-- of what a change goes into
abbrev pub change_depth : List Fact → Change → ℕ
change_depth facts (change.Append id) = over (fact_at facts id).depth
change_depth facts (change.SetItem key value) = max (over (fact_at facts key).depth) (over (fact_at facts value).depth)
change_depth facts (change.Add id) = over (fact_at facts id).depth
change_depth facts (change.Build id) = over (fact_at facts id).depth

abbrev pub deepest_in : List Fact → List Change → ℕ
deepest_in facts changes = fold (λ (most : ℕ) (c : Change). max most (change_depth facts c)) 0 changes

-- ---- keys and members

-- all these objects ask nothing of anybody
abbrev pub are_plain : List Fact → List ℕ → Bool
are_plain facts ids = list_all (λ (id : ℕ). (fact_at facts id).plain) ids

-- what a change makes a key or a member
abbrev pub key_is_plain : List Fact → Change → Bool
key_is_plain facts (change.Append id) = true
key_is_plain facts (change.SetItem key value) = (fact_at facts key).plain
key_is_plain facts (change.Add id) = (fact_at facts id).plain
key_is_plain facts (change.Build id) = true

abbrev pub keys_are_plain : List Fact → List Change → Bool
keys_are_plain facts changes = list_all (key_is_plain facts) changes

-- ---- kinds

-- its literal holds what is in it
abbrev pub is_held : Kind → Bool
is_held kind.Tuple = true
is_held kind.List = true
is_held kind.Set = true
is_held kind.FrozenSet = true
is_held kind.Dict = true
is_held (kind.ByteArray q) = true
is_held _ = false

-- no literal says what it is: it comes from elsewhere or from a call, is a view, or a value that its line or its bytes do not spell
abbrev pub has_name : Kind → Bool
has_name k = not (is_held k) && not (is_value k)

-- ---- an object that was just made

abbrev pub plain_by : List Fact → Kind → List ℕ → Bool
plain_by facts kind.Tuple parts = are_plain facts parts
plain_by facts kind.FrozenSet parts = are_plain facts parts
plain_by facts k parts = is_value k

abbrev pub depth_by : List Fact → Kind → List ℕ → ℕ
depth_by facts k parts = if is_held k then deepest facts parts else 0

-- also what asks its members for something, since it asks when it is made
abbrev pub starts_named : List Fact → Kind → List ℕ → Bool
starts_named facts kind.FrozenSet parts = not (are_plain facts parts)
starts_named facts kind.Dict parts = not (are_plain facts parts)
starts_named facts k parts = has_name k

abbrev pub fact_of : List Fact → Object → Fact
fact_of facts o = record { named = starts_named facts o.kind o.parts; depth = depth_by facts o.kind o.parts; plain = plain_by facts o.kind o.parts }

-- ---- an object that was filled

-- the literal of such an object says what was put into it so
abbrev pub fits : Filling → Kind → Bool
fits filling.Append kind.List = true
fits filling.SetItem kind.Dict = true
fits filling.Add kind.Set = true
fits _ _ = false

-- after these changes, from what was known before
abbrev pub filled : List Fact → Filling → Kind → List Change → Fact → Fact
filled facts f k changes before =
    record {
      named = (before.named || not (fits f k)) || not (keys_are_plain facts changes);
      depth = max before.depth (deepest_in facts changes);
      plain = before.plain;
    }

-- ---- names

-- an object of this kind, of which this is known when the pickle is read, has a name in the source
abbrev pub is_named : Kind → Fact → Bool
is_named k fact = not (is_short_value k) && (fact.named || not (nat_lt fact.depth most_depth))
