-- What a list grants to an object, as it is kept of each.
-- Source: own.
use Rattle.std.specs.Prelude.{ℕ, ◌+◌, ◌||◌, if◌then◌else◌, true, false, List, [], ◌∷◌, Option, Some, None}
use Rattle.pickle_allow.specs.declared.list.Use.TheVariants as use_of
use Rattle.pickle_allow.specs.declared.list.Uses.{Uses}
use Rattle.pickle_allow.specs.declared.list.Entry.{Entry}
use Rattle.pickle_allow.specs.declared.grant.Grant.{Grant}
use Rattle.pickle_allow.specs.Allow.{Source, covers, is_in, allows}

abbrev pub uses_by : List Entry → Source → Uses
uses_by list s = record { call = allows list use_of.Call s; new = allows list use_of.New s; state = allows list use_of.State s; fill = allows list use_of.Fill s }

abbrev pub grant_of : List Entry → Source → Grant
grant_of list s = record { now = uses_by list s; made = uses_by list (record { name = s.name; made = true }) }

-- to what has a name: nothing where no entry has it
abbrev pub granted_to : List Entry → List ℕ → Option Grant
granted_to list name = if is_in list name then Some (grant_of list (record { name = name; made = false })) else None

-- ---- entry by entry

abbrev pub both : Uses → Uses → Uses
both a b = record { call = a.call || b.call; new = a.new || b.new; state = a.state || b.state; fill = a.fill || b.fill }

abbrev pub joined : Option Grant → Option Grant → Option Grant
joined None more = more
joined (Some a) None = Some a
joined (Some a) (Some b) = Some (record { now = both a.now b.now; made = both a.made b.made })

abbrev pub entry_grant : Entry → List ℕ → Option Grant
entry_grant e name = if covers e name then Some (record { now = e.itself; made = e.made }) else None

-- the place of the first entry that has a name; n is that of the first of these entries
abbrev pub first_entry : List Entry → List ℕ → ℕ → Option ℕ
first_entry [] name n = None
first_entry (e ∷ list) name n = if covers e name then Some n else first_entry list name (n + 1)
