-- What a list grants, entry by entry.
use Rattle.std.proofs.Common.{◌≡◌, ℕ, ◌+◌, ◌<◌, length, get_or, drop, Bool, true, false, if◌then◌else◌, List, [], ◌∷◌, Option, Some, None, refl, sym, ap, ◌∙◌}
use Rattle.std.specs.Prelude.{◌&&◌, ◌||◌}
use Rattle.std.proofs.lemmas.List.{drop_more}
use Rattle.pickle_allow.specs.declared.list.Use.{Use}
use Rattle.pickle_allow.specs.declared.list.Use.TheVariants as use_of
use Rattle.pickle_allow.specs.declared.list.Uses.{Uses}
use Rattle.pickle_allow.specs.declared.list.Entry.{Entry}
use Rattle.pickle_allow.specs.declared.grant.Grant.{Grant}
use Rattle.pickle_allow.specs.Allow.{Source, covers, is_in, allows}
use Rattle.pickle_allow.specs.Granted.{uses_by, granted_to, both, joined, entry_grant, first_entry}

-- ---- joined one after another

or_none : (a : Bool) → (a || false) ≡ a
or_none true = refl
or_none false = refl

or_assoc : (a b c : Bool) → ((a || b) || c) ≡ (a || (b || c))
or_assoc true b c = refl
or_assoc false b c = refl

abbrev these_uses : Bool → Bool → Bool → Bool → Uses
these_uses call new state fill = record { call = call; new = new; state = state; fill = fill }

same_uses : (a b : Uses) → a.call ≡ b.call → a.new ≡ b.new → a.state ≡ b.state → a.fill ≡ b.fill → a ≡ b
same_uses a b e f g h =
    ap (λ (x : Bool). these_uses x a.new a.state a.fill) e
    ∙ ap (λ (x : Bool). these_uses b.call x a.state a.fill) f
    ∙ ap (λ (x : Bool). these_uses b.call b.new x a.fill) g
    ∙ ap (λ (x : Bool). these_uses b.call b.new b.state x) h

both_assoc : (a b c : Uses) → both (both a b) c ≡ both a (both b c)
both_assoc a b c = same_uses (both (both a b) c) (both a (both b c)) (or_assoc a.call b.call c.call) (or_assoc a.new b.new c.new) (or_assoc a.state b.state c.state) (or_assoc a.fill b.fill c.fill)

abbrev this_grant : Uses → Uses → Option Grant
this_grant now made = Some (record { now = now; made = made })

same_grants : (a b : Grant) → a.now ≡ b.now → a.made ≡ b.made → Some a ≡ Some b
same_grants a b e f = ap (λ (x : Uses). this_grant x a.made) e ∙ ap (λ (x : Uses). this_grant b.now x) f

pub joined_assoc : (a b c : Option Grant) → joined (joined a b) c ≡ joined a (joined b c)
joined_assoc None b c = refl
joined_assoc (Some a) None c = refl
joined_assoc (Some a) (Some b) None = refl
joined_assoc (Some a) (Some b) (Some c) = same_grants _ _ (both_assoc a.now b.now c.now) (both_assoc a.made b.made c.made)

pub joined_none : (a : Option Grant) → joined a None ≡ a
joined_none None = refl
joined_none (Some a) = refl

-- ---- what is in no entry is granted nothing

or_is_false : (a b : Bool) → (a || b) ≡ false → (a ≡ false) × (b ≡ false)
or_is_false true b h = absurd cc
or_is_false false b h = (refl, h)

none_allows : (list : List Entry) (what : Use) (s : Source) → is_in list s.name ≡ false → allows list what s ≡ false
none_allows [] what s h = refl
none_allows (e ∷ list) what s h =
    let n = or_is_false (covers e s.name) (is_in list s.name) h in
    rw n.0 (none_allows list what s n.1)

-- ---- one entry more

-- an entry, with those behind it
entry_first : (e : Entry) (name : List ℕ) (b i : Bool) (now made : Uses) → (i ≡ false → (u : Uses) → (both u now ≡ u) × (both u made ≡ u))
    → (if b || i then Some (record { now = record { call = (b && e.itself.call) || now.call; new = (b && e.itself.new) || now.new; state = (b && e.itself.state) || now.state; fill = (b && e.itself.fill) || now.fill }; made = record { call = (b && e.made.call) || made.call; new = (b && e.made.new) || made.new; state = (b && e.made.state) || made.state; fill = (b && e.made.fill) || made.fill } }) else None)
    ≡ joined (if b then Some (record { now = e.itself; made = e.made }) else None) (if i then Some (record { now = now; made = made }) else None)
entry_first e name true true now made h = refl
entry_first e name true false now made h = same_grants (record { now = both e.itself now; made = both e.made made }) (record { now = e.itself; made = e.made }) (h refl e.itself).0 (h refl e.made).1
entry_first e name false true now made h = refl
entry_first e name false false now made h = refl

nothing_by : (list : List Entry) (s : Source) → is_in list s.name ≡ false → (u : Uses) → both u (uses_by list s) ≡ u
nothing_by list s h u =
    same_uses (both u (uses_by list s)) u
    (rw (none_allows list use_of.Call s h) (or_none u.call))
    (rw (none_allows list use_of.New s h) (or_none u.new))
    (rw (none_allows list use_of.State s h) (or_none u.state))
    (rw (none_allows list use_of.Fill s h) (or_none u.fill))

pub granted_first : (e : Entry) (list : List Entry) (name : List ℕ) → granted_to (e ∷ list) name ≡ joined (entry_grant e name) (granted_to list name)
granted_first e list name =
    entry_first e name (covers e name) (is_in list name) (uses_by list (record { name = name; made = false })) (uses_by list (record { name = name; made = true }))
    (λ h u. (nothing_by list (record { name = name; made = false }) h u, nothing_by list (record { name = name; made = true }) h u))

-- with what was found in the entries before
pub granted_more : (found : Option Grant) (e : Entry) (list : List Entry) (name : List ℕ) → joined (joined found (entry_grant e name)) (granted_to list name) ≡ joined found (granted_to (e ∷ list) name)
granted_more found e list name = joined_assoc found (entry_grant e name) (granted_to list name) ∙ ap (joined found) (sym (granted_first e list name))

-- an entry is read
pub entry_read : (list : List Entry) (name : List ℕ) (i : ℕ) (d : Entry) (found grant next whole : Option Grant) → i < length list → grant ≡ entry_grant (get_or list i d) name → next ≡ joined found grant
    → joined found (granted_to (drop i list) name) ≡ whole → joined next (granted_to (drop (i + 1) list) name) ≡ whole
entry_read list name i d found grant next whole l g n h =
    ap (λ (x : Option Grant). joined x (granted_to (drop (i + 1) list) name)) (n ∙ ap (joined found) g)
    ∙ granted_more found (get_or list i d) (drop (i + 1) list) name
    ∙ ap (λ (es : List Entry). joined found (granted_to es name)) (sym (drop_more list i d l)) ∙ h

-- ---- the first entry

pub this_entry : (e : Entry) (list : List Entry) (name : List ℕ) (n : ℕ) → covers e name ≡ true → first_entry (e ∷ list) name n ≡ Some n
this_entry e list name n h = rw h refl

pub later_entry : (e : Entry) (list : List Entry) (name : List ℕ) (n : ℕ) → covers e name ≡ false → first_entry (e ∷ list) name n ≡ first_entry list name (n + 1)
later_entry e list name n h = rw h refl
