-- What is kept of objects says of others what the gate does.
use Rattle.std.proofs.Common.{◌≡◌, ℕ, Bool, true, false, List, [], ◌∷◌, Option, Some, None, refl, sym, ap, ap₂, ◌∙◌}
use Rattle.std.specs.Prelude.{◌&&◌, ◌||◌, ◌==◌, not, length, slice_get, if◌then◌else◌}
use Rattle.std.specs.Option.{option_map, option_map_or}
use Rattle.std.specs.List.{list_all}
use Rattle.pickle_ops.specs.declared.kind.Kind.{Kind}
use Rattle.pickle_ops.specs.declared.kind.Kind.TheVariants as kind
use Rattle.pickle_ops.specs.Object.{Object}
use Rattle.pickle_allow.specs.declared.list.Use.{Use}
use Rattle.pickle_allow.specs.declared.list.Use.TheVariants as use_of
use Rattle.pickle_allow.specs.declared.list.Entry.{Entry}
use Rattle.pickle_allow.specs.declared.grant.Grant.{Grant}
use Rattle.pickle_allow.specs.Allow.{Source, has, is_in, allows, may_find, may_use}
use Rattle.pickle_allow.specs.Source.{line_text, part_text, of_part, import_name, itself, made_of, source_at, callee_source, extension_word, persistent_word, buffer_word, source_of}
use Rattle.pickle_allow.specs.Granted.{grant_of}
use Rattle.pickle_allow.specs.Arguments.{may_be_given, may_be_set}
use Rattle.pickle_calls.specs.declared.event.Event.TheVariants as event
use Rattle.pickle_gate.specs.declared.packed.Kept.{Kept}
use Rattle.pickle_gate.specs.declared.judge.Made.{Made}
use Rattle.pickle_gate.specs.declared.judge.Made.TheVariants as made
use Rattle.pickle_gate.specs.Gate.{maker, part_is, is_of_ready, has_not, halves_may, may_be_state, may_make, Past}
use Rattle.pickle_gate.specs.Gate.{may_change as may_be_changed}
use Rattle.pickle_gate.specs.Kept.{nothing_kept, granted, kept_of, kept_at, is_named, AreKept, may_change, found_made, call_made, instance_made, callee, called, instance, by_grant, named, making, allowed_if, only_if, judged, KeptIsJudged}

-- ---- tests

and_true : (b : Bool) → (b && true) ≡ b
and_true true = refl
and_true false = refl

-- ---- imports

named_is : (list : List Entry) (name : List ℕ) → named list name ≡ judged list (is_in list name) (Some (itself name)) false false
named_is list name = go (is_in list name)
  where
    go : (b : Bool) → by_grant (if b then Some (grant_of list (itself name)) else None) ≡ judged list b (Some (itself name)) false false
    go true = refl
    go false = refl

found : (list : List Entry) (x : Option (List ℕ)) → found_made list x ≡ judged list (may_find list x) (option_map itself x) false false
found list None = refl
found list (Some name) = named_is list name

-- ---- what may be done

use_is : (list : List Entry) (what : Use) (x : Option Source) → has (granted list x).now what ≡ may_use list what x
use_is list use_of.Call None = refl
use_is list use_of.New None = refl
use_is list use_of.State None = refl
use_is list use_of.Fill None = refl
use_is list use_of.Call (Some s) = refl
use_is list use_of.New (Some s) = refl
use_is list use_of.State (Some s) = refl
use_is list use_of.Fill (Some s) = refl

change_is : (list : List Entry) (from : List (Option Source)) (past : Past) (keeps : List Kept) → AreKept list from past keeps → (what : Use) (id : ℕ)
    → may_change what (kept_at keeps id) ≡ (may_use list what (source_at from id) && may_be_changed past id)
change_is list from past keeps kept what id =
    ap (may_change what) (kept.each id) ∙ ap (λ (b : Bool). b && not (past.had id || past.made id)) (use_is list what (source_at from id))

-- of what is called
made_is_of : (list : List Entry) (x : Option Source) → granted list (made_of x) ≡ record { now = (granted list x).made; made = (granted list x).made }
made_is_of list None = refl
made_is_of list (Some s) = refl

call_by : (list : List Entry) (b r n : Bool) (x : Option Source)
    → (if b then made.Allowed (record { grant = record { now = (granted list x).made; made = (granted list x).made }; ready = r; used = false; named = n }) else made.Forbidden) ≡ judged list b (made_of x) r n
call_by list true r n x = ap (λ (g : Grant). made.Allowed (record { grant = g; ready = r; used = false; named = n })) (sym (made_is_of list x))
call_by list false r n x = refl

call_is : (list : List Entry) (what : Use) (r u n : Bool) (x : Option Source) → call_made what (kept_of list x r u n) ≡ judged list (may_use list what x) (made_of x) r n
call_is list what r u n x = call_by list (has (granted list x).now what) r n x ∙ ap (λ (b : Bool). judged list b (made_of x) r n) (use_is list what x)

instance_is : (list : List Entry) (what : Use) (r u n : Bool) (x : Option Source) → instance_made what (kept_of list x r u n) ≡ judged list (may_use list what x && not r) (made_of x) r n
instance_is list what r u n x =
    call_by list (has (granted list x).now what && not r) r n x ∙ ap (λ (b : Bool). judged list (b && not r) (made_of x) r n) (use_is list what x)

callee_is : (list : List Entry) (from : List (Option Source)) (past : Past) (keeps : List Kept) → AreKept list from past keeps → (p : Option ℕ)
    → callee keeps p ≡ kept_of list (of_part (source_at from) p) (part_is past.had p) (part_is past.made p) (part_is past.named p)
callee_is list from past keeps kept None = refl
callee_is list from past keeps kept (Some id) = kept.each id

called_is : (list : List Entry) (from : List (Option Source)) (past : Past) (keeps : List Kept) → AreKept list from past keeps → (what : Use) (parts : List ℕ)
    → called keeps what parts ≡ judged list (may_use list what (callee_source from parts) && true) (made_of (callee_source from parts)) (part_is past.had (slice_get parts 0)) (part_is past.named (slice_get parts 0))
called_is list from past keeps kept what parts =
    ap (call_made what) (callee_is list from past keeps kept (slice_get parts 0))
    ∙ call_is list what (part_is past.had (slice_get parts 0)) (part_is past.made (slice_get parts 0)) (part_is past.named (slice_get parts 0)) (callee_source from parts)
    ∙ ap (λ (b : Bool). judged list b (made_of (callee_source from parts)) (part_is past.had (slice_get parts 0)) (part_is past.named (slice_get parts 0))) (sym (and_true (may_use list what (callee_source from parts))))

instance_of : (list : List Entry) (from : List (Option Source)) (past : Past) (keeps : List Kept) → AreKept list from past keeps → (what : Use) (parts : List ℕ)
    → instance keeps what parts
    ≡ judged list (may_use list what (callee_source from parts) && not (part_is past.had (slice_get parts 0))) (made_of (callee_source from parts)) (part_is past.had (slice_get parts 0)) (part_is past.named (slice_get parts 0))
instance_of list from past keeps kept what parts =
    ap (instance_made what) (callee_is list from past keeps kept (slice_get parts 0))
    ∙ instance_is list what (part_is past.had (slice_get parts 0)) (part_is past.made (slice_get parts 0)) (part_is past.named (slice_get parts 0)) (callee_source from parts)

-- ---- an object that is made

-- whatever has its state, it may be made
free : (list : List Entry) (m : Made) (b : Bool) (s : Option Source) → m ≡ judged list b s false false → m ≡ judged list (b && true) s false false
free list m b s e = e ∙ ap (λ (c : Bool). judged list c s false false) (sym (and_true b))

found_free : (list : List Entry) (x : Option (List ℕ)) → found_made list x ≡ judged list (may_find list x && true) (option_map itself x) false false
found_free list x = free list (found_made list x) (may_find list x) (option_map itself x) (found list x)

named_free : (list : List Entry) (name : List ℕ) → named list name ≡ judged list (is_in list name && true) (Some (itself name)) false false
named_free list name = free list (named list name) (is_in list name) (Some (itself name)) (named_is list name)

making_is : (list : List Entry) (proto : ℕ) (heap : List Object) (from : List (Option Source)) (past : Past) (keeps : List Kept) → AreKept list from past keeps → (k : Kind) (parts : List ℕ)
    → making list proto heap keeps k parts ≡ judged list (may_make list proto heap from k parts && not (is_of_ready past.had k parts)) (source_of proto heap from k parts) (part_is past.had (maker k parts)) (part_is past.named (maker k parts))
making_is list proto heap from past keeps kept (kind.Global names) parts = found_free list (import_name proto (line_text names.first) (line_text names.second))
making_is list proto heap from past keeps kept kind.StackGlobal parts = found_free list (import_name proto (part_text heap parts 0) (part_text heap parts 1))
making_is list proto heap from past keeps kept (kind.Ext n) parts = named_free list (extension_word n)
making_is list proto heap from past keeps kept (kind.PersistentLine line) parts = named_free list persistent_word
making_is list proto heap from past keeps kept kind.Persistent parts = named_free list persistent_word
making_is list proto heap from past keeps kept (kind.Buffer n) parts = named_free list buffer_word
making_is list proto heap from past keeps kept kind.Call parts = called_is list from past keeps kept use_of.Call parts
making_is list proto heap from past keeps kept kind.New parts = instance_of list from past keeps kept use_of.New parts
making_is list proto heap from past keeps kept kind.NewEx parts = instance_of list from past keeps kept use_of.New parts
making_is list proto heap from past keeps kept kind.Obj parts = instance_of list from past keeps kept use_of.Call parts
making_is list proto heap from past keeps kept _ parts = refl

-- ---- the event of a step

given_is : (list : List Entry) (good allowed fit ready named : Bool) (s : Option Source) → only_if good (judged list (allowed && fit) s ready named) ≡ judged list (allowed && (good && fit)) s ready named
given_is list true allowed fit ready named s = refl
given_is list false true fit ready named s = refl
given_is list false false fit ready named s = refl

made_is : (list : List Entry) (proto : ℕ) (heap : List Object) (from : List (Option Source)) (past : Past) (keeps : List Kept) → AreKept list from past keeps → (x : Option Object)
    → option_map_or (λ (o : Object). only_if (may_be_given list proto heap o.kind o.parts) (making list proto heap keeps o.kind o.parts)) x (made.Allowed nothing_kept)
    ≡ judged list (option_map_or (λ (o : Object). may_make list proto heap from o.kind o.parts && (may_be_given list proto heap o.kind o.parts && not (is_of_ready past.had o.kind o.parts))) x true) (option_map_or (λ (o : Object). source_of proto heap from o.kind o.parts) x None) (part_is past.had (option_map_or (λ (o : Object). maker o.kind o.parts) x None)) (part_is past.named (option_map_or (λ (o : Object). maker o.kind o.parts) x None))
made_is list proto heap from past keeps kept None = refl
made_is list proto heap from past keeps kept (Some o) =
    ap (only_if (may_be_given list proto heap o.kind o.parts)) (making_is list proto heap from past keeps kept o.kind o.parts)
    ∙ given_is list (may_be_given list proto heap o.kind o.parts) (may_make list proto heap from o.kind o.parts) (not (is_of_ready past.had o.kind o.parts)) (part_is past.had (maker o.kind o.parts)) (part_is past.named (maker o.kind o.parts)) (source_of proto heap from o.kind o.parts)

-- ---- what may be a state

all_same : (f g : ℕ → Bool) → ((id : ℕ) → f id ≡ g id) → (ids : List ℕ) → list_all (has_not f) ids ≡ list_all (has_not g) ids
all_same f g same [] = refl
all_same f g same (id ∷ ids) = ap₂ (λ (a b : Bool). not a && b) (same id) (all_same f g same ids)

halves_same : (f g : ℕ → Bool) → ((id : ℕ) → f id ≡ g id) → (heap : List Object) (k : Kind) (parts : List ℕ) → halves_may f heap k parts ≡ halves_may g heap k parts
halves_same f g same heap kind.Tuple parts = ap (λ (b : Bool). not (length parts == 2) || b) (all_same f g same parts)
halves_same f g same heap _ parts = refl

whole_same : (f g : ℕ → Bool) → ((id : ℕ) → f id ≡ g id) → (heap : List Object) (x : Option Object)
    → option_map_or (λ (o : Object). halves_may f heap o.kind o.parts) x true ≡ option_map_or (λ (o : Object). halves_may g heap o.kind o.parts) x true
whole_same f g same heap None = refl
whole_same f g same heap (Some o) = halves_same f g same heap o.kind o.parts

state_same : (f g : ℕ → Bool) → ((id : ℕ) → f id ≡ g id) → (heap : List Object) (value : ℕ) → may_be_state f heap value ≡ may_be_state g heap value
state_same f g same heap value = ap₂ (λ (a b : Bool). not a && b) (same value) (whole_same f g same heap (slice_get heap value))

named_same : (list : List Entry) (from : List (Option Source)) (past : Past) (keeps : List Kept) → AreKept list from past keeps → (id : ℕ) → is_named keeps id ≡ past.named id
named_same list from past keeps kept id = ap (λ (k : Kept). k.named) (kept.each id)

turned : (a c s g : Bool) → ((a && c) && (s && g)) ≡ (a && (g && (s && c)))
turned true true true true = refl
turned true true true false = refl
turned true true false true = refl
turned true true false false = refl
turned true false true true = refl
turned true false true false = refl
turned true false false true = refl
turned true false false false = refl
turned false c s g = refl

pub kept_is_judged : KeptIsJudged
kept_is_judged list proto heap from past keeps None kept = refl
kept_is_judged list proto heap from past keeps (Some (event.Made id)) kept = made_is list proto heap from past keeps kept (slice_get heap id)
kept_is_judged list proto heap from past keeps (Some (event.State value target)) kept =
    ap₂ (λ (a s : Bool). allowed_if (a && (s && may_be_set list proto heap value target)))
    (change_is list from past keeps kept use_of.State target)
    (state_same (is_named keeps) past.named (named_same list from past keeps kept) heap value)
    ∙ ap allowed_if (turned (may_use list use_of.State (source_at from target)) (may_be_changed past target) (may_be_state past.named heap value) (may_be_set list proto heap value target))
kept_is_judged list proto heap from past keeps (Some (event.Filled how count target)) kept =
    ap allowed_if (change_is list from past keeps kept use_of.Fill target)
