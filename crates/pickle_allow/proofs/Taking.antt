-- Arguments that are taken, item by item and entry by entry.
use Rattle.std.proofs.Common.{◌≡◌, ℕ, ◌+◌, ◌<◌, Bool, true, false, List, [], ◌∷◌, ◌++◌, length, drop, get_or, Option, Some, None, option_map, Bor, refl, sym, ap, ap₂, ◌∙◌, append_assoc}
use Rattle.std.specs.Prelude.{◌||◌, not, slice_get, if◌then◌else◌}
use Rattle.std.specs.Option.{option_map_or}
use Rattle.std.specs.List.{list_any}
use Rattle.std.proofs.lemmas.List.{drop_more}
use Rattle.pickle_ops.specs.declared.kind.Kind.{Kind}
use Rattle.pickle_ops.specs.declared.kind.Kind.TheVariants as kind
use Rattle.pickle_ops.specs.declared.kind_ref.Look.{Look}
use Rattle.pickle_ops.specs.Object.{Object}
use Rattle.pickle_ops.specs.KindRef.{kind_view, parts_shown, shown, look_shown}
use Rattle.pickle_allow.specs.declared.list.Entry.{Entry}
use Rattle.pickle_allow.specs.declared.limit.Limit.{Limit}
use Rattle.pickle_allow.specs.Grammar.{is_blank, before, behind}
use Rattle.pickle_allow.specs.Named.{kind_import, import_at, kind_name, name_at, called_name, callee_name, maker_at, tuple_items, items_at, arguments_of, are_made_bytes, is_endless_call, is_endless}
use Rattle.pickle_allow.specs.Arguments.{Argument, item_takes, argument_of, item_takes_at, behind_item, items_take, is_limit, limits_of, name_allows, limit_of, may_be_given}
use Rattle.pickle_allow.proofs.Cuts.{split_left, split_cut, split_some}

-- ---- objects that are looked at

pub there : {A : Type 0} (f : Kind → List ℕ → A) (d : A) (l : Look) (g : Option Object) → ((k : Kind) (parts : List ℕ) → f k (parts_shown k parts) ≡ f k parts)
    → Some (look_shown l) ≡ option_map shown g → f (kind_view l.kind) l.parts.now ≡ option_map_or (λ (o : Object). f o.kind o.parts) g d
there f d l None same e = absurd cc
there f d l (Some o) same e =
    sym (same (kind_view l.kind) l.parts.now)
    ∙ ap (λ (x : Option Object). option_map_or (λ (o : Object). f o.kind o.parts) x d) e
    ∙ same o.kind o.parts

pub absent : {A : Type 0} (f : Object → A) (d : A) (g : Option Object) → None ≡ option_map shown g → d ≡ option_map_or f g d
absent f d None e = refl
absent f d (Some o) e = absurd cc

import_same : (proto : ℕ) (heap : List Object) (k : Kind) (parts : List ℕ) → kind_import proto heap k (parts_shown k parts) ≡ kind_import proto heap k parts
import_same proto heap kind.StackGlobal parts = refl
import_same proto heap _ parts = refl

pub import_there : (proto : ℕ) (heap : List Object) (id : ℕ) (l : Look) → Some (look_shown l) ≡ option_map shown (slice_get heap id) → kind_import proto heap (kind_view l.kind) l.parts.now ≡ import_at proto heap id
import_there proto heap id l e = there (kind_import proto heap) None l (slice_get heap id) (import_same proto heap) e

name_same : (proto : ℕ) (heap : List Object) (k : Kind) (parts : List ℕ) → kind_name proto heap k (parts_shown k parts) ≡ kind_name proto heap k parts
name_same proto heap kind.StackGlobal parts = refl
name_same proto heap _ parts = refl

pub name_there : (proto : ℕ) (heap : List Object) (id : ℕ) (l : Look) → Some (look_shown l) ≡ option_map shown (slice_get heap id) → kind_name proto heap (kind_view l.kind) l.parts.now ≡ name_at proto heap id
name_there proto heap id l e = there (kind_name proto heap) None l (slice_get heap id) (name_same proto heap) e

callee_same : (proto : ℕ) (heap : List Object) (k : Kind) (parts : List ℕ) → callee_name proto heap k (parts_shown k parts) ≡ callee_name proto heap k parts
callee_same proto heap kind.Call parts = refl
callee_same proto heap kind.New parts = refl
callee_same proto heap kind.NewEx parts = refl
callee_same proto heap kind.Obj parts = refl
callee_same proto heap (kind.Inst names) parts = refl
callee_same proto heap _ parts = refl

pub callee_there : (proto : ℕ) (heap : List Object) (id : ℕ) (l : Look) → Some (look_shown l) ≡ option_map shown (slice_get heap id) → callee_name proto heap (kind_view l.kind) l.parts.now ≡ maker_at proto heap id
callee_there proto heap id l e = there (callee_name proto heap) None l (slice_get heap id) (callee_same proto heap) e

items_same : (k : Kind) (parts : List ℕ) → tuple_items k (parts_shown k parts) ≡ tuple_items k parts
items_same kind.Tuple parts = refl
items_same _ parts = refl

pub items_there : (heap : List Object) (id : ℕ) (l : Look) → Some (look_shown l) ≡ option_map shown (slice_get heap id) → tuple_items (kind_view l.kind) l.parts.now ≡ items_at heap id
items_there heap id l e = there tuple_items None l (slice_get heap id) items_same e

arguments_same : (heap : List Object) (k : Kind) (parts : List ℕ) → arguments_of heap k (parts_shown k parts) ≡ arguments_of heap k parts
arguments_same heap kind.Call parts = refl
arguments_same heap kind.New parts = refl
arguments_same heap kind.Obj parts = refl
arguments_same heap (kind.Inst names) parts = refl
arguments_same heap _ parts = refl

endless_same : (proto : ℕ) (heap : List Object) (k : Kind) (parts : List ℕ) → is_endless proto heap k (parts_shown k parts) ≡ is_endless proto heap k parts
endless_same proto heap k parts =
    ap₂ (λ (ids name : Option (List ℕ)). option_map_or (λ (n : List ℕ). is_endless_call proto heap n ids) name false) (arguments_same heap k parts) (callee_same proto heap k parts)

bytes_same : (proto : ℕ) (heap : List Object) (k : Kind) (parts : List ℕ) → are_made_bytes proto heap k (parts_shown k parts) ≡ are_made_bytes proto heap k parts
bytes_same proto heap kind.Call parts = refl
bytes_same proto heap _ parts = refl

abbrev this_argument : Kind → Bool → Option (List ℕ) → Bool → Argument
this_argument k made name endless = record { kind = k; name = name; endless = endless; made_bytes = made }

argument_same : (proto : ℕ) (heap : List Object) (k : Kind) (parts : List ℕ) → argument_of proto heap k (parts_shown k parts) ≡ argument_of proto heap k parts
argument_same proto heap k parts =
    ap₂ (this_argument k (are_made_bytes proto heap k (parts_shown k parts))) (import_same proto heap k parts) (endless_same proto heap k parts)
    ∙ ap (λ (b : Bool). this_argument k b (kind_import proto heap k parts) (is_endless proto heap k parts)) (bytes_same proto heap k parts)

pub item_there : (list : List Entry) (proto : ℕ) (heap : List Object) (item : List ℕ) (id : ℕ) (l : Look) → Some (look_shown l) ≡ option_map shown (slice_get heap id)
    → item_takes list item (argument_of proto heap (kind_view l.kind) l.parts.now) ≡ item_takes_at list proto heap item id
item_there list proto heap item id l e =
    there (λ (k : Kind) (parts : List ℕ). item_takes list item (argument_of proto heap k parts)) false l (slice_get heap id) (λ k parts. ap (item_takes list item) (argument_same proto heap k parts)) e

pub given_same : (list : List Entry) (proto : ℕ) (heap : List Object) (k : Kind) (parts : List ℕ) → may_be_given list proto heap k (parts_shown k parts) ≡ may_be_given list proto heap k parts
given_same list proto heap k parts =
    ap₂ (λ (ids name : Option (List ℕ)). option_map_or (name_allows list proto heap (limit_of k) ids) name true) (arguments_same heap k parts) (callee_same proto heap k parts)

-- ---- items

-- what is left, by its first item
by_item : (list : List Entry) (proto : ℕ) (heap : List Object) (ids : List ℕ) (n : ℕ) (rest : Option (Bor (List ℕ))) (left : Bor (List ℕ)) (front : List ℕ) (next : Option ℕ) → rest ≡ Some left → front ≡ before is_blank left.now
    → next ≡ behind_item list proto heap ids n front
    → option_map_or (λ (m : ℕ). items_take list proto heap ids m (split_left is_blank (behind is_blank left.now))) next false ≡ items_take list proto heap ids n (split_left is_blank (option_map (λ r. r.now) rest))
by_item list proto heap ids n rest left front next e f r =
    let after = split_left is_blank (behind is_blank left.now) in
    ap (λ (x : Option ℕ). option_map_or (λ (m : ℕ). items_take list proto heap ids m after) x false) (r ∙ ap (behind_item list proto heap ids n) f)
    ∙ sym (ap (items_take list proto heap ids n) (split_some is_blank rest left e ∙ split_cut is_blank left.now))

-- an item takes its argument
pub item_read : (list : List Entry) (proto : ℕ) (heap : List Object) (ids : List ℕ) (n m : ℕ) (rest next : Option (Bor (List ℕ))) (left : Bor (List ℕ)) (front : List ℕ) (whole : Bool) → rest ≡ Some left → front ≡ before is_blank left.now
    → option_map (λ r. r.now) next ≡ behind is_blank left.now → Some m ≡ behind_item list proto heap ids n front → items_take list proto heap ids n (split_left is_blank (option_map (λ r. r.now) rest)) ≡ whole
    → items_take list proto heap ids m (split_left is_blank (option_map (λ r. r.now) next)) ≡ whole
item_read list proto heap ids n m rest next left front whole e f b r h =
    ap (λ (o : Option (List ℕ)). items_take list proto heap ids m (split_left is_blank o)) b ∙ by_item list proto heap ids n rest left front (Some m) e f r ∙ h

pub item_wrong : (list : List Entry) (proto : ℕ) (heap : List Object) (ids : List ℕ) (n : ℕ) (rest : Option (Bor (List ℕ))) (left : Bor (List ℕ)) (front : List ℕ) (whole : Bool) → rest ≡ Some left → front ≡ before is_blank left.now
    → None ≡ behind_item list proto heap ids n front → items_take list proto heap ids n (split_left is_blank (option_map (λ r. r.now) rest)) ≡ whole → false ≡ whole
item_wrong list proto heap ids n rest left front whole e f r h = by_item list proto heap ids n rest left front None e f r ∙ h

-- ---- entries

limit_first : (e : Entry) (list limits : List Entry) (b : Bool) → is_limit e ≡ b → (if b then limits ++ e ∷ [] else limits) ++ limits_of list ≡ limits ++ limits_of (e ∷ list)
limit_first e list limits true h = append_assoc limits (e ∷ []) (limits_of list) ∙ rw h refl
limit_first e list limits false h = rw h refl

-- an entry is looked at
pub limit_read : (list : List Entry) (i : ℕ) (d : Entry) (limits next whole : List Entry) (b : Bool) → i < length list → b ≡ is_limit (get_or list i d) → next ≡ (if b then limits ++ get_or list i d ∷ [] else limits)
    → limits ++ limits_of (drop i list) ≡ whole → next ++ limits_of (drop (i + 1) list) ≡ whole
limit_read list i d limits next whole b l g n h =
    ap (λ (x : List Entry). x ++ limits_of (drop (i + 1) list)) n
    ∙ limit_first (get_or list i d) (drop (i + 1) list) limits b (sym g)
    ∙ ap (λ (es : List Entry). limits ++ limits_of es) (sym (drop_more list i d l)) ∙ h

-- where nothing is limited
pub none_limited : (list : List Entry) (proto : ℕ) (heap : List Object) (l : Limit) (ids x : Option (List ℕ)) → limits_of list ≡ [] → true ≡ option_map_or (name_allows list proto heap l ids) x true
none_limited list proto heap l ids None e = refl
none_limited list proto heap l ids (Some name) e = rw e refl

pub ruleset look_rules = (import_there, name_there, callee_there, items_there, item_there, absent)
