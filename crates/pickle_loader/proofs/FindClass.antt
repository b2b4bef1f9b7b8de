-- What the line of an import says is what `find_class` imports.
use Rattle.std.proofs.Common.{◌≡◌, ℕ, zero, suc, Bool, true, false, List, [], ◌∷◌, length, Option, Some, None, refl, sym, ap, ap₂, ◌∙◌}
use Rattle.std.specs.Prelude.{◌&&◌, nat_lt, nat_le, slice_get, codes, decimal, if◌then◌else◌}
use Rattle.std.specs.List.{list_all}
use Rattle.std.specs.Str.{bytes_eq}
use Rattle.std.specs.Option.{option_map, unwrap_or}
use Rattle.std.proofs.lemmas.Slice.Eq.{bytes_eq-Decides}
use Rattle.pickle_io.specs.Text.{◌⧺◌}
use Rattle.pickle_names.specs.declared.rows.TheConstants.{NAMES, MODULES}
use Rattle.pickle_names.specs.Value.{Decoded, decode_all, short_value}
use Rattle.pickle_names.specs.Renamed.{Import, by_modules, by_names, renamed, from_of, module_renamed}
use Rattle.pickle_ops.specs.declared.opcode.Opcode.{Opcode}
use Rattle.pickle_ops.specs.declared.opcode.Opcode.TheVariants as op
use Rattle.pickle_ops.specs.declared.form.Form.TheVariants as form
use Rattle.pickle_ops.specs.Argument.{number_of}
use Rattle.pickle_ops.specs.Object.{Object}
use Rattle.pickle_ops.specs.Row.{row_of_opcode}
use Rattle.pickle_ops.specs.Spelling.{Operation}
use Rattle.pickle_doc.specs.Document.{Contents}
use Rattle.pickle_doc.specs.Place.{ops_of, offset_of}
use Rattle.pickle_io.specs.Holes.{in_file}
use Rattle.pickle_machine.specs.State.{State, start}
use Rattle.pickle_machine.specs.Run.{run}
use Rattle.pickle_text.specs.Column.{right_aligned, newline}
use Rattle.pickle_text.specs.Words.{id_text}
use Rattle.pickle_calls.specs.Brief.{briefs_text}
use Rattle.pickle_calls.specs.declared.naming.Detail.{Detail}
use Rattle.pickle_calls.specs.declared.naming.Naming.{Naming}
use Rattle.pickle_calls.specs.Naming.{Spelled, Pair, NewPair, short_of, may_be_name, by_both, by_module, renamed_by, pair_renamed, turned, naming_after}
use Rattle.pickle_calls.specs.Calls.{naming_on, naming_at}
use Rattle.calls_laws.specs.LineLaws.{IsRead, two_quoted, import_said}
use Rattle.calls_laws.proofs.Imports.{line_of_import, line_of_inst}
use Rattle.pickle_loader.specs.Listed.{protocol_after, protocol_at}
use Rattle.pickle_loader.specs.FindClass.{fixed, find_class, said_with, found_said, FoundIsSaid}
use Rattle.pickle_loader.proofs.Still.{move_to}
use Rattle.pickle_loader.proofs.Listing.{next_protocol}

-- ---- long names have no row

abbrev is_short : List ℕ → Bool
is_short text = nat_le (length text) 32

both : (x y : Bool) → (x && y) ≡ true → (x ≡ true) × (y ≡ true)
both true y h = (refl, h)
both false y h = absurd cc

apart : (x y : List ℕ) → is_short x ≡ false → is_short y ≡ true → bytes_eq x y ≡ true → ⊥
apart x y long short same =
    let is : x ≡ y = (bytes_eq-Decides x y).0 same in
    let no : false ≡ true = sym long ∙ ap is_short is ∙ short in
    absurd cc

no_module : {R : Type 0} (old new : R → List ℕ) (rows : List R) (from name : List ℕ) → list_all (λ r. is_short (old r)) rows ≡ true → is_short from ≡ false
    → by_modules old new rows from name ≡ None
no_module old new [] from name all long = refl
no_module old new (r ∷ rows) from name all long = step (bytes_eq from (old r)) refl (no_module old new rows from name (both _ _ all).1 long)
  where
    step : (b : Bool) → bytes_eq from (old r) ≡ b → by_modules old new rows from name ≡ None
        → (if b then Some (record { from = new r; name = name }) else by_modules old new rows from name) ≡ None
    step true is more = absurd (apart from (old r) long (both _ _ all).0 is)
    step false is more = more

no_from : {R : Type 0} (old new : R → Import) (rows : List R) (otherwise : Option Import) (from name : List ℕ) → list_all (λ r. is_short (old r).from) rows ≡ true → is_short from ≡ false
    → by_names old new rows otherwise from name ≡ otherwise
no_from old new [] otherwise from name all long = refl
no_from old new (r ∷ rows) otherwise from name all long = step (bytes_eq from (old r).from) refl (no_from old new rows otherwise from name (both _ _ all).1 long)
  where
    step : (b : Bool) → bytes_eq from (old r).from ≡ b → by_names old new rows otherwise from name ≡ otherwise
        → (if b && bytes_eq name (old r).name then Some (new r) else by_names old new rows otherwise from name) ≡ otherwise
    step true is more = absurd (apart from (old r).from long (both _ _ all).0 is)
    step false is more = more

no_member : {R : Type 0} (old new : R → Import) (rows : List R) (otherwise : Option Import) (from name : List ℕ) → list_all (λ r. is_short (old r).name) rows ≡ true → is_short name ≡ false
    → by_names old new rows otherwise from name ≡ otherwise
no_member old new [] otherwise from name all long = refl
no_member old new (r ∷ rows) otherwise from name all long = step (bytes_eq from (old r).from) (bytes_eq name (old r).name) refl (no_member old new rows otherwise from name (both _ _ all).1 long)
  where
    step : (a b : Bool) → bytes_eq name (old r).name ≡ b → by_names old new rows otherwise from name ≡ otherwise
        → (if a && b then Some (new r) else by_names old new rows otherwise from name) ≡ otherwise
    step true true is more = absurd (apart name (old r).name long (both _ _ all).0 is)
    step true false is more = more
    step false b is more = more

-- the module of a row, with the name as it is
abbrev named : List ℕ → Option (List ℕ) → Option Import
named name found = option_map (λ (f : List ℕ). record { from = f; name = name }) found

module_of : {R : Type 0} (old new : R → List ℕ) (rows : List R) (from name : List ℕ) → by_modules old new rows from name ≡ named name (option_map from_of (by_modules old new rows from []))
module_of old new [] from name = refl
module_of old new (r ∷ rows) from name = step (bytes_eq from (old r)) (module_of old new rows from name)
  where
    step : (b : Bool) → by_modules old new rows from name ≡ named name (option_map from_of (by_modules old new rows from []))
        → (if b then Some (record { from = new r; name = name }) else by_modules old new rows from name)
        ≡ named name (option_map from_of (if b then Some (record { from = new r; name = [] }) else by_modules old new rows from []))
    step true more = refl
    step false more = more

short_modules : list_all (λ r. is_short r.0.now) MODULES ≡ true
short_modules = refl

short_from : list_all (λ r. is_short r.0.now) NAMES ≡ true
short_from = refl

short_members : list_all (λ r. is_short r.1.now) NAMES ≡ true
short_members = refl

long_module : (from name : List ℕ) → is_short from ≡ false → renamed from name ≡ None
unfolding renamed
long_module from name long =
    no_from (λ r. record { from = r.0.now; name = r.1.now }) (λ r. record { from = r.2.now; name = r.3.now }) NAMES (by_modules (λ r. r.0.now) (λ r. r.1.now) MODULES from name) from name short_from long
    ∙ no_module (λ r. r.0.now) (λ r. r.1.now) MODULES from name short_modules long

long_member : (from name : List ℕ) → is_short name ≡ false → renamed from name ≡ named name (module_renamed from)
unfolding renamed module_renamed
long_member from name long =
    no_member (λ r. record { from = r.0.now; name = r.1.now }) (λ r. record { from = r.2.now; name = r.3.now }) NAMES (by_modules (λ r. r.0.now) (λ r. r.1.now) MODULES from name) from name short_members long
    ∙ module_of (λ r. r.0.now) (λ r. r.1.now) MODULES from name

-- ---- names that can be read

abbrev value_by : (g : Bool) (v : List ℕ) → Option (List ℕ)
value_by g v = if g then (if nat_le (length v) 32 then Some v else None) else None

short_is : (x : Option Spelled) (text : List ℕ) → IsRead x text → is_short text ≡ true → short_of x ≡ Some text
unfolding short_value
short_is (Some s) text h short = ap₂ value_by h.0 h.1 ∙ ap (λ (b : Bool). if b then Some text else None) short
short_is None text h short = absurd h

long_is : (x : Option Spelled) (text : List ℕ) → IsRead x text → is_short text ≡ false → short_of x ≡ None
unfolding short_value
long_is (Some s) text h long = ap₂ value_by h.0 h.1 ∙ ap (λ (b : Bool). if b then Some text else None) long
long_is None text h long = absurd h

name_is : (x : Option Spelled) (text : List ℕ) → IsRead x text → may_be_name x ≡ true
name_is (Some s) text h = h.0
name_is None text h = absurd h

-- ---- what is said

-- names that are those of Python 2, or not
abbrev found_by : Bool → Option Import → Option Import
found_by old found = if old then found else None

abbrev said_by : Option Import → List ℕ → List ℕ → List ℕ
said_by found from name = said_with (unwrap_or found (record { from = from; name = name })) found from name

both_said : (old : Bool) (found : Option Import) (from name : List ℕ) → import_said old (option_map by_both found) from name ≡ said_by (found_by old found) from name
both_said true None from name = refl
both_said false None from name = refl
both_said true (Some i) from name = refl
both_said false (Some i) from name = refl

module_said : (old : Bool) (found : Option (List ℕ)) (from name : List ℕ) → import_said old (option_map by_module found) from name ≡ said_by (found_by old (named name found)) from name
module_said true None from name = refl
module_said false None from name = refl
module_said true (Some f) from name = refl
module_said false (Some f) from name = refl

none_said : (old : Bool) (from name : List ℕ) → two_quoted from name ≡ said_by (found_by old None) from name
none_said true from name = refl
none_said false from name = refl

same_said : (old : Bool) (x y : Option Spelled) (from name : List ℕ) → IsRead x from → IsRead y name
    → import_said old (renamed_by (short_of x) (short_of y) (may_be_name y)) from name ≡ said_by (found_by old (renamed from name)) from name
same_said old x y from name h n = go (is_short from) (is_short name) refl refl
  where
    go : (a b : Bool) → is_short from ≡ a → is_short name ≡ b
        → import_said old (renamed_by (short_of x) (short_of y) (may_be_name y)) from name ≡ said_by (found_by old (renamed from name)) from name
    go true true e f =
        ap₂ (λ (u v : Option (List ℕ)). import_said old (renamed_by u v (may_be_name y)) from name) (short_is x from h e) (short_is y name n f) ∙ both_said old (renamed from name) from name
    go true false e f =
        ap₂ (λ (u v : Option (List ℕ)). import_said old (renamed_by u v (may_be_name y)) from name) (short_is x from h e) (long_is y name n f)
        ∙ ap (λ (b : Bool). import_said old (if b then option_map by_module (module_renamed from) else None) from name) (name_is y name n)
        ∙ module_said old (module_renamed from) from name ∙ ap (λ (r : Option Import). said_by (found_by old r) from name) (sym (long_member from name f))
    go false b e f =
        ap (λ (u : Option (List ℕ)). import_said old (renamed_by u (short_of y) (may_be_name y)) from name) (long_is x from h e)
        ∙ none_said old from name ∙ ap (λ (r : Option Import). said_by (found_by old r) from name) (sym (long_module from name e))

-- ---- the protocol

turned_old : (b : Bool) (n : ℕ) (m : Naming) → (turned b n m).old ≡ b
turned_old true n m = go m.old refl
  where
    go : (x : Bool) → m.old ≡ x → (if x then m else record m { old = true; since = n }).old ≡ true
    go true e = e
    go false e = refl
turned_old false n m = go m.old refl
  where
    go : (x : Bool) → m.old ≡ x → (if x then record m { old = false; since = n } else m).old ≡ false
    go true e = refl
    go false e = e

old_after : (o : Opcode) (arg : List ℕ) (n proto : ℕ) (m : Naming) → m.old ≡ nat_lt proto 3 → (naming_after (row_of_opcode o arg) n m).old ≡ nat_lt (protocol_after o arg proto) 3
old_after op.Proto arg n proto m h = turned_old (nat_lt (number_of form.Uint1 arg) 3) n m
old_after op.Stop arg n proto m h = refl
old_after _ arg n proto m h = h

-- names are read as those of Python 2 just where the protocol is below 3
pub old_is : (how : Detail) (d : Contents) (k : ℕ) (s : State) → run (start d.many) (ops_of d) k ≡ Some s → (naming_at how d k).old ≡ nat_lt (protocol_at (ops_of d) k) 3
unfolding protocol_at
old_is how d zero s e = refl
old_is how d (suc k) t e =
    let x = move_to (start d.many) (ops_of d) k t e in
    ap₂ (λ (a : Option Operation) (b : Option State). (naming_on a b (naming_at how d k)).old) x.there e
    ∙ old_after x.item.opcode x.item.arg (length t.heap) (protocol_at (ops_of d) k) (naming_at how d k) (old_is how d k x.before x.reached)
    ∙ ap (λ (p : ℕ). nat_lt p 3) (sym (next_protocol (ops_of d) k x.item x.there))

-- ---- the law

pair_said : (how : Detail) (d : Contents) (k : ℕ) (s : State) (p : Pair) (from name : List ℕ) → run (start d.many) (ops_of d) k ≡ Some s → IsRead p.from from → IsRead p.name name
    → import_said (naming_at how d k).old (pair_renamed p) from name ≡ found_said (protocol_at (ops_of d) k) from name
unfolding pair_renamed
pair_said how d k s p from name there h n =
    same_said (naming_at how d k).old p.from p.name from name h n ∙ ap (λ (b : Bool). said_by (found_by b (renamed from name)) from name) (old_is how d k s there)

pub found_is_said : FoundIsSaid
found_is_said how d k s t o p from name step there h n =
    let e = pair_said how.detail d k s p from name step.before h n in
    record {
      import = λ names.
          line_of_import how d k s t o p from name step there names h n
          ∙ ap (λ (w : List ℕ). right_aligned 5 (decimal (in_file how.holes (offset_of d k))) ⧺ codes ": " ⧺ (codes "import " ⧺ w ⧺ codes " as " ⧺ id_text (length s.heap)) ⧺ newline) e;
      inst = λ names.
          line_of_inst how d k s t o p from name step there names h n
          ∙ ap (λ (w : List ℕ). right_aligned 5 (decimal (in_file how.holes (offset_of d k))) ⧺ codes ": " ⧺ ((codes "inst " ⧺ w ⧺ codes " " ⧺ briefs_text (naming_at how.detail d k) t.heap o.parts) ⧺ codes " as " ⧺ id_text (length s.heap)) ⧺ newline) e;
    }
