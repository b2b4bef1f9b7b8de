-- Modules that have no row.
use Rattle.std.proofs.Common.{◌≡◌, ℕ, Bool, true, false, List, [], ◌∷◌, Option, Some, None, refl, sym, ap, ◌∙◌}
use Rattle.std.specs.Prelude.{◌&&◌, if◌then◌else◌}
use Rattle.std.specs.List.{list_all}
use Rattle.std.specs.Str.{bytes_eq}
use Rattle.std.proofs.lemmas.Slice.Eq.{bytes_eq-Decides}
use Rattle.pickle_names.specs.declared.rows.TheConstants.{NAMES, MODULES}
use Rattle.pickle_names.specs.Renamed.{Import, by_modules, by_names, may_have_row, renamed}

both : (x y : Bool) → (x && y) ≡ true → (x ≡ true) × (y ≡ true)
both true true h = (refl, refl)
both true false h = absurd cc
both false y h = absurd cc

apart : {X : Type 0} (f : X → Bool) (x y : X) → f x ≡ false → f y ≡ true → x ≡ y → ⊥
apart f x y e t is = let no : false ≡ true = sym e ∙ ap f is ∙ t in absurd cc

-- what all modules of the rows are and this one is not
no_module : {R : Type 0} (f : List ℕ → Bool) (old new : R → List ℕ) (rows : List R) (from name : List ℕ) → list_all (λ r. f (old r)) rows ≡ true → f from ≡ false
    → by_modules old new rows from name ≡ None
no_module f old new [] from name all e = refl
no_module f old new (r ∷ rows) from name all e = step (bytes_eq from (old r)) refl (no_module f old new rows from name (both _ _ all).1 e)
  where
    step : (b : Bool) → bytes_eq from (old r) ≡ b → by_modules old new rows from name ≡ None
        → (if b then Some (record { from = new r; name = name }) else by_modules old new rows from name) ≡ None
    step true is more = absurd (apart f from (old r) e (both _ _ all).0 ((bytes_eq-Decides from (old r)).0 is))
    step false is more = more

no_name : {R : Type 0} (f : List ℕ → Bool) (old new : R → Import) (rows : List R) (otherwise : Option Import) (from name : List ℕ) → list_all (λ r. f (old r).from) rows ≡ true → f from ≡ false
    → by_names old new rows otherwise from name ≡ otherwise
no_name f old new [] otherwise from name all e = refl
no_name f old new (r ∷ rows) otherwise from name all e = step (bytes_eq from (old r).from) refl (no_name f old new rows otherwise from name (both _ _ all).1 e)
  where
    step : (b : Bool) → bytes_eq from (old r).from ≡ b → by_names old new rows otherwise from name ≡ otherwise
        → (if b && bytes_eq name (old r).name then Some (new r) else by_names old new rows otherwise from name) ≡ otherwise
    step true is more = absurd (apart f from (old r).from e (both _ _ all).0 ((bytes_eq-Decides from (old r).from).0 is))
    step false is more = more

all_modules : list_all (λ r. may_have_row r.0.now) MODULES ≡ true
all_modules = refl

all_names : list_all (λ r. may_have_row r.0.now) NAMES ≡ true
all_names = refl

-- no row is as long as the module and begins like it
pub no_row : (from name : List ℕ) → may_have_row from ≡ false → None ≡ renamed from name
unfolding renamed
no_row from name e =
    sym
    (no_name may_have_row (λ r. record { from = r.0.now; name = r.1.now }) (λ r. record { from = r.2.now; name = r.3.now }) NAMES (by_modules (λ r. r.0.now) (λ r. r.1.now) MODULES from name) from name all_names e
    ∙ no_module may_have_row (λ r. r.0.now) (λ r. r.1.now) MODULES from name all_modules e)
