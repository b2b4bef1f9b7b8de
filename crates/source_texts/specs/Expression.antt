-- The expression of an object where it is used: a plain value by its literal; what has a name by its name; any other object by its literal, in
-- which what it holds stands by its expression. Brackets stand no deeper within one another than the facts say.
-- Source: own.
use Rattle.std.specs.Prelude.{ℕ, zero, suc, if◌then◌else◌, Bool, List, slice_get}
use Rattle.std.specs.Option.{option_map_or}
use Rattle.pickle_ops.specs.declared.kind.Kind.{Kind}
use Rattle.pickle_ops.specs.Object.{Object}
use Rattle.pickle_source.specs.declared.fact.Fact.{Fact}
use Rattle.pickle_source.specs.Fact.{most_depth, fact_at, is_named}
use Rattle.source_texts.specs.Held.{held_text}
use Rattle.source_texts.specs.Name.{name_text}

-- `value` spells values, `names` says what is a name, `say` what stands for what the object holds
unfoldable pub unnamed_text : (Kind → List ℕ) → (List ℕ → Bool) → List Object → List Fact → (ℕ → List ℕ) → ℕ → Object → List ℕ
unnamed_text value names heap facts say id o =
    if is_named o.kind (fact_at facts id) then name_text names heap id else held_text value say o.kind o.parts o.changes

unfoldable pub expression_in : (Kind → List ℕ) → (List ℕ → Bool) → List Object → List Fact → (ℕ → List ℕ) → ℕ → List ℕ
expression_in value names heap facts say id = option_map_or (unnamed_text value names heap facts say id) (slice_get heap id) (name_text names heap id)

-- with brackets so deep at most
abbrev pub expression_to : ℕ → (Kind → List ℕ) → (List ℕ → Bool) → List Object → List Fact → ℕ → List ℕ
expression_to zero value names heap facts id = name_text names heap id
expression_to (suc n) value names heap facts id = expression_in value names heap facts (expression_to n value names heap facts) id

-- one deeper than a name is
abbrev pub expression : (Kind → List ℕ) → (List ℕ → Bool) → List Object → List Fact → ℕ → List ℕ
expression value names heap facts id = expression_to (suc most_depth) value names heap facts id
