-- Names of objects in the source: what is imported has the name that the pickle says and its number, and all else its number. So no two
-- objects have one name.
-- Source: own.
use Rattle.std.specs.Prelude.{ℕ, if◌then◌else◌, Bool, List, slice_get, codes, decimal, Option, Some, None}
use Rattle.std.specs.Option.{option_map_or}
use Rattle.pickle_io.specs.Text.{◌⧺◌}
use Rattle.pickle_ops.specs.declared.kind.Kind.{Kind}
use Rattle.pickle_ops.specs.declared.kind.Kind.TheVariants as kind
use Rattle.pickle_ops.specs.Object.{Object}
use Rattle.pickle_calls.specs.Event.{part}

-- `_12`
unfoldable pub own_name : ℕ → List ℕ
own_name id = codes "_" ⧺ decimal id

-- the bytes of a text. A name is the same however they are read
abbrev pub spelled_bytes : Kind → Option (List ℕ)
spelled_bytes (kind.Text q) = Some q
spelled_bytes (kind.LegacyString q) = Some q
spelled_bytes (kind.TextLine q) = Some q
spelled_bytes _ = None

abbrev pub bytes_at : List Object → ℕ → Option (List ℕ)
bytes_at heap id = option_map_or (λ (o : Object). spelled_bytes o.kind) (slice_get heap id) None

-- the member that is imported, if its name is a text
abbrev pub member_of : List Object → Kind → List ℕ → Option (List ℕ)
member_of heap (kind.Global names) parts = Some names.second
member_of heap kind.StackGlobal parts = bytes_at heap (part 1 parts)
member_of heap _ parts = None

-- `date_12`
unfoldable pub member_name : (List ℕ → Bool) → List ℕ → ℕ → List ℕ
member_name names member id = if names member then member ⧺ own_name id else own_name id

abbrev pub named_by : (List ℕ → Bool) → ℕ → Option (List ℕ) → List ℕ
named_by names id None = own_name id
named_by names id (Some member) = member_name names member id

unfoldable pub kind_name : (List ℕ → Bool) → List Object → ℕ → Kind → List ℕ → List ℕ
kind_name names heap id k parts = named_by names id (member_of heap k parts)

unfoldable pub name_text : (List ℕ → Bool) → List Object → ℕ → List ℕ
name_text names heap id = option_map_or (λ (o : Object). kind_name names heap id o.kind o.parts) (slice_get heap id) (own_name id)
