-- Objects.
-- Source: objects are used instead of what a loader would build (own).
use Rattle.std.specs.Prelude.{ℕ, List}
use Rattle.pickle_ops.specs.declared.kind.Kind.{Kind}
use Rattle.pickle_ops.specs.declared.object.Change.{Change}

-- an object: its kind, its parts and its changes, which name objects by number
pub record Object : Type 0 where
  pub kind : Kind
  pub parts : List ℕ
  pub changes : List Change

-- an object of at most this many parts, to which nothing was done, takes no memory of its own
abbrev pub most_inline_parts : ℕ
most_inline_parts = 3
