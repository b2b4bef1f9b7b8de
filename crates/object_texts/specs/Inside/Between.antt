-- Where a section of the stack is in it. This is no definition of the stack's text.
use Rattle.std.specs.Prelude.{ℕ, List, take, drop}

-- what is from one place up to another
abbrev pub between : ℕ → ℕ → List ℕ → List ℕ
between from to xs = drop from (take to xs)
