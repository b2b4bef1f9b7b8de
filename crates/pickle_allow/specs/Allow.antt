-- What a list allows: which names its entries have, and what may be done with what has one.
-- Source: own; the patterns and the words are those of `picklestep scan --allow` (docs/reference/lists.md).
use Rattle.std.specs.Prelude.{ℕ, ◌==◌, ◌&&◌, ◌||◌, not, if◌then◌else◌, Bool, true, false, List, [], ◌∷◌, Option, Some, None}
use Rattle.std.specs.List.{list_any}
use Rattle.pickle_allow.specs.declared.list.Use.{Use}
use Rattle.pickle_allow.specs.declared.list.Use.TheVariants as use_of
use Rattle.pickle_allow.specs.declared.list.Uses.{Uses}
use Rattle.pickle_allow.specs.declared.list.Entry.{Entry}

-- ---- patterns

-- a text passes a test, or a rest of it does behind bytes that may be left out
abbrev pub some_rest : (ℕ → Bool) → (List ℕ → Bool) → List ℕ → Bool
some_rest out test [] = test []
some_rest out test (c ∷ text) = test (c ∷ text) || (out c && some_rest out test text)

-- a text begins with this byte, and its rest passes a test
abbrev pub byte_then : ℕ → (List ℕ → Bool) → List ℕ → Bool
byte_then b test [] = false
byte_then b test (c ∷ text) = b == c && test text

abbrev pub is_nothing : List ℕ → Bool
is_nothing [] = true
is_nothing (c ∷ text) = false

abbrev pub is_star : ℕ → Bool
is_star c = c == 42

abbrev pub is_point : ℕ → Bool
is_point c = c == 46

abbrev pub begins_with_star : List ℕ → Bool
begins_with_star [] = false
begins_with_star (c ∷ pattern) = is_star c

-- the bytes that a star stands for, before this rest of a pattern: any where another star follows, and else any but a point
abbrev pub under_star : List ℕ → ℕ → Bool
under_star pattern c = begins_with_star pattern || not (is_point c)

-- a pattern stands for a text: a star for any bytes without a point, two or more stars for any bytes, and each other byte for itself
abbrev pub fits : List ℕ → List ℕ → Bool
fits [] text = is_nothing text
fits (p ∷ pattern) text = if is_star p then some_rest (under_star pattern) (fits pattern) text else byte_then p (fits pattern) text

-- ---- entries

abbrev pub covers : Entry → List ℕ → Bool
covers e name = fits e.pattern.now name

abbrev pub has : Uses → Use → Bool
has u use_of.Call = u.call
has u use_of.New = u.new
has u use_of.State = u.state
has u use_of.Fill = u.fill

-- ---- lists

-- what an object is or comes of, by name: the import that it is, or that whose call made it, or made what was called, and so on
pub record Source : Type 0 where
  pub name : List ℕ
  pub made : Bool

-- an entry has this name
abbrev pub is_in : List Entry → List ℕ → Bool
is_in list name = list_any (λ (e : Entry). covers e name) list

-- an entry has its name, and says that this may be done with it
abbrev pub allows : List Entry → Use → Source → Bool
allows list what s = list_any (λ (e : Entry). covers e s.name && has (if s.made then e.made else e.itself) what) list

-- no list has what has no name
abbrev pub may_find : List Entry → Option (List ℕ) → Bool
may_find list None = false
may_find list (Some name) = is_in list name

abbrev pub may_use : List Entry → Use → Option Source → Bool
may_use list what None = false
may_use list what (Some s) = allows list what s
