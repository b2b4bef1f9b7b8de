-- The numbers of labels, as they are kept. This is no definition of what a text stands for.
use Rattle.std.specs.Prelude.{◌≡◌, ℕ, List, length}
use Rattle.std.specs.BTreeMap as tree
use Rattle.std.specs.BTreeMap.{BTreeMap, btree_map_len}
use Rattle.std.specs.Cmp.Lexicographic.{slice_cmp}
use Rattle.std.specs.Ordering.{nat_cmp}
use denote.Ref.{Bor}
use Rattle.assembly_labels.specs.declared.keys.Numbers.{Numbers}
use Rattle.assembly_labels.specs.Labels.{place_in, labels_of, first_key}

-- each label has its place among these
pub record IsNumbering (names : List (List ℕ)) (numbers : BTreeMap (Bor (List ℕ)) ℕ) : Type 0 where
  pub count : btree_map_len numbers ≡ length names
  pub places : (label : List ℕ) → tree.get_by (λ k. slice_cmp nat_cmp label k.now) numbers ≡ place_in names label

-- the numbers of the labels of these lines, and the first key
pub record AreNumbers (lines : List (List ℕ)) (n : Numbers) : Type 0 where
  pub numbering : IsNumbering (labels_of lines) n.places
  pub first : n.first ≡ first_key lines
