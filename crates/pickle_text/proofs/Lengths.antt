-- How long a text is.
use Rattle.std.proofs.Common.{◌≡◌, ℕ, ◌+◌, List, length, length-append}
use Rattle.pickle_io.specs.Text.{◌⧺◌}

pub one_line : (a b : List ℕ) → length (a ⧺ b) ≡ length a + length b
unfolding ◌⧺◌
one_line a b = length-append a b
