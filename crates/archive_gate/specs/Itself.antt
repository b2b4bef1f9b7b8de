-- What a loader makes of a tar archive that takes the archive itself for a pickle, or for another kind of file.
-- Source: Lib/pickle.py and Modules/_pickle.c: `load_stop`, `load_pop`, `load_pop_mark`, `load_dup`, `load_append`, `load_build`, `load_dict`,
-- `load_appends`, `load_get`, `load_binget`, `load_long_binget`, `load_list`, `load_obj`, `load_put`, `load_binput`, `load_long_binput`,
-- `load_setitem`, `load_tuple`, `load_setitems`. Each of them raises where there is no object, no mark and no entry.
use Rattle.std.specs.Prelude.{◌≡◌, ◌≢◌, ◌⊎◌, ℕ, ◌==◌, ◌&&◌, ◌||◌, nat_le, Bool, true, false, List, [], ◌∷◌}
use Rattle.pickle_reach.specs.declared.answer.Reach.{Reach}
use Rattle.pickle_reach.specs.declared.answer.Reach.TheVariants as answer
use Rattle.pickle_reach.specs.Reach.{first_spot, NothingFrom, IsReach}
use Rattle.archive_gate.specs.declared.kind.Kind.{Kind}
use Rattle.archive_gate.specs.declared.kind.Kind.TheVariants as kind
use Rattle.archive_gate.specs.Kind.{kind_but_tar}
use Rattle.archive_gate.specs.Members.{alone}

-- ---- another kind of file

abbrev pub is_pickle : Kind → Bool
is_pickle kind.Tar = false
is_pickle kind.Archive = false
is_pickle (kind.Packed p) = false
is_pickle kind.Array = false
is_pickle kind.Pickle = true

-- it does not begin as a zip archive, a packed file or an array
abbrev pub is_no_other : List ℕ → Bool
is_no_other bytes = is_pickle (kind_but_tar bytes)

-- ---- a pickle

-- a b d e g h j l o p q r s t u
abbrev pub is_taking_letter : ℕ → Bool
is_taking_letter byte =
    ((nat_le 97 byte && nat_le byte 98) || (nat_le 100 byte && nat_le byte 101))
    || (((nat_le 103 byte && nat_le byte 104) || (byte == 106 || byte == 108)) || (nat_le 111 byte && nat_le byte 117))

-- the first opcode takes an object, a mark or an entry of the memo, and there is none: each loader raises
abbrev pub takes_first : List ℕ → Bool
takes_first [] = false
takes_first (byte ∷ rest) = (byte == 46 || (nat_le 48 byte && nat_le byte 50)) || is_taking_letter byte

-- no loader that begins at the first of the bytes, and has nothing but them, reaches anything
abbrev pub GivesNothingItself : List ℕ → Type 0
GivesNothingItself bytes = (takes_first bytes ≡ true) ⊎ NothingFrom alone bytes first_spot

-- one may, or there are too many ways to read them
pub record MayGive (bytes : List ℕ) : Type 0 where
  pub goes : takes_first bytes ≡ false
  pub found : Reach
  pub reach : IsReach alone bytes found
  pub reaches : (offset : ℕ) (settled : Bool) → found ≢ answer.Nothing offset settled
