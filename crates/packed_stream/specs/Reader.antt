-- Readers of packed files that compare nothing.
-- Source: own. Python's gzip and GNU gzip go on behind a member, with what they find there; zlib leaves that to who calls it.
use Rattle.std.specs.Prelude.{◌≡◌, ℕ, zero, suc, List, [], ◌++◌, drop, Ok}
use Rattle.inflate.specs.Stream.{Inflates}
use Rattle.packed_stream.specs.declared.reason.Packing.{Packing}
use Rattle.packed_stream.specs.Header.{header_of}
use Rattle.packed_stream.specs.Packed.{end_size, IsPacked}

-- a stream that stands behind a header, what it stands for, and what is behind its end
pub record IsFirst (p : Packing) (bytes read later : List ℕ) : Type 0 where
  pub start : ℕ
  pub taken : ℕ
  pub header : header_of p bytes ≡ Ok start
  pub stream : Inflates (drop start bytes) (read, taken)
  pub behind : later ≡ drop (end_size p) (drop taken (drop start bytes))

-- and so on, so many times, up to the last of the bytes
abbrev pub ReadsOn : ℕ → Packing → List ℕ → List ℕ → Type 0
ReadsOn zero p bytes read = (bytes ≡ []) × (read ≡ [])
ReadsOn (suc n) p bytes read = (first : List ℕ) × (later : List ℕ) × (rest : List ℕ) × IsFirst p bytes first later × ReadsOn n p later rest × (read ≡ first ++ rest)

-- ---- laws

-- a file opens to one thing, as one kind
abbrev pub OneContent : Type 0
OneContent = (p q : Packing) (bytes content other : List ℕ) → IsPacked p bytes content → IsPacked q bytes other → (p ≡ q) × (other ≡ content)

-- and a reader that goes on, and compares nothing, finds this and nothing behind it
abbrev pub NothingFollows : Type 0
NothingFollows = (n : ℕ) (p q : Packing) (bytes content read : List ℕ) → IsPacked p bytes content → ReadsOn n q bytes read → (n ≡ 1) × (read ≡ content)
