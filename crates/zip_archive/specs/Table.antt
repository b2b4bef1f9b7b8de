-- The table of CRC-32: what is left of a byte behind some bytes.
-- Source: RFC 1952 section 8 has a table of one byte; the further ones are its steps over bytes that are 0.
use Rattle.std.specs.Prelude.{◌≡◌, ◌<◌, ℕ, zero, suc, ◌+◌, ◌/◌, ◌%◌, List, length, get_or}
use Rattle.zip_archive.specs.Checksum.{byte_behind}

-- what is left of a number behind so many bytes that are 0
unfoldable pub zeros_behind : ℕ → ℕ → ℕ
zeros_behind zero c = c
zeros_behind (suc n) c = byte_behind (zeros_behind n c) 0

-- a row of 256 entries for one byte, for two, and so on
abbrev pub entry : ℕ → ℕ
entry place = zeros_behind (place / 256 + 1) (place % 256)

pub record IsTable (entries : List ℕ) : Type 0 where
  pub wide : length entries ≡ 2048
  pub each : (place : ℕ) → place < 2048 → get_or entries place 0 ≡ entry place
