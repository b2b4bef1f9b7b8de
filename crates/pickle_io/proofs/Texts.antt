-- The texts of bytes, one byte after another.
use Rattle.std.proofs.Common.{◌≡◌, ℕ, List, [], ◌∷◌, ◌++◌, refl}
use Rattle.std.specs.List.{flat_map}
use Rattle.std.proofs.lemmas.List.{append-nil}
use Rattle.std.proofs.lemmas.List.Concat.{flat_map-append}
use Rattle.hex.specs.Hex.{encode_with, lower_digits}
use Rattle.pickle_io.specs.Text.{hexadecimal, quoted_byte, quoted_bytes}
use Rattle.pickle_io.specs.Device.{each}

encode-each : (bytes : List ℕ) → encode_with lower_digits bytes ≡ flat_map (λ (byte : ℕ). encode_with lower_digits (byte ∷ [])) bytes
unfolding encode_with
encode-each [] = refl
encode-each (b ∷ bs) = rw (← encode-each bs) refl

pub hexadecimal_is_each : (bytes : List ℕ) → hexadecimal bytes ≡ each (λ (byte : ℕ). hexadecimal (byte ∷ [])) bytes
unfolding hexadecimal each
hexadecimal_is_each bytes = encode-each bytes

pub quoted_bytes_is_each : (bytes : List ℕ) → quoted_bytes bytes ≡ each quoted_byte bytes
unfolding quoted_bytes each
quoted_bytes_is_each bytes = refl

pub quoted_bytes-append : (xs ys : List ℕ) → quoted_bytes (xs ++ ys) ≡ quoted_bytes xs ++ quoted_bytes ys
unfolding quoted_bytes
quoted_bytes-append xs ys = flat_map-append quoted_byte xs ys

pub quoted_bytes-one : (byte : ℕ) → quoted_bytes (byte ∷ []) ≡ quoted_byte byte
unfolding quoted_bytes
quoted_bytes-one byte = append-nil (quoted_byte byte)
