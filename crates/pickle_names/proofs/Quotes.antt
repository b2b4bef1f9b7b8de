-- Texts between quotes, byte by byte.
use Rattle.std.proofs.Common.{◌≡◌, ℕ, List, ◌++◌, Bool, true, false, refl, subst, ◌∙◌, rules}
use Rattle.std.specs.Prelude.{◌==◌, ◌&&◌, nat_le}
use Rattle.std.proofs.lemmas.List.Concat.{flat_map-append}
use Rattle.pickle_io.specs.Text.{escaped, quoted_byte, quoted_bytes}
use Rattle.pickle_io.specs.Device.{each}

pub quoted_is_each : (bytes : List ℕ) → quoted_bytes bytes ≡ each quoted_byte bytes
unfolding quoted_bytes each
quoted_is_each bytes = refl

pub quoted-append : (xs ys : List ℕ) → quoted_bytes (xs ++ ys) ≡ quoted_bytes xs ++ quoted_bytes ys
unfolding quoted_bytes
quoted-append xs ys = flat_map-append quoted_byte xs ys

eq_of : (a b : ℕ) → (a == b) ≡ true → a ≡ b
eq_of a b e = search rules

no92 : (byte : ℕ) → byte ≡ 92 → (nat_le 32 byte && nat_le byte 126) ≡ false → ⊥
no92 byte e h = let no : (nat_le 32 92 && nat_le 92 126) ≡ false = subst (λ (b : ℕ). (nat_le 32 b && nat_le b 126) ≡ false) e h in absurd cc

no39 : (byte : ℕ) → byte ≡ 39 → (nat_le 32 byte && nat_le byte 126) ≡ false → ⊥
no39 byte e h = let no : (nat_le 32 39 && nat_le 39 126) ≡ false = subst (λ (b : ℕ). (nat_le 32 b && nat_le b 126) ≡ false) e h in absurd cc

hidden_by : (byte : ℕ) (a b c : Bool) → (byte == 92) ≡ a → (byte == 39) ≡ b → (nat_le 32 byte && nat_le byte 126) ≡ c → c ≡ false → quoted_byte byte ≡ escaped byte
unfolding quoted_byte
hidden_by byte false false false e f g h = rw (e, f, g) refl
hidden_by byte false false true e f g h = absurd cc
hidden_by byte true b c e f g h = let is : byte ≡ 92 = eq_of byte 92 e in absurd (no92 byte is (g ∙ h))
hidden_by byte false true c e f g h = let is : byte ≡ 39 = eq_of byte 39 f in absurd (no39 byte is (g ∙ h))

-- a byte that is no visible character is no backslash and no quote
pub hidden : (byte : ℕ) → (nat_le 32 byte && nat_le byte 126) ≡ false → quoted_byte byte ≡ escaped byte
hidden byte h = hidden_by byte (byte == 92) (byte == 39) (nat_le 32 byte && nat_le byte 126) refl refl refl h
