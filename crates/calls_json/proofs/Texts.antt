-- Texts by what was read of them.
use Rattle.std.proofs.Common.{◌≡◌, ℕ, Bool, true, false, List, length, sym, ap, ◌∙◌}
use Rattle.std.specs.Prelude.{if◌then◌else◌}
use Rattle.pickle_names.specs.declared.coding.Coding.{Coding}
use Rattle.pickle_names.specs.declared.value.Reading.{Reading}
use Rattle.pickle_names.specs.Value.{decode}
use Rattle.pickle_names.specs.Reading.{IsReading}
use Rattle.calls_json.specs.declared.said.Said.{Said}
use Rattle.calls_json.specs.SaidNames.{raw_name}
use Rattle.calls_json.specs.TextFields.{hex_fields, spelled_fields, whole_fields, front_fields, raw_fields, cut_fields}

pub cut_good : (c : Coding) (bytes : List ℕ) (r : Reading) → IsReading c 64 bytes r → r.good ≡ true → cut_fields c bytes ≡ front_fields c r.left bytes
unfolding cut_fields
cut_good c bytes r w h =
    ap (λ (b : Bool). if b then front_fields c (length (decode c 64 bytes).rest) bytes else raw_fields bytes) (sym w.good ∙ h)
    ∙ ap (λ (n : ℕ). front_fields c n bytes) (sym w.left)

pub cut_bad : (c : Coding) (bytes : List ℕ) (r : Reading) → IsReading c 64 bytes r → r.good ≡ false → cut_fields c bytes ≡ raw_fields bytes
unfolding cut_fields
cut_bad c bytes r w h =
    ap (λ (b : Bool). if b then front_fields c (length (decode c 64 bytes).rest) bytes else raw_fields bytes) (sym w.good ∙ h)

pub whole_good : (s : Said) (c : Coding) (bytes : List ℕ) (r : Reading) → IsReading c (length bytes) bytes r → r.good ≡ true → whole_fields s c bytes ≡ spelled_fields s c bytes
unfolding whole_fields
whole_good s c bytes r w h = ap (λ (b : Bool). if b then spelled_fields s c bytes else hex_fields (raw_name s) bytes) (sym w.good ∙ h)

pub whole_bad : (s : Said) (c : Coding) (bytes : List ℕ) (r : Reading) → IsReading c (length bytes) bytes r → r.good ≡ false → whole_fields s c bytes ≡ hex_fields (raw_name s) bytes
unfolding whole_fields
whole_bad s c bytes r w h = ap (λ (b : Bool). if b then spelled_fields s c bytes else hex_fields (raw_name s) bytes) (sym w.good ∙ h)
