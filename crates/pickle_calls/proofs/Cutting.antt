-- The first characters of a text.
use Rattle.std.proofs.Common.{◌≡◌, ℕ, Bool, true, false, List, length, codes, sym, ap, ◌∙◌}
use Rattle.std.specs.Prelude.{if◌then◌else◌}
use Rattle.pickle_io.specs.Text.{◌⧺◌, quoted}
use Rattle.pickle_names.specs.declared.coding.Coding.{Coding}
use Rattle.pickle_names.specs.declared.value.Reading.{Reading}
use Rattle.pickle_names.specs.Value.{decode}
use Rattle.pickle_names.specs.Reading.{IsReading}
use Rattle.pickle_calls.specs.Brief.{over_text, cut_after, cut_text}

pub left_over : (c : Coding) (bytes : List ℕ) (r : Reading) → IsReading c 64 bytes r → over_text r.left ≡ over_text (length (decode c 64 bytes).rest)
left_over c bytes r w = ap over_text w.left

pub cut_good : (c : Coding) (bytes : List ℕ) (r : Reading) → IsReading c 64 bytes r → r.good ≡ true
    → cut_text c bytes ≡ quoted (decode c 64 bytes).value ⧺ over_text (length (decode c 64 bytes).rest)
unfolding cut_text
cut_good c bytes r w h = ap (λ (b : Bool). if b then quoted (decode c 64 bytes).value ⧺ over_text (length (decode c 64 bytes).rest) else cut_after (codes "raw ") bytes) (sym w.good ∙ h)

pub cut_bad : (c : Coding) (bytes : List ℕ) (r : Reading) → IsReading c 64 bytes r → r.good ≡ false → cut_text c bytes ≡ cut_after (codes "raw ") bytes
unfolding cut_text
cut_bad c bytes r w h = ap (λ (b : Bool). if b then quoted (decode c 64 bytes).value ⧺ over_text (length (decode c 64 bytes).rest) else cut_after (codes "raw ") bytes) (sym w.good ∙ h)
