-- Names of modules and of what they have.
-- Source: Lib/pickle.py: `whichmodule` and `save_global` (`__module__`, `__qualname__`); names are identifiers joined by points. Which
-- letters beyond ASCII may be in one is not looked at.
use Rattle.std.specs.Prelude.{ℕ, ◌==◌, ◌&&◌, ◌||◌, nat_le, if◌then◌else◌, Bool, true, false, List, fold}
use Rattle.pickle_ops.specs.Shape.{is_digit}
use Rattle.pickle_names.specs.declared.coding.Coding.{Coding}
use Rattle.pickle_names.specs.declared.coding.Coding.TheVariants as coding
use Rattle.pickle_names.specs.Value.{decode_all}
use Rattle.pickle_form.specs.declared.name.NamePart.{NamePart}
use Rattle.pickle_form.specs.declared.name.NamePart.TheVariants as part

-- a letter of an identifier, or a byte of one
abbrev pub is_letter : ℕ → Bool
is_letter b = (nat_le 97 b && nat_le b 122) || (nat_le 65 b && nat_le b 90) || b == 95 || nat_le 128 b

abbrev pub at_begin : ℕ → NamePart
at_begin b = if is_letter b then part.Within else if b == 60 then part.Angle else part.Wrong

abbrev pub at_within : ℕ → NamePart
at_within b = if is_letter b || is_digit b then part.Within else if b == 46 then part.Begin else part.Wrong

-- `<locals>` and `<lambda>` stand for functions without a name
abbrev pub at_angle : ℕ → NamePart
at_angle b = if nat_le 97 b && nat_le b 122 then part.Angle else if b == 62 then part.Closed else part.Wrong

abbrev pub at_closed : ℕ → NamePart
at_closed b = if b == 46 then part.Begin else part.Wrong

abbrev pub after_byte : NamePart → ℕ → NamePart
after_byte part.Begin b = at_begin b
after_byte part.Within b = at_within b
after_byte part.Angle b = at_angle b
after_byte part.Closed b = at_closed b
after_byte part.Wrong b = part.Wrong

abbrev pub may_end : NamePart → Bool
may_end part.Within = true
may_end part.Closed = true
may_end _ = false

-- the bytes are a text in this coding
abbrev pub is_text : Coding → List ℕ → Bool
is_text c bytes = (decode_all c bytes).good

abbrev pub is_name : List ℕ → Bool
is_name text = may_end (fold after_byte part.Begin text) && is_text coding.Utf8 text
