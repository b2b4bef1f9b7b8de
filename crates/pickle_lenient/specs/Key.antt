-- The key that the line of GET or PUT is to loaders.
-- Source: Lib/pickle.py, class `_Unpickler`: `load_get`, `load_put` (`int(self.readline()[:-1])`); Modules/_pickle.c: `load_get`,
-- `load_put` (`PyLong_FromString`, which ends at a NUL byte). A number may have any number of digits.
use Rattle.std.specs.Prelude.{ℕ, ◌+◌, ◌*◌, ◌-◌, ◌==◌, ◌&&◌, ◌||◌, nat_le, if◌then◌else◌, Bool, true, false, List, fold, Option, Some, None}
use Rattle.pickle_lenient.specs.declared.key.KeyPart.{KeyPart}
use Rattle.pickle_lenient.specs.declared.key.KeyPart.TheVariants as part
use Rattle.pickle_lenient.specs.declared.key.KeyState.{KeyState}

-- what C and Python call white space
abbrev pub is_space : ℕ → Bool
is_space byte = byte == 32 || (nat_le 9 byte && nat_le byte 13)

abbrev pub is_sign : ℕ → Bool
is_sign byte = byte == 43 || byte == 45

abbrev pub is_digit : ℕ → Bool
is_digit byte = nat_le 48 byte && nat_le byte 57

-- what a byte is
abbrev pub at_part : KeyState → KeyPart → KeyState
at_part s p = record s { part = p }

-- a digit more
abbrev pub with_digit : KeyState → ℕ → KeyState
with_digit s digit = record { part = part.Digits; number = 10 * s.number + (digit - 48); negative = s.negative }

abbrev pub at_begin : ℕ → KeyState → KeyState
at_begin byte s =
    if is_digit byte then with_digit s byte
    else if is_space byte then s
    else if is_sign byte then record s { part = part.Signed; negative = byte == 45 }
    else at_part s part.Wrong

abbrev pub at_digit : ℕ → KeyState → KeyState
at_digit byte s = if is_digit byte then with_digit s byte else at_part s part.Wrong

abbrev pub at_digits : ℕ → KeyState → KeyState
at_digits byte s =
    if is_digit byte then with_digit s byte
    else if byte == 95 then at_part s part.Joined
    else if is_space byte then at_part s part.Spaces
    else if byte == 0 then at_part s part.Done
    else at_part s part.Wrong

abbrev pub at_spaces : ℕ → KeyState → KeyState
at_spaces byte s =
    if is_space byte then s
    else if byte == 0 then at_part s part.Done
    else at_part s part.Wrong

abbrev pub after_part : KeyPart → ℕ → KeyState → KeyState
after_part part.Begin byte s = at_begin byte s
after_part part.Signed byte s = at_digit byte s
after_part part.Joined byte s = at_digit byte s
after_part part.Digits byte s = at_digits byte s
after_part part.Spaces byte s = at_spaces byte s
after_part part.Done byte s = s
after_part part.Wrong byte s = s

-- white space, a sign, digits with single underscores, white space; a NUL byte ends it
abbrev pub after_byte : KeyState → ℕ → KeyState
after_byte s byte = after_part s.part byte s

abbrev pub no_byte : KeyState
no_byte = record { part = part.Begin; number = 0; negative = false }

-- the text may end so
abbrev pub is_number : KeyPart → Bool
is_number part.Digits = true
is_number part.Spaces = true
is_number part.Done = true
is_number _ = false

abbrev pub not_below : KeyState → Bool
not_below s = if s.negative then s.number == 0 else true

-- a number below 0 is no key
abbrev pub key_in : KeyState → Option ℕ
key_in s = if is_number s.part && (not_below s) then Some s.number else None

-- the key that a line without its newline is
abbrev pub key_of : List ℕ → Option ℕ
key_of text = key_in (fold after_byte no_byte text)
