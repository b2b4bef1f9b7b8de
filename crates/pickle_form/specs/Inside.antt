-- What the functions are said to do, piece by piece.
use Rattle.std.specs.Prelude.{◌≡◌, ℕ, ◌≤◌, ◌==◌, ◌&&◌, ◌||◌, not, nat_lt, Bool, true, false, List, [], ◌∷◌, length, get_or}
use Rattle.std.specs.List.{list_all}
use Rattle.pickle_ops.specs.Shape.{is_digit}
use Rattle.pickle_ops.specs.Spelling.{Operation}
use Rattle.pickle_ops.specs.Table.{protocol_of}
use Rattle.pickle_ops.specs.declared.opcode.Opcode.{Opcode}
use Rattle.pickle_ops.specs.declared.opcode.Opcode.TheVariants as op
use Rattle.pickle_form.specs.declared.spelled.Spelled.{Spelled}
use Rattle.pickle_form.specs.Name.{is_letter}
use Rattle.pickle_form.specs.Spelled.{other_argument, last_protocol}
use Rattle.pickle_form.specs.Run.{Run, is_proto, is_frame, is_stop, is_drop, is_pair, is_put}
use Rattle.pickle_form.specs.Held.{Held, role_of}
use Rattle.pickle_form.specs.Form.{Before}

abbrev pub before : Run → Held → Before
before r h = record { run = r; held = h }

-- how an opcode is spelled
abbrev pub spelling_of : Opcode → List ℕ → Spelled
spelling_of o arg = record { why = other_argument o arg; last = last_protocol o arg; role = role_of o arg }

-- it is spelled by its argument, and often there
abbrev pub is_frequent : Opcode → Bool
is_frequent op.BinInt = true
is_frequent op.BinInt2 = true
is_frequent op.ShortBinUnicode = true
is_frequent op.LongBinGet = true
is_frequent op.LongBinPut = true
is_frequent _ = false

-- it is spelled by its argument, and seldom there or looked at for longer
abbrev pub is_seldom : Opcode → Bool
is_seldom op.Int = true
is_seldom op.Long = true
is_seldom op.Long1 = true
is_seldom op.Long4 = true
is_seldom op.String = true
is_seldom op.BinString = true
is_seldom op.BinBytes = true
is_seldom op.BinBytes8 = true
is_seldom op.Unicode = true
is_seldom op.BinUnicode = true
is_seldom op.BinUnicode8 = true
is_seldom op.Float = true
is_seldom op.Get = true
is_seldom op.Put = true
is_seldom op.Ext1 = true
is_seldom op.Ext2 = true
is_seldom op.Ext4 = true
is_seldom op.Global = true
is_seldom op.Inst = true
is_seldom op.Proto = true
is_seldom op.Frame = true
is_seldom op.PersId = true
is_seldom _ = false

-- one byte, or the first one is no zero
abbrev pub has_no_zero_in_front : List ℕ → Bool
has_no_zero_in_front text = length text == 1 || not (get_or text 0 0 == 48)

-- a letter of ASCII, a digit or an underscore
abbrev pub is_word_byte : ℕ → Bool
is_word_byte b = nat_lt b 128 && (is_letter b || is_digit b)

-- such bytes, of which the first is no digit
abbrev pub is_word : List ℕ → Bool
is_word [] = false
is_word (b ∷ text) = not (is_digit b) && list_all is_word_byte (b ∷ text)

-- another byte than a backslash
abbrev pub is_no_slash : ℕ → Bool
is_no_slash b = not (b == 92)

-- ---- the usual opcodes

-- nothing that was read asks for an opcode of its own
abbrev pub IsCalm : ℕ → ℕ → Bool → Bool → Bool → Bool → Type 0
IsCalm first last begun dropping pair sets = (first ≤ last) × (begun ≡ true) × (dropping ≡ false) × (pair ≡ false) × (sets ≡ false)

-- it asks for more than others, or changes what may follow
abbrev pub is_turn : Opcode → Bool
is_turn o = is_proto o || is_frame o || is_stop o || is_drop o || is_pair o

-- an opcode that changes no protocol and keeps, if it keeps one, an object that was made right before
pub record IsUsual (o : Operation) (r : Run) : Type 0 where
  pub calm : IsCalm r.first r.last r.begun r.dropping r.pair r.sets
  pub straight : is_turn o.opcode ≡ false
  pub early : protocol_of o.opcode ≤ r.first
  pub late : r.last ≤ last_protocol o.opcode o.arg
  pub kept : (not (is_put o.opcode) || r.fresh) ≡ true
