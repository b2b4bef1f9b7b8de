-- A run over bytes, opcode by opcode: where it stands is read from the bytes and from how many opcodes were run.
-- Source: own.
use Rattle.std.specs.Prelude.{ℕ, zero, suc, ◌+◌, Bool, List, drop}
use Rattle.pickle_ops.specs.Spelling.{Operation, Front, Whole, size_of}
use Rattle.pickle_ops.specs.Front.{front_of}
use Rattle.pickle_machine.specs.State.{State, start}
use Rattle.pickle_machine.specs.Move.{next}

-- the state, the bytes that were not read, and how many opcodes were
pub record Reading : Type 0 where
  pub state : State
  pub rest : List ℕ
  pub place : ℕ

-- this operation, which is next, is read and moves the state
abbrev pub read_op : Operation → Reading → Reading
read_op o r = record { state = next o r.place r.state; rest = drop (size_of o) r.rest; place = r.place + 1 }

-- the opcode at the front is read and moves the state; where there is none, nothing is done
abbrev pub read_front : Front → Reading → Reading
read_front (Whole o arg rest) r = record { state = next (record { opcode = o; arg = arg }) r.place r.state; rest = rest; place = r.place + 1 }
read_front _ r = r

-- the first n opcodes of bytes are read, as several pickles or as one
unfoldable pub reading : Bool → List ℕ → ℕ → Reading
reading many bytes zero = record { state = start many; rest = bytes; place = 0 }
reading many bytes (suc n) = read_front (front_of (reading many bytes n).rest) (reading many bytes n)
