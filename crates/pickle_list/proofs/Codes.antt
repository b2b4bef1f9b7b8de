-- A code in its column.
use Rattle.std.proofs.Common.{◌≡◌, Bool, true, false, ◌&&◌, nat_lt, take, refl}
use Rattle.pickle_ops.specs.declared.opcode.Opcode.{Opcode}
use Rattle.pickle_ops.specs.Table.{code_of}
use Rattle.pickle_io.specs.Text.{◌⧺◌}
use Rattle.hex.specs.Hex.{encode_with}
use Rattle.pickle_text.specs.Column.{left_aligned}
use Rattle.pickle_list.specs.ListingColumn.{code_cells}
use Rattle.pickle_list.specs.Line.{code_column}

cells_by : (o : Opcode) (visible : Bool) → (nat_lt 32 (code_of o) && nat_lt (code_of o) 127) ≡ visible → take 7 (code_cells (code_of o)) ≡ code_column o
unfolding code_column left_aligned ◌⧺◌ encode_with
cells_by o true h = rw h refl
cells_by o false h = rw h refl

pub cells_taken : (o : Opcode) → take 7 (code_cells (code_of o)) ≡ code_column o
cells_taken o = cells_by o (nat_lt 32 (code_of o) && nat_lt (code_of o) 127) refl
