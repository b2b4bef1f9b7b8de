-- No literal has an end of a line in it.
use Rattle.python_literals.specs.Laws.{StaysOneLine}
use Rattle.python_literals.proofs.ReadBack.{text_lines, bytes_lines, bytearray_lines}
use Rattle.python_literals.proofs.Numerals.{int_lines}

pub stays_one_line : StaysOneLine
stays_one_line = record { texts = text_lines; bytes = bytes_lines; bytearrays = bytearray_lines; ints = int_lines }
