-- What a wrapper round a device of the standard library holds.
use Rattle.std.specs.Prelude.{ℕ, ◌-◌, ◌^◌}
use Rattle.pickle_io.specs.declared.to_write.ToWrite.{ToWrite}
use Rattle.pickle_io.specs.declared.from_read.FromRead.{FromRead}

abbrev pub writer_of : {W : Type 0} → ToWrite W → W
writer_of s = s.writer

-- how often it has failed
abbrev pub write_failures_of : {W : Type 0} → ToWrite W → ℕ
write_failures_of s = s.failures

abbrev pub reader_of : {R : Type 0} → FromRead R → R
reader_of s = s.reader

-- how often it has failed
abbrev pub read_failures_of : {R : Type 0} → FromRead R → ℕ
read_failures_of s = s.failures

-- how many reads may still give a byte
abbrev pub turns_of : {R : Type 0} → FromRead R → ℕ
turns_of s = s.turns

-- as many as a number of 64 bits can count
abbrev pub first_turns : ℕ
first_turns = 2 ^ 64 - 1
