-- The characters so far are written.
use Rattle.std.proofs.Common.{◌≤◌, take, length}
use Rattle.std.specs.Str.{chars}
use Rattle.pickle_io.specs.Device.{Wrote, each}
use Rattle.json_lines.specs.Json.{char_text}
use Rattle.json_lines.proofs.string.write_each_char.Given as goal

abbrev pub invariant-loop-c : goal.invariant-loop-c
invariant-loop-c g l = record {
  wrote : Wrote (g.P.Sink.told l.initial.page) (g.P.Sink.told l.page) (each char_text (take (length l.yielded) (chars l.text)));
  room : 61 ≤ g.P.Page.room l.page;
}
