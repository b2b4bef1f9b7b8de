-- One character more, or an end.
use Rattle.std.proofs.Common.{length, arith}
use Rattle.std.specs.Str.{chars}
use Rattle.std.proofs.lemmas.Iterator.{YieldsList-from_chars}
use Rattle.std.proofs.lemmas.Iterator.Consumers.{YieldsList-turn, YieldsList-end}
use Rattle.std.proofs.lemmas.List.{length_push}
use Rattle.pickle_io.proofs.Devices.{Wrote-there, Broke-first, each-none, each-next, each-stopped, each-all, Writes-stop}
use Rattle.json_lines.specs.Json.{char_text}
use Rattle.json_lines.proofs.Strings.{chars_is_each}
use Rattle.json_lines.proofs.string.write_each_char.Goals as goal

pub loop-c-init : goal.loop-c-init
loop-c-init g c = record { wrote = each-none char_text _; room = c.requires }

pub returns-in_err-make_room-clause-text : goal.returns-in_err-make_room-clause-text
returns-in_err-make_room-clause-text g c =
    let t = YieldsList-turn (YieldsList-from_chars c.args.text.now c.utf8.text cc) c.loop-c.yielded _ c.loop-c.yielded_by _ _ c.in-Some.c c.in-Some.is c.next.ensures.steps in
    rw (chars_is_each (chars c.args.text.now)) (Writes-stop _ _ c.from_residual.result c.from_residual.result _ c.from_residual.ensures.0
    (each-stopped char_text _ _ _ (chars c.args.text.now) (length c.loop-c.yielded) c.in-Some.c t.0 (Broke-first _ _ _ c.in_err-make_room.ensures.writes) c.loop-c.invariant.wrote))

pub loop-c-preserved : goal.loop-c-preserved
loop-c-preserved g c =
    let t = YieldsList-turn (YieldsList-from_chars c.args.text.now c.utf8.text cc) c.loop-c.yielded _ c.loop-c.yielded_by _ _ c.in-Some.c c.in-Some.is c.next.ensures.steps in
    record {
      wrote = rw (length_push c.loop-c.yielded c.in-Some.c) (each-next char_text _ _ _ (chars c.args.text.now) (length c.loop-c.yielded) c.in-Some.c t.0
          (rw t.1 at (Wrote-there _ _ _ _ c.push_char.ensures.text c.in_ok-make_room.ensures.writes)) c.loop-c.invariant.wrote);
      room = omega (arith, c.in_ok-make_room.ensures.room, c.push_char.ensures.room);
    }

pub returns-clause-text : goal.returns-clause-text
returns-clause-text g c =
    let t = YieldsList-end (YieldsList-from_chars c.args.text.now c.utf8.text cc) c.loop-c.yielded _ c.loop-c.yielded_by _ _ c.in-None.is c.next.ensures.steps in
    rw (chars_is_each (chars c.args.text.now)) (each-all char_text _ _ (chars c.args.text.now) (length c.loop-c.yielded) (omega (arith, t.1)) c.loop-c.invariant.wrote)
