-- The call around the literal.
use Rattle.std.proofs.Common.{codes}
use Rattle.pickle_io.specs.Text.{◌⧺◌}
use Rattle.pickle_io.specs.Device.{each}
use Rattle.pickle_io.proofs.Devices.{Wrote-then, Wrote-there, Broke-next, Broke-longer, Writes-stop}
use Rattle.python_literals.specs.Signs.{ascii_text}
use Rattle.python_literals.specs.Text.{quote_of, between, bytearray_text}
use Rattle.python_literals.proofs.bytes.write_bytearray.Goals as goal

pub returns-in_err-write_quoted-clause-text : goal.returns-in_err-write_quoted-clause-text
unfolding bytearray_text
returns-in_err-write_quoted-clause-text g c =
    let inside = between (quote_of c.args.bytes.now) (each (ascii_text 39) c.args.bytes.now) in
    Writes-stop _ _ c.from_residual-in_err-write_quoted.result c.from_residual-in_err-write_quoted.result _ c.from_residual-in_err-write_quoted.ensures.0
    (Broke-longer _ _ (codes "bytearray(b" ⧺ inside) (codes ")")
    (Broke-next _ _ _ (codes "bytearray(b") inside (rw c.quote_of-quote.ensures at c.in_err-write_quoted.ensures.text)
    (Wrote-there _ _ _ (codes "bytearray(b") c.push_text.ensures.text c.in_ok-make_room.ensures.writes)))

pub returns-clause-text : goal.returns-clause-text
unfolding bytearray_text
returns-clause-text g c =
    let inside = between (quote_of c.args.bytes.now) (each (ascii_text 39) c.args.bytes.now) in
    Wrote-then _ _ _ (codes "bytearray(b" ⧺ inside) (codes ")") c.push.ensures.text
    (Wrote-then _ _ _ (codes "bytearray(b") inside (rw c.quote_of-quote.ensures at c.in_ok-write_quoted.ensures.text)
    (Wrote-there _ _ _ (codes "bytearray(b") c.push_text.ensures.text c.in_ok-make_room.ensures.writes))
