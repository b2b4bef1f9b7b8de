use Rattle.std.proofs.Common.{arith}
use Rattle.json_lines.proofs.Strings.{hex_text}
use Rattle.json_lines.proofs.field.write_hex_string.Goals as goal

pub returns : goal.returns
returns g c = rw (hex_text c.args.bytes.now (λ i. omega (arith, c.type_inv.bytes i))) c.write_quoted_hex.ensures
