use Rattle.std.proofs.Common.{arith}
use Rattle.json_script.proofs.Stopped.{refused_large}
use Rattle.json_script.proofs.lines.write_lines.Goals as goal

pub returns-then-bytes-gt-LIMIT : goal.returns-then-bytes-gt-LIMIT
returns-then-bytes-gt-LIMIT g c = refused_large g.S.Sink.told c.args.lines c.args.many c.args.loose c.args.bytes.now c.args.page.now (λ i. omega (arith, c.type_inv.bytes i)) (omega (arith, c.if-bytes-gt-LIMIT.true))
