use Rattle.std.proofs.Common.{arith}
use Rattle.pickle_script.proofs.Outputs.{refused_large}
use Rattle.pickle_script.proofs.texts.written.write_text.Goals as goal

pub returns-then-bytes-gt-LIMIT : goal.returns-then-bytes-gt-LIMIT
returns-then-bytes-gt-LIMIT g c = refused_large g.S.Sink.told c.args.text c.args.many c.args.loose c.args.bytes.now c.args.page.now (λ i. omega (arith, c.type_inv.bytes i)) (omega (arith, c.if-bytes-gt-LIMIT.true))
