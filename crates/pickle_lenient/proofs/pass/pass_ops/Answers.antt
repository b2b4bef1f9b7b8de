use Rattle.std.proofs.Common.{◌≡◌, ◌+◌, drop, length, ap, sym, ◌∙◌, arith}
use Rattle.std.proofs.lemmas.List.{drop-drop, length-drop}
use Rattle.pickle_lenient.proofs.Passings.{one_more}
use Rattle.pickle_lenient.proofs.pass.pass_ops.Goals as goal

pub opcodes-preserved : goal.opcodes-preserved
opcodes-preserved c =
    let is = c.opcodes.invariant.0 in
    let short : length c.opcodes.rest.now ≡ length (drop c.opcodes.size c.args.bytes.now) = ap length is in (
      c.split_at.ensures.back ∙ ap (drop c.in-Some.passed.size) is ∙ drop-drop c.in-Some.passed.size c.opcodes.size c.args.bytes.now,
      omega (arith, c.in-Some.ensures.within, short, length-drop c.opcodes.size c.args.bytes.now, c.opcodes.invariant.1),
      one_more c.args.left c.args.bytes.now c.opcodes.rest.now c.opcodes.size c.opcodes.now c.in-Some.passed.size c.in-Some.passed.left c.opcodes.invariant.2 is c.in-Some.ensures.passes,
    )
