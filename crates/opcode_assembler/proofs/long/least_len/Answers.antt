use Rattle.std.proofs.Common.{◌-◌, sym, ◌∙◌, arith}
use Rattle.opcode_assembler.proofs.Bytes.{fewer, enough, nothing}
use Rattle.opcode_assembler.proofs.long.least_len.Goals as goal

pub returns-then-not-says_no_more-clause-value : goal.returns-then-not-says_no_more-clause-value
returns-then-not-says_no_more-clause-value c =
    enough c.args.bytes.now c.loop-count.count (c.loop-count.count - 1) (omega (arith, c.loop-count-test.true)) (sym c.says_no_more.ensures ∙ c.if-not-says_no_more.true) ∙ c.loop-count.invariant.value

pub loop-count-preserved : goal.loop-count-preserved
loop-count-preserved c = record {
  value = fewer c.args.bytes.now c.loop-count.count (c.loop-count.count - 1) (omega (arith, c.loop-count-test.true)) (sym c.says_no_more.ensures ∙ c.if-not-says_no_more.false) ∙ c.loop-count.invariant.value;
  small = omega (arith, c.loop-count.invariant.small);
}

pub returns-clause-value : goal.returns-clause-value
returns-clause-value c = nothing c.args.bytes.now c.loop-count.count (omega (arith, c.loop-count-test.false)) ∙ c.loop-count.invariant.value
