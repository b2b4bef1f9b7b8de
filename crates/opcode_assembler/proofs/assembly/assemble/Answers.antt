use Rattle.std.proofs.Common.{◌+◌, arith}
use Rattle.std.specs.List.{slice_split}
use Rattle.opcode_assembler.specs.Assembly.{is_newline}
use Rattle.opcode_assembler.proofs.Cuts.{rest_smaller}
use Rattle.opcode_assembler.proofs.Lines.{completes_more, finds_more, refuses, nothing_left}
use Rattle.opcode_assembler.proofs.assembly.assemble.Goals as goal

pub loop-rest-smaller : goal.loop-rest-smaller
loop-rest-smaller c = rest_smaller is_newline c.loop-rest.rest c.cut_line-piece.result.rest c.in-Some.left c.in-Some.is c.cut_line-piece.ensures.rest

pub returns-in-Err-clause-err : goal.returns-in-Err-clause-err
returns-in-Err-clause-err c =
    refuses c.loop-rest.rest c.cut_line-piece.result.rest c.in-Some.left c.cut_line-piece.result.line.now c.loop-rest.out.items c.put_numbered.new.out.items c.args.text.now c.loop-rest.number c.in-Err.refusal
    c.in-Some.is c.cut_line-piece.ensures.line c.cut_line-piece.ensures.rest c.in-Err.ensures c.loop-rest.invariant.finds

pub loop-rest-preserved : goal.loop-rest-preserved
loop-rest-preserved c =
    let all = slice_split is_newline c.args.text.now in
    let s = rest_smaller is_newline c.loop-rest.rest c.cut_line-piece.result.rest c.in-Some.left c.in-Some.is c.cut_line-piece.ensures.rest in
    let n = c.loop-rest.invariant.counted in
    record {
      completes = completes_more c.loop-rest.rest c.cut_line-piece.result.rest c.in-Some.left c.cut_line-piece.result.line.now c.loop-rest.out.items c.put_numbered.new.out.items (c.loop-rest.number + 1) all
          c.in-Some.is c.cut_line-piece.ensures.line c.cut_line-piece.ensures.rest c.in-Ok.ensures c.loop-rest.invariant.completes;
      finds = finds_more c.loop-rest.rest c.cut_line-piece.result.rest c.in-Some.left c.cut_line-piece.result.line.now c.loop-rest.out.items c.put_numbered.new.out.items c.loop-rest.number all
          c.in-Some.is c.cut_line-piece.ensures.line c.cut_line-piece.ensures.rest c.in-Ok.ensures c.loop-rest.invariant.finds;
      counted = omega (arith, s, n);
    }

pub returns-clause-ok : goal.returns-clause-ok
returns-clause-ok c = nothing_left c.loop-rest.rest c.loop-rest.out.items (slice_split is_newline c.args.text.now) c.in_default.is c.loop-rest.invariant.completes
