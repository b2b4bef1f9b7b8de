use Rattle.std.proofs.Common.{◌+◌, arith}
use Rattle.pickle_allow.specs.Grammar.{is_newline, text_lists}
use Rattle.pickle_allow.proofs.Cuts.{rest_smaller}
use Rattle.pickle_allow.proofs.Reading.{line_read, line_wrong, onto_nothing}
use Rattle.pickle_allow.proofs.read.read_list.Goals as goal

pub loop-rest-init : goal.loop-rest-init
unfolding text_lists
loop-rest-init c = record {
  listed = rw c.new-entries.ensures.items (onto_nothing _);
  counted = omega arith;
}

pub returns-then-not-branch : goal.returns-then-not-branch
returns-then-not-branch c = line_wrong _ _ _ c.loop-rest.rest c.in-Some.left _ _ _ c.in-Some.is c.cut-piece.ensures.front c.in_ok-add_line.ensures c.if-not-branch.true c.loop-rest.invariant.listed

pub loop-rest-smaller : goal.loop-rest-smaller
loop-rest-smaller c = rest_smaller is_newline c.loop-rest.rest c.cut-piece.result.rest c.in-Some.left c.in-Some.is c.cut-piece.ensures.rest

pub loop-rest-preserved : goal.loop-rest-preserved
loop-rest-preserved c =
    let s = rest_smaller is_newline c.loop-rest.rest c.cut-piece.result.rest c.in-Some.left c.in-Some.is c.cut-piece.ensures.rest in
    let n = c.loop-rest.invariant.counted in
    record {
      listed = line_read c.loop-rest.entries.items c.add_line.new.entries.items (c.loop-rest.number + 1) c.loop-rest.rest c.cut-piece.result.rest c.in-Some.left _ _ _ c.in-Some.is c.cut-piece.ensures.front c.cut-piece.ensures.rest c.in_ok-add_line.ensures c.if-not-branch.false c.loop-rest.invariant.listed;
      counted = omega (arith, s, n);
    }
