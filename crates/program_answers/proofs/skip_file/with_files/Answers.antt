use Rattle.std.proofs.Common.{◌+◌}
use Rattle.std.specs.String.{string_bytes}
use Rattle.program_answers.proofs.Added.{some_words, all_words, lacks_from, from_place}
use Rattle.program_answers.proofs.skip_file.with_files.Goals as goal

pub returns-in_err-i-clause-lacks : goal.returns-in_err-i-clause-lacks
returns-in_err-i-clause-lacks g c =
    lacks_from string_bytes _ _ _ _ _ _ _ _ _ c.loop-i-test.true c.index-given-i.is c.as_str.ensures.value (from_place c.args.given.now (c.loop-i.i + 1)) c.in_err-i.ensures.lacks c.from_residual.ensures.1

pub loop-i-preserved : goal.loop-i-preserved
loop-i-preserved g c =
    some_words string_bytes _ _ _ _ _ _ _ _ _ c.loop-i-test.true c.index-given-i.is c.as_str.ensures.value (from_place c.args.given.now (c.loop-i.i + 1)) c.in_ok-i.ensures.within c.loop-i.invariant.1 c.in_ok-i.ensures.added

pub returns-clause-stand : goal.returns-clause-stand
returns-clause-stand g c = all_words string_bytes _ _ _ _ c.loop-i-test.false c.loop-i.invariant.1
