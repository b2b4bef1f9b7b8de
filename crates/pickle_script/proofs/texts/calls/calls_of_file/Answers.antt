use Rattle.std.proofs.Common.{arith}
use Rattle.pickle_calls.specs.Manner.{manner}
use Rattle.pickle_script.proofs.Outputs.{file_too_large}
use Rattle.pickle_script.proofs.texts.calls.calls_of_file.Goals as goal

pub returns-then-bytes-gt-LIMIT : goal.returns-then-bytes-gt-LIMIT
returns-then-bytes-gt-LIMIT g c =
    file_too_large g.S.Sink.told (manner c.args.detail c.args.holes.now) c.args.pickles c.args.bytes.now c.args.page.now (omega (arith, c.if-bytes-gt-LIMIT.true))
