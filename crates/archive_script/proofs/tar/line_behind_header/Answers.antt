use Rattle.std.specs.Prelude.{vec_items}
use Rattle.archive_script.proofs.TarTexts.{behind_short, line_shown}
use Rattle.archive_script.proofs.tar.line_behind_header.Goals as goal

pub line_for-requires : goal.line_for-requires
line_for-requires c = behind_short c.args.bytes.now _ c.behind_header.ensures c.requires

pub returns : goal.returns
returns c = line_shown vec_items c.args.bytes.now _ c.args.verdict _ c.behind_header.ensures c.line_for.ensures
