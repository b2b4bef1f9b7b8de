-- Only imports say that they import, in the whole text.
use Rattle.std.proofs.Common.{ℕ, Bool, List, Option}
use Rattle.std.specs.Prelude.{codes}
use Rattle.pickle_io.specs.Text.{◌⧺◌}
use Rattle.pickle_text.specs.Words.{id_text}
use Rattle.pickle_calls.specs.Naming.{NewPair}
use Rattle.calls_laws.specs.LineLaws.{import_said}
use Rattle.pickle_loader.specs.EventLine.{BeginsWithOffset}
use Rattle.pickle_loader.specs.Import.{import_line, OnlyImportsSayImport}
use Rattle.pickle_loader.proofs.EventLines.{column_begins, no_other}
use Rattle.pickle_loader.proofs.Imports.{gone_imports}

import_begins : (old : Bool) (other : Option NewPair) (from name : List ℕ) (offset id : ℕ) → BeginsWithOffset (import_line old other from name offset id)
import_begins old other from name offset id = column_begins offset (codes "import " ⧺ import_said old other from name ⧺ codes " as " ⧺ id_text id)

pub only_imports_say_import : OnlyImportsSayImport
only_imports_say_import how p bytes o text small old other from name offset id h =
    let line : List ℕ = import_line old other from name offset id in
    let item = no_other how p bytes o text small line h (import_begins old other from name offset id) in
    record { item = item; import = gone_imports how.holes item.way item.standing old other from name offset id item.line_is }
