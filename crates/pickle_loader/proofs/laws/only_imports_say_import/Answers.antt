use Rattle.pickle_loader.proofs.OnlyImports.{only_imports_say_import as law}
use Rattle.pickle_loader.proofs.laws.only_imports_say_import.Goals as goal

pub returns : goal.returns
returns c = law
