use Rattle.std.proofs.Common.{refl}
use Rattle.pickle_doc.specs.Place.{ops_of}
use Rattle.pickle_session.proofs.Trails.{run_nothing}
use Rattle.pickle_session.proofs.way.Walker.new.Goals as goal

pub returns-clause-there : goal.returns-clause-there
returns-clause-there c = record { reached = rw (c.start.ensures, c.is_many.ensures) (run_nothing (ops_of c.args.document.now.contents)); offset = refl }
