use Rattle.pickle_script.proofs.Queries.{missing_wrote}
use Rattle.pickle_script.proofs.conversation.query.write_missing.Goals as goal

pub returns : goal.returns
returns g c = missing_wrote _ _ _ _ _ c.requires c.in_ok-write_no_such_object.ensures
