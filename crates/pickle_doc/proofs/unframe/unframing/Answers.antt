use Rattle.pickle_doc.proofs.Deletions.{sound}
use Rattle.pickle_doc.proofs.Unframes.{unframing}
use Rattle.pickle_doc.proofs.unframe.unframing.Goals as goal

pub returns-clause-leads : goal.returns-clause-leads
returns-clause-leads c = (unframing _ c.args.k (sound _ c.requires.document c.requires.small) c.requires.good).leads

pub returns-clause-room : goal.returns-clause-room
returns-clause-room c = (unframing _ c.args.k (sound _ c.requires.document c.requires.small) c.requires.good).fewer
