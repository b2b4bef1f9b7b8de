use Rattle.session_laws.proofs.Transcripts as transcripts
use Rattle.session_laws.proofs.laws.one_opening.Goals as goal

pub returns : goal.returns
returns c = transcripts.one_opening c.one_document.ensures
