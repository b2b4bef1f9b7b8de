use Rattle.session_laws.proofs.Transcripts as transcripts
use Rattle.session_laws.proofs.laws.one_transcript.Goals as goal

pub returns : goal.returns
returns c = transcripts.one_transcript
