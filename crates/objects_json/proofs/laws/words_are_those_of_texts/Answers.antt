use Rattle.objects_json.proofs.Agreeing.{words_agree as law}
use Rattle.objects_json.proofs.laws.words_are_those_of_texts.Goals as goal

pub returns : goal.returns
returns c = law
