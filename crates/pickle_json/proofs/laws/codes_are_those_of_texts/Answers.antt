use Rattle.pickle_json.proofs.Agreeing.{codes_agree}
use Rattle.pickle_json.proofs.laws.codes_are_those_of_texts.Goals as goal

pub returns : goal.returns
returns c = codes_agree
