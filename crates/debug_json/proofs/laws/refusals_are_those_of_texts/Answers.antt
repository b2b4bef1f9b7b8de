use Rattle.debug_json.proofs.Agreeing.{codes_agree, refusals_agree}
use Rattle.debug_json.proofs.laws.refusals_are_those_of_texts.Goals as goal

pub returns-clause-codes : goal.returns-clause-codes
returns-clause-codes c = codes_agree

pub returns-clause-refusals : goal.returns-clause-refusals
returns-clause-refusals c = refusals_agree
