use Rattle.calls_json.proofs.Values.{no_briefs}
use Rattle.calls_json.proofs.value.write_joined.Goals as goal

pub returns-in-None : goal.returns-in-None
returns-in-None g c = no_briefs _ _ _ c.args.ids.now c.in-None.ensures.cases
