use Rattle.std.proofs.Common.{Some, ap, subst, ◌∙◌}
use Rattle.pickle_doc.specs.Document.{IsReadAgain}
use Rattle.pickle_machine.specs.Held.{Held}
use Rattle.session_laws.proofs.Saves as saves
use Rattle.session_laws.proofs.laws.saved_whole.Goals as goal

pub returns : goal.returns
returns g c =
    let again = subst IsReadAgain c.document.ensures c.total-total.ensures.again in
    saves.saved_whole c.args.session.now again (λ d reads. c.machine-machine.ensures.again d reads ∙ ap (λ (m : Held). Some m.state) c.machine-machine.ensures.value)
