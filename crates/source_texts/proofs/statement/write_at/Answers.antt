-- An object that is there is written, and no other.
use Rattle.std.proofs.Common.{List, ℕ, subst, sym, ◌∙◌}
use Rattle.pickle_io.specs.Device.{Writes}
use Rattle.source_texts.specs.Held.{then_part}
use Rattle.source_texts.proofs.Stacks.{one_object, wrote_no_object}
use Rattle.source_texts.proofs.statement.write_at.Goals as goal

pub returns-in-Some : goal.returns-in-Some
returns-in-Some g c =
    subst (λ (text : List ℕ). Writes (g.S.Sink.told c.args.page.now) (g.S.Sink.told c.write_part_then.new.page) c.write_part_then.result text)
    (one_object (then_part (g.P.Say.says c.args.say.now)) _ c.in-Some.id (sym c.stack_at.ensures ∙ c.in-Some.is)) c.write_part_then.ensures

pub returns-in-None : goal.returns-in-None
returns-in-None g c = wrote_no_object (then_part (g.P.Say.says c.args.say.now)) _ _ (sym c.stack_at.ensures ∙ c.in-None.is)
