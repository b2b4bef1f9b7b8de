-- An object that is there is written, and no other.
use Rattle.std.proofs.Common.{List, ℕ, subst, sym, ◌∙◌}
use Rattle.pickle_io.specs.Device.{Writes}
use Rattle.object_texts.proofs.Stacks.{one_object, Wrote-no_object}
use Rattle.object_texts.proofs.stack.write_at.Goals as goal

pub returns-in-Some : goal.returns-in-Some
returns-in-Some g c =
    subst (λ (text : List ℕ). Writes (g.S.Sink.told c.args.page.now) (g.S.Sink.told c.write_next.new.page) c.write_next.result text) (one_object _ c.in-Some.id (sym c.stack_at.ensures ∙ c.in-Some.is)) c.write_next.ensures

pub returns-in-None : goal.returns-in-None
returns-in-None g c = Wrote-no_object _ _ (sym c.stack_at.ensures ∙ c.in-None.is)
