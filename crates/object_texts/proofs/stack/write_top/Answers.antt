-- The top section stands above all others.
use Rattle.std.proofs.Common.{List, ℕ, subst}
use Rattle.pickle_io.specs.Device.{Writes, each}
use Rattle.object_texts.specs.ObjectText.{next_text}
use Rattle.object_texts.proofs.Stacks.{top_between}
use Rattle.object_texts.proofs.stack.write_top.Goals as goal

pub returns : goal.returns
returns g c =
    subst (λ (ids : List ℕ). Writes (g.S.Sink.told c.args.page.now) (g.S.Sink.told c.write_between.new.page) c.write_between.result (each next_text ids)) (top_between c.args.machine.now.state c.args.below c.stack_len.result c.requires c.stack_len.ensures)
    c.write_between.ensures
