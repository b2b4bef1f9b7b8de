use Rattle.std.proofs.Common.{rules}
use Rattle.pickle_script.proofs.Queries.{show_wrote, show_lacks_wrote}
use Rattle.pickle_script.proofs.conversation.query.write_object_of.Goals as goal

pub returns-in-Ok : goal.returns-in-Ok
returns-in-Ok g c = show_wrote _ _ _ _ _ c.requires (rw c.machine.ensures.value at c.in-Ok.ensures.ok)

pub returns-in_ok-write_syntax-in-Err-Memory : goal.returns-in_ok-write_syntax-in-Err-Memory
returns-in_ok-write_syntax-in-Err-Memory g c =
    let same = c.in-Err-Memory.ensures.memory (search rules) in
    show_lacks_wrote _ _ _ _ _ c.requires (rw same at c.in_ok-write_syntax-in-Err-Memory.ensures)
