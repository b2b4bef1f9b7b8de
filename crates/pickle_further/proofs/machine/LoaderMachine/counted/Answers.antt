use Rattle.pickle_further.proofs.Fars.{counts_all}
use Rattle.pickle_further.proofs.machine.LoaderMachine.counted.Goals as goal

pub returns-in-Some : goal.returns-in-Some
returns-in-Some c =
    rw (c.in-Memoize.is, ← c.self.view_is)
    (counts_all c.self.inside.machine.state.memo c.self.inside.far.entries c.in-Some.key c.memo_len.result c.len.result c.memo_len.ensures c.len.ensures.len c.in-Some.ensures)
