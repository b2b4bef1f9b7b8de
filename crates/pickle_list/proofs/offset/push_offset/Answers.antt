use Rattle.pickle_io.proofs.Devices.{Wrote-then}
use Rattle.pickle_list.proofs.Offsets.{low_there, high_there}
use Rattle.pickle_list.proofs.offset.push_offset.Goals as goal

pub returns-then-offset-eq0-clause-text : goal.returns-then-offset-eq0-clause-text
returns-then-offset-eq0-clause-text g c =
    let o = c.offset.inside in
    rw (← c.offset.view_is, low_there o.hundreds o.rest c.if-offset-eq0.true) (Wrote-then _ _ _ _ _ c.push_front.ensures.text c.push_right.ensures.text)

pub returns-else-offset-eq0-clause-text : goal.returns-else-offset-eq0-clause-text
returns-else-offset-eq0-clause-text g c =
    let o = c.offset.inside in
    let i = c.offset.invariant in
    rw (← c.offset.view_is, ← high_there o.hundreds o.rest o.len o.text c.pair_of.result _ c.if-offset-eq0.false i.0 i.1 i.3 c.pair_of.ensures) c.push_three.ensures.text
