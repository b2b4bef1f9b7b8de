-- What each way comes to.
use Rattle.pickle_mixes.proofs.Looks.{looked_each}
use Rattle.pickle_mixes.proofs.look.look.Goals as goal

pub returns : goal.returns
returns c =
    looked_each c.args.many c.args.bytes.now c.args.place c.args.places.now.items c.look_by.new.places.items c.look_by-2.new.places.items c.look_by-3.new.places.items c.in_ok-acts.acts c.in_ok-look_by.field-0 c.in_ok-look_by-2.field-0
    c.in_ok-acts.ensures c.in_ok-look_by.ensures c.in_ok-look_by-2.ensures
