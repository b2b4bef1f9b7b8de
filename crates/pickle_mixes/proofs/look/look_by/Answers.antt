use Rattle.pickle_mixes.proofs.Looks.{looked_ok}
use Rattle.pickle_mixes.proofs.look.look_by.Goals as goal

pub returns-in-Ok : goal.returns-in-Ok
returns-in-Ok c =
    looked_ok c.args.many c.args.bytes.now c.args.place c.args.frames c.args.places.now.items c.look_taken.new.places.items c.in-Ok.taken c.look_taken.result c.requires.within c.in-Ok.ensures.ok c.look_taken.ensures.acts c.look_taken.ensures.next
