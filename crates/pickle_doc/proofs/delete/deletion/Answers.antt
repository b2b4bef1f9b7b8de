use Rattle.std.proofs.Common.{◌≡◌, Some, option_copied, ap, sym, ◌∙◌}
use Rattle.pickle_doc.specs.Place.{item_at}
use Rattle.pickle_doc.proofs.Deletions.{sound, deletion}
use Rattle.pickle_doc.proofs.Replacements.{frames_between}
use Rattle.pickle_doc.proofs.delete.deletion.Goals as goal

pub resized-requires-clause-frame : goal.resized-requires-clause-frame
resized-requires-clause-frame c =
    let at : item_at c.args.document.now.contents c.args.k ≡ Some c.unwrap.result.now = sym c.item.ensures ∙ ap option_copied c.unwrap.ensures in
    frames_between _ c.args.k _ _ (sound _ c.requires.document c.requires.small) at c.size-size.ensures

pub returns-clause-leads : goal.returns-clause-leads
returns-clause-leads c =
    let at : item_at c.args.document.now.contents c.args.k ≡ Some c.unwrap.result.now = sym c.item.ensures ∙ ap option_copied c.unwrap.ensures in
    (deletion _ c.args.k _ _ _ (sound _ c.requires.document c.requires.small) c.requires.good at c.size-size.ensures c.resized.ensures).leads

pub returns-clause-room : goal.returns-clause-room
returns-clause-room c =
    let at : item_at c.args.document.now.contents c.args.k ≡ Some c.unwrap.result.now = sym c.item.ensures ∙ ap option_copied c.unwrap.ensures in
    (deletion _ c.args.k _ _ _ (sound _ c.requires.document c.requires.small) c.requires.good at c.size-size.ensures c.resized.ensures).fewer
