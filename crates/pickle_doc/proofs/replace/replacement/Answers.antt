use Rattle.std.proofs.Common.{◌≡◌, ◌+◌, ℕ, List, Some, option_copied, length, ap, sym, ◌∙◌, arith}
use Rattle.pickle_doc.specs.Place.{item_at, id_at}
use Rattle.pickle_doc.proofs.Deletions.{sound}
use Rattle.pickle_doc.proofs.Replacements.{frames_between, replacement, replaced_small}
use Rattle.pickle_doc.proofs.replace.replacement.Goals as goal

pub resized-frame-requires-clause-more : goal.resized-frame-requires-clause-more
resized-frame-requires-clause-more c =
    omega (arith, replaced_small _ c.args.k c.args.op (sound _ c.requires.document c.requires.small) c.arg.ensures.spelled c.requires.good, ap length c.arg.ensures.value)

pub resized-frame-requires-clause-frame : goal.resized-frame-requires-clause-frame
resized-frame-requires-clause-frame c =
    let at : item_at c.args.document.now.contents c.args.k ≡ Some c.unwrap.result.now = sym c.item.ensures ∙ ap option_copied c.unwrap.ensures in
    frames_between _ c.args.k _ _ (sound _ c.requires.document c.requires.small) at c.size-old.ensures

pub returns-clause-leads : goal.returns-clause-leads
returns-clause-leads c =
    let at : item_at c.args.document.now.contents c.args.k ≡ Some c.unwrap.result.now = sym c.item.ensures ∙ ap option_copied c.unwrap.ensures in
    let named : id_at c.args.document.now.contents c.args.k ≡ Some c.unwrap-id.result = sym c.id.ensures ∙ c.unwrap-id.ensures in
    (replacement _ c.args.k _ _ _ _ c.args.op _ (sound _ c.requires.document c.requires.small) c.arg.ensures.spelled c.requires.good named at c.size-old.ensures (ap (λ (b : List ℕ). length b + 1) c.arg.ensures.value) c.resized-frame.ensures).leads

pub returns-clause-room : goal.returns-clause-room
returns-clause-room c =
    let at : item_at c.args.document.now.contents c.args.k ≡ Some c.unwrap.result.now = sym c.item.ensures ∙ ap option_copied c.unwrap.ensures in
    let named : id_at c.args.document.now.contents c.args.k ≡ Some c.unwrap-id.result = sym c.id.ensures ∙ c.unwrap-id.ensures in
    (replacement _ c.args.k _ _ _ _ c.args.op _ (sound _ c.requires.document c.requires.small) c.arg.ensures.spelled c.requires.good named at c.size-old.ensures (ap (λ (b : List ℕ). length b + 1) c.arg.ensures.value) c.resized-frame.ensures).room
