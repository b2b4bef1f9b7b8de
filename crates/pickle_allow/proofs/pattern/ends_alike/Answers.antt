use Rattle.std.proofs.Common.{◌≡◌, false, sym, ◌∙◌}
use Rattle.std.proofs.lemmas.List.{nil_from_length}
use Rattle.pickle_allow.specs.Allow.{is_star}
use Rattle.pickle_allow.proofs.Last.{last_differs, no_last}
use Rattle.pickle_allow.proofs.pattern.ends_alike.Goals as goal

pub returns-in-Some-split_last : goal.returns-in-Some-split_last
returns-in-Some-split_last c =
    let s : is_star c.in-Some.last.now ≡ false = sym c.is_star.ensures ∙ c.if-is_star.false in
    λ h. rw (c.in-Some.ensures.cases.0, c.in-Some-split_last.ensures.cases.0) (last_differs c.in-Some.field-0-1.now c.in-Some-split_last.field-0-1.now _ _ s h)

pub returns-in-None : goal.returns-in-None
returns-in-None c =
    let s : is_star c.in-Some.last.now ≡ false = sym c.is_star.ensures ∙ c.if-is_star.false in
    λ h. rw (c.in-Some.ensures.cases.0, nil_from_length c.args.text.now c.in-None.ensures.cases) (no_last c.in-Some.field-0-1.now _ s)
