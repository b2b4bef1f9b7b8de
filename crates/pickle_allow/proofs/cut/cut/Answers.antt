use Rattle.std.proofs.Common.{ℕ, drop, ap, sym, ◌∙◌}
use Rattle.std.proofs.lemmas.List.{nil_from_length}
use Rattle.pickle_allow.specs.Cut.{separates}
use Rattle.pickle_allow.proofs.Cuts.{prefix_len-within, front_is, tail_of, rest_is}
use Rattle.pickle_allow.proofs.cut.cut.Goals as goal

pub split_at-requires : goal.split_at-requires
split_at-requires c = rw c.front_len.ensures (prefix_len-within _ _)

pub returns-in-Some-clause-front : goal.returns-in-Some-clause-front
returns-in-Some-clause-front c = rw (c.split_at.ensures.front, c.front_len.ensures) (front_is (separates c.args.at) _)

pub returns-in-Some-clause-rest : goal.returns-in-Some-clause-rest
returns-in-Some-clause-rest c =
    ap tail_of (sym c.in-Some.ensures.cases.0)
    ∙ ap tail_of (c.split_at.ensures.back ∙ ap (λ (n : ℕ). drop n c.args.bytes.now) c.front_len.ensures)
    ∙ rest_is (separates c.args.at) _

pub returns-in-None-clause-front : goal.returns-in-None-clause-front
returns-in-None-clause-front c = rw (c.split_at.ensures.front, c.front_len.ensures) (front_is (separates c.args.at) _)

pub returns-in-None-clause-rest : goal.returns-in-None-clause-rest
returns-in-None-clause-rest c =
    ap tail_of (sym (nil_from_length _ c.in-None.ensures.cases))
    ∙ ap tail_of (c.split_at.ensures.back ∙ ap (λ (n : ℕ). drop n c.args.bytes.now) c.front_len.ensures)
    ∙ rest_is (separates c.args.at) _
