use Rattle.std.proofs.Common.{ℕ, leb, rules}
use Rattle.std.proofs.lemmas.List.Sorted.{IsPartitionPoint-from_clause, IsPartitionedBy-leb}
use Rattle.pickle_io.proofs.holes.count_to.Goals as goal

pub returns-clause-point : goal.returns-clause-point
returns-clause-point c =
    let parted = IsPartitionedBy-leb (λ (p : ℕ). p) _ c.args.place c.requires in
    IsPartitionPoint-from_clause (λ (p : ℕ). leb p c.args.place) _ _ c.partition_point.ensures.partitioned parted (λ a r q k. search rules)
