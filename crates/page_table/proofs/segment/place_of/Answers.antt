use Rattle.std.proofs.Common.{leb, leb-true, leb-false, arith, rules}
use Rattle.std.proofs.lemmas.List.Sorted.{IsPartitionPoint-from_clause, IsPartitionedBy-leb}
use Rattle.page_table.proofs.segment.place_of.Goals as goal

pub returns-clause-before : goal.returns-clause-before
returns-clause-before c =
    let parted = IsPartitionedBy-leb (λ end. end) _ c.args.done c.requires in
    let point = IsPartitionPoint-from_clause (λ end. leb end c.args.done) _ _ c.partition_point.ensures.partitioned parted (λ a r q k. search rules) in
    λ k h. leb-true _ _ (point.0 k 0 (omega arith) h)

pub returns-clause-here : goal.returns-clause-here
returns-clause-here c =
    let parted = IsPartitionedBy-leb (λ end. end) _ c.args.done c.requires in
    let point = IsPartitionPoint-from_clause (λ end. leb end c.args.done) _ _ c.partition_point.ensures.partitioned parted (λ a r q k. search rules) in
    λ h. leb-false _ _ (point.1 _ 0 (omega arith) h)
