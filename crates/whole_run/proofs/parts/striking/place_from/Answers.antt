use Rattle.std.proofs.Common.{ltb, rules}
use Rattle.std.proofs.lemmas.Bool.{ltb-true, ltb-false}
use Rattle.std.proofs.lemmas.List.Sorted.{IsPartitionPoint-from_clause, IsPartitionedBy-ltb}
use Rattle.whole_run.specs.inner.Striking.{rank, key_of}
use Rattle.whole_run.proofs.parts.striking.place_from.Goals as goal

pub returns-clause-before : goal.returns-clause-before
returns-clause-before c =
    let parted = IsPartitionedBy-ltb rank _ (key_of c.args.pos c.args.attempt) c.requires in
    let point = IsPartitionPoint-from_clause (λ fault. ltb (rank fault) (key_of c.args.pos c.args.attempt)) _ _
    c.partition_point.ensures.partitioned parted (λ a r q k. search rules) in
    λ k d low high. ltb-true _ _ (point.0 k d low high)

pub returns-clause-from : goal.returns-clause-from
returns-clause-from c =
    let parted = IsPartitionedBy-ltb rank _ (key_of c.args.pos c.args.attempt) c.requires in
    let point = IsPartitionPoint-from_clause (λ fault. ltb (rank fault) (key_of c.args.pos c.args.attempt)) _ _
    c.partition_point.ensures.partitioned parted (λ a r q k. search rules) in
    λ k d low high. ltb-false _ _ (point.1 k d low high)
