use Rattle.std.proofs.Common.{rules, of_calls, nat_le}
use Rattle.std.proofs.lemmas.Fn.{always_returns_same}
use Rattle.frame_count.proofs.Partition.{also_up_to, in_front}
use Rattle.frame_count.proofs.stretch.how_many_up_to.Goals as goal

pub returns : goal.returns
returns c =
    in_front (λ v. nat_le v c.args.bound) c.args.values.now c.partition_point.result
    (c.partition_point.ensures.partitioned (λ v. nat_le v c.args.bound)
    (always_returns_same _ _ _ (λ a r f k. search (rules, of_calls)))
    (λ i j d le lt up. also_up_to c.args.bound _ _ (c.requires.order i j d le lt) up))
