use Rattle.std.proofs.Common.{rules}
use Rattle.mcy_keeper.proofs.FailedWrites.{failed_write}
use Rattle.mcy_keeper.proofs.memory.MemoryKeeperKeeper.upgrade.Goals as goal
use Rattle.mcy_keeper.proofs.memory.MemoryKeeperKeeper.upgrade.Goals.{then-whole+in_ok-self-inside-in-Some, else-whole}

pub returns-after-whole : goal.returns-after-whole
returns-after-whole c =
    failed_write _ c.if-whole.self _ _ c.in-Some.whole (search rules)
    (elim c.if-whole.branch [ then-whole+in_ok-self-inside-in-Some w ↦ search rules | else-whole w ↦ search rules ])
    (search rules)
