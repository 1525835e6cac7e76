-- What comes of nodes.
use Rattle.std.specs.Prelude.{ℕ, List, length}
use Rattle.net_order.specs.declared.answer.Ordered.{Ordered}
use Rattle.net_order.specs.declared.answer.Ordered.TheVariants.{Order, Loop}
use Rattle.net_order.specs.Orders.{Reads, IsOnLoop, IsOrder, Never, IsFirst}

-- where no node is on a loop, their order; else the first that is on one
abbrev pub IsAnswer : List (List ℕ) → Ordered → Type 0
IsAnswer rows (Order order) = IsOrder (length rows) (Reads rows) order.items × Never (IsOnLoop (Reads rows))
IsAnswer rows (Loop c) = IsFirst (IsOnLoop (Reads rows)) c
