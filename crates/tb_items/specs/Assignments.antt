-- The assignments of nets that the items of a testbench are: those of an `assign`, of a wire's initial value, and of the connections.
use Rattle.std.specs.Prelude.{Option, None, Some}
use Rattle.vlog_syntax.specs.declared.expr.Expr.{Expr}
use Rattle.vlog_syntax.specs.declared.expr.Expr.TheVariants as e
use Rattle.vlog_syntax.specs.declared.identifier.Identifier.{Identifier}
use Rattle.vlog_syntax.specs.declared.left_side.LeftSide.TheVariants as l
use Rattle.vlog_syntax.specs.declared.stmt.Assignment.{Assignment}
use Rattle.tb_items.specs.declared.item.BenchItem.{BenchItem}
use Rattle.tb_items.specs.declared.item.BenchItem.TheVariants as b

abbrev pub name_assigned : Identifier → Expr → Assignment
name_assigned name x = record { left = l.Name name; span = name.span; value = x }

abbrev pub assignment_of : BenchItem → Option Assignment
assignment_of (b.Drives name x) = Some (name_assigned name x)
assignment_of (b.Assigns a) = Some a
assignment_of (b.Enters port x) = Some (name_assigned port x)
assignment_of (b.Leaves port left) = Some (record { left = left; span = port.span; value = e.Name port })
assignment_of other = None
