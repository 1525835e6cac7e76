-- Laws of refusals and of left sides.
use Rattle.std.specs.Prelude.{◌≡◌}
use Rattle.vlog_syntax.specs.declared.left_side.LeftSide.{LeftSide}
use Rattle.vlog_refusals.specs.Order.{FirstIsOne as FirstIsOneBy}
use Rattle.elab_proc.specs.Order.{place}
use Rattle.elab_proc.specs.Refusals.{same_form}

-- Of several refusals just one stands first, or there is none.
abbrev pub FirstIsOne : Type 0
FirstIsOne = FirstIsOneBy place

-- Left sides whose expressions of the same form are one are one.
abbrev pub LeftSideIsOne : Type 0
LeftSideIsOne = (left other : LeftSide) → same_form left ≡ same_form other → left ≡ other
