-- An expression's own width and sign are a context for it.
use Rattle.std.proofs.Common.{◌≡◌}
use Rattle.vlog_meaning.specs.declared.shapes.Shape.{Shape}
use Rattle.vlog_meaning.specs.Operators.{IsSized}
use Rattle.vlog_meaning.specs.Senses.{IsContext}
use Rattle.vlog_meaning.proofs.Contexts.{own_context}

pub own_shape : (s c : Shape) → c ≡ s → IsSized c → IsContext s c
own_shape s c is sized = own_context s c is sized
