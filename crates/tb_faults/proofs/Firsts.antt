-- The first of one reason, and of what is wrong in expressions, and where there is none.
use Rattle.std.proofs.Common.{◌≡◌, List, [], ◌∷◌, map, refl}
use Rattle.std.specs.Prelude.{Option, None, Some}
use Rattle.std.specs.Option.{option_map}
use Rattle.vlog_meaning.specs.declared.fault.Fault.{Fault}
use Rattle.vlog_meaning.specs.Answers.{least}
use Rattle.vlog_refusals.proofs.Firsts.{first_alone as first_alone_by, first_wrong as first_wrong_by, none_earlier as none_earlier_by}
use Rattle.tb_faults.specs.declared.fault.BenchFault.{BenchFault}
use Rattle.tb_faults.specs.declared.fault.BenchFault.TheVariants.{Wrong}
use Rattle.tb_faults.specs.Order.{place, earlier, IsFirst}

pub first_alone : (f : BenchFault) → IsFirst (f ∷ []) (Some f)
first_alone = first_alone_by place

pub first_wrong : (fs : List Fault) (o : Option Fault) → o ≡ least fs → IsFirst (map Wrong fs) (option_map Wrong o)
first_wrong = first_wrong_by place Wrong (λ f. refl)

pub none_earlier : (f g : Option BenchFault) → None ≡ earlier f g → f ≡ None
none_earlier = none_earlier_by place
