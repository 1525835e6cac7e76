-- A task that neither prints nor writes a dump.
use Rattle.tb_checks.proofs.Common.{◌≡◌, Bool, false, List, [], ◌++◌, subst, sym, if◌then◌else◌, Option, Identifier, Argument, Names, BenchFault, IsFirst, is_print, is_dump, other_task}
use Rattle.tb_checks.proofs.Common.{arguments_faults, format_faults, task_faults}
use Rattle.tb_tasks.specs.Tasks.{arguments_fit}

pub other_first : (names : Names) (n : Identifier) (arguments : List Argument) (o : Option BenchFault) → is_print n.name ≡ false → is_dump n.name ≡ false → IsFirst (other_task n ++ arguments_faults names arguments) o → IsFirst (task_faults names n arguments) o
other_first names n arguments o print dump h =
    let prints : List BenchFault = format_faults (arguments_fit arguments) arguments ++ arguments_faults names arguments in
    let others : List BenchFault = other_task n ++ arguments_faults names arguments in
    subst (λ (b : Bool). IsFirst (if b then prints else (if is_dump n.name then [] else others)) o) (sym print) (subst (λ (b : Bool). IsFirst (if b then [] else others) o) (sym dump) h)
