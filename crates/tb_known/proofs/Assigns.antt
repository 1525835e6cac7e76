-- Assigns in which nothing is wrong can be carried out.
use Rattle.tb_known.proofs.Common.{◌≡◌, true, ◌&&◌, List, [], ◌++◌, map, ap, None, flat_map, Expr, Fault, Names, sense, fault, assigned, is_empty, left_nil, right_nil, width_of, parts_of, same_form}
use Rattle.tb_known.proofs.Common.{divisions, BenchFault, Wrong, has_shape, all_signals, wrong, part_faults, FaultlessAssigns}
use Rattle.vlog_meaning.specs.declared.fault.Cause.TheVariants.{SystemFunction}
use Rattle.tb_checks.specs.Nets.{randoms, net_wrong, indices_faults, net_faults}
use Rattle.tb_known.proofs.Nothing.{none_before, and_true}
use Rattle.tb_known.proofs.Expressions.{wrong_passes, signals_pass}

pub net_passes : (names : Names) (x : Expr) → net_wrong names x ≡ [] → has_shape names x ≡ true
net_passes names x e = wrong_passes names x (left_nil (wrong names x) (map (fault SystemFunction) (randoms x)) e)

pub assigns : FaultlessAssigns
assigns names x e =
    let left : Expr = same_form x.left in
    let faults : List Fault = (sense names left).faults ++ indices_faults names x.left in
    let sides : List BenchFault = map Wrong (net_faults names left x.left x.value) in
    let written : List BenchFault = flat_map (part_faults names None) (parts_of x.left) in
    let both : faults ++ net_wrong names x.value ≡ [] = none_before (faults ++ net_wrong names x.value) (divisions ((sense names x.value).zeros (assigned (sense names x.value) (width_of names left)))) (left_nil sides written e) in
    let shaped : has_shape names left ≡ true = ap (λ (fs : List Fault). is_empty fs) (left_nil (sense names left).faults (indices_faults names x.left) (left_nil faults (net_wrong names x.value) both)) in
    and_true (has_shape names left) (all_signals names (parts_of x.left) && has_shape names x.value) shaped
    (and_true (all_signals names (parts_of x.left)) (has_shape names x.value) (signals_pass names None (parts_of x.left) (right_nil sides written e)) (net_passes names x.value (right_nil faults (net_wrong names x.value) both)))
