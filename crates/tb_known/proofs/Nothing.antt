-- Lists in which there is nothing.
use Rattle.tb_known.proofs.Common.{◌≡◌, Bool, true, false, ◌&&◌, List, [], ◌∷◌, map, refl, ap, Fault, is_empty, or_else, these_nil, Wrong}

pub none_wrong : (fs : List Fault) → map Wrong fs ≡ [] → fs ≡ []
none_wrong [] e = refl
none_wrong (f ∷ more) e = absurd cc

pub none_before : (these those : List Fault) → map Wrong (or_else these those) ≡ [] → these ≡ []
none_before these those e = these_nil these those (none_wrong (or_else these those) e)

pub empty_is : (fs : List Fault) → fs ≡ [] → is_empty fs ≡ true
empty_is fs e = ap is_empty e

pub and_true : (a b : Bool) → a ≡ true → b ≡ true → a && b ≡ true
and_true true b a_is b_is = b_is
and_true false b a_is b_is = a_is
