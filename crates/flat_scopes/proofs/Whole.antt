-- Where a call gave no refusal, there was none to give.
use Rattle.flat_scopes.proofs.Common.{◌≡◌, List, [], ℤ, Option, None, Some, true≢false, refl, sym, ap, ◌∙◌, option_map, is_some, Span, ConstError, Fault, least, const_error}
use Rattle.flat_scopes.specs.Ranges.{bits_between, bits_of_bounds}

pub none-refused : (e : ConstError) (faults : List Fault) → faults ≡ [] → Some e ≡ option_map const_error (least faults) → ⊥
unfolding least
none-refused e faults none refused = absurd (true≢false (ap is_some refused ∙ ap (λ list. is_some (option_map const_error (least list))) none))

pub bounds-given : (at : Span) (first second : Option Fault) (msb lsb : ℤ) → None ≡ option_map const_error first → None ≡ option_map const_error second → bits_of_bounds at first second msb lsb ≡ bits_between at msb lsb
bounds-given at None None msb lsb h k = refl
bounds-given at None (Some f) msb lsb h k = absurd (true≢false (sym (ap is_some k)))
bounds-given at (Some f) second msb lsb h k = absurd (true≢false (sym (ap is_some h)))
