-- The bits of whole signals, one signal more at a time.
use Rattle.tb_nets.proofs.Common.{◌≡◌, zero, suc, ℕ, ◌<◌, Bool, ◌&&◌, ◌||◌, nat_eq, nat_lt, List, [], ◌∷◌, sym, ap, ◌∙◌, arith, length, get_or, take, has_bit, signal_bits, or_end, after}

signals_take : (ks : List ℕ) (k d n i : ℕ) → k < length ks → signal_bits (take (suc k) ks) n i ≡ (signal_bits (take k ks) n i || (nat_eq n (get_or ks k d) && nat_lt i 128))
signals_take [] k d n i h = absurd (omega arith)
signals_take (x ∷ more) zero d n i h = or_end (nat_eq n x && nat_lt i 128)
signals_take (x ∷ more) (suc k) d n i h = ap (λ (b : Bool). (nat_eq n x && nat_lt i 128) || b) (signals_take more k d n i (omega arith)) ∙ after (nat_eq n x && nat_lt i 128) (signal_bits (take k more) n i) (nat_eq n (get_or more k d) && nat_lt i 128)

pub more_signals : (ks : List ℕ) (k d n i bits : ℕ) (old before now : Bool) → k < length ks → has_bit bits i ≡ nat_lt i 128 → before ≡ (old || signal_bits (take k ks) n i) → now ≡ (before || (nat_eq n (get_or ks k d) && has_bit bits i)) → now ≡ (old || signal_bits (take (suc k) ks) n i)
more_signals ks k d n i bits old before now h whole e f =
    f ∙ ap (λ (b : Bool). before || (nat_eq n (get_or ks k d) && b)) whole ∙ ap (λ (b : Bool). b || (nat_eq n (get_or ks k d) && nat_lt i 128)) e ∙ sym (after old (signal_bits (take k ks) n i) (nat_eq n (get_or ks k d) && nat_lt i 128)) ∙ ap (λ (b : Bool). old || b) (sym (signals_take ks k d n i h))
