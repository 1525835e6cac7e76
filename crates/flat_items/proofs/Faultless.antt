-- A constant, or why it has no value.
use Rattle.flat_items.proofs.Common.{◌≡◌, ℕ, Option, None, Some, Ok, Err, sym, ap, true≢false, option_map, is_some, Constant, faultless}
use Rattle.vlog_meaning.specs.declared.fault.ConstError.{ConstError}
use Rattle.vlog_meaning.specs.declared.fault.Fault.{Fault}
use Rattle.vlog_meaning.specs.Answers.{const_error}

pub kept : (o : Option Fault) (v w : ℕ) → None ≡ option_map const_error o → w ≡ v → Ok w ≡ faultless o v
kept None v w h e = ap (λ (x : ℕ). Ok x) e
kept (Some f) v w h e = absurd (true≢false (sym (ap is_some h)))

pub lost : (o : Option Fault) (v : ℕ) (x : ConstError) → Some x ≡ option_map const_error o → Err (Constant x) ≡ faultless o v
lost None v x h = absurd (true≢false (ap is_some h))
lost (Some f) v x h = cc
