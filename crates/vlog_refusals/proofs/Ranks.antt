-- A cause and a feature are told by their place in their order.
use Rattle.vlog_refusals.proofs.Common.{◌≡◌, ℕ, List, [], ◌∷◌, get_or, refl, sym, ap, ◌∙◌, cause_rank}
use Rattle.vlog_syntax.specs.declared.feature.Feature.{Feature}
use Rattle.vlog_syntax.specs.declared.feature.Feature.TheVariants as f
use Rattle.vlog_meaning.specs.declared.fault.Cause.{Cause}
use Rattle.vlog_meaning.specs.declared.fault.Cause.TheVariants as c
use Rattle.vlog_refusals.specs.Features.{feature_rank}

causes : List Cause
causes = c.Unknown ∷ c.NotConstant ∷ c.DivideByZero ∷ c.TooWide ∷ c.RangeForm ∷ c.SystemFunction ∷ c.DivideOrPower ∷ c.IndexedBase ∷ c.Drawn ∷ []

cause_again : (x : Cause) → get_or causes (cause_rank x) c.Unknown ≡ x
unfolding causes
cause_again c.Unknown = refl
cause_again c.NotConstant = refl
cause_again c.DivideByZero = refl
cause_again c.TooWide = refl
cause_again c.RangeForm = refl
cause_again c.SystemFunction = refl
cause_again c.DivideOrPower = refl
cause_again c.IndexedBase = refl
cause_again c.Drawn = refl

pub cause_same : (x y : Cause) → cause_rank x ≡ cause_rank y → x ≡ y
cause_same x y e = sym (cause_again x) ∙ ap (λ (n : ℕ). get_or causes n c.Unknown) e ∙ cause_again y

features : List Feature
features =
    f.MacroDepth ∷ f.MacroForm ∷ f.Include ∷ f.DirectiveName ∷ f.NetKind ∷ f.Inout ∷ f.Function ∷ f.Task ∷ f.Specify ∷
    f.Defparam ∷ f.Primitive ∷ f.RealOrTime ∷ f.GenerateCase ∷ f.Memory ∷ f.SystemVerilog ∷ f.RangeForm ∷ f.DivideOrPower ∷
    f.ClockList ∷ f.FallingClock ∷ f.GatedClock ∷ f.ClockAsData ∷ f.MixedAssign ∷ f.NonblockingInComb ∷ f.IndexedBase ∷ f.Delay ∷
    f.SystemTask ∷ f.SystemFunction ∷ f.InitialForm ∷ f.ClockStart ∷ f.Helper ∷ f.FormatText ∷ []

feature_again : (x : Feature) → get_or features (feature_rank x) f.MacroDepth ≡ x
unfolding features
feature_again f.MacroDepth = refl
feature_again f.MacroForm = refl
feature_again f.Include = refl
feature_again f.DirectiveName = refl
feature_again f.NetKind = refl
feature_again f.Inout = refl
feature_again f.Function = refl
feature_again f.Task = refl
feature_again f.Specify = refl
feature_again f.Defparam = refl
feature_again f.Primitive = refl
feature_again f.RealOrTime = refl
feature_again f.GenerateCase = refl
feature_again f.Memory = refl
feature_again f.SystemVerilog = refl
feature_again f.RangeForm = refl
feature_again f.DivideOrPower = refl
feature_again f.ClockList = refl
feature_again f.FallingClock = refl
feature_again f.GatedClock = refl
feature_again f.ClockAsData = refl
feature_again f.MixedAssign = refl
feature_again f.NonblockingInComb = refl
feature_again f.IndexedBase = refl
feature_again f.Delay = refl
feature_again f.SystemTask = refl
feature_again f.SystemFunction = refl
feature_again f.InitialForm = refl
feature_again f.ClockStart = refl
feature_again f.Helper = refl
feature_again f.FormatText = refl

pub feature_same : (x y : Feature) → feature_rank x ≡ feature_rank y → x ≡ y
feature_same x y e = sym (feature_again x) ∙ ap (λ (n : ℕ). get_or features n f.MacroDepth) e ∙ feature_again y
