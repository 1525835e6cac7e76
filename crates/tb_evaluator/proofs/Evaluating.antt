-- What is evaluated in a scene, in its world.
use Rattle.tb_evaluator.proofs.Common.{◌≡◌, ℕ, List, map, ap, sym, ◌∙◌, subst, All, All-map, Lcg, Names, Store, Update, World, Fits, choice_labels, AreKnown, LabelsWhole, AreOfSignals, store_in}
use Rattle.tb_evaluator.proofs.Common.{in_world, HasSignals}
use Rattle.vlog_meaning.specs.Senses.{IsWhole}
use Rattle.tb_machine.specs.declared.node.Choice.{Choice}
use Rattle.tb_evaluator.proofs.Served.{updates_fit}

pub evaluated_in : {A : Type 0} (f : Names → ℕ → Store → Lcg → A × Lcg) (n m : Names) (p q : ℕ) (store : Store) (w v : World) (g h : Lcg) (a : A) → m ≡ n → q ≡ p → store ≡ store_in w → g ≡ w.words → (a, h) ≡ f m q store g → v ≡ record w { words = h } → (a, v) ≡ in_world w (f n p (store_in w) w.words)
evaluated_in {A = A} f n m p q store w v g h a scope phase at words is goes =
    let all : (a, h) ≡ f n p (store_in w) w.words = is ∙ (λ i. f (scope i) (phase i) (at i) (words i)) in
    ap (λ (z : World). (a, z)) goes ∙ ap (λ (z : A × Lcg). in_world w z) all

pub still_served : (names : Names) (w v : World) (h : Lcg) → v ≡ record w { words = h } → HasSignals names w.widths → HasSignals names v.widths
still_served names w v h goes has = subst (λ (x : World). HasSignals names x.widths) (sym goes) has

pub labels_whole : (names : Names) (items : List Choice) → AreKnown (IsWhole names) items → LabelsWhole names (map choice_labels items)
labels_whole names items known = All-map (All (IsWhole names)) choice_labels items known

pub updates_fit_scene : (n m : Names) (widths : List ℕ) (us vs : List Update) (f : List Update × Lcg) (h : Lcg) → m ≡ n → vs ≡ us → (us, h) ≡ f → AreOfSignals m f.0 → HasSignals n widths → All (Fits widths) vs
updates_fit_scene n m widths us vs f h names slice is of has =
    let here : HasSignals m widths = subst (λ (k : Names). HasSignals k widths) (sym names) has in
    let fits : All (Fits widths) us = updates_fit m widths us here (subst (AreOfSignals m) (sym (ap (λ (z : List Update × Lcg). z.0) is)) of) in
    subst (All (Fits widths)) (sym slice) fits
