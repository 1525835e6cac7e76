-- What has a shape keeps it in each evaluation.
use Rattle.tb_values.proofs.Common.{◌≡◌, ℕ, List, [], ◌∷◌, ◌++◌, map, refl, ap, subst, Option, None, Some, Lcg, Expr, Expr-F, roll-Expr, fold-roll-Expr, ind-Expr, map-Expr, Identifier, Function}
use Rattle.tb_values.proofs.Common.{Signed, Unsigned, Clog2, Random, Time, function_of, Names, Sense, sense, senses, step, name_signals, name_faults, all_signals, all_faults, all_reads, all_features}
use Rattle.tb_values.proofs.Common.{total_width, constant_faults, call_shape, call_value, call_signals, call_faults, call_zeros, Drawn, drawn, drawn_step, all_drawn, call_drawn, number_sense}
use Rattle.tb_values.proofs.Common.{random_shape, time_shape, ShapesStay}
use Rattle.rand_pcg.specs.Pcg.{pcg32}
use Rattle.vlog_syntax.specs.declared.expr.Expr.TheOpen as e
use Rattle.vlog_meaning.specs.declared.fault.Fault.{Fault}
use Rattle.vlog_meaning.proofs.Blanks.{left_nil, right_nil, these_nil, those_nil}
use Rattle.vlog_meaning.proofs.Same.{no_signals}

-- what a part says in an evaluation, and what it says in a design
record Keeps (s d : Sense) : Type 0 where
  quiet : s.signals ≡ [] → d ≡ s
  whole : s.faults ≡ [] → d.faults ≡ []
  shape : s.faults ≡ [] → d.shape ≡ s.shape

record KeepAll (ss ds : List Sense) : Type 0 where
  quiet : all_signals ss ≡ [] → ds ≡ ss
  whole : all_faults ss ≡ [] → all_faults ds ≡ []
  width : all_faults ss ≡ [] → total_width ds ≡ total_width ss

both_nil : (xs ys : List Fault) → xs ≡ [] → ys ≡ [] → xs ++ ys ≡ []
both_nil xs ys e f = rw (e, f) refl

abbrev KeptAt : Names → ℕ → Expr → Type 0
KeptAt names phase x = (g : Lcg) → Keeps (sense names x) (drawn names phase x g).0

abbrev StepKept : Names → ℕ → Expr-F Expr → Type 0
StepKept names phase x = (g : Lcg) → Keeps (step names (map-Expr Expr Sense (sense names) x)) (drawn_step names phase (map-Expr Expr Drawn (drawn names phase) x) g).0

abbrev Proved : Names → ℕ → Type 0
Proved names phase = (x : Expr) × KeptAt names phase x

from_step : (names : Names) (phase : ℕ) (x : Expr-F Expr) → StepKept names phase x → KeptAt names phase (roll-Expr x)
from_step names phase x kept g = rw (fold-roll-Expr Sense (step names) x, fold-roll-Expr Drawn (drawn_step names phase) x) (kept g)

all_keep : (names : Names) (phase : ℕ) (xs : List (Proved names phase)) (g : Lcg) → KeepAll (senses names (map (λ w. w.0) xs)) (all_drawn (map (drawn names phase) (map (λ w. w.0) xs)) g).0
all_keep names phase [] g = record { quiet = λ q. refl; whole = λ f. refl; width = λ f. refl }
all_keep names phase (w ∷ more) g =
    let k = w.1 g in
    let rest = all_keep names phase more (drawn names phase w.0 g).1 in
    let a = sense names w.0 in
    record {
      quiet = λ q. rw (k.quiet (left_nil a.signals _ q), rest.quiet (right_nil a.signals _ q)) refl;
      whole = λ f. both_nil _ _ (k.whole (left_nil a.faults _ f)) (rest.whole (right_nil a.faults _ f));
      width = λ f. rw (k.shape (left_nil a.faults _ f), rest.width (right_nil a.faults _ f)) refl;
    }

-- Calls.

abbrev call_sense : Identifier → Option Function → List Sense → Sense
call_sense n f ss = record { shape = call_shape f ss; value = λ store c. call_value f ss store c; reads = all_reads ss; signals = call_signals f n.span ++ all_signals ss; faults = call_faults f n.span ss; features = all_features ss; zeros = λ c. call_zeros f ss }

abbrev call_says : Identifier → ℕ → Option Function → List Drawn → Lcg → Sense
call_says n phase (Some Random) [] g = number_sense random_shape (pcg32 g).0
call_says n phase (Some Time) [] g = number_sense time_shape phase
call_says n phase f ds g = call_sense n f (all_drawn ds g).0

says : (names : Names) (phase : ℕ) (n : Identifier) (f : Option Function) (ds : List Drawn) (g : Lcg) → function_of n.name ≡ f → (call_drawn names phase n f ds g).0 ≡ call_says n phase f ds g
says names phase n (Some Random) [] g is = refl
says names phase n (Some Random) (d ∷ ds) g is = ap (λ (f : Option Function). call_sense n f (all_drawn (d ∷ ds) g).0) is
says names phase n (Some Time) [] g is = refl
says names phase n (Some Time) (d ∷ ds) g is = ap (λ (f : Option Function). call_sense n f (all_drawn (d ∷ ds) g).0) is
says names phase n (Some Signed) ds g is = ap (λ (f : Option Function). call_sense n f (all_drawn ds g).0) is
says names phase n (Some Unsigned) ds g is = ap (λ (f : Option Function). call_sense n f (all_drawn ds g).0) is
says names phase n (Some Clog2) ds g is = ap (λ (f : Option Function). call_sense n f (all_drawn ds g).0) is
says names phase n None ds g is = ap (λ (f : Option Function). call_sense n f (all_drawn ds g).0) is

call_keeps : (names : Names) (phase : ℕ) (n : Identifier) (f : Option Function) (xs : List (Proved names phase)) (g : Lcg) → Keeps (call_sense n f (senses names (map (λ w. w.0) xs))) (call_says n phase f (map (drawn names phase) (map (λ w. w.0) xs)) g)
call_keeps names phase n (Some Random) [] g = record { quiet = λ q. absurd cc; whole = λ f. refl; shape = λ f. refl }
call_keeps names phase n (Some Random) (w ∷ ws) g = record { quiet = λ q. absurd cc; whole = λ f. absurd cc; shape = λ f. refl }
call_keeps names phase n (Some Time) [] g = record { quiet = λ q. absurd cc; whole = λ f. refl; shape = λ f. refl }
call_keeps names phase n (Some Time) (w ∷ ws) g = record { quiet = λ q. absurd cc; whole = λ f. absurd cc; shape = λ f. refl }
call_keeps names phase n None xs g =
    let all = all_keep names phase xs g in
    record { quiet = λ q. ap (λ (ss : List Sense). call_sense n None ss) (all.quiet q); whole = λ f. absurd cc; shape = λ f. refl }
call_keeps names phase n (Some Signed) [] g = record { quiet = λ q. refl; whole = λ f. absurd cc; shape = λ f. refl }
call_keeps names phase n (Some Signed) (w ∷ []) g =
    let k = w.1 g in
    record { quiet = λ q. rw (k.quiet (left_nil (sense names w.0).signals [] q)) refl; whole = λ f. k.whole f; shape = λ f. rw (k.shape f) refl }
call_keeps names phase n (Some Signed) (w ∷ x ∷ more) g =
    let all = all_keep names phase (w ∷ x ∷ more) g in
    record { quiet = λ q. ap (λ (ss : List Sense). call_sense n (Some Signed) ss) (all.quiet q); whole = λ f. absurd cc; shape = λ f. refl }
call_keeps names phase n (Some Unsigned) [] g = record { quiet = λ q. refl; whole = λ f. absurd cc; shape = λ f. refl }
call_keeps names phase n (Some Unsigned) (w ∷ []) g =
    let k = w.1 g in
    record { quiet = λ q. rw (k.quiet (left_nil (sense names w.0).signals [] q)) refl; whole = λ f. k.whole f; shape = λ f. rw (k.shape f) refl }
call_keeps names phase n (Some Unsigned) (w ∷ x ∷ more) g =
    let all = all_keep names phase (w ∷ x ∷ more) g in
    record { quiet = λ q. ap (λ (ss : List Sense). call_sense n (Some Unsigned) ss) (all.quiet q); whole = λ f. absurd cc; shape = λ f. refl }
call_keeps names phase n (Some Clog2) [] g = record { quiet = λ q. refl; whole = λ f. absurd cc; shape = λ f. refl }
call_keeps names phase n (Some Clog2) (w ∷ []) g =
    let k = w.1 g in
    record { quiet = λ q. rw (k.quiet (left_nil (sense names w.0).signals [] q)) refl; whole = λ f. rw (k.quiet (no_signals (sense names w.0) f)) f; shape = λ f. refl }
call_keeps names phase n (Some Clog2) (w ∷ x ∷ more) g =
    let all = all_keep names phase (w ∷ x ∷ more) g in
    record { quiet = λ q. ap (λ (ss : List Sense). call_sense n (Some Clog2) ss) (all.quiet q); whole = λ f. absurd cc; shape = λ f. refl }

-- Parts.

layer : (names : Names) (phase : ℕ) (y : Expr-F (Proved names phase)) → StepKept names phase (map-Expr (Proved names phase) Expr (λ (w : Proved names phase). w.0) y)
layer names phase (e.Number n) g = record { quiet = λ q. refl; whole = λ f. f; shape = λ f. refl }
layer names phase (e.Name n) g = record { quiet = λ q. refl; whole = λ f. f; shape = λ f. refl }
layer names phase (e.BitSelect n s i) g =
    let k = i.1 g in
    let a = sense names i.0 in
    record {
      quiet = λ q. rw (k.quiet (right_nil (name_signals n.span (names n.name)) a.signals q)) refl;
      whole = λ f. both_nil _ _ (left_nil (name_faults n.span (names n.name)) a.faults f) (k.whole (right_nil (name_faults n.span (names n.name)) a.faults f));
      shape = λ f. refl;
    }
layer names phase (e.PartSelect n s i j) g =
    let k = i.1 g in
    let l = j.1 (drawn names phase i.0 g).1 in
    let a = sense names i.0 in
    let b = sense names j.0 in
    let constants = λ (f : (step names (e.PartSelect n s a b)).faults ≡ []). these_nil _ _ (right_nil (name_faults n.span (names n.name)) _ f) in
    let here = λ (f : (step names (e.PartSelect n s a b)).faults ≡ []). k.quiet (no_signals a (left_nil _ (constant_faults b) (constants f))) in
    let there = λ (f : (step names (e.PartSelect n s a b)).faults ≡ []). l.quiet (no_signals b (right_nil (constant_faults a) _ (constants f))) in
    record {
      quiet = λ q. let rest = right_nil (name_signals n.span (names n.name)) (a.signals ++ b.signals) q in rw (k.quiet (left_nil a.signals b.signals rest), l.quiet (right_nil a.signals b.signals rest)) refl;
      whole = λ f. rw (here f, there f) f;
      shape = λ f. rw (here f, there f) refl;
    }
layer names phase (e.IndexedPartSelect n s i j) g =
    let k = i.1 g in
    let l = j.1 (drawn names phase i.0 g).1 in
    let a = sense names i.0 in
    let b = sense names j.0 in
    let rest = λ (f : (step names (e.IndexedPartSelect n s a b)).faults ≡ []). right_nil (name_faults n.span (names n.name)) _ f in
    let there = λ (f : (step names (e.IndexedPartSelect n s a b)).faults ≡ []). l.quiet (no_signals b (these_nil _ _ (right_nil a.faults _ (rest f)))) in
    record {
      quiet = λ q. let after = right_nil (name_signals n.span (names n.name)) (a.signals ++ b.signals) q in rw (k.quiet (left_nil a.signals b.signals after), l.quiet (right_nil a.signals b.signals after)) refl;
      whole = λ f. rw (there f) (both_nil _ _ (left_nil (name_faults n.span (names n.name)) _ f) (both_nil _ _ (k.whole (left_nil a.faults _ (rest f))) (right_nil a.faults _ (rest f))));
      shape = λ f. rw (there f) refl;
    }
layer names phase (e.Parenthesized s i) g =
    let k = i.1 g in
    record { quiet = λ q. rw (k.quiet q) refl; whole = λ f. k.whole f; shape = λ f. k.shape f }
layer names phase (e.Unary s op i) g =
    let k = i.1 g in
    record { quiet = λ q. rw (k.quiet q) refl; whole = λ f. k.whole f; shape = λ f. rw (k.shape f) refl }
layer names phase (e.Binary s op i j) g =
    let k = i.1 g in
    let l = j.1 (drawn names phase i.0 g).1 in
    let a = sense names i.0 in
    let b = sense names j.0 in
    record {
      quiet = λ q. rw (k.quiet (left_nil a.signals b.signals q), l.quiet (right_nil a.signals b.signals q)) refl;
      whole = λ f. both_nil _ _ (k.whole (left_nil a.faults b.faults f)) (l.whole (right_nil a.faults b.faults f));
      shape = λ f. rw (k.shape (left_nil a.faults b.faults f), l.shape (right_nil a.faults b.faults f)) refl;
    }
layer names phase (e.Conditional s x i j) g =
    let h = x.1 g in
    let k = i.1 (drawn names phase x.0 g).1 in
    let l = j.1 (drawn names phase i.0 (drawn names phase x.0 g).1).1 in
    let c = sense names x.0 in
    let a = sense names i.0 in
    let b = sense names j.0 in
    record {
      quiet = λ q. let rest = right_nil c.signals (a.signals ++ b.signals) q in rw (h.quiet (left_nil c.signals (a.signals ++ b.signals) q), k.quiet (left_nil a.signals b.signals rest), l.quiet (right_nil a.signals b.signals rest)) refl;
      whole = λ f. let rest = right_nil c.faults (a.faults ++ b.faults) f in both_nil _ _ (h.whole (left_nil c.faults (a.faults ++ b.faults) f)) (both_nil _ _ (k.whole (left_nil a.faults b.faults rest)) (l.whole (right_nil a.faults b.faults rest)));
      shape = λ f. let rest = right_nil c.faults (a.faults ++ b.faults) f in rw (k.shape (left_nil a.faults b.faults rest), l.shape (right_nil a.faults b.faults rest)) refl;
    }
layer names phase (e.Concatenation s ps) g =
    let all = all_keep names phase ps g in
    record {
      quiet = λ q. rw (all.quiet q) refl;
      whole = λ f. rw (all.whole (these_nil _ _ f), all.width (these_nil _ _ f)) (those_nil _ _ f);
      shape = λ f. rw (all.width (these_nil _ _ f)) refl;
    }
layer names phase (e.MultipleConcatenation s i ps) g =
    let k = i.1 g in
    let all = all_keep names phase ps (drawn names phase i.0 g).1 in
    let a = sense names i.0 in
    let ss = senses names (map (λ (w : Proved names phase). w.0) ps) in
    let front = λ (f : (step names (e.MultipleConcatenation s a ss)).faults ≡ []). these_nil _ _ f in
    let counts = λ (f : (step names (e.MultipleConcatenation s a ss)).faults ≡ []). left_nil _ (all_faults ss) (front f) in
    let here = λ (f : (step names (e.MultipleConcatenation s a ss)).faults ≡ []). k.quiet (no_signals a (these_nil _ _ (counts f))) in
    let parts = λ (f : (step names (e.MultipleConcatenation s a ss)).faults ≡ []). right_nil _ (all_faults ss) (front f) in
    record {
      quiet = λ q. rw (k.quiet (left_nil a.signals (all_signals ss) q), all.quiet (right_nil a.signals (all_signals ss) q)) refl;
      whole = λ f. rw (here f, all.whole (parts f), all.width (parts f), counts f) (those_nil _ _ f);
      shape = λ f. rw (here f, all.width (parts f)) refl;
    }
layer names phase (e.SystemFunctionCall n ps) g = rw (says names phase n (function_of n.name) (map (drawn names phase) (map (λ (w : Proved names phase). w.0) ps)) g refl) (call_keeps names phase n (function_of n.name) ps g)

kept : (names : Names) (phase : ℕ) (x : Expr) → KeptAt names phase x
kept names phase = ind-Expr (KeptAt names phase) (λ x y is. from_step names phase x (subst (StepKept names phase) is (layer names phase y)))

pub shapes_stay : ShapesStay
shapes_stay names phase x g whole = let k = kept names phase x g in (k.whole whole, k.shape whole)
