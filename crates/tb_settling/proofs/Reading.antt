-- What is evaluated depends on the bits that an expression reads.
use Rattle.tb_settling.proofs.Common.{◌≡◌, ℕ, ◌<◌, true, ◌&&◌, ◌==◌, nat_lt, ℤ, pos, ◌-ℤ◌, List, [], ◌∷◌, ◌++◌, map, refl, sym, ap, ◌∙◌, subst, arith, nat_tests, Lcg, Expr, Identifier, Decl, Shape}
use Rattle.tb_settling.proofs.Common.{integer, window, natural, Agree, Names, Store, decl_low, decl_value, IsWithin, AreWithin, left_nil, right_nil, these_nil, settled, name_same, part_same}
use Rattle.tb_settling.proofs.Common.{these_agree, those_agree}
use Rattle.std.specs.Prelude.{Option, None, Some}
use Rattle.rand_pcg.specs.Pcg.{pcg32}
use Rattle.vlog_syntax.specs.declared.expr.Expr.TheOpen as e
use Rattle.vlog_syntax.specs.declared.expr.Expr.TheOpen.{Expr-F}
use Rattle.vlog_syntax.specs.declared.expr.Expr.TheViews.{roll-Expr}
use Rattle.vlog_syntax.specs.declared.expr.Expr.TheFolds.{fold-roll-Expr, ind-Expr, map-Expr}
use Rattle.vlog_meaning.specs.declared.fault.Fault.{Fault}
use Rattle.vlog_meaning.specs.declared.function.Function.{Function}
use Rattle.vlog_meaning.specs.declared.function.Function.TheVariants.{Signed, Unsigned, Clog2, Random, Time}
use Rattle.vlog_meaning.specs.Functions.{function_of}
use Rattle.vlog_meaning.specs.Operators.{sizing, left_context, right_context, operand_context}
use Rattle.vlog_meaning.specs.Senses.{Sense, sense, senses, step, index_of, either, all_reads, name_bits, part_bits, select_bits, constant_integer, constant_faults, joined, name_signals, name_faults}
use Rattle.vlog_meaning.specs.Senses.{all_signals, all_faults, all_features, call_shape, call_value, call_signals, call_faults, call_zeros}
use Rattle.tb_values.specs.Draws.{Drawn, drawn, drawn_step, all_drawn, call_drawn, number_sense, random_shape, time_shape}
use Rattle.vlog_meaning.proofs.Same.{no_signals}

named : (number at width : ℕ) → at < width → number == number && nat_lt at width ≡ true
named number at width h = grind (arith, nat_tests)

-- what a part says in a design, and in an evaluation: one that reads no signal says the same, and the value of one in which
-- nothing is wrong depends on the bits that are read
record Rests (names : Names) (s d : Sense) : Type 0 where
  quiet : s.signals ≡ [] → d ≡ s
  rests : s.faults ≡ [] → (u v : Store) → AreWithin names u → AreWithin names v → Agree s.reads u v → (c : Shape) → d.value u c ≡ d.value v c

record AllRest (names : Names) (ss ds : List Sense) : Type 0 where
  quiet : all_signals ss ≡ [] → ds ≡ ss
  joins : all_faults ss ≡ [] → (u v : Store) → AreWithin names u → AreWithin names v → Agree (all_reads ss) u v → joined u ds ≡ joined v ds

abbrev RestsAt : Names → ℕ → Expr → Type 0
RestsAt names phase x = (g : Lcg) → Rests names (sense names x) (drawn names phase x g).0

abbrev StepRests : Names → ℕ → Expr-F Expr → Type 0
StepRests names phase x = (g : Lcg) → Rests names (step names (map-Expr Expr Sense (sense names) x)) (drawn_step names phase (map-Expr Expr Drawn (drawn names phase) x) g).0

abbrev Proved : Names → ℕ → Type 0
Proved names phase = (x : Expr) × RestsAt names phase x

from_step : (names : Names) (phase : ℕ) (x : Expr-F Expr) → StepRests names phase x → RestsAt names phase (roll-Expr x)
from_step names phase x rests g = rw (fold-roll-Expr Sense (step names) x, fold-roll-Expr Drawn (drawn_step names phase) x) (rests g)

-- a select, whose place is constant or not
select_same : (names : Names) (s t : Store) → AreWithin names s → AreWithin names t → (d : Option Decl) (x : Expr) (a : Sense) (size : ℕ) → IsWithin s d → IsWithin t d → ((sense names x).signals ≡ [] → a ≡ sense names x) → (Agree (sense names x).reads s t → (c : Shape) → a.value s c ≡ a.value t c) → Agree (select_bits d (sense names x) size) s t → window (index_of s a -ℤ pos (decl_low d)) size (decl_value s d) ≡ window (index_of t a -ℤ pos (decl_low d)) size (decl_value t d)
select_same names s t within within_too d x a size w w_too quiet rests agree = go (sense names x).signals refl
  where
    go : (signals : List Fault) → (sense names x).signals ≡ signals → window (index_of s a -ℤ pos (decl_low d)) size (decl_value s d) ≡ window (index_of t a -ℤ pos (decl_low d)) size (decl_value t d)
    go [] is =
        let place : ℤ = constant_integer (sense names x) in
        let bits : Agree (part_bits d (place -ℤ pos (decl_low d)) size) s t = rw is at agree in
        let here : index_of s a ≡ place = ap (index_of s) (quiet is) ∙ ap (integer (sense names x).shape) (settled names x is s (sense names x).shape) in
        let there : index_of t a ≡ place = ap (index_of t) (quiet is) ∙ ap (integer (sense names x).shape) (settled names x is t (sense names x).shape) in
        ap (λ (z : ℤ). window (z -ℤ pos (decl_low d)) size (decl_value s d)) here ∙ part_same d (place -ℤ pos (decl_low d)) size s t w w_too bits ∙ sym (ap (λ (z : ℤ). window (z -ℤ pos (decl_low d)) size (decl_value t d)) there)
    go (y ∷ ys) is =
        let bits : Agree (either (name_bits d) (sense names x).reads) s t = rw is at agree in
        rw (rests (those_agree (name_bits d) (sense names x).reads s t bits) a.shape, name_same d s t w w_too (these_agree (name_bits d) (sense names x).reads s t bits)) refl

all_rest : (names : Names) (phase : ℕ) (xs : List (Proved names phase)) (g : Lcg) → AllRest names (senses names (map (λ w. w.0) xs)) (all_drawn (map (drawn names phase) (map (λ w. w.0) xs)) g).0
all_rest names phase [] g = record { quiet = λ q. refl; joins = λ f u v i j agree. refl }
all_rest names phase (w ∷ more) g =
    let k = w.1 g in
    let d = (drawn names phase w.0 g).0 in
    let rest = all_rest names phase more (drawn names phase w.0 g).1 in
    let a = sense names w.0 in
    let others = senses names (map (λ (x : Proved names phase). x.0) more) in
    record {
      quiet = λ q. rw (k.quiet (left_nil a.signals _ q), rest.quiet (right_nil a.signals _ q)) refl;
      joins = λ f u v i j agree. rw (k.rests (left_nil a.faults _ f) u v i j (these_agree a.reads (all_reads others) u v agree) d.shape, rest.joins (right_nil a.faults _ f) u v i j (those_agree a.reads (all_reads others) u v agree)) refl;
    }

-- Calls.

abbrev call_sense : Identifier → Option Function → List Sense → Sense
call_sense n f ss = record { shape = call_shape f ss; value = λ store c. call_value f ss store c; reads = all_reads ss; signals = call_signals f n.span ++ all_signals ss; faults = call_faults f n.span ss; features = all_features ss; zeros = λ c. call_zeros f ss }

abbrev call_says : Identifier → ℕ → Option Function → List Drawn → Lcg → Sense
call_says n phase (Some Random) [] g = number_sense random_shape (pcg32 g).0
call_says n phase (Some Time) [] g = number_sense time_shape phase
call_says n phase f ds g = call_sense n f (all_drawn ds g).0

says : (names : Names) (phase : ℕ) (n : Identifier) (f : Option Function) (ds : List Drawn) (g : Lcg) → function_of n.name ≡ f → (call_drawn names phase n f ds g).0 ≡ call_says n phase f ds g
says names phase n (Some Random) [] g is = refl
says names phase n (Some Random) (d ∷ ds) g is = ap (λ (f : Option Function). call_sense n f (all_drawn (d ∷ ds) g).0) is
says names phase n (Some Time) [] g is = refl
says names phase n (Some Time) (d ∷ ds) g is = ap (λ (f : Option Function). call_sense n f (all_drawn (d ∷ ds) g).0) is
says names phase n (Some Signed) ds g is = ap (λ (f : Option Function). call_sense n f (all_drawn ds g).0) is
says names phase n (Some Unsigned) ds g is = ap (λ (f : Option Function). call_sense n f (all_drawn ds g).0) is
says names phase n (Some Clog2) ds g is = ap (λ (f : Option Function). call_sense n f (all_drawn ds g).0) is
says names phase n None ds g is = ap (λ (f : Option Function). call_sense n f (all_drawn ds g).0) is

call_rests : (names : Names) (phase : ℕ) (n : Identifier) (f : Option Function) (xs : List (Proved names phase)) (g : Lcg) → Rests names (call_sense n f (senses names (map (λ w. w.0) xs))) (call_says n phase f (map (drawn names phase) (map (λ w. w.0) xs)) g)
call_rests names phase n (Some Random) [] g = record { quiet = λ q. absurd cc; rests = λ f u v i j agree c. refl }
call_rests names phase n (Some Random) (w ∷ ws) g = record { quiet = λ q. absurd cc; rests = λ f u v i j agree c. refl }
call_rests names phase n (Some Time) [] g = record { quiet = λ q. absurd cc; rests = λ f u v i j agree c. refl }
call_rests names phase n (Some Time) (w ∷ ws) g = record { quiet = λ q. absurd cc; rests = λ f u v i j agree c. refl }
call_rests names phase n None xs g =
    let all = all_rest names phase xs g in
    record { quiet = λ q. ap (λ (ss : List Sense). call_sense n None ss) (all.quiet q); rests = λ f u v i j agree c. refl }
call_rests names phase n (Some Signed) [] g = record { quiet = λ q. refl; rests = λ f u v i j agree c. refl }
call_rests names phase n (Some Signed) (w ∷ []) g =
    let k = w.1 g in
    let d = (drawn names phase w.0 g).0 in
    record {
      quiet = λ q. rw (k.quiet (left_nil (sense names w.0).signals [] q)) refl;
      rests = λ f u v i j agree c. rw (k.rests f u v i j (these_agree (sense names w.0).reads (all_reads []) u v agree) d.shape) refl;
    }
call_rests names phase n (Some Signed) (w ∷ x ∷ more) g =
    let all = all_rest names phase (w ∷ x ∷ more) g in
    record { quiet = λ q. ap (λ (ss : List Sense). call_sense n (Some Signed) ss) (all.quiet q); rests = λ f u v i j agree c. refl }
call_rests names phase n (Some Unsigned) [] g = record { quiet = λ q. refl; rests = λ f u v i j agree c. refl }
call_rests names phase n (Some Unsigned) (w ∷ []) g =
    let k = w.1 g in
    let d = (drawn names phase w.0 g).0 in
    record {
      quiet = λ q. rw (k.quiet (left_nil (sense names w.0).signals [] q)) refl;
      rests = λ f u v i j agree c. k.rests f u v i j (these_agree (sense names w.0).reads (all_reads []) u v agree) d.shape;
    }
call_rests names phase n (Some Unsigned) (w ∷ x ∷ more) g =
    let all = all_rest names phase (w ∷ x ∷ more) g in
    record { quiet = λ q. ap (λ (ss : List Sense). call_sense n (Some Unsigned) ss) (all.quiet q); rests = λ f u v i j agree c. refl }
call_rests names phase n (Some Clog2) [] g = record { quiet = λ q. refl; rests = λ f u v i j agree c. refl }
call_rests names phase n (Some Clog2) (w ∷ []) g =
    let k = w.1 g in
    record { quiet = λ q. rw (k.quiet (left_nil (sense names w.0).signals [] q)) refl; rests = λ f u v i j agree c. refl }
call_rests names phase n (Some Clog2) (w ∷ x ∷ more) g =
    let all = all_rest names phase (w ∷ x ∷ more) g in
    record { quiet = λ q. ap (λ (ss : List Sense). call_sense n (Some Clog2) ss) (all.quiet q); rests = λ f u v i j agree c. refl }

-- Parts.

layer : (names : Names) (phase : ℕ) (y : Expr-F (Proved names phase)) → StepRests names phase (map-Expr (Proved names phase) Expr (λ (w : Proved names phase). w.0) y)
layer names phase (e.Number n) g = record { quiet = λ q. refl; rests = λ f u v w z agree c. refl }
layer names phase (e.Name n) g = record { quiet = λ q. refl; rests = λ f u v w z agree c. rw (name_same (names n.name) u v (w n.name) (z n.name) agree) refl }
layer names phase (e.BitSelect n s i) g =
    let k = i.1 g in
    let a = sense names i.0 in
    record {
      quiet = λ q. rw (k.quiet (right_nil (name_signals n.span (names n.name)) a.signals q)) refl;
      rests = λ f u v w z agree c. select_same names u v w z (names n.name) i.0 (drawn names phase i.0 g).0 1 (w n.name) (z n.name) k.quiet (λ reads. k.rests (right_nil (name_faults n.span (names n.name)) a.faults f) u v w z reads) agree;
    }
layer names phase (e.PartSelect n s i j) g =
    let k = i.1 g in
    let l = j.1 (drawn names phase i.0 g).1 in
    let a = sense names i.0 in
    let b = sense names j.0 in
    let constants = λ (f : (step names (e.PartSelect n s a b)).faults ≡ []). these_nil _ _ (right_nil (name_faults n.span (names n.name)) _ f) in
    let here = λ (f : (step names (e.PartSelect n s a b)).faults ≡ []). k.quiet (no_signals a (left_nil _ (constant_faults b) (constants f))) in
    let there = λ (f : (step names (e.PartSelect n s a b)).faults ≡ []). l.quiet (no_signals b (right_nil (constant_faults a) _ (constants f))) in
    record {
      quiet = λ q. let rest = right_nil (name_signals n.span (names n.name)) (a.signals ++ b.signals) q in rw (k.quiet (left_nil a.signals b.signals rest), l.quiet (right_nil a.signals b.signals rest)) refl;
      rests = λ f u v w z agree c. rw (here f, there f) (part_same (names n.name) _ _ u v (w n.name) (z n.name) agree);
    }
layer names phase (e.IndexedPartSelect n s i j) g =
    let k = i.1 g in
    let l = j.1 (drawn names phase i.0 g).1 in
    let a = sense names i.0 in
    let b = sense names j.0 in
    let rest = λ (f : (step names (e.IndexedPartSelect n s a b)).faults ≡ []). right_nil (name_faults n.span (names n.name)) _ f in
    let there = λ (f : (step names (e.IndexedPartSelect n s a b)).faults ≡ []). l.quiet (no_signals b (these_nil _ _ (right_nil a.faults _ (rest f)))) in
    record {
      quiet = λ q. let after = right_nil (name_signals n.span (names n.name)) (a.signals ++ b.signals) q in rw (k.quiet (left_nil a.signals b.signals after), l.quiet (right_nil a.signals b.signals after)) refl;
      rests = λ f u v w z agree c. rw (there f) (select_same names u v w z (names n.name) i.0 (drawn names phase i.0 g).0 (natural (constant_integer b)) (w n.name) (z n.name) k.quiet (λ reads. k.rests (left_nil a.faults _ (rest f)) u v w z reads) agree);
    }
layer names phase (e.Parenthesized s i) g =
    let k = i.1 g in
    record { quiet = λ q. rw (k.quiet q) refl; rests = λ f u v w z agree c. k.rests f u v w z agree c }
layer names phase (e.Unary s op i) g =
    let k = i.1 g in
    let d = (drawn names phase i.0 g).0 in
    record { quiet = λ q. rw (k.quiet q) refl; rests = λ f u v w z agree c. rw (k.rests f u v w z agree (operand_context op d.shape c)) refl }
layer names phase (e.Binary s op i j) g =
    let k = i.1 g in
    let l = j.1 (drawn names phase i.0 g).1 in
    let a = sense names i.0 in
    let b = sense names j.0 in
    let x = (drawn names phase i.0 g).0 in
    let y = (drawn names phase j.0 (drawn names phase i.0 g).1).0 in
    record {
      quiet = λ q. rw (k.quiet (left_nil a.signals b.signals q), l.quiet (right_nil a.signals b.signals q)) refl;
      rests = λ f u v w z agree c. rw (k.rests (left_nil a.faults b.faults f) u v w z (these_agree a.reads b.reads u v agree) (left_context (sizing op) x.shape y.shape c), l.rests (right_nil a.faults b.faults f) u v w z (those_agree a.reads b.reads u v agree) (right_context (sizing op) x.shape y.shape c)) refl;
    }
layer names phase (e.Conditional s x i j) g =
    let h = x.1 g in
    let k = i.1 (drawn names phase x.0 g).1 in
    let l = j.1 (drawn names phase i.0 (drawn names phase x.0 g).1).1 in
    let c = sense names x.0 in
    let a = sense names i.0 in
    let b = sense names j.0 in
    let d = (drawn names phase x.0 g).0 in
    record {
      quiet = λ q. let rest = right_nil c.signals (a.signals ++ b.signals) q in rw (h.quiet (left_nil c.signals (a.signals ++ b.signals) q), k.quiet (left_nil a.signals b.signals rest), l.quiet (right_nil a.signals b.signals rest)) refl;
      rests = λ f u v w z agree m.
          let rest = right_nil c.faults (a.faults ++ b.faults) f in
          let later = those_agree c.reads (either a.reads b.reads) u v agree in
          rw (h.rests (left_nil c.faults (a.faults ++ b.faults) f) u v w z (these_agree c.reads (either a.reads b.reads) u v agree) d.shape, k.rests (left_nil a.faults b.faults rest) u v w z (these_agree a.reads b.reads u v later) m, l.rests (right_nil a.faults b.faults rest) u v w z (those_agree a.reads b.reads u v later) m) refl;
    }
layer names phase (e.Concatenation s ps) g =
    let all = all_rest names phase ps g in
    record {
      quiet = λ q. rw (all.quiet q) refl;
      rests = λ f u v w z agree c. all.joins (these_nil _ _ f) u v w z agree;
    }
layer names phase (e.MultipleConcatenation s i ps) g =
    let k = i.1 g in
    let all = all_rest names phase ps (drawn names phase i.0 g).1 in
    let a = sense names i.0 in
    let ss = senses names (map (λ (w : Proved names phase). w.0) ps) in
    let parts = λ (f : (step names (e.MultipleConcatenation s a ss)).faults ≡ []). right_nil _ (all_faults ss) (these_nil _ _ f) in
    record {
      quiet = λ q. rw (k.quiet (left_nil a.signals (all_signals ss) q), all.quiet (right_nil a.signals (all_signals ss) q)) refl;
      rests = λ f u v w z agree c. rw (all.joins (parts f) u v w z agree) refl;
    }
layer names phase (e.SystemFunctionCall n ps) g = rw (says names phase n (function_of n.name) (map (drawn names phase) (map (λ (w : Proved names phase). w.0) ps)) g refl) (call_rests names phase n (function_of n.name) ps g)

all_at : (names : Names) (phase : ℕ) (x : Expr) → RestsAt names phase x
all_at names phase = ind-Expr (RestsAt names phase) (λ x y is. from_step names phase x (subst (StepRests names phase) is (layer names phase y)))

-- the value of an expression in an evaluation
pub value_rests : (names : Names) (phase : ℕ) (x : Expr) (g : Lcg) → (sense names x).faults ≡ [] → (u v : Store) → AreWithin names u → AreWithin names v → Agree (sense names x).reads u v → (c : Shape) → (drawn names phase x g).0.value u c ≡ (drawn names phase x g).0.value v c
value_rests names phase x g whole = (all_at names phase x g).rests whole

-- a constant says the same in each evaluation
pub quiet_at : (names : Names) (phase : ℕ) (x : Expr) (g : Lcg) → (sense names x).signals ≡ [] → (drawn names phase x g).0 ≡ sense names x
quiet_at names phase x g = (all_at names phase x g).quiet
