-- Builders that grow by the cells of an expression: one node after the other.
use Rattle.elab_expr.proofs.Common.{◌≡◌, ℕ, ◌+◌, ◌<◌, ◌≤◌, Bool, true, false, List, [], ◌∷◌, ◌++◌, length, map, refl, sym, ◌∙◌, ap, subst, arith, Option, None, Some, slice_index_or, if◌then◌else◌}
use Rattle.elab_expr.proofs.Common.{length-append, length-map, map-append, Span, Bit, CellKind, number, Nets, values, widths, shape_of, HasWidths, AllWide, Expr, out-Expr, Expr-F, Decl, Signal}
use Rattle.elab_expr.proofs.Common.{Constant, Shape, extended, Names, Store, Sense, sense, is_empty, extended_positive, ElabError, Building, RunsIn, Grows, AllBelow, PortsBelow, HasSignals, IsSignal}
use Rattle.elab_expr.proofs.Common.{fresh_bits, signal, with_cell, store, Adds, Builds, Evaluates, Holds, Made, Plan, made_of, made, plan, plan_step, cells_step, IsShort, ShapeOfBits, below_later}
use Rattle.elab_expr.proofs.Common.{grows_not, grows_not_more, grows_again, grows_cell, grows_cell_more, grown_nets, grown_cells, store_same, runs_before, fresh_below, length_fresh, widths_push}
use Rattle.elab_expr.proofs.Common.{plan_sense}
use Rattle.mcy_base.specs.declared.kind.Kind.TheVariants as kind
use Rattle.vlog_syntax.specs.declared.expr.Expr.TheFolds.{fold_out-Expr, map-Expr}
use Rattle.net_builder.specs.declared.error.ElabError.TheVariants as error
use Rattle.elab_expr.proofs.Bits.{number-fits}

-- How many cells.

pub more_short : (n m : ℕ) (e : ElabError) → n ≤ m → IsShort n e → IsShort m e
more_short n m (error.TooMany kind.Cells) le h = omega (arith, le, h)
more_short n m (error.TooMany kind.Tokens) le h = h
more_short n m (error.TooMany kind.LoopTurns) le h = h
more_short n m (error.TooMany kind.NetBits) le h = h
more_short n m (error.TooMany kind.RegisterBits) le h = h
more_short n m (error.TooMany kind.Sites) le h = h
more_short n m (error.TooMany kind.Gates) le h = h
more_short n m (error.TooMany kind.FreeBits) le h = h
more_short n m (error.TooMany kind.Scopes) le h = h
more_short n m error.Memory le h = tt
more_short n m (error.Unknown s) le h = h
more_short n m (error.NotConstant s) le h = h
more_short n m (error.Drawn s) le h = h
more_short n m (error.DivideByZero s) le h = h
more_short n m (error.TooWide s) le h = h
more_short n m (error.Unsupported s f) le h = h

pub count : (o n : Building) (bits : List Bit) (w : ℕ) (f : Nets → ℕ) (M : List Made) → Adds o n bits w f M → length n.cells ≡ length o.cells + length M
count o n bits w f M b =
    let all : length n.cells ≡ length o.cells + length b.grows.more = ap length (grown_cells o n b.grows) ∙ simp length-append in
    let same : length b.grows.more ≡ length M = sym (length-map b.grows.more made_of) ∙ ap length b.cells in
    omega (arith, all, same)

-- an error of cells that come before others
pub short_before : (k : ℕ) (M N : List Made) (e : ElabError) → IsShort (k + length M) e → IsShort (k + length (M ++ N)) e
short_before k M N e h = more_short (k + length M) (k + length (M ++ N)) e (let l : length (M ++ N) ≡ length M + length N = simp length-append in omega (arith, l)) h

-- an error of cells that come after others
pub short_after : (o m : Building) (a : List Bit) (w : ℕ) (f : Nets → ℕ) (M N : List Made) (e : ElabError) → Adds o m a w f M → IsShort (length m.cells + length N) e → IsShort (length o.cells + length (M ++ N)) e
short_after o m a w f M N e b h = more_short (length m.cells + length N) (length o.cells + length (M ++ N)) e (let l : length (M ++ N) ≡ length M + length N = simp length-append in let n = count o m a w f M b in omega (arith, l, n)) h

-- Bits of the same builder.

-- zeros above
pub widened : (o n : Building) (xs ys : List Bit) (w v : ℕ) (f : Nets → ℕ) (M : List Made) → Adds o n xs w f M → w ≤ v → length ys ≡ v → ((nets : Nets) → number (values nets ys) ≡ extended (ShapeOfBits xs false) v (number (values nets xs))) → AllBelow n.nets ys → Adds o n ys v f M
widened o n xs ys w v f M b wide long same below = record {
  grows = b.grows;
  cells = b.cells;
  long = long;
  below = below;
  value_is = λ nets runs. same nets ∙ extended_positive (ShapeOfBits xs false) v (number (values nets xs)) refl (number-fits nets xs) (let l = b.long in omega (arith, l)) ∙ b.value_is nets runs;
}

-- the sign above, where it counts
pub stretched : (o n : Building) (xs ys : List Bit) (w v : ℕ) (signed : Bool) (f : Nets → ℕ) (M : List Made) → Adds o n xs w f M → length ys ≡ v → ((nets : Nets) → number (values nets ys) ≡ extended (ShapeOfBits xs signed) v (number (values nets xs))) → AllBelow n.nets ys → Adds o n ys v (λ nets. extended (record { width = w; is_signed = signed }) v (f nets)) M
stretched o n xs ys w v signed f M b long same below = record {
  grows = b.grows;
  cells = b.cells;
  long = long;
  below = below;
  value_is = λ nets runs. same nets ∙ ap (λ (k : ℕ). extended (record { width = k; is_signed = signed }) v (number (values nets xs))) b.long ∙ ap (extended (record { width = w; is_signed = signed }) v) (b.value_is nets runs);
}

-- bits of the builder as it stands add nothing
pub none_made : (b : Building) → map made_of (grows_not b).more ≡ []
none_made b = ap (map made_of) (grows_not_more b)

pub held : (b : Building) (bits : List Bit) (w : ℕ) (f : Store → ℕ) → Holds b bits w f → Builds b b bits w f []
held b bits w f h = record { grows = grows_not b; cells = none_made b; long = h.long; below = h.below; value_is = λ nets runs. h.value_is nets }

-- Cells after cells.

pub then_adds : (o m n : Building) (a y : List Bit) (w v : ℕ) (f g h : Nets → ℕ) (M N : List Made) → Adds o m a w f M → Adds m n y v g N → ((nets : Nets) → number (values nets a) ≡ f nets → store m nets ≡ store o nets → g nets ≡ h nets) → Adds o n y v h (M ++ N)
then_adds o m n a y w v f g h M N p q same = record {
  grows = grows_again o m n p.grows q.grows;
  cells = map-append made_of p.grows.more q.grows.more ∙ ap (λ (l : List Made). l ++ map made_of q.grows.more) p.cells ∙ ap (λ (l : List Made). M ++ l) q.cells;
  long = q.long;
  below = q.below;
  value_is = λ nets runs. q.value_is nets runs ∙ same nets (p.value_is nets (runs_before m n nets q.grows runs)) (store_same o m nets p.grows);
}

-- one cell
pub adds_cell : (o n : Building) (kind : CellKind) (signed : Bool) (ports : List (List Bit)) (w : ℕ) (span : Span) (y : List Bit) (v : Nets → ℕ) (ws : List ℕ) → widths ports ≡ ws → HasWidths (shape_of kind) (ws ++ w ∷ []) → AllWide ports → 1 ≤ w → w ≤ 128 → PortsBelow o.nets ports → y ≡ fresh_bits o.nets w → n ≡ with_cell o kind signed ports w span → ((nets : Nets) → RunsIn n nets → number (values nets y) ≡ v nets) → Adds o n y w v (record { kind = kind; is_signed = signed; widths = ws ++ w ∷ []; span = span } ∷ [])
adds_cell o n kind signed ports w span y v ws is_ws shape wide some narrow below is_y is value =
    let cell : List ℕ → List Made = λ l. record { kind = kind; is_signed = signed; widths = l; span = span } ∷ [] in
    let fits : HasWidths (shape_of kind) (widths ports ++ w ∷ []) = subst (λ (l : List ℕ). HasWidths (shape_of kind) (l ++ w ∷ [])) (sym is_ws) shape in
    let all : widths (ports ++ fresh_bits o.nets w ∷ []) ≡ ws ++ w ∷ [] = widths_push ports (fresh_bits o.nets w) ∙ ap (λ (k : ℕ). widths ports ++ k ∷ []) (length_fresh o.nets w) ∙ ap (λ (l : List ℕ). l ++ w ∷ []) is_ws in
    subst (λ (x : Building). ((nets : Nets) → RunsIn x nets → number (values nets y) ≡ v nets) → Adds o x y w v (cell (ws ++ w ∷ []))) (sym is) (λ shown. record {
      grows = grows_cell o kind signed ports w span fits wide some narrow below;
      cells = ap (map made_of) (grows_cell_more o kind signed ports w span fits wide some narrow below) ∙ ap cell all;
      long = ap length is_y ∙ length_fresh o.nets w;
      below = subst (AllBelow (o.nets + w)) (sym is_y) (fresh_below o.nets w);
      value_is = shown;
    }) value

-- Signals stand where cells are added.

pub signal_kept : (a b : Building) (decl : Option Decl) → b.signals ≡ a.signals → a.nets ≤ b.nets → IsSignal a decl → IsSignal b decl
signal_kept a b (Some (Signal width low signed number)) same le h =
    let bits : signal b number ≡ signal a number = ap (λ (l : List (List Bit)). slice_index_or l number []) same in
    (subst (λ (l : List (List Bit)). number < length l) (sym same) h.0, ap length bits ∙ h.1, below_later a.nets b.nets (signal b number) le (subst (AllBelow a.nets) (sym bits) h.2))
signal_kept a b (Some (Constant value low signed)) same le h = tt
signal_kept a b None same le h = tt

pub signals_kept : (names : Names) (a b : Building) → Grows a b → HasSignals names a → HasSignals names b
signals_kept names a b g h = λ name. signal_kept a b (names name) (ap (λ (x : Building). x.signals) g.is) (grown_nets a b g) (h name)

-- An expression, from what its production says.

pub made_as : (names : Names) (x : Expr) (y : Expr-F Plan) (c : Shape) → plan names x ≡ plan_step names y → is_empty (sense names x).signals ≡ false → made names x c ≡ cells_step names y c
made_as names x y c is quiet =
    ap (λ (p : Plan). p.cells c) is
    ∙ ap (λ (b : Bool). if b then [] else cells_step names y c) (ap (λ (p : Plan). is_empty p.sense.signals) (sym is) ∙ ap (λ (a : Sense). is_empty a.signals) (plan_sense names x) ∙ quiet)

pub evaluates_as : (names : Names) (x : Expr) (c : Shape) (o n : Building) (bits : List Bit) (a : Sense) (M : List Made) → sense names x ≡ a → made names x c ≡ M → Builds o n bits c.width (λ s. a.value s c) M → Evaluates names x c o n bits
evaluates_as names x c o n bits a M is is_M b =
    subst (λ (q : Sense). Builds o n bits c.width (λ s. q.value s c) (made names x c)) (sym is) (subst (Builds o n bits c.width (λ s. a.value s c)) (sym is_M) b)

-- a constant makes no cell
pub made_none : (names : Names) (x : Expr) (c : Shape) → is_empty (sense names x).signals ≡ true → made names x c ≡ []
made_none names x c quiet =
    let y : Expr-F Plan = map-Expr Expr Plan (plan names) (out-Expr x) in
    let is : plan names x ≡ plan_step names y = fold_out-Expr Plan (plan_step names) x in
    ap (λ (p : Plan). p.cells c) is
    ∙ ap (λ (b : Bool). if b then [] else cells_step names y c) (ap (λ (p : Plan). is_empty p.sense.signals) (sym is) ∙ ap (λ (a : Sense). is_empty a.signals) (plan_sense names x) ∙ quiet)

pub folded_evaluates : (names : Names) (x : Expr) (c : Shape) (b : Building) (bits : List Bit) → is_empty (sense names x).signals ≡ true → length bits ≡ c.width → ((nets : Nets) (signals : Store) → number (values nets bits) ≡ (sense names x).value signals c) → ((n : ℕ) → AllBelow n bits) → Evaluates names x c b b bits
folded_evaluates names x c b bits quiet long value below =
    record { grows = grows_not b; cells = none_made b ∙ sym (made_none names x c quiet); long = long; below = below b.nets; value_is = λ nets runs. value nets (store b nets) }
