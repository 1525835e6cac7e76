-- What a process adds, part by part, and that it is all that is added.
use Rattle.process_cells.proofs.Common.{◌≡◌, ℕ, ◌+◌, Bool, List, [], ◌∷◌, ◌++◌, map, length, refl, sym, ap, ◌∙◌, subst, arith, length-append, Result, Ok, Err, IfOk, IfErr, OnOk, Bit, Register, Span}
use Rattle.process_cells.proofs.Common.{Feature, Identifier, Process, Stmt, out-Stmt, Names, Refusal, process_refusals, Steps, steps_of, ElabError, Building, Grows, signal, IsShort, HasOwnNets}
use Rattle.process_cells.proofs.Common.{AddsItem, AreStored, own_stays, Write, sound, target_of, Sensitivity, Once, Combinational, Clocked, Refused, sensitivity, distinct, cells_of, keeps, variables}
use Rattle.process_cells.proofs.Common.{process_effect, given_own, blank, last_bits, Combines, Clocks, written_numbers, widths_in, meaning_of, cells_by, process_cells, AddsMeaning, BuildsBy}
use Rattle.process_cells.proofs.Common.{HasRegisters, Adds, AddsBy, AddsProcess, IsFit, statement, process_steps}
use Rattle.std.specs.Prelude.{Option, None}
use Rattle.std.proofs.lemmas.List.{append-nil}
use Rattle.netlist_core.specs.declared.cell.Cell.{Cell}
use Rattle.mcy_base.specs.declared.kind.Kind.{Kind}
use Rattle.elab_proc.specs.Order.{IsFirst}
use Rattle.net_builder.specs.declared.error.ElabError.TheVariants.{TooMany, Memory}
use Rattle.flat_runs.specs.Meanings.{Meaning}
use Rattle.flat_runs.specs.Meanings as m
use Rattle.process_latches.specs.declared.marks.Marks.{Marks}
use Rattle.process_latches.specs.Marking.{AreBlank, Marked}
use Rattle.process_latches.proofs.Choosing.{own_marks}
use Rattle.proc_muxes.proofs.Counting.{builds-counted}
use Rattle.process_cells.proofs.Adding.{grown}
use Rattle.process_cells.proofs.Blanking.{blank_is}
use Rattle.process_cells.proofs.Fits.{process_fit}

-- Counting.

added_count : (xs ys zs : List Cell) (n : ℕ) → zs ≡ xs ++ ys → length zs ≡ length xs + n → length ys ≡ n
added_count xs ys zs n is long = let whole : length zs ≡ length xs + length ys = ap length is ∙ length-append xs ys in omega arith

-- Combinational.

pub combinational_adds : (steps : Steps) (old new : Building) → Combines steps old new → AddsItem old new (m.Combinational (variables steps) (process_effect old steps)) → AddsBy Combinational steps old new
combinational_adds steps old new c item =
    let mid : Building = c.begun.building in
    let begins : mid ≡ record old { signals = mid.signals } = c.blank_is ∙ blank_is (variables steps) old ∙ ap (λ (x : Building). record old { signals = x.signals }) (sym c.blank_is) in
    let g : Grows old (given_own old c.done) = grown old c.done mid begins (keeps steps c.begun c.done c.built).adds in
    let cells : (given_own old c.done).cells ≡ old.cells ++ g.more = ap (λ (x : Building). x.cells) g.is in
    let counted : length (given_own old c.done).cells ≡ length old.cells + cells_of steps = builds-counted steps c.begun c.done c.built ∙ ap (λ (x : Building). length x.cells + cells_of steps) begins in
    record {
      adds = item;
      builds = c;
      cells = g.more;
      cells_are = ap (λ (x : Building). x.cells) c.is ∙ cells;
      count = added_count old.cells g.more (given_own old c.done).cells (cells_of steps) cells counted;
      joints = c.joints;
      joints_are = ap (λ (x : Building). x.joints) c.is ∙ ap (λ (x : Building). x.joints ++ c.joints) g.is;
      registers = [];
      registers_are = ap (λ (x : Building). x.registers) c.is ∙ ap (λ (x : Building). x.registers) g.is ∙ sym (append-nil old.registers);
      stored = refl;
      signals = ap (λ (x : Building). x.signals) c.is;
      declared = ap (λ (x : Building). x.declared) c.is ∙ ap (λ (x : Building). x.declared) g.is;
      starts = ap (λ (x : Building). x.starts) c.is ∙ ap (λ (x : Building). x.starts) g.is;
    }

-- Clocked.

own_bits : (b : Building) (ks : List ℕ) (bits : List (List Bit)) (rs : List Register) → AreStored b ks bits rs → map (λ (r : Register). r.q) rs ≡ map (signal b) ks
own_bits b [] bits [] h = refl
own_bits b [] bits (r ∷ rs) h = absurd h
own_bits b (k ∷ ks) [] rs h = absurd h
own_bits b (k ∷ ks) (x ∷ bits) [] h = absurd h
own_bits b (k ∷ ks) (x ∷ bits) (r ∷ rs) h = ap (λ (q : List Bit). q ∷ map (λ (z : Register). z.q) rs) h.0 ∙ ap (λ (l : List (List Bit)). signal b k ∷ l) (own_bits b ks bits rs h.2)

pub clocked_adds : (clock : Identifier) (steps : Steps) (old new : Building) → Clocks steps old new → AddsItem old new (m.Clocked (variables steps) (process_effect old steps)) → AddsBy (Clocked clock) steps old new
clocked_adds clock steps old new c item =
    let mid : Building = c.begun.building in
    let begins : mid ≡ record old { signals = mid.signals } = c.begun_is ∙ ap (λ (x : Building). record old { signals = x.signals }) (sym c.begun_is) in
    let g : Grows old (given_own old c.done) = grown old c.done mid begins (keeps steps c.begun c.done c.built).adds in
    let cells : (given_own old c.done).cells ≡ old.cells ++ g.more = ap (λ (x : Building). x.cells) g.is in
    let counted : length (given_own old c.done).cells ≡ length old.cells + cells_of steps = builds-counted steps c.begun c.done c.built ∙ ap (λ (x : Building). length x.cells + cells_of steps) begins in
    record {
      adds = item;
      builds = c;
      cells = g.more;
      cells_are = ap (λ (x : Building). x.cells) c.is ∙ cells;
      count = added_count old.cells g.more (given_own old c.done).cells (cells_of steps) cells counted;
      joints = [];
      joints_are = ap (λ (x : Building). x.joints) c.is ∙ ap (λ (x : Building). x.joints) g.is ∙ sym (append-nil old.joints);
      registers = c.registers;
      registers_are = ap (λ (x : Building). x.registers) c.is ∙ ap (λ (x : Building). x.registers ++ c.registers) g.is;
      stored = record { own = own_bits old (variables steps) (last_bits steps c.done (variables steps)) c.registers c.stored; named = c.named };
      signals = ap (λ (x : Building). x.signals) c.is;
      declared = ap (λ (x : Building). x.declared) c.is ∙ ap (λ (x : Building). x.declared) g.is;
      starts = ap (λ (x : Building). x.starts) c.is ∙ ap (λ (x : Building). x.starts) g.is;
    }

-- Neither.

still : (when : Sensitivity) (steps : Steps) (old : Building) → AddsMeaning old old (meaning_of (widths_in old) when steps) → BuildsBy when steps old old → 0 ≡ cells_by when steps → HasRegisters when steps old [] → AddsBy when steps old old
still when steps old adds builds count stored = record {
  adds = adds;
  builds = builds;
  cells = [];
  cells_are = sym (append-nil old.cells);
  count = count;
  joints = [];
  joints_are = sym (append-nil old.joints);
  registers = [];
  registers_are = sym (append-nil old.registers);
  stored = stored;
  signals = refl;
  declared = refl;
  starts = refl;
}

pub once_adds : (steps : Steps) (old : Building) → AddsBy Once steps old old
once_adds steps old = still Once steps old refl refl refl refl

pub refused_adds : (at : Span) (feature : Feature) (steps : Steps) (old : Building) → AddsBy (Refused at feature) steps old old
refused_adds at feature steps old = still (Refused at feature) steps old refl refl refl refl

-- What stands afterwards, and why there is no room.

pub item_own : (old new : Building) (x : Meaning) → HasOwnNets old → AddsItem old new x → HasOwnNets new
item_own old new x own item = own_stays old new own item.signals item.nets

-- The numbers of variables.

pub marked_numbers : (steps : Steps) (a b : Marks) (ws : List Write) (numbers : List ℕ) → AreBlank a → Marked (sound steps) a b → ws ≡ b.writes.items → numbers ≡ map (λ x. x.number) (distinct (map target_of ws)) → numbers ≡ written_numbers steps
marked_numbers steps a b ws numbers blank marked is named =
    named ∙ ap (λ (l : List Write). map (λ x. x.number) (distinct (map target_of l))) (is ∙ (own_marks (sound steps) a b blank marked).writes_are)

pub both_ok : {T E : Type 0} (r : Result T E) (P Q R : Type 0) → (P → Q → R) → OnOk r P → OnOk r Q → OnOk r R
both_ok (Ok x) P Q R f p q = f p q
both_ok (Err e) P Q R f p q = tt

-- The statement behind the events of a process, in the names that the code has.

pub steps_are : (names here : Names) (p : Process) (body inner : Stmt) → here ≡ names → body ≡ p.body → inner ≡ statement body (out-Stmt body) → steps_of inner here ≡ process_steps names p
steps_are names here p body inner same is behind =
    ap (λ (s : Stmt). steps_of s here) behind ∙ ap (λ (b : Stmt). steps_of (statement b (out-Stmt b)) here) is ∙ ap (λ (n : Names). steps_of (statement p.body (out-Stmt p.body)) n) same

pub fit_there : (names : Names) (p : Process) (when : Sensitivity) (steps : Steps) → when ≡ sensitivity p → steps ≡ process_steps names p → IsFit (sensitivity p) (process_steps names p) → IsFit when steps
fit_there names p when steps same is fit = subst (λ (w : Sensitivity). IsFit w steps) (sym same) (subst (IsFit (sensitivity p)) (sym is) fit)

pub process_added : (names : Names) (p : Process) (when : Sensitivity) (steps : Steps) (old new : Building) → when ≡ sensitivity p → steps ≡ process_steps names p → AddsBy when steps old new → AddsProcess names p old new
process_added names p when steps old new same is adds = subst (λ (w : Sensitivity). AddsBy w (process_steps names p) old new) same (subst (λ (s : Steps). AddsBy when s old new) is adds)

pub process_short : (names : Names) (p : Process) (when : Sensitivity) (steps : Steps) (old : Building) (e : ElabError) → when ≡ sensitivity p → steps ≡ process_steps names p → IsShort (length old.cells + cells_by when steps) e → IsShort (length old.cells + process_cells names p) e
process_short names p when steps old e same is short =
    subst (λ (w : Sensitivity). IsShort (length old.cells + cells_by w (process_steps names p)) e) same (subst (λ (s : Steps). IsShort (length old.cells + cells_by when s) e) is short)

-- What is found first, and what is added then, by other names of the same values.

pub first_none : (xs : List Refusal) (o : Option Refusal) → IsFirst xs o → o ≡ None → xs ≡ []
first_none xs o first none = subst (IsFirst xs) none first

pub first_stays : (xs : List Refusal) (found : Option Refusal) (r : Result (Option Refusal) ElabError) → IsFirst xs found → IfOk r (λ o. o ≡ found) → IfOk r (λ o. IsFirst xs o)
first_stays xs found (Ok o) first same = subst (IsFirst xs) (sym same) first
first_stays xs found (Err e) first same = tt

pub accepted_stays : (xs : List Refusal) (found : Option Refusal) (r : Result (Option Refusal) ElabError) → IsFirst xs found → IfErr r (λ e. found ≡ None) → IfErr r (λ e. (kind : Kind) → e ≡ TooMany kind → xs ≡ [])
accepted_stays xs found (Ok o) first none = tt
accepted_stays xs found (Err e) first none = λ kind is. first_none xs found first none

pub adds_stays : (here there : Names) (p : Process) (old new : Building) (r : Result (Option Refusal) ElabError) → there ≡ here → IfOk r (λ o. Adds there p old new o) → IfOk r (λ o. Adds here p old new o)
adds_stays here there p old new r same adds = subst (λ (n : Names). IfOk r (λ o. Adds n p old new o)) same adds

pub short_stays : (here there : Names) (p : Process) (old : Building) (r : Result (Option Refusal) ElabError) → there ≡ here → IfErr r (λ e. IsShort (length old.cells + process_cells there p) e) → IfErr r (λ e. IsShort (length old.cells + process_cells here p) e)
short_stays here there p old r same short = subst (λ (n : Names). IfErr r (λ e. IsShort (length old.cells + process_cells n p) e)) same short

pub kept_stays : (here there last : Names) (r : Result (Option Refusal) ElabError) → there ≡ here → OnOk r (last ≡ there) → OnOk r (last ≡ here)
kept_stays here there last r same kept = subst (λ (n : Names). OnOk r (last ≡ n)) same kept

pub fit_stays : (here there : Names) (written : List Bool) (p : Process) (found : Option Refusal) → there ≡ here → IsFirst (process_refusals here written p) found → found ≡ None → IsFit (sensitivity p) (process_steps there p)
fit_stays here there written p found same first none = subst (λ (n : Names). IsFit (sensitivity p) (process_steps n p)) (sym same) (process_fit here written p (first_none (process_refusals here written p) found first none))

pub no_memory : {T : Type 0} (kind : Kind) → Memory ≡ TooMany kind → T
no_memory kind e = absurd cc
