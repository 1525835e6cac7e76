-- Items that are built one after the other: one step and the rest are the whole.
use Rattle.flat_runs.proofs.Common.{◌≡◌, ◌⊎◌, ℕ, ◌<◌, ◌≤◌, List, [], ◌∷◌, ◌++◌, length, refl, sym, ◌∙◌, ap, subst, inl, inr, arith, append_assoc, append-nil, Bit, Register, Nets, Store, Building}
use Rattle.flat_runs.proofs.Common.{RunsIn, signal, store, Meaning, AllSay, Taken, leaves, all_leave, SomeWrites, IsWritten, Extended, Take, AddsItem, AddsItems, ItemFollows}
use Rattle.flat_runs.proofs.Signals.{bits_in, store_in, AreBelow, store_same}

-- What all items do to the runs of a builder.
pub record Whole (items : List Meaning) (old new : Building) : Type 0 where
  pub signals : new.signals ≡ old.signals
  pub nets : old.nets ≤ new.nets
  pub earlier : (nets : Nets) → RunsIn new nets → RunsIn old nets
  pub say : (nets : Nets) → RunsIn new nets → AllSay items (store old nets)
  pub later : (nets : Nets) → RunsIn old nets → AllSay items (store old nets) → Extended old.nets nets new
  pub more : List Register
  pub registers : new.registers ≡ old.registers ++ more
  pub takes : (nets : Nets) → RunsIn new nets → Take old nets more (all_leave items (store old nets))
  pub written : (k i : ℕ) → i < length (signal old k) → IsWritten new k i → IsWritten old k i ⊎ SomeWrites items k i
  pub writes : (k i : ℕ) → i < length (signal old k) → IsWritten old k i ⊎ SomeWrites items k i → IsWritten new k i

-- Registers that take values.

take_append : (b : Building) (nets : Nets) (rs more : List Register) (ts later : List Taken) → Take b nets rs ts → Take b nets more later → Take b nets (rs ++ more) (ts ++ later)
take_append b nets [] more [] later h k = k
take_append b nets [] more (t ∷ ts) later h k = absurd h
take_append b nets (r ∷ rs) more [] later h k = absurd h
take_append b nets (r ∷ rs) more (t ∷ ts) later h k = (h.0, h.1, take_append b nets rs more ts later h.2 k)

pub take_same : (a b : Building) (nets : Nets) (rs : List Register) (ts : List Taken) → b.signals ≡ a.signals → Take b nets rs ts → Take a nets rs ts
take_same a b nets [] [] same h = tt
take_same a b nets [] (t ∷ ts) same h = absurd h
take_same a b nets (r ∷ rs) [] same h = absurd h
take_same a b nets (r ∷ rs) (t ∷ ts) same h = (h.0 ∙ ap (λ (s : List (List Bit)). bits_in s t.signal) same, h.1, take_same a b nets rs ts same h.2)

pub nothing : (b : Building) → Whole [] b b
nothing b = record {
  signals = refl;
  nets = omega arith;
  earlier = λ nets runs. runs;
  say = λ nets runs. tt;
  later = λ nets runs said. record { wider = nets; agree = λ n below. refl; runs = runs };
  more = [];
  registers = sym (append-nil b.registers);
  takes = λ nets runs. tt;
  written = λ k i inside written. inl written;
  writes = λ k i inside written. elim written [ inl before ↦ before | inr none ↦ absurd none ];
}

pub one_more : (m : Meaning) (ms : List Meaning) (a b c : Building) → AreBelow a.signals a.nets → AddsItem a b m → Whole ms b c → Whole (m ∷ ms) a c
one_more m ms a b c below first rest =
    let inside : (k i : ℕ) → i < length (signal a k) → i < length (signal b k) =
    λ k i. let P : List (List Bit) → Type 0 = λ (s : List (List Bit)). i < length (bits_in s k) in subst P (sym first.signals) in
    record {
      signals = rest.signals ∙ first.signals;
      nets = omega (arith, first.nets, rest.nets);
      earlier = λ nets runs. first.earlier nets (rest.earlier nets runs);
      say = λ nets runs. (
        first.says nets (rest.earlier nets runs),
        (let P : List (List Bit) → Type 0 = λ (s : List (List Bit)). AllSay ms (store_in s nets) in subst P first.signals (rest.say nets runs)),
      );
      later = λ nets runs said.
          let x : Extended a.nets nets b = first.later nets runs said.0 in
          let same : store a x.wider ≡ store a nets = store_same a.signals x.wider nets (λ k i n at. x.agree n (below k i n at)) in
          let P : Store → Type 0 = λ (s : Store). AllSay ms s in
          let Q : List (List Bit) → Type 0 = λ (s : List (List Bit)). AllSay ms (store_in s x.wider) in
          let y : Extended b.nets x.wider c = rest.later x.wider x.runs (subst Q (sym first.signals) (subst P (sym same) said.1)) in
          record {
            wider = y.wider;
            agree = λ n small. y.agree n (let grown : a.nets ≤ b.nets = first.nets in omega arith) ∙ x.agree n small;
            runs = y.runs;
          };
      more = first.more ++ rest.more;
      registers = rest.registers ∙ ap (λ (rs : List Register). rs ++ rest.more) first.registers ∙ append_assoc a.registers first.more rest.more;
      takes = λ nets runs.
          let head : Take a nets first.more (leaves m (store a nets)) = first.takes nets (rest.earlier nets runs) in
          let P : List (List Bit) → Type 0 = λ (s : List (List Bit)). Take b nets rest.more (all_leave ms (store_in s nets)) in
          let tail : Take b nets rest.more (all_leave ms (store a nets)) = subst P first.signals (rest.takes nets runs) in
          take_append a nets first.more rest.more (leaves m (store a nets)) (all_leave ms (store a nets)) head (take_same a b nets rest.more (all_leave ms (store a nets)) first.signals tail);
      written = λ k i in_a written. elim (rest.written k i (inside k i in_a) written) [
        | inl mid ↦ elim (first.written k i in_a mid) [ inl before ↦ inl before | inr here ↦ inr (inl here) ]
        | inr later ↦ inr (inr later)
      ];
      writes = λ k i in_a written. rest.writes k i (inside k i in_a) (elim written [
        | inl before ↦ inl (first.writes k i in_a (inl before))
        | inr some ↦ elim some [ inl here ↦ inl (first.writes k i in_a (inr here)) | inr later ↦ inr later ]
      ]);
    }

-- items one after the other are the whole
pub all_items : (items : List Meaning) (old new : Building) → AreBelow old.signals old.nets → AddsItems items old new → Whole items old new
all_items [] old new below same = let P : Building → Type 0 = λ (b : Building). Whole [] old b in subst P (sym same) (nothing old)
all_items (m ∷ ms) old new below steps =
    let mid : Building = steps.0 in
    let first : AddsItem old mid m = steps.1 in
    let P : List (List Bit) → Type 0 = λ (s : List (List Bit)). AreBelow s mid.nets in
    let there : AreBelow old.signals mid.nets = λ k i n at. (let small : n < old.nets = below k i n at in let grown : old.nets ≤ mid.nets = first.nets in omega arith) in
    one_more m ms old mid new below first (all_items ms mid new (subst P (sym first.signals) there) steps.2)

pub item_follows : ItemFollows
item_follows [] m first mid last before here = (last, subst (λ (b : Building). AddsItem b last m) before here, refl)
item_follows (x ∷ items) m first mid last before here = (before.0, before.1, item_follows items m before.0 mid last before.2 here)
