-- Registers of variables, one after the other.
use Rattle.process_cells.proofs.Common.{◌≡◌, ℕ, zero, suc, ◌+◌, ◌<◌, ◌≤◌, List, [], ◌∷◌, ◌++◌, map, take, length, get_or, sym, ap, ◌∙◌, subst, arith, append-nil, append_assoc, take_more, take-length}
use Rattle.process_cells.proofs.Common.{Span, Word, Bit, Register, Building, with_register, signal, declared_at, start_bits, AreStored, Choice, AreNamed, CanStore, CanStoreAll, StoresOne, Stores}

pub stores_none : (b : Building) (xs : List Choice) → xs ≡ [] → Stores b xs b
stores_none b xs e =
    subst (λ (l : List Choice). Stores b l b) (sym e) (record { registers = []; is = ap (λ (rs : List Register). record b { registers = rs }) (sym (append-nil b.registers)); stored = tt; named = tt })

can_at : (b : Building) (xs : List Choice) (k : ℕ) (d : Choice) → CanStoreAll b xs → k < length xs → CanStore b (get_or xs k d)
can_at b [] k d h less = absurd (omega arith)
can_at b (x ∷ xs) zero d h less = h.0
can_at b (x ∷ xs) (suc k) d h less = can_at b xs k d h.1 (omega arith)

-- what can be stored in a builder can be where it has more registers
pub can_later : (old b : Building) (xs taken : List Choice) (k : ℕ) (x : Choice) → x ≡ get_or xs k x → CanStoreAll old xs → k < length xs → Stores old taken b → CanStore b x
can_later old b xs taken k x at h less s =
    let here : CanStore old x = subst (CanStore old) (sym at) (can_at old xs k x h less) in
    subst (λ (y : Building). CanStore y x) (sym s.is) (record { known = here.known; wide = here.wide })

stored_push : (b : Building) (xs : List Choice) (rs : List Register) (x : Choice) (r : Register) → AreStored b (map (λ y. y.number) xs) (map (λ y. y.bits) xs) rs → r.q ≡ signal b x.number → r.d ≡ x.bits → AreStored b (map (λ y. y.number) (xs ++ x ∷ [])) (map (λ y. y.bits) (xs ++ x ∷ [])) (rs ++ r ∷ [])
stored_push b [] [] x r h q d = (q, d, tt)
stored_push b [] (s ∷ rs) x r h q d = absurd h
stored_push b (y ∷ xs) [] x r h q d = absurd h
stored_push b (y ∷ xs) (s ∷ rs) x r h q d = (h.0, h.1, stored_push b xs rs x r h.2 q d)

named_push : (b : Building) (xs : List Choice) (rs : List Register) (x : Choice) (r : Register) → AreNamed b (map (λ y. y.number) xs) rs → r.name ≡ (declared_at b x.number).name → r.span ≡ (declared_at b x.number).span → r.start.bits ≡ start_bits b x.number → r.start.width ≡ length (signal b x.number) → AreNamed b (map (λ y. y.number) (xs ++ x ∷ [])) (rs ++ r ∷ [])
named_push b [] [] x r h name span start width = (name, span, start, width, tt)
named_push b [] (s ∷ rs) x r h name span start width = absurd h
named_push b (y ∷ xs) [] x r h name span start width = absurd h
named_push b (y ∷ xs) (s ∷ rs) x r h name span start width = (h.0, h.1, h.2, h.3, named_push b xs rs x r h.4 name span start width)

pub stores_more : (old b new : Building) (xs : List Choice) (k : ℕ) (x : Choice) → x ≡ get_or xs k x → k < length xs → Stores old (take k xs) b → StoresOne b x new → Stores old (take (k + 1) xs) new
stores_more old b new xs k x at less s one =
    let rs : List Register = s.registers in
    let r : Register = one.register in
    let front : List Choice = take k xs in
    let all : take (k + 1) xs ≡ front ++ x ∷ [] = take_more xs k x less ∙ ap (λ (y : Choice). front ++ y ∷ []) (sym at) in
    subst (λ (l : List Choice). Stores old l new) (sym all) (record {
      registers = rs ++ r ∷ [];
      is = one.is ∙ ap (with_register r) s.is ∙ ap (λ (l : List Register). record old { registers = l }) (append_assoc old.registers rs (r ∷ []));
      stored = stored_push old front rs x r s.stored (one.q ∙ ap (λ (y : Building). signal y x.number) s.is) one.d;
      named = named_push old front rs x r s.named (one.name ∙ ap (λ (y : Building). (declared_at y x.number).name) s.is) (one.span ∙ ap (λ (y : Building). (declared_at y x.number).span) s.is) (one.start ∙ ap (λ (y : Building). start_bits y x.number) s.is) (one.width ∙ ap (λ (y : Building). length (signal y x.number)) s.is);
    })

pub stores_all : (old b : Building) (xs : List Choice) (k : ℕ) → length xs ≤ k → k ≤ length xs → Stores old (take k xs) b → Stores old xs b
stores_all old b xs k above below s =
    let e : k ≡ length xs = omega arith in
    subst (λ (l : List Choice). Stores old l b) (ap (λ (n : ℕ). take n xs) e ∙ take-length xs) s

-- what the code has of one register
pub stores_one : (old new : Building) (x : Choice) (name text : List ℕ) (span : Span) (d slice q bits : List Bit) (start : Word) → new ≡ with_register (record { name = name; span = span; d = d; q = q; start = start }) old → name ≡ text → text ≡ (declared_at old x.number).name → span ≡ (declared_at old x.number).span → slice ≡ x.bits → d ≡ slice → bits ≡ signal old x.number → q ≡ bits → start.bits ≡ start_bits old x.number → start.width ≡ length (signal old x.number) → StoresOne old x new
stores_one old new x name text span d slice q bits start is e f g h i j k l m = record {
  register = record { name = name; span = span; d = d; q = q; start = start };
  is = is;
  q = k ∙ j;
  d = i ∙ h;
  name = e ∙ f;
  span = g;
  start = l;
  width = m;
}
