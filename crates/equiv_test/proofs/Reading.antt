-- Words of ports, one port after the other, from variables.
use Rattle.equiv_test.proofs.Common.{◌≡◌, ℕ, zero, suc, ◌+◌, ◌*◌, ◌^◌, ◌-◌, ◌<◌, ◌≤◌, List, [], ◌∷◌, ◌++◌, length, take, drop, get_or, sym, ap, subst, ◌∙◌, arith, drop_more, take_more, take_all}
use Rattle.equiv_test.proofs.Common.{drop_all, append_assoc, append-nil, map-append, get_or-map, length-map, Values, Word, Bit, Port, Register, number, bits_at, q_bits, all_bits, free_numbers}
use Rattle.equiv_test.proofs.Common.{HaveWidths, numbers_of}
use Rattle.gate_words.specs.Bits.{lit_values}
use Rattle.netlist_gates.specs.NetLits.{variables}

-- what was read of ports up to this one, and what is left to read
pub record Laid (values : Values) (ports : List (List Bit)) (first i next : ℕ) (words : List Word) : Type 0 where
  pub widths : HaveWidths (take i ports) words
  pub numbers : numbers_of words ++ free_numbers values next (drop i ports) ≡ free_numbers values first ports
  pub ahead : next + all_bits (drop i ports) ≡ first + all_bits ports

widths-push : (ports : List (List Bit)) (words : List Word) (bits : List Bit) (w : Word) → HaveWidths ports words → w.width ≡ length bits → HaveWidths (ports ++ bits ∷ []) (words ++ w ∷ [])
widths-push [] [] bits w have is = (is, tt)
widths-push [] (x ∷ words) bits w have is = absurd have
widths-push (p ∷ ports) [] bits w have is = absurd have
widths-push (p ∷ ports) (x ∷ words) bits w have is = (have.0, widths-push ports words bits w have.1 is)

-- One port more.
module _ (values : Values) (ports : List (List Bit)) (first i next : ℕ) (words : List Word) (laid : Laid values ports first i next words) (bits : List Bit) (inside : i < length ports) (here : bits ≡ get_or ports i []) where
  left : drop i ports ≡ bits ∷ drop (i + 1) ports
  left = subst (λ (b : List Bit). drop i ports ≡ b ∷ drop (i + 1) ports) (sym here) (drop_more ports i [] inside)

  pub laid-room : next + length bits ≤ first + all_bits ports
  laid-room = (let sum = laid.ahead in let bits_left : all_bits (drop i ports) ≡ length bits + all_bits (drop (i + 1) ports) = ap all_bits left in omega (arith, sum, bits_left))

  pub laid-more : (w : Word) → w.width ≡ length bits → w.bits ≡ number (lit_values values (variables next (length bits))) → Laid values ports first (i + 1) (next + length bits) (words ++ w ∷ [])
  laid-more w wide is = record {
    widths = subst (λ (ps : List (List Bit)). HaveWidths ps (words ++ w ∷ [])) (sym (subst (λ (b : List Bit). take (i + 1) ports ≡ take i ports ++ b ∷ []) (sym here) (take_more ports i [] inside))) (widths-push (take i ports) words bits w laid.widths wide);
    numbers = more;
    ahead = (let sum = laid.ahead in let bits_left : all_bits (drop i ports) ≡ length bits + all_bits (drop (i + 1) ports) = ap all_bits left in omega (arith, sum, bits_left));
  } where
    behind : List ℕ
    behind = free_numbers values (next + length bits) (drop (i + 1) ports)

    more : numbers_of (words ++ w ∷ []) ++ behind ≡ free_numbers values first ports
    more =
        ap (λ (l : List ℕ). l ++ behind) (map-append (λ (x : Word). x.bits) words (w ∷ []))
        ∙ append_assoc (numbers_of words) (w.bits ∷ []) behind
        ∙ ap (λ (n : ℕ). numbers_of words ++ n ∷ behind) is
        ∙ ap (λ (l : List (List Bit)). numbers_of words ++ free_numbers values next l) (sym left)
        ∙ laid.numbers

-- All ports were read.
module _ (values : Values) (ports : List (List Bit)) (first i next : ℕ) (words : List Word) (laid : Laid values ports first i next words) (past : length ports ≤ i) where
  none : drop i ports ≡ []
  none = drop_all i ports past

  pub all-widths : HaveWidths ports words
  all-widths = subst (λ (ps : List (List Bit)). HaveWidths ps words) (take_all i ports past) laid.widths

  pub all-numbers : numbers_of words ≡ free_numbers values first ports
  all-numbers = sym (append-nil (numbers_of words)) ∙ ap (λ (l : List (List Bit)). numbers_of words ++ free_numbers values next l) (sym none) ∙ laid.numbers

  pub all-next : next ≡ first + all_bits ports
  all-next = (let sum = laid.ahead in let left : all_bits (drop i ports) ≡ 0 = ap all_bits none in omega (arith, sum, left))

-- a bit more doubles the bound
pub doubled-fits : (r width : ℕ) → r < 2 ^ (width - 1) → 0 < width → 1 + 2 * r < 2 ^ width
doubled-fits r zero fits some = absurd (omega (arith, some))
doubled-fits r (suc w) fits some = (let same : suc w - 1 ≡ w = omega arith in let less : r < 2 ^ w = subst (λ (n : ℕ). r < 2 ^ n) same fits in omega (arith, less))

-- The bits of one of the ports, and of one of the registers.

pub port-inside : (ports : List Port) (i : ℕ) → i < length ports → i < length (bits_at ports)
port-inside ports i inside = (let long = length-map ports (λ (p : Port). p.bits) in omega (arith, inside, long))

pub port-at : (ports : List Port) (i : ℕ) (p : Port) → i < length ports → p ≡ get_or ports i p → p.bits ≡ get_or (bits_at ports) i []
port-at ports i p inside is = ap (λ (x : Port). x.bits) is ∙ sym (get_or-map (λ (x : Port). x.bits) ports i p [] inside)

pub register-inside : (registers : List Register) (i : ℕ) → i < length registers → i < length (q_bits registers)
register-inside registers i inside = (let long = length-map registers (λ (r : Register). r.q) in omega (arith, inside, long))

pub register-at : (registers : List Register) (i : ℕ) (r : Register) → i < length registers → r ≡ get_or registers i r → r.q ≡ get_or (q_bits registers) i []
register-at registers i r inside is = ap (λ (x : Register). x.q) is ∙ sym (get_or-map (λ (x : Register). x.q) registers i r [] inside)
