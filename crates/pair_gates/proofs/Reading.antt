-- Literals of ports, one port after the other.
use Rattle.pair_gates.proofs.Common.{◌≡◌, ℕ, ◌+◌, ◌<◌, List, ◌∷◌, ◌++◌, length, drop, get_or, sym, ap, ◌∙◌, drop_more, map-append, append_assoc, Bit, Port, Register, bits_at, d_bits, joined, GateLit}
use Rattle.pair_gates.proofs.Common.{Lits, bit_lit, bits_lits}

-- what was read, and what is left to read
abbrev pub ahead : Lits → List GateLit → List (List Bit) → List GateLit
ahead lits row ports = row ++ bits_lits lits (joined ports)

read-more : (lits : Lits) (row new : List GateLit) (bits : List Bit) (more : List (List Bit)) → new ≡ row ++ bits_lits lits bits → ahead lits new more ≡ ahead lits row (bits ∷ more)
read-more lits row new bits more is =
    ap (λ (l : List GateLit). ahead lits l more) is
    ∙ append_assoc row (bits_lits lits bits) (bits_lits lits (joined more))
    ∙ ap (λ (l : List GateLit). row ++ l) (sym (map-append (bit_lit lits) bits (joined more)))

pub output-read : (lits : Lits) (row new : List GateLit) (ports : List Port) (i : ℕ) (d : Port) → i < length ports → new ≡ row ++ bits_lits lits (get_or ports i d).bits → ahead lits new (bits_at (drop (i + 1) ports)) ≡ ahead lits row (bits_at (drop i ports))
output-read lits row new ports i d inside is =
    read-more lits row new (get_or ports i d).bits (bits_at (drop (i + 1) ports)) is ∙ sym (ap (λ (l : List Port). ahead lits row (bits_at l)) (drop_more ports i d inside))

pub next-read : (lits : Lits) (row new : List GateLit) (registers : List Register) (i : ℕ) (d : Register) → i < length registers → new ≡ row ++ bits_lits lits (get_or registers i d).d → ahead lits new (d_bits (drop (i + 1) registers)) ≡ ahead lits row (d_bits (drop i registers))
next-read lits row new registers i d inside is =
    read-more lits row new (get_or registers i d).d (d_bits (drop (i + 1) registers)) is ∙ sym (ap (λ (l : List Register). ahead lits row (d_bits l)) (drop_more registers i d inside))
