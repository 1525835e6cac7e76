-- The lines of nets, one more at the front.
use Rattle.std.proofs.Common.{◌≡◌, ℕ, suc, ◌+◌, List, ◌++◌, sym, ap, ◌∙◌, append_assoc}
use Rattle.rand_pcg.specs.Lcg.{Lcg}
use Rattle.rand_pcg.specs.Pcg.{pcg64}
use Rattle.made_project.specs.Designs.{net_line, net_lines}

-- where the line of the next net was added, the text goes on with the others
pub nets_more : (before after : List ℕ) (g next : Lcg) (net following word count rest : ℕ) → (word, next) ≡ pcg64 g → after ≡ before ++ net_line net word → following ≡ net + 1 → count ≡ suc rest → after ++ net_lines next following rest ≡ before ++ net_lines g net count
nets_more before after g next net following word count rest drawn added behind more =
    ap (λ (text : List ℕ). text ++ net_lines next following rest) added
    ∙ append_assoc before (net_line net word) (net_lines next following rest)
    ∙ ap (λ (n : ℕ). before ++ (net_line net word ++ net_lines next n rest)) behind
    ∙ ap (λ (p : ℕ × Lcg). before ++ (net_line net p.0 ++ net_lines p.1 (net + 1) rest)) drawn
    ∙ ap (λ (n : ℕ). before ++ net_lines g net n) (sym more)
