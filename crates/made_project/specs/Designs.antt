-- The design that is made from a seed and a number of cells.
--
-- Nets 0 and 1 are of the inputs and the register. Net I has two nets in front of it, and an operator, by a word w of the generator
-- XSL RR 128/64 of PCG (O'Neill, "PCG: a family of simple fast space-efficient statistically good algorithms for random number
-- generation"), begun from the seed: net number w mod I, operator number (w / 2^32) mod 5 of + - & | ^, and net number (w / 2^16) mod I.
use Rattle.std.specs.Prelude.{ℕ, zero, suc, ◌+◌, ◌%◌, ◌/◌, ◌==◌, List, [], ◌∷◌, ◌++◌, codes, decimal, if◌then◌else◌}
use Rattle.rand_core.specs.Pcg32Seed.{pcg32_seed}
use Rattle.rand_pcg.specs.Lcg.{Lcg}
use Rattle.rand_pcg.specs.Pcg.{pcg64, pcg64_of_seed}
use Rattle.made_project.specs.Lines.{lines}

-- the generator of a seed
unfoldable pub generator : ℕ → Lcg
generator seed = pcg64_of_seed (pcg32_seed 32 seed)

abbrev pub operator_text : ℕ → List ℕ
operator_text number = if number == 0 then codes "+" else (if number == 1 then codes "-" else (if number == 2 then codes "&" else (if number == 3 then codes "|" else codes "^")))

-- the line of a net by its word
abbrev pub net_line : ℕ → ℕ → List ℕ
net_line net word = codes "  wire [2:0] n" ++ (decimal net ++ (codes " = n" ++ (decimal (word % net) ++ (codes " " ++ (operator_text (word / 4294967296 % 5) ++ (codes " n" ++ (decimal (word / 65536 % net) ++ codes ";\n")))))))

-- the lines of so many nets from this number on, by the words from a state of the generator on
abbrev pub net_lines : Lcg → (net count : ℕ) → List ℕ
net_lines g net zero = []
net_lines g net (suc count) = net_line net (pcg64 g).0 ++ net_lines (pcg64 g).1 (net + 1) count

-- what stands in front of the drawn nets
abbrev pub head_text : List ℕ
head_text = lines (codes "module d(input clk, input [2:0] a, input [2:0] b, output [2:0] y);"
    ∷ codes "  reg [2:0] r;"
    ∷ codes "  wire [2:0] n0 = a ^ r;"
    ∷ codes "  wire [2:0] n1 = b + r;"
    ∷ [])

-- what stands behind them, where this is the last net
abbrev pub end_text : ℕ → List ℕ
end_text last = codes "  assign y = n" ++ (decimal last ++ (codes ";\n  always @(posedge clk) r <= n" ++ (decimal last ++ codes ";\nendmodule\n")))

-- the design of a seed with so many drawn cells
abbrev pub design_text : ℕ → ℕ → List ℕ
design_text seed cells = head_text ++ (net_lines (generator seed) 2 cells ++ end_text (cells + 1))
