-- The texts of a made project are short.
use Rattle.made_campaign.proofs.Common.{◌≡◌, arith, ℕ, zero, suc, ◌+◌, ◌^◌, ◌*◌, ◌%◌, ◌/◌, ◌<◌, ◌≤◌, ◌==◌, Bool, true, false, List, ◌++◌, length, length-append, refl, if◌then◌else◌, codes, decimal}
use Rattle.made_campaign.proofs.Common.{nat_le, leb-true, design_text, end_text, generator, head_text, net_line, net_lines, operator_text, bench_text, config_text, settings_text}
use Rattle.std.proofs.lemmas.Fmt.{length-decimal-le}
use Rattle.rand_pcg.specs.Lcg.{Lcg}
use Rattle.rand_pcg.specs.Pcg.{pcg64}

-- a text that stands here
pub short : (text : List ℕ) (most : ℕ) → nat_le (length text) most ≡ true → length text ≤ most
short text most is = leb-true (length text) most is

both : (a b : List ℕ) (m n : ℕ) → length a ≤ m → length b ≤ n → length (a ++ b) ≤ m + n
both a b m n few more = omega (arith, length-append a b, few, more)

number : (n : ℕ) → n < 10000 → length (decimal n) ≤ 4
number n small = length-decimal-le 4 n (omega arith) (omega (arith, small)) (omega (arith, small))

one_of_five : (a b c d : Bool) → length (if a then codes "+" else (if b then codes "-" else (if c then codes "&" else (if d then codes "|" else codes "^")))) ≤ 1
one_of_five true b c d = omega arith
one_of_five false true c d = omega arith
one_of_five false false true d = omega arith
one_of_five false false false true = omega arith
one_of_five false false false false = omega arith

operator_short : (n : ℕ) → length (operator_text n) ≤ 1
operator_short n = one_of_five (n == 0) (n == 1) (n == 2) (n == 3)

net_short : (net word : ℕ) → 0 < net → net < 10000 → length (net_line net word) ≤ 40
net_short net word some small =
    let left : word % net < net = omega (arith, some) in
    let right : word / 65536 % net < net = omega (arith, some) in
    both (codes "  wire [2:0] n") _ 14 26 (short (codes "  wire [2:0] n") 14 refl)
    (both (decimal net) _ 4 22 (number net small)
    (both (codes " = n") _ 4 18 (short (codes " = n") 4 refl)
    (both (decimal (word % net)) _ 4 14 (number (word % net) (omega (arith, left, small)))
    (both (codes " ") _ 1 13 (short (codes " ") 1 refl)
    (both (operator_text (word / 4294967296 % 5)) _ 1 12 (operator_short (word / 4294967296 % 5))
    (both (codes " n") _ 2 10 (short (codes " n") 2 refl)
    (both (decimal (word / 65536 % net)) (codes ";\n") 4 6 (number (word / 65536 % net) (omega (arith, right, small))) (short (codes ";\n") 6 refl))))))))

nets_short : (g : Lcg) (net count : ℕ) → 0 < net → net + count < 10000 → length (net_lines g net count) ≤ 40 * count
nets_short g net zero some small = omega arith
nets_short g net (suc count) some small =
    let front : length (net_line net (pcg64 g).0) ≤ 40 = net_short net (pcg64 g).0 some (omega (arith, small)) in
    let rest : length (net_lines (pcg64 g).1 (net + 1) count) ≤ 40 * count = nets_short (pcg64 g).1 (net + 1) count (omega arith) (omega (arith, small)) in
    omega (arith, both (net_line net (pcg64 g).0) (net_lines (pcg64 g).1 (net + 1) count) 40 (40 * count) front rest)

end_short : (last : ℕ) → last < 10000 → length (end_text last) ≤ 100
end_short last small =
    both (codes "  assign y = n") _ 14 86 (short (codes "  assign y = n") 14 refl)
    (both (decimal last) _ 4 82 (number last small)
    (both (codes ";\n  always @(posedge clk) r <= n") _ 40 42 (short (codes ";\n  always @(posedge clk) r <= n") 40 refl)
    (both (decimal last) (codes ";\nendmodule\n") 4 38 (number last small) (short (codes ";\nendmodule\n") 38 refl))))

pub design_short : (seed cells : ℕ) → cells ≤ 400 → length (design_text seed cells) ≤ 1048576
design_short seed cells few =
    let nets : length (net_lines (generator seed) 2 cells) ≤ 40 * cells = nets_short (generator seed) 2 cells (omega arith) (omega (arith, few)) in
    let end : length (end_text (cells + 1)) ≤ 100 = end_short (cells + 1) (omega (arith, few)) in
    let head : length head_text ≤ 1000 = short head_text 1000 refl in
    omega (arith, few, both head_text (net_lines (generator seed) 2 cells ++ end_text (cells + 1)) 1000 (40 * cells + 100) head (both (net_lines (generator seed) 2 cells) (end_text (cells + 1)) (40 * cells) 100 nets end))

pub bench_short : length bench_text ≤ 1048576
bench_short = short bench_text 1048576 refl

pub config_short : (seed : ℕ) → seed < 2 ^ 64 → length (config_text seed) ≤ 1048576
config_short seed small =
    let digits : length (decimal seed) ≤ 20 = length-decimal-le 20 seed (omega arith) (omega (arith, small)) small in
    let settings : length settings_text ≤ 10000 = short settings_text 10000 refl in
    let front : length (codes "[options]\nsize 100\nseed ") ≤ 100 = short (codes "[options]\nsize 100\nseed ") 100 refl in
    omega (
      arith,
      both (codes "[options]\nsize 100\nseed ") (decimal seed ++ (codes "\n" ++ settings_text)) 100 10021 front
          (both (decimal seed) (codes "\n" ++ settings_text) 20 10001 digits (both (codes "\n") settings_text 1 10000 (short (codes "\n") 1 refl) settings)),
    )
