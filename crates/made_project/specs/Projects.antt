-- The project that is made from a seed and a number of cells: up to 100 mutations of all modes, a testbench and an equivalence test.
use Rattle.std.specs.Prelude.{ℕ, List, [], ◌∷◌, ◌++◌, codes, decimal}
use Rattle.mcy_base.specs.declared.file.SourceFile.{SourceFile}
use Rattle.made_project.specs.Designs.{design_text}
use Rattle.made_project.specs.Lines.{lines}

-- the testbench: whether the output is other than 0 in one of 32 cycles
abbrev pub bench_text : List ℕ
bench_text = lines (codes "module d_tb;"
    ∷ codes "  reg clk;"
    ∷ codes "  reg [2:0] a, b;"
    ∷ codes "  wire [2:0] y;"
    ∷ codes "  integer i, z;"
    ∷ codes "  d dut(.clk(clk), .a(a), .b(b), .y(y));"
    ∷ codes "  initial begin clk = 0; forever #5 clk = ~clk; end"
    ∷ codes "  initial begin"
    ∷ codes "    a = 0; b = 0; z = 0;"
    ∷ codes "    for (i = 0; i < 32; i = i + 1) begin"
    ∷ codes "      @(negedge clk);"
    ∷ codes "      if (y != 0) z = z + 1;"
    ∷ codes "      a = $random; b = i;"
    ∷ codes "    end"
    ∷ codes "    if (z > 0) $display(\"ALIVE\"); else $display(\"DEAD\");"
    ∷ codes "    $finish;"
    ∷ codes "  end"
    ∷ codes "endmodule"
    ∷ [])

-- what the project file says behind the seed: the limits, the tags, the sources, the tests, and the script that tags by their words
abbrev pub settings_text : List ℕ
settings_text = lines (codes "conflicts 20000"
    ∷ codes "cycles 40"
    ∷ codes "tags COVERED UNCOVERED NOCHANGE EQGAP GIVENUP"
    ∷ codes "[script]"
    ∷ codes "read_verilog d.v"
    ∷ codes "prep -top d"
    ∷ codes "[files]"
    ∷ codes "d.v"
    ∷ codes "[test test_sim]"
    ∷ codes "sim d_tb d_tb.v"
    ∷ codes "pass ALIVE"
    ∷ codes "fail DEAD"
    ∷ codes "[test test_eq]"
    ∷ codes "eq"
    ∷ codes "[logic]"
    ∷ codes "tb_okay = (result(\"test_sim\") == \"PASS\")"
    ∷ codes "eq_word = result(\"test_eq\")"
    ∷ codes "eq_okay = (eq_word == \"PASS\")"
    ∷ codes "if eq_word == \"UNKNOWN\":"
    ∷ codes "    tag(\"GIVENUP\")"
    ∷ codes "elif tb_okay and not eq_okay:"
    ∷ codes "    tag(\"UNCOVERED\")"
    ∷ codes "elif not tb_okay and not eq_okay:"
    ∷ codes "    tag(\"COVERED\")"
    ∷ codes "elif tb_okay and eq_okay:"
    ∷ codes "    tag(\"NOCHANGE\")"
    ∷ codes "else:"
    ∷ codes "    tag(\"EQGAP\")"
    ∷ [])

-- the project file of a seed
abbrev pub config_text : ℕ → List ℕ
config_text seed = codes "[options]\nsize 100\nseed " ++ (decimal seed ++ (codes "\n" ++ settings_text))

-- the files of the project
abbrev pub made_files : ℕ → ℕ → List SourceFile
made_files seed cells =
    record { name = codes "config.mcy"; bytes = config_text seed }
    ∷ record { name = codes "d.v"; bytes = design_text seed cells }
    ∷ record { name = codes "d_tb.v"; bytes = bench_text }
    ∷ []
