-- The classes of names and symbols, by their texts.
use Rattle.std.specs.Prelude.{ℕ, ◌==◌, if◌then◌else◌, List, [], ◌∷◌, Option, Some, None, length, codes}
use Rattle.std.specs.Borrow.{Bor}
use Rattle.std.specs.Str.{bytes_eq}
use Rattle.vlog_grammar.specs.declared.class.Class.{Class}
use Rattle.vlog_grammar.specs.declared.class.Class.TheVariants as c

-- the reserved words (IEEE 1364-2005, Annex B) and six of SystemVerilog, by their lengths
abbrev words_of_2 : List (List ℕ × Class)
words_of_2 = (codes "if", c.If) ∷ (codes "or", c.Or) ∷ []

abbrev words_of_3 : List (List ℕ × Class)
words_of_3 = (codes "and", c.Primitive) ∷ (codes "buf", c.Primitive) ∷ (codes "end", c.End) ∷ (codes "for", c.For) ∷ (codes "nor", c.Primitive) ∷ (codes "not", c.Primitive) ∷ (codes "reg", c.Reg) ∷ (codes "tri", c.NetKind) ∷ (codes "use", c.Other) ∷ (codes "wor", c.NetKind) ∷ (codes "xor", c.Primitive) ∷ []

abbrev words_of_4 : List (List ℕ × Class)
words_of_4 = (codes "case", c.Case) ∷ (codes "cell", c.Other) ∷ (codes "cmos", c.Primitive) ∷ (codes "edge", c.Other) ∷ (codes "else", c.Else) ∷ (codes "fork", c.Other) ∷ (codes "join", c.Other) ∷ (codes "nand", c.Primitive) ∷ (codes "nmos", c.Primitive) ∷ (codes "pmos", c.Primitive) ∷ (codes "real", c.RealOrTime) ∷ (codes "task", c.Task) ∷ (codes "time", c.RealOrTime) ∷ (codes "tran", c.Primitive) ∷ (codes "tri0", c.NetKind) ∷ (codes "tri1", c.NetKind) ∷ (codes "wait", c.Other) ∷ (codes "wand", c.NetKind) ∷ (codes "wire", c.Wire) ∷ (codes "xnor", c.Primitive) ∷ []

abbrev words_of_5 : List (List ℕ × Class)
words_of_5 = (codes "begin", c.Begin) ∷ (codes "casex", c.CaseX) ∷ (codes "casez", c.CaseZ) ∷ (codes "event", c.Other) ∷ (codes "force", c.Other) ∷ (codes "inout", c.Inout) ∷ (codes "input", c.Input) ∷ (codes "large", c.Other) ∷ (codes "logic", c.SystemVerilog) ∷ (codes "pull0", c.Other) ∷ (codes "pull1", c.Other) ∷ (codes "rcmos", c.Primitive) ∷ (codes "rnmos", c.Primitive) ∷ (codes "rpmos", c.Primitive) ∷ (codes "rtran", c.Primitive) ∷ (codes "small", c.Other) ∷ (codes "table", c.Other) ∷ (codes "trior", c.NetKind) ∷ (codes "uwire", c.Other) ∷ (codes "weak0", c.Other) ∷ (codes "weak1", c.Other) ∷ (codes "while", c.While) ∷ []

abbrev words_of_6 : List (List ℕ × Class)
words_of_6 = (codes "always", c.Always) ∷ (codes "assign", c.Assign) ∷ (codes "bufif0", c.Primitive) ∷ (codes "bufif1", c.Primitive) ∷ (codes "config", c.Other) ∷ (codes "design", c.Other) ∷ (codes "genvar", c.Genvar) ∷ (codes "highz0", c.Other) ∷ (codes "highz1", c.Other) ∷ (codes "ifnone", c.Other) ∷ (codes "incdir", c.Other) ∷ (codes "medium", c.Other) ∷ (codes "module", c.Module) ∷ (codes "notif0", c.Primitive) ∷ (codes "notif1", c.Primitive) ∷ (codes "output", c.Output) ∷ (codes "pullup", c.Primitive) ∷ (codes "repeat", c.Repeat) ∷ (codes "signed", c.Signed) ∷ (codes "triand", c.NetKind) ∷ (codes "trireg", c.NetKind) ∷ []

abbrev words_of_7 : List (List ℕ × Class)
words_of_7 = (codes "default", c.Default) ∷ (codes "disable", c.Other) ∷ (codes "endcase", c.EndCase) ∷ (codes "endtask", c.Other) ∷ (codes "forever", c.Forever) ∷ (codes "include", c.Other) ∷ (codes "initial", c.Initial) ∷ (codes "integer", c.Integer) ∷ (codes "liblist", c.Other) ∷ (codes "library", c.Other) ∷ (codes "negedge", c.Negedge) ∷ (codes "package", c.SystemVerilog) ∷ (codes "posedge", c.Posedge) ∷ (codes "release", c.Other) ∷ (codes "specify", c.Specify) ∷ (codes "strong0", c.Other) ∷ (codes "strong1", c.Other) ∷ (codes "supply0", c.NetKind) ∷ (codes "supply1", c.NetKind) ∷ (codes "tranif0", c.Primitive) ∷ (codes "tranif1", c.Primitive) ∷ []

abbrev words_of_8 : List (List ℕ × Class)
words_of_8 = (codes "deassign", c.Other) ∷ (codes "defparam", c.Defparam) ∷ (codes "endtable", c.Other) ∷ (codes "function", c.Function) ∷ (codes "generate", c.Generate) ∷ (codes "instance", c.Other) ∷ (codes "pulldown", c.Primitive) ∷ (codes "realtime", c.RealOrTime) ∷ (codes "rtranif0", c.Primitive) ∷ (codes "rtranif1", c.Primitive) ∷ (codes "scalared", c.Other) ∷ (codes "unsigned", c.Other) ∷ (codes "vectored", c.Other) ∷ []

abbrev words_of_9 : List (List ℕ × Class)
words_of_9 = (codes "always_ff", c.SystemVerilog) ∷ (codes "automatic", c.Other) ∷ (codes "endconfig", c.Other) ∷ (codes "endmodule", c.EndModule) ∷ (codes "interface", c.SystemVerilog) ∷ (codes "parameter", c.Parameter) ∷ (codes "primitive", c.Primitive) ∷ (codes "specparam", c.Other) ∷ []

abbrev words_of_10 : List (List ℕ × Class)
words_of_10 = (codes "endspecify", c.Other) ∷ (codes "localparam", c.Localparam) ∷ []

abbrev words_of_11 : List (List ℕ × Class)
words_of_11 = (codes "always_comb", c.SystemVerilog) ∷ (codes "endfunction", c.Other) ∷ (codes "endgenerate", c.EndGenerate) ∷ (codes "macromodule", c.Other) ∷ []

abbrev words_of_12 : List (List ℕ × Class)
words_of_12 = (codes "always_latch", c.SystemVerilog) ∷ (codes "endprimitive", c.Other) ∷ []

abbrev words_of_13 : List (List ℕ × Class)
words_of_13 = (codes "showcancelled", c.Other) ∷ []

abbrev words_of_15 : List (List ℕ × Class)
words_of_15 = (codes "noshowcancelled", c.Other) ∷ []

abbrev words_of_18 : List (List ℕ × Class)
words_of_18 = (codes "pulsestyle_onevent", c.Other) ∷ []

abbrev words_of_19 : List (List ℕ × Class)
words_of_19 = (codes "pulsestyle_ondetect", c.Other) ∷ []

abbrev pub words : ℕ → List (List ℕ × Class)
words n =
    if n == 2 then words_of_2 else (if n == 3 then words_of_3 else (if n == 4 then words_of_4 else (if n == 5 then words_of_5 else (if n == 6 then words_of_6 else (if n == 7 then words_of_7 else (if n == 8 then words_of_8 else (if n == 9 then words_of_9 else (if n == 10 then words_of_10 else (if n == 11 then words_of_11 else (if n == 12 then words_of_12 else (if n == 13 then words_of_13 else (if n == 15 then words_of_15 else (if n == 18 then words_of_18 else (if n == 19 then words_of_19 else ([])))))))))))))))

-- the symbols that stand in the grammar, by their lengths
abbrev symbols_of_1 : List (List ℕ × Class)
symbols_of_1 = (codes ";", c.Semicolon) ∷ (codes "(", c.OpenParen) ∷ (codes ")", c.CloseParen) ∷ (codes ",", c.Comma) ∷ (codes "=", c.Equals) ∷ (codes "[", c.OpenBracket) ∷ (codes "]", c.CloseBracket) ∷ (codes ":", c.Colon) ∷ (codes ".", c.Dot) ∷ (codes "@", c.At) ∷ (codes "*", c.Star) ∷ (codes "+", c.Plus) ∷ (codes "-", c.Minus) ∷ (codes "&", c.And) ∷ (codes "|", c.Bar) ∷ (codes "^", c.Xor) ∷ (codes "~", c.Tilde) ∷ (codes "!", c.Not) ∷ (codes "<", c.Less) ∷ (codes ">", c.Greater) ∷ (codes "?", c.Question) ∷ (codes "{", c.OpenBrace) ∷ (codes "}", c.CloseBrace) ∷ (codes "#", c.Hash) ∷ (codes "/", c.Slash) ∷ (codes "%", c.Percent) ∷ []

abbrev symbols_of_2 : List (List ℕ × Class)
symbols_of_2 = (codes "<=", c.LessEqual) ∷ (codes "+:", c.PlusColon) ∷ (codes "**", c.Power) ∷ (codes "<<", c.ShiftLeft) ∷ (codes ">>", c.ShiftRight) ∷ (codes ">=", c.GreaterEqual) ∷ (codes "==", c.Equal) ∷ (codes "!=", c.Unequal) ∷ (codes "^~", c.Xnor) ∷ (codes "~^", c.Xnor) ∷ (codes "&&", c.LogicalAnd) ∷ (codes "||", c.LogicalOr) ∷ (codes "~&", c.Nand) ∷ (codes "~|", c.Nor) ∷ []

abbrev symbols_of_3 : List (List ℕ × Class)
symbols_of_3 = (codes "<<<", c.ShiftLeftSigned) ∷ (codes ">>>", c.ShiftRightSigned) ∷ (codes "===", c.CaseEqual) ∷ (codes "!==", c.CaseUnequal) ∷ []

abbrev pub symbols : ℕ → List (List ℕ × Class)
symbols n =
    if n == 1 then symbols_of_1 else (if n == 2 then symbols_of_2 else (if n == 3 then symbols_of_3 else ([])))

-- the system functions of one argument (IEEE 1364-2005, 17.9, 17.11.1)
abbrev pub functions : List (List ℕ × Class)
functions = (codes "$signed", c.UnaryFunction) ∷ (codes "$unsigned", c.UnaryFunction) ∷ (codes "$clog2", c.UnaryFunction) ∷ []

-- the class that a table has for a text
abbrev pub lookup : List (List ℕ × Class) → List ℕ → Option Class
lookup [] text = None
lookup (e ∷ es) text = if bytes_eq e.0 text then Some e.1 else lookup es text

abbrev or_else : Option Class → Class → Class
or_else None d = d
or_else (Some x) d = x

-- a name that is no reserved word is an identifier
abbrev pub word_class : List ℕ → Class
word_class text = or_else (lookup (words (length text)) text) c.Name

-- a symbol that stands in no production
abbrev pub symbol_class : List ℕ → Class
symbol_class text = or_else (lookup (symbols (length text)) text) c.Other

-- the name of another system task or function
abbrev pub system_class : List ℕ → Class
system_class text = or_else (lookup functions text) c.System

-- For proofs alone.

-- an entry of a table in the code
abbrev pub plain : Bor (List ℕ) × Class → List ℕ × Class
plain e = (e.0.now, e.1)
