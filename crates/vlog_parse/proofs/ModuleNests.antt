-- How deep the modules of a text nest, where no token of it is too deep.
use Rattle.vlog_parse.proofs.Common.{◌≡◌, ℕ, ◌+◌, ◌-◌, ◌≤◌, max, false, List, [], ◌∷◌, ◌++◌, refl, sym, ap, subst, ◌∙◌, arith, All, Token, Module, module_nest, Rule, Classed, Symbol, Is, Refused, Of}
use Rattle.vlog_parse.proofs.Common.{production, kind_of, parts_of, Trees, Nil, Leaf, Node, Derives, tokens_of, start, Value, first, rest, made_module, made_item, made_event, made_passed}
use Rattle.vlog_parse.proofs.Common.{made_statement, made_expression, leaf, made, means, Row, AllShallow, begun, behind, depths_in, ended, outermost, reached, settled, AreParsed}
use Rattle.std.proofs.lemmas.List.Elements.{All-nil, All-cons}
use Rattle.vlog_grammar.specs.declared.class.Class.{Class}
use Rattle.vlog_grammar.specs.declared.class.Class.TheVariants as c
use Rattle.vlog_grammar.specs.declared.rule.Kind.TheVariants as k
use Rattle.vlog_grammar.specs.declared.rule.Rule.TheVariants as r
use Rattle.vlog_parts.specs.Values.{modules_of}
use Rattle.vlog_declarations.specs.Declarations.{made_declaration}
use Rattle.vlog_parse.proofs.Nests.{nest, part_deep}
use Rattle.vlog_parse.proofs.RuleNests.{AllWithin}
use Rattle.vlog_parse.proofs.RowNests.{Rows, ended-operator, leaf_part, node_grows, part_of, rows_within, settled_plain}

shallow_left : (ds es : List ℕ) → AllShallow (ds ++ es) → AllShallow ds
shallow_left [] es h = tt
shallow_left (d ∷ ds) es h = (h.0, shallow_left ds es h.1)

shallow_right : (ds es : List ℕ) → AllShallow (ds ++ es) → AllShallow es
shallow_right [] es h = h
shallow_right (d ∷ ds) es h = shallow_right ds es h.1

one_more : (x : Value) (xs ys : List Value) → xs ≡ ys → x ∷ xs ≡ x ∷ ys
one_more x xs ys same = ap (λ (zs : List Value). x ∷ zs) same

-- the parts in front of a token
record InFront (ts : List Token) (ss : List Symbol) (f : Trees) (row : Row) : Type 0 where
  height : ℕ
  parts : List Value
  others : List Value
  are : means ts f ≡ parts ++ others
  rows : Rows ss parts (settled row).height height
  shallow : height ≤ 200

in_front : (ts : List Token) (ss : List Symbol) (token : Class) (behind : List Symbol) (f : Trees) (after : List Classed) (row : Row) → (settled row).is_operator ≡ false → Derives (ss ++ Is token ∷ behind) f after → AllShallow (depths_in row f).0 → InFront ts ss f row
unfolding reached ended
in_front ts [] token behind Nil after row plain d shallow = absurd d
in_front ts [] token behind (Node rule parts f) after row plain d shallow =
    let is : Is token ≡ Of (kind_of rule) = d.0 in
    absurd cc
in_front ts [] token behind (Leaf t x f) after row plain d shallow =
    let deep : (settled row).depth + max (settled row).height (settled row).left ≤ 200 = shallow.0 in
    record { height = (settled row).height; parts = []; others = leaf ts t ∷ means ts f; are = refl; rows = omega arith; shallow = omega (arith, deep) }
in_front ts (s ∷ ss) token behind Nil after row plain d shallow = absurd d
in_front ts (s ∷ ss) token behind (Leaf t x f) after row plain d shallow =
    let now = settled row in
    let next : Row = record now { parts = now.parts - 1 } in
    let still : settled next ≡ next = settled_plain next plain in
    let later = in_front ts ss token behind f after next (ap (λ (e : Row). e.is_operator) still ∙ plain) d.1 shallow.1 in
    record {
      height = later.height;
      parts = leaf ts t ∷ later.parts;
      others = later.others;
      are = one_more (leaf ts t) (means ts f) (later.parts ++ later.others) later.are;
      rows = record { height = now.height; part = leaf_part s t x (leaf ts t) now.height d.0; others = subst (λ (e : Row). Rows ss later.parts e.height later.height) still later.rows };
      shallow = later.shallow;
    }
in_front ts (s ∷ ss) token behind (Node rule parts f) after row plain d shallow =
    let now = settled row in
    let inner = depths_in (begun now rule) parts in
    let next : Row = ended now rule inner.1 in
    let stays : next.is_operator ≡ false = ended-operator now rule inner.1 ∙ plain in
    let still : settled next ≡ next = settled_plain next stays in
    let later = in_front ts ss token behind f after next (ap (λ (e : Row). e.is_operator) still ∙ stays) d.3 (shallow_right inner.0 (depths_in next f).0 shallow) in
    record {
      height = later.height;
      parts = made rule (means ts parts) ∷ later.parts;
      others = later.others;
      are = one_more (made rule (means ts parts)) (means ts f) (later.parts ++ later.others) later.are;
      rows = record { height = next.height; part = part_of s (kind_of rule) (made rule (means ts parts)) now.height next.height d.0 (node_grows ts rule parts (tokens_of f ++ after) now d.2); others = subst (λ (e : Row). Rows ss later.parts e.height later.height) still later.rows };
      shallow = later.shallow;
    }

-- the parts of a module in front of its `endmodule`
head_parts : List Symbol
head_parts = Is c.Module ∷ Of k.Identifier ∷ Of k.ParameterPorts ∷ Of k.PortList ∷ Is c.Semicolon ∷ Of k.ModuleItems ∷ []

within_more : (ss : List Symbol) (xs : List Value) (a b : ℕ) → a ≤ b → AllWithin ss xs a → AllWithin ss xs b
within_more [] xs a b le w = tt
within_more (s ∷ ss) xs a b le w = let here : part_deep s (first xs) ≤ a = w.0 in (omega (arith, here, le), within_more ss (rest xs) a b le w.1)

module_parts : (ts : List Token) (parts : Trees) (after : List Classed) (now : Row) → Derives (parts_of r.ModuleDeclaration) parts after → AllShallow (depths_in (begun now r.ModuleDeclaration) parts).0 → AllWithin head_parts (means ts parts) 200
unfolding production begun behind settled head_parts
module_parts ts parts after now d shallow =
    let front = in_front ts head_parts c.EndModule (Of k.SourceText ∷ []) parts after (begun now r.ModuleDeclaration) refl d shallow in
    within_more head_parts (means ts parts) front.height 200 front.shallow (subst (λ (xs : List Value). AllWithin head_parts xs front.height) (sym front.are) (rows_within head_parts front.parts front.others (settled (begun now r.ModuleDeclaration)).height front.height front.shallow front.rows))

abbrev Shallow : Module → Type 0
Shallow m = module_nest m ≤ 200

-- the modules of a source text nest at most so deep
abbrev Sourced : Symbol → Value → Type 0
Sourced (Of k.SourceText) x = All Shallow (modules_of x)
Sourced _ x = Unit {0}

abbrev AllSourced : List Symbol → List Value → Type 0
AllSourced [] xs = Unit {0}
AllSourced (s ∷ ss) xs = Sourced s (first xs) × AllSourced ss (rest xs)

eighth_sourced : (ms : List Value) → AllSourced (parts_of r.ModuleDeclaration) ms → All Shallow (modules_of (first (rest (rest (rest (rest (rest (rest (rest ms)))))))))
unfolding production
eighth_sourced ms h = h.1.1.1.1.1.1.1.0

declared_module : (ms : List Value) → AllWithin head_parts ms 200 → AllSourced (parts_of r.ModuleDeclaration) ms → All Shallow (modules_of (made r.ModuleDeclaration ms))
unfolding made made_expression made_passed made_statement made_event made_declaration made_item made_module production nest head_parts
declared_module ms within sourced = All-cons Shallow _ _ (omega (arith, within)) (eighth_sourced ms sourced)

sourced_by : (rule : Rule) (ms : List Value) → (rule ≡ r.ModuleDeclaration → AllWithin head_parts ms 200) → AllSourced (parts_of rule) ms → Sourced (Of (kind_of rule)) (made rule ms)
unfolding made made_expression made_passed made_statement made_event made_declaration made_item made_module production
sourced_by r.NoDescription ms within h = All-nil Shallow
sourced_by r.PrimitiveDescription ms within h = All-nil Shallow
sourced_by r.GateDescription ms within h = All-nil Shallow
sourced_by r.SystemVerilogDescription ms within h = All-nil Shallow
sourced_by r.ModuleDeclaration ms within h = declared_module ms (within refl) h
sourced_by _ ms within h = tt

sources : (ts : List Token) (ss : List Symbol) (f : Trees) (after : List Classed) (row : Row) → Derives ss f after → AllShallow (depths_in row f).0 → AllSourced ss (means ts f)
unfolding first rest
sources ts [] Nil after row d shallow = tt
sources ts [] (Leaf t x f) after row d shallow = absurd d
sources ts [] (Node rule parts f) after row d shallow = absurd d
sources ts (s ∷ ss) Nil after row d shallow = absurd d
sources ts (Is c ∷ ss) (Leaf t x f) after row d shallow = (tt, sources ts ss f after _ d.1 shallow.1)
sources ts (Refused c y ∷ ss) (Leaf t x f) after row d shallow = (tt, sources ts ss f after _ d.1 shallow.1)
sources ts (Of k ∷ ss) (Leaf t x f) after row d shallow = absurd d.0
sources ts (s ∷ ss) (Node rule parts f) after row d shallow =
    let now = settled row in
    let inner = depths_in (begun now rule) parts in
    let next : Row = ended now rule inner.1 in
    let low = shallow_left inner.0 (depths_in next f).0 shallow in
    let within = sources ts (parts_of rule) parts (tokens_of f ++ after) (begun now rule) d.2 low in
    let here = sourced_by rule (means ts parts) (λ is. subst (λ (q : Rule). Derives (parts_of q) parts (tokens_of f ++ after) → AllShallow (depths_in (begun now q) parts).0 → AllWithin head_parts (means ts parts) 200) (sym is) (module_parts ts parts (tokens_of f ++ after) now) d.2 low) within in
    (subst (λ (q : Symbol). Sourced q (made rule (means ts parts))) (sym d.0) here, sources ts ss f after next d.3 (shallow_right inner.0 (depths_in next f).0 shallow))

-- what is parsed nests at most 200 deep
pub modules_nest : (tokens : List Token) (ms : List Module) → AreParsed tokens ms → All (λ m. module_nest m ≤ 200) ms
modules_nest tokens ms parsed =
    let sourced = sources tokens start parsed.are.text [] outermost parsed.are.trees.is_text parsed.shallow in
    subst (All (λ m. module_nest m ≤ 200)) (sym parsed.are.mean) sourced.0
