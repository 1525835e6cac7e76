-- An expression in which numbers stand for what was drawn says what the expression says in that evaluation.
use Rattle.tb_values.proofs.Common.{◌≡◌, ◌==◌, ℕ, ◌+◌, ◌<◌, false, List, [], ◌∷◌, ◌++◌, map, drop, length, get_or, ◌≤◌, refl, sym, ap, ◌∙◌, append_assoc, append-nil, Lcg, Span, Number, Identifier}
use Rattle.tb_values.proofs.Common.{UnaryOperator, Expr, Function, Signed, Unsigned, Clog2, Random, Time, function_of, Names, Sense, sense, senses, step, drawn, all_drawn, call_drawn, is_changing}
use Rattle.std.proofs.Common.{Option, None, Some}
use Rattle.std.proofs.lemmas.List.{map-append, drop_more, drop_all}
use Rattle.vlog_syntax.specs.declared.operator.BinaryOperator.{BinaryOperator}
use Rattle.vlog_syntax.specs.declared.expr.Expr.TheOpen as e
use Rattle.vlog_syntax.specs.declared.expr.Expr.TheVariants as v
use Rattle.vlog_meaning.proofs.Steps as s
use Rattle.tb_values.proofs.Variants as d

pub number_says : (names : Names) (phase : ℕ) (whole made : Expr) (n : Number) (g : Lcg) → whole ≡ v.Number n → made ≡ v.Number n → (sense names made, g) ≡ drawn names phase whole g
number_says names phase whole made n g is so = rw (is, so, s.sense_number names n, d.drawn_number names phase n g) refl

pub name_says : (names : Names) (phase : ℕ) (whole made : Expr) (n m : Identifier) (g : Lcg) → whole ≡ v.Name n → made ≡ v.Name m → m ≡ n → (sense names made, g) ≡ drawn names phase whole g
name_says names phase whole made n m g is so same = rw (is, so, same, s.sense_name names n, d.drawn_name names phase n g) refl

pub bit_select_says : (names : Names) (phase : ℕ) (whole made : Expr) (n : Identifier) (at : Span) (m : Identifier) (i x : Expr) (g h : Lcg) → whole ≡ v.BitSelect n at i → made ≡ v.BitSelect m at x → m ≡ n → (sense names x, h) ≡ drawn names phase i g → (sense names made, h) ≡ drawn names phase whole g
bit_select_says names phase whole made n at m i x g h is so same one = rw (is, so, same, s.sense_bit_select names n at x, d.drawn_bit_select names phase n at i g, ← one) refl

pub parenthesized_says : (names : Names) (phase : ℕ) (whole made : Expr) (at : Span) (i x : Expr) (g h : Lcg) → whole ≡ v.Parenthesized at i → made ≡ v.Parenthesized at x → (sense names x, h) ≡ drawn names phase i g → (sense names made, h) ≡ drawn names phase whole g
parenthesized_says names phase whole made at i x g h is so one = rw (is, so, s.sense_parenthesized names at x, d.drawn_parenthesized names phase at i g, ← one) refl

pub unary_says : (names : Names) (phase : ℕ) (whole made : Expr) (at : Span) (op : UnaryOperator) (i x : Expr) (g h : Lcg) → whole ≡ v.Unary at op i → made ≡ v.Unary at op x → (sense names x, h) ≡ drawn names phase i g → (sense names made, h) ≡ drawn names phase whole g
unary_says names phase whole made at op i x g h is so one = rw (is, so, s.sense_unary names at op x, d.drawn_unary names phase at op i g, ← one) refl

pub part_select_says : (names : Names) (phase : ℕ) (whole made : Expr) (n : Identifier) (at : Span) (m : Identifier) (i j x y : Expr) (g h k : Lcg) → whole ≡ v.PartSelect n at i j → made ≡ v.PartSelect m at x y → m ≡ n → (sense names x, h) ≡ drawn names phase i g → (sense names y, k) ≡ drawn names phase j h → (sense names made, k) ≡ drawn names phase whole g
part_select_says names phase whole made n at m i j x y g h k is so same one two = rw (is, so, same, s.sense_part_select names n at x y, d.drawn_part_select names phase n at i j g, ← one, ← two) refl

pub indexed_part_select_says : (names : Names) (phase : ℕ) (whole made : Expr) (n : Identifier) (at : Span) (m : Identifier) (i j x y : Expr) (g h k : Lcg) → whole ≡ v.IndexedPartSelect n at i j → made ≡ v.IndexedPartSelect m at x y → m ≡ n → (sense names x, h) ≡ drawn names phase i g → (sense names y, k) ≡ drawn names phase j h → (sense names made, k) ≡ drawn names phase whole g
indexed_part_select_says names phase whole made n at m i j x y g h k is so same one two = rw (is, so, same, s.sense_indexed_part_select names n at x y, d.drawn_indexed_part_select names phase n at i j g, ← one, ← two) refl

pub binary_says : (names : Names) (phase : ℕ) (whole made : Expr) (at : Span) (op : BinaryOperator) (i j x y : Expr) (g h k : Lcg) → whole ≡ v.Binary at op i j → made ≡ v.Binary at op x y → (sense names x, h) ≡ drawn names phase i g → (sense names y, k) ≡ drawn names phase j h → (sense names made, k) ≡ drawn names phase whole g
binary_says names phase whole made at op i j x y g h k is so one two = rw (is, so, s.sense_binary names at op x y, d.drawn_binary names phase at op i j g, ← one, ← two) refl

pub conditional_says : (names : Names) (phase : ℕ) (whole made : Expr) (at : Span) (c i j z x y : Expr) (g f h k : Lcg) → whole ≡ v.Conditional at c i j → made ≡ v.Conditional at z x y → (sense names z, f) ≡ drawn names phase c g → (sense names x, h) ≡ drawn names phase i f → (sense names y, k) ≡ drawn names phase j h → (sense names made, k) ≡ drawn names phase whole g
conditional_says names phase whole made at c i j z x y g f h k is so test one two = rw (is, so, s.sense_conditional names at z x y, d.drawn_conditional names phase at c i j g, ← test, ← one, ← two) refl

pub concatenation_says : (names : Names) (phase : ℕ) (whole made : Expr) (at : Span) (ps xs : List Expr) (g h : Lcg) → whole ≡ v.Concatenation at ps → made ≡ v.Concatenation at xs → (senses names xs, h) ≡ all_drawn (map (drawn names phase) ps) g → (sense names made, h) ≡ drawn names phase whole g
concatenation_says names phase whole made at ps xs g h is so all = rw (is, so, s.sense_concatenation names at xs, d.drawn_concatenation names phase at ps g, ← all) refl

pub multiple_concatenation_says : (names : Names) (phase : ℕ) (whole made : Expr) (at : Span) (i x : Expr) (ps xs : List Expr) (g f h : Lcg) → whole ≡ v.MultipleConcatenation at i ps → made ≡ v.MultipleConcatenation at x xs → (sense names x, f) ≡ drawn names phase i g → (senses names xs, h) ≡ all_drawn (map (drawn names phase) ps) f → (sense names made, h) ≡ drawn names phase whole g
multiple_concatenation_says names phase whole made at i x ps xs g f h is so one all = rw (is, so, s.sense_multiple_concatenation names at x xs, d.drawn_multiple_concatenation names phase at i ps g, ← one, ← all) refl

pub call_says : (names : Names) (phase : ℕ) (whole : Expr) (n : Identifier) (ps : List Expr) (g : Lcg) (p : Sense × Lcg) → whole ≡ v.SystemFunctionCall n ps → p ≡ call_drawn names phase n (function_of n.name) (map (drawn names phase) ps) g → p ≡ drawn names phase whole g
call_says names phase whole n ps g p is called = rw (is, d.drawn_call names phase n ps g) called

-- a call of one argument or more
with_some : (names : Names) (phase : ℕ) (n : Identifier) (f : Option Function) (p : Expr) (ps : List Expr) (g : Lcg) → call_drawn names phase n f (map (drawn names phase) (p ∷ ps)) g ≡ (step names (e.SystemFunctionCall n (all_drawn (map (drawn names phase) (p ∷ ps)) g).0), (all_drawn (map (drawn names phase) (p ∷ ps)) g).1)
with_some names phase n None p ps g = refl
with_some names phase n (Some Random) p ps g = refl
with_some names phase n (Some Time) p ps g = refl
with_some names phase n (Some Signed) p ps g = refl
with_some names phase n (Some Unsigned) p ps g = refl
with_some names phase n (Some Clog2) p ps g = refl

pub call_with : (names : Names) (phase : ℕ) (n m : Identifier) (f : Option Function) (ps xs : List Expr) (made : Expr) (g h : Lcg) → (length ps == 0) ≡ false → made ≡ v.SystemFunctionCall m xs → m ≡ n → (senses names xs, h) ≡ all_drawn (map (drawn names phase) ps) g → (sense names made, h) ≡ call_drawn names phase n f (map (drawn names phase) ps) g
call_with names phase n m f [] xs made g h some so same all = absurd cc
call_with names phase n m f (p ∷ ps) xs made g h some so same all = rw (so, same, s.sense_system_function_call names n xs) (ap (λ (d : List Sense × Lcg). (step names (e.SystemFunctionCall n d.0), d.1)) all ∙ sym (with_some names phase n f p ps g))

-- a call without arguments that does not change
pub bare_says : (names : Names) (phase : ℕ) (n m : Identifier) (f : Option Function) (xs : List Expr) (made : Expr) (g h : Lcg) → is_changing f ≡ false → h ≡ g → made ≡ v.SystemFunctionCall m xs → m ≡ n → xs ≡ [] → (sense names made, h) ≡ call_drawn names phase n f [] g
bare_says names phase n m None xs made g h quiet stays so same none = rw (so, same, none, stays, s.sense_system_function_call names n []) refl
bare_says names phase n m (Some Random) xs made g h quiet stays so same none = absurd cc
bare_says names phase n m (Some Time) xs made g h quiet stays so same none = absurd cc
bare_says names phase n m (Some Signed) xs made g h quiet stays so same none = rw (so, same, none, stays, s.sense_system_function_call names n []) refl
bare_says names phase n m (Some Unsigned) xs made g h quiet stays so same none = rw (so, same, none, stays, s.sense_system_function_call names n []) refl
bare_says names phase n m (Some Clog2) xs made g h quiet stays so same none = rw (so, same, none, stays, s.sense_system_function_call names n []) refl

-- a list that is drawn from left to right: what was drawn, and what is to be drawn

abbrev pub ahead : Names → ℕ → List Sense → List Expr → Lcg → List Sense × Lcg
ahead names phase done rest g = (done ++ (all_drawn (map (drawn names phase) rest) g).0, (all_drawn (map (drawn names phase) rest) g).1)

pub ahead_next : (names : Names) (phase : ℕ) (copies xs : List Expr) (copy x : Expr) (i : ℕ) (g h : Lcg) (total : List Sense × Lcg) → i < length xs → x ≡ get_or xs i x → (sense names copy, h) ≡ drawn names phase x g → ahead names phase (senses names copies) (drop i xs) g ≡ total → ahead names phase (senses names (copies ++ copy ∷ [])) (drop (i + 1) xs) h ≡ total
ahead_next names phase copies xs copy x i g h total within is one whole =
    let rest = drop (i + 1) xs in
    let done = senses names copies in
    let split : drop i xs ≡ x ∷ rest = drop_more xs i x within ∙ ap (λ (z : Expr). z ∷ rest) (sym is) in
    let with_next : Sense × Lcg → List Sense × Lcg = λ p. (done ++ p.0 ∷ (all_drawn (map (drawn names phase) rest) p.1).0, (all_drawn (map (drawn names phase) rest) p.1).1) in
    let next : ahead names phase done (drop i xs) g ≡ with_next (sense names copy, h) = ap (λ (l : List Expr). ahead names phase done l g) split ∙ ap with_next (sym one) in
    rw (map-append (sense names) copies (copy ∷ []), append_assoc done (sense names copy ∷ []) (all_drawn (map (drawn names phase) rest) h).0) (sym next ∙ whole)

pub ahead_end : (names : Names) (phase : ℕ) (done : List Sense) (xs : List Expr) (n : ℕ) (g : Lcg) (total : List Sense × Lcg) → length xs ≤ n → ahead names phase done (drop n xs) g ≡ total → (done, g) ≡ total
ahead_end names phase done xs n g total all whole =
    let here : ahead names phase done (drop n xs) g ≡ (done, g) = rw (drop_all n xs all, append-nil done) refl in
    sym here ∙ whole
