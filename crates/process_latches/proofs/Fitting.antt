-- Parts of left sides, and what of them is taken where they are refused.
use Rattle.process_latches.proofs.Common.{◌≡◌, ℕ, Bool, true, false, ◌||◌, List, [], ◌∷◌, ◌++◌, map, refl, sym, ap, ◌∙◌, subst, rules, Some, if◌then◌else◌, Span, left_first, left_first_token}
use Rattle.process_latches.proofs.Common.{Identifier, Expr, LeftSide, out-LeftSide, the_lemmas, Fault, least, Names, is_empty, IsWhole, no_bits, Select, Whole, Bit, Range, Indexed, Part, parts_of}
use Rattle.process_latches.proofs.Common.{concatenated, parts_missed, index_reads, parts-name, parts-bit, parts-range, parts-indexed, parts-concatenation, AreSized, own_faults, same_form, form_step}
use Rattle.process_latches.proofs.Common.{IsFitSelect, AreFit, indices_read, IsPart, part_form, part_left, left_of, sound_part, sound_left}
use Rattle.vlog_syntax.specs.declared.expr.Expr.TheVariants as v
use Rattle.vlog_syntax.specs.declared.left_side.LeftSide.TheVariants as lv
use Rattle.vlog_syntax.specs.declared.left_side.LeftSide.TheOpen as l
use Rattle.vlog_syntax.specs.declared.left_side.LeftSide.TheFolds.{fold-roll-LeftSide}
use Rattle.vlog_meaning.proofs.Whole.{whole_index, whole_part, whole_indexed}
use Rattle.process_latches.proofs.Adding.{and_end}
use Rattle.process_latches.proofs.Bodies.{some_faults}

fit_select : (names : Names) (n : Identifier) (s : Select) → IsWhole names (part_form n s) → IsFitSelect names s
fit_select names n Whole w = tt
fit_select names n (Bit at i) w = whole_index names (v.BitSelect n at i) n at i refl w
fit_select names n (Range at m lsb) w = let f = whole_part names (v.PartSelect n at m lsb) n at m lsb refl w in (f.msb, f.lsb, f.narrow)
fit_select names n (Indexed at b c) w = let f = whole_indexed names (v.IndexedPartSelect n at b c) n at b c refl w in (f.base, f.width, f.narrow)

pub fit_part : (names : Names) (left : LeftSide) (n : Identifier) (p : Part) → AreSized names → IsPart left n p → IsWhole names (same_form left) → AreFit names (parts_of left)
fit_part names left n p sized is whole = subst (AreFit names) (sym is.parts) ((sized p.name.name, fit_select names p.name p.select (subst (IsWhole names) is.form whole)), tt)

pub no_faults : (fs : List Fault) → fs ≡ [] → is_empty fs ≡ true
no_faults [] e = refl
no_faults (f ∷ more) e = cc

-- a part in which nothing is refused is taken as it is
pub sound_whole : (names : Names) (left : LeftSide) (n : Identifier) (p : Part) → IsPart left n p → own_faults names (same_form left) ≡ [] → parts_of left ≡ sound_part names p ∷ []
sound_whole names left n p is whole =
    is.parts ∙ sym (ap (λ (b : Bool). (if b then p else record { name = p.name; select = Whole }) ∷ []) (no_faults _ (subst (λ (x : Expr). own_faults names x ≡ []) is.form whole)))

-- and one that is refused is its name
pub sound_name : (names : Names) (left : LeftSide) (n : Identifier) (p : Part) (f : Fault) → IsPart left n p → Some f ≡ least (own_faults names (same_form left)) → parts_of (lv.Name n) ≡ sound_part names p ∷ []
sound_name names left n p f is some =
    let by_name : Identifier → List Part = λ k. record { name = k; select = Whole } ∷ [] in
    let faults : Some f ≡ least (own_faults names (part_form p.name p.select)) = subst (λ (x : Expr). Some f ≡ least (own_faults names x)) is.form some in
    parts-name n ∙ ap by_name (sym is.name_is) ∙ sym (ap (λ (b : Bool). (if b then p else record { name = p.name; select = Whole }) ∷ []) (some_faults _ f faults))

pub sound_keeps_name : (names : Names) (p : Part) → (sound_part names p).name ≡ p.name
sound_keeps_name names p = go (is_empty (own_faults names (part_form p.name p.select))) where
  go : (b : Bool) → (if b then p else record { name = p.name; select = Whole }).name ≡ p.name
  go true = refl
  go false = refl

-- Left sides by their variants.

pub is_name : (left : LeftSide) (n : Identifier) → left ≡ lv.Name n → IsPart left n (record { name = n; select = Whole })
is_name left n is = record { parts = ap parts_of is ∙ parts-name n; form = ap same_form (is ∙ sym (lv.rolls-Name n)) ∙ fold-roll-LeftSide Expr form_step (l.Name n); name_is = refl }

pub is_bit : (left : LeftSide) (n : Identifier) (at : Span) (i : Expr) → left ≡ lv.BitSelect n at i → IsPart left n (record { name = n; select = Bit at i })
is_bit left n at i is = record { parts = ap parts_of is ∙ parts-bit n at i; form = ap same_form (is ∙ sym (lv.rolls-BitSelect n at i)) ∙ fold-roll-LeftSide Expr form_step (l.BitSelect n at i); name_is = refl }

pub is_range : (left : LeftSide) (n : Identifier) (at : Span) (m b : Expr) → left ≡ lv.PartSelect n at m b → IsPart left n (record { name = n; select = Range at m b })
is_range left n at m b is = record { parts = ap parts_of is ∙ parts-range n at m b; form = ap same_form (is ∙ sym (lv.rolls-PartSelect n at m b)) ∙ fold-roll-LeftSide Expr form_step (l.PartSelect n at m b); name_is = refl }

pub is_indexed : (left : LeftSide) (n : Identifier) (at : Span) (b c : Expr) → left ≡ lv.IndexedPartSelect n at b c → IsPart left n (record { name = n; select = Indexed at b c })
is_indexed left n at b c is = record { parts = ap parts_of is ∙ parts-indexed n at b c; form = ap same_form (is ∙ sym (lv.rolls-IndexedPartSelect n at b c)) ∙ fold-roll-LeftSide Expr form_step (l.IndexedPartSelect n at b c); name_is = refl }

-- The parts of a sound left side.

own_part : (n : Identifier) (s : Select) → parts_of (part_left n s) ≡ record { name = n; select = s } ∷ []
own_part n Whole = parts-name n
own_part n (Bit at i) = parts-bit n at i
own_part n (Range at m b) = parts-range n at m b
own_part n (Indexed at b c) = parts-indexed n at b c

own_parts : (names : Names) (ps : List Part) → concatenated (map parts_of (map (λ p. left_of (sound_part names p)) ps)) ≡ map (sound_part names) ps
own_parts names [] = refl
own_parts names (p ∷ ps) =
    let here : List Part = concatenated (map parts_of (map (λ q. left_of (sound_part names q)) ps)) in
    ap (λ (x : List Part). x ++ here) (own_part (sound_part names p).name (sound_part names p).select) ∙ ap (λ (x : List Part). sound_part names p ∷ x) (own_parts names ps)

pub parts_sound : (names : Names) (left : LeftSide) → parts_of (sound_left names left) ≡ map (sound_part names) (parts_of left)
parts_sound names left = parts-concatenation (left_first_token left) (map (λ p. left_of (sound_part names p)) (parts_of left)) ∙ own_parts names (parts_of left)

pub token_sound : (names : Names) (left : LeftSide) → left_first_token (sound_left names left) ≡ left_first_token left
token_sound names left =
    let ls : List LeftSide = map (λ p. left_of (sound_part names p)) (parts_of left) in
    ap left_first (out_concatenation (left_first_token left) ls) where
      out_concatenation : (at : Span) (ls : List LeftSide) → out-LeftSide (lv.Concatenation at ls) ≡ l.Concatenation at ls
      out_concatenation at ls = ap out-LeftSide (sym (lv.rolls-Concatenation at ls)) ∙ search (rules, the_lemmas)

-- what the indices of parts read, where nothing is assigned before
pub missed_none : (names : Names) (ps : List Part) (n i : ℕ) → parts_missed names ps no_bits n i ≡ indices_read names ps n i
missed_none names [] n i = refl
missed_none names (p ∷ ps) n i = ap (λ (b : Bool). b || parts_missed names ps no_bits n i) (and_end (index_reads names p.select n i)) ∙ ap (λ (b : Bool). index_reads names p.select n i || b) (missed_none names ps n i)
