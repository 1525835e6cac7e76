-- A part that was read.
use Rattle.flat_assigns.proofs.Common.{◌≡◌, ℕ, ℤ, List, [], ◌∷◌, ◌++◌, Option, Some, None, refl, sym, ap, ◌∙◌, subst, flat_map, append-nil, map-append, Span, Expr, Identifier, LeftSide, Fault, least}
use Rattle.flat_assigns.proofs.Common.{earlier, bound_integer, Names, nothing, decl_shape, Sense, sense, constant_faults, name_faults, IsWhole, left_nil, right_nil, least_none, pair_first}
use Rattle.flat_assigns.proofs.Common.{whole_index, whole_indexed, Part, Select, Whole, Range, Indexed, Vector, bits_from, part_vector, parts_of, select_base, select_width, vector_of, Building}
use Rattle.flat_assigns.proofs.Common.{HasSignals, index_faults, same_form, Kept, AllInside, AllWithin, HasIndex, IsPart, IsPartOf, IsScanned, kept_slices, listed, slice_of, slices_of, vector_in}
use Rattle.flat_assigns.proofs.Common.{Slice, constant_target, form_of, own_slices, part_faults, part_form, part_slices, target_faults, vector_slices}
use Rattle.vlog_meaning.specs.declared.scope.Decl.{Decl}
use Rattle.vlog_meaning.specs.declared.scope.Decl.TheVariants.{Signal, Constant}
use Rattle.vlog_meaning.proofs.Steps.{sense_name, sense_bit_select, sense_part_select, sense_indexed_part_select}
use Rattle.vlog_effects.specs.LeftSides.{Bit}
use Rattle.flat_assigns.proofs.Scans.{inside_push}

-- what is kept of a vector
slice_is : (s : Kept) (span : Span) (v : Vector) (base : ℤ) (size : ℕ) → s.span ≡ span → vector_in s ≡ v → bound_integer s.base ≡ base → s.size ≡ size → slice_of s ≡ record { span = span; signal = v.number; bits = bits_from v base size }
slice_is s span v base size e f g h =
    let by_span : Span → Slice = λ x. record { span = x; signal = s.signal; bits = bits_from (vector_in s) (bound_integer s.base) s.size } in
    let by_vector : Vector → Slice = λ x. record { span = span; signal = x.number; bits = bits_from x (bound_integer s.base) s.size } in
    let by_base : ℤ → Slice = λ x. record { span = span; signal = v.number; bits = bits_from v x s.size } in
    let by_size : ℕ → Slice = λ x. record { span = span; signal = v.number; bits = bits_from v base x } in
    ap by_span e ∙ ap by_vector f ∙ ap by_base g ∙ ap by_size h

kept_is : (names : Names) (p : Part) (o : Option Vector) (base : Vector → ℤ) (size : Vector → ℕ) (kept : Option Kept) → IsPartOf p.name.span o base size kept → ((v : Vector) → o ≡ Some v → base v ≡ select_base names nothing v p.select) → ((v : Vector) → o ≡ Some v → size v ≡ select_width names v p.select) → kept_slices kept ≡ vector_slices names p o
kept_is names p None base size None h b w = refl
kept_is names p None base size (Some s) h b w = absurd h
kept_is names p (Some v) base size None h b w = absurd h
kept_is names p (Some v) base size (Some s) h b w =
    ap (λ (x : Slice). x ∷ []) (slice_is s p.name.span v (select_base names nothing v p.select) (select_width names v p.select) h.0 h.1 (h.2 ∙ b v refl) (h.3 ∙ w v refl))

slices_listed : (kept : Option Kept) → slices_of (listed kept) ≡ kept_slices kept
slices_listed None = refl
slices_listed (Some s) = refl

inside_listed : (b : Building) (xs : List Kept) (kept : Option Kept) → AllInside b xs → AllWithin b kept → AllInside b (xs ++ listed kept)
inside_listed b xs None h i = subst (AllInside b) (sym (append-nil xs)) h
inside_listed b xs (Some s) h i = inside_push b xs s h i

-- Whether something is wrong in a part.

first_is : (names : Names) (p : Part) (form : Expr) (a t r : Option Fault) → form ≡ part_form p → a ≡ least (sense names form).faults → t ≡ least (target_faults names p) → r ≡ earlier a t → r ≡ least (part_faults names p)
first_is names p form a t r same e f is = pair_first (sense names (part_form p)).faults (target_faults names p) a t r is (e ∙ ap (λ (x : Expr). least (sense names x).faults) same) f

pub nothing_wrong : (names : Names) (p : Part) (form : Expr) (a t r : Option Fault) → form ≡ part_form p → a ≡ least (sense names form).faults → t ≡ least (target_faults names p) → r ≡ earlier a t → r ≡ None → part_faults names p ≡ []
nothing_wrong names p form a t r same e f is none = least_none (part_faults names p) (sym (first_is names p form a t r same e f is) ∙ none)

none_kept : (names : Names) (p : Part) (faults : List Fault) (f : Fault) → least faults ≡ Some f → part_slices names p faults ≡ []
unfolding least
none_kept names p [] f e = absurd cc
none_kept names p (x ∷ more) f e = refl

pub form_whole : (names : Names) (p : Part) (form : Expr) → form ≡ part_form p → part_faults names p ≡ [] → IsWhole names form
form_whole names p form same free = ap (λ (x : Expr). (sense names x).faults) same ∙ left_nil (sense names (part_form p)).faults (target_faults names p) free

-- One part.

single : {A B : Type 0} (g : A → List B) (xs : List A) (x : A) → xs ≡ x ∷ [] → flat_map g xs ≡ g x
single g xs x is = ap (flat_map g) is ∙ append-nil (g x)

pub scanned_refused : (names : Names) (old new : List Kept) (left : LeftSide) (p : Part) (form : Expr) (a t r : Option Fault) (f : Fault) → IsPart left p → form ≡ same_form left → a ≡ least (sense names form).faults → t ≡ least (target_faults names p) → r ≡ earlier a t → r ≡ Some f → new ≡ old → IsScanned names old new (parts_of left) t
scanned_refused names old new left p form a t r f part same e told is some stays = record {
  first = told ∙ ap least (sym (single (target_faults names) (parts_of left) p part.0));
  slices = ap slices_of stays ∙ sym (append-nil (slices_of old)) ∙ ap (λ (l : List Slice). slices_of old ++ l) (sym (single (own_slices names) (parts_of left) p part.0 ∙ none_kept names p (part_faults names p) f (sym (first_is names p form a t r (same ∙ part.1) e told is) ∙ some)));
  inside = λ b has h. subst (AllInside b) (sym stays) h;
}

pub scanned_kept : (names : Names) (old new : List Kept) (left : LeftSide) (p : Part) (t : Option Fault) (base : Vector → ℤ) (size : Vector → ℕ) (kept : Option Kept) → IsPart left p → t ≡ least (target_faults names p) → part_faults names p ≡ []
    → IsPartOf p.name.span (part_vector names p) base size kept → ((v : Vector) → part_vector names p ≡ Some v → base v ≡ select_base names nothing v p.select) → ((v : Vector) → part_vector names p ≡ Some v → size v ≡ select_width names v p.select)
    → ((b : Building) → HasSignals names b → AllWithin b kept) → new ≡ old ++ listed kept → IsScanned names old new (parts_of left) t
scanned_kept names old new left p t base size kept part told free of b w within grown = record {
  first = told ∙ ap least (sym (single (target_faults names) (parts_of left) p part.0));
  slices = ap slices_of grown ∙ map-append slice_of old (listed kept) ∙ ap (λ (l : List Slice). slices_of old ++ l) (slices_listed kept ∙ kept_is names p (part_vector names p) base size kept of b w ∙ sym (single (own_slices names) (parts_of left) p part.0 ∙ ap (part_slices names p) free));
  inside = λ c has h. subst (AllInside c) (sym grown) (inside_listed c old kept h (within c has));
}

-- What is wrong with its name and index.

pub name_target : (names : Names) (n : Identifier) (s : Select) (t : Option Fault) → index_faults names s ≡ [] → t ≡ least (constant_target n.span (names n.name)) → t ≡ least (target_faults names (record { name = n; select = s }))
name_target names n s t none is = is ∙ ap least (sym (ap (λ (l : List Fault). constant_target n.span (names n.name) ++ l) none ∙ append-nil (constant_target n.span (names n.name))))

pub index_target : (names : Names) (n : Identifier) (s : Select) (index : Expr) (t : Option Fault) → HasIndex s index → t ≡ least (constant_target n.span (names n.name) ++ constant_faults (sense names index)) → t ≡ least (target_faults names (record { name = n; select = s }))
index_target names n Whole index t h is = absurd h
index_target names n (Range at msb lsb) index t h is = absurd h
index_target names n (Bit at i) index t h is = is ∙ ap (λ (x : Expr). least (constant_target n.span (names n.name) ++ constant_faults (sense names x))) (sym h)
index_target names n (Indexed at base count) index t h is = is ∙ ap (λ (x : Expr). least (constant_target n.span (names n.name) ++ constant_faults (sense names x))) (sym h)

-- Its expressions.

pub index_whole : (names : Names) (n : Identifier) (s : Select) (index : Expr) → HasIndex s index → IsWhole names (form_of n s) → IsWhole names index
index_whole names n Whole index h e = absurd h
index_whole names n (Range at msb lsb) index h e = absurd h
index_whole names n (Bit at i) index h e = subst (IsWhole names) h (whole_index names (form_of n (Bit at i)) n at i refl e)
index_whole names n (Indexed at base count) index h e = subst (IsWhole names) h (whole_indexed names (form_of n (Indexed at base count)) n at base count refl e).base

-- How many bits it writes.

name_free : (names : Names) (n : Identifier) (s : Select) → (sense names (form_of n s)).faults ≡ [] → name_faults n.span (names n.name) ≡ []
name_free names n Whole e = sym (ap (λ (x : Sense). x.faults) (sense_name names n)) ∙ e
name_free names n (Bit at i) e = left_nil _ _ (sym (ap (λ (x : Sense). x.faults) (sense_bit_select names n at i)) ∙ e)
name_free names n (Range at msb lsb) e = left_nil _ _ (sym (ap (λ (x : Sense). x.faults) (sense_part_select names n at msb lsb)) ∙ e)
name_free names n (Indexed at base count) e = left_nil _ _ (sym (ap (λ (x : Sense). x.faults) (sense_indexed_part_select names n at base count)) ∙ e)

only_signal : (span : Span) (decl : Option Decl) → constant_target span decl ≡ [] → name_faults span decl ≡ [] → (v : Vector) × (vector_of decl ≡ Some v)
only_signal span (Some (Signal width low is_signed number)) t n = (record { number = number; width = width; low = low }, refl)
only_signal span (Some (Constant value low is_signed)) t n = absurd cc
only_signal span None t n = absurd cc

pub names_vector : (names : Names) (p : Part) → part_faults names p ≡ [] → (v : Vector) × (part_vector names p ≡ Some v)
names_vector names p free =
    let form = left_nil (sense names (part_form p)).faults (target_faults names p) free in
    let target = left_nil (constant_target p.name.span (names p.name.name)) (index_faults names p.select) (right_nil (sense names (part_form p)).faults (target_faults names p) free) in
    only_signal p.name.span (names p.name.name) target (name_free names p.name p.select form)

vector_width : (decl : Option Decl) (v : Vector) → vector_of decl ≡ Some v → (decl_shape decl).width ≡ v.width
vector_width (Some (Signal width low is_signed number)) v e = cc
vector_width (Some (Constant value low is_signed)) v e = absurd cc
vector_width None v e = absurd cc

pub size_is : (names : Names) (n : Identifier) (s : Select) (v : Vector) → vector_of (names n.name) ≡ Some v → (sense names (form_of n s)).shape.width ≡ select_width names v s
size_is names n Whole v e = ap (λ (x : Sense). x.shape.width) (sense_name names n) ∙ vector_width (names n.name) v e
size_is names n (Bit at i) v e = ap (λ (x : Sense). x.shape.width) (sense_bit_select names n at i)
size_is names n (Range at msb lsb) v e = ap (λ (x : Sense). x.shape.width) (sense_part_select names n at msb lsb)
size_is names n (Indexed at base count) v e = ap (λ (x : Sense). x.shape.width) (sense_indexed_part_select names n at base count)
