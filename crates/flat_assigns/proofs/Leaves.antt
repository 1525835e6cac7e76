-- Left sides that are one part, by their variants.
use Rattle.flat_assigns.proofs.Common.{◌≡◌, pos, List, [], ◌++◌, Option, Some, None, refl, sym, ap, ◌∙◌, Expr, Identifier, Span, LeftSide, fold-roll-LeftSide, Fault, Shape, least, earlier}
use Rattle.flat_assigns.proofs.Common.{bound_integer, Names, nothing, sense, constant_faults, constant_integer, IsWhole, left_nil, whole_part, Part, Select, Whole, Range, Indexed, Vector, part_vector}
use Rattle.flat_assigns.proofs.Common.{parts_of, select_base, select_width, vector_of, Building, HasSignals, form_step, same_form, Kept, AllWithin, HasIndex, IsIndexed, IsName, IsPart, IsPartOf}
use Rattle.flat_assigns.proofs.Common.{IsRange, IsScanned, listed, constant_target, form_of, part_faults, part_form, target_faults}
use Rattle.vlog_syntax.specs.declared.left_side.LeftSide.TheVariants as lv
use Rattle.vlog_syntax.specs.declared.left_side.LeftSide.TheOpen as l
use Rattle.vlog_effects.proofs.Folds.{parts-bit, parts-indexed}
use Rattle.vlog_meaning.specs.declared.bound.Bound.{Bound}
use Rattle.vlog_effects.specs.LeftSides.{Bit}
use Rattle.flat_assigns.proofs.Kept.{form_whole, index_target, index_whole, name_target, nothing_wrong, scanned_kept, scanned_refused, size_is}

-- By variants.

form-bit : (n : Identifier) (at : Span) (i : Expr) → same_form (lv.BitSelect n at i) ≡ form_of n (Bit at i)
form-bit n at i = ap same_form (sym (lv.rolls-BitSelect n at i)) ∙ fold-roll-LeftSide Expr form_step (l.BitSelect n at i)

form-indexed : (n : Identifier) (at : Span) (base count : Expr) → same_form (lv.IndexedPartSelect n at base count) ≡ form_of n (Indexed at base count)
form-indexed n at base count = ap same_form (sym (lv.rolls-IndexedPartSelect n at base count)) ∙ fold-roll-LeftSide Expr form_step (l.IndexedPartSelect n at base count)

pub is_bit : (left : LeftSide) (n : Identifier) (at : Span) (i index : Expr) → left ≡ lv.BitSelect n at i → index ≡ i → IsIndexed left n index
is_bit left n at i index is same = (Bit at i, sym same, (ap parts_of is ∙ parts-bit n at i, ap same_form is ∙ form-bit n at i))

pub is_indexed : (left : LeftSide) (n : Identifier) (at : Span) (base count index : Expr) → left ≡ lv.IndexedPartSelect n at base count → index ≡ base → IsIndexed left n index
is_indexed left n at base count index is same = (Indexed at base count, sym same, (ap parts_of is ∙ parts-indexed n at base count, ap same_form is ∙ form-indexed n at base count))

-- how many bits, where the form has them
form_size : (names : Names) (p : Part) (form : Expr) (s : Shape) → form ≡ part_form p → s ≡ (sense names form).shape → (v : Vector) → part_vector names p ≡ Some v → s.width ≡ select_width names v p.select
form_size names p form s same is v e = ap (λ (x : Shape). x.width) is ∙ ap (λ (x : Expr). (sense names x).shape.width) same ∙ size_is names p.name p.select v e

-- `name`

pub name_refused : (names : Names) (old new : List Kept) (left : LeftSide) (n : Identifier) (form : Expr) (a t r : Option Fault) (f : Fault) → IsName left n → form ≡ same_form left → a ≡ least (sense names form).faults → t ≡ least (constant_target n.span (names n.name)) → r ≡ earlier a t → r ≡ Some f → new ≡ old
    → IsScanned names old new (parts_of left) t
name_refused names old new left n form a t r f part same e told is some stays = scanned_refused names old new left (record { name = n; select = Whole }) form a t r f part same e (name_target names n Whole t refl told) is some stays

pub name_kept : (names : Names) (old new : List Kept) (left : LeftSide) (n : Identifier) (form : Expr) (a t r : Option Fault) (kept : Option Kept) → IsName left n → form ≡ same_form left → a ≡ least (sense names form).faults → t ≡ least (constant_target n.span (names n.name)) → r ≡ earlier a t → r ≡ None
    → IsPartOf n.span (vector_of (names n.name)) (λ v. pos v.low) (λ v. v.width) kept → ((b : Building) → HasSignals names b → AllWithin b kept) → new ≡ old ++ listed kept → IsScanned names old new (parts_of left) t
name_kept names old new left n form a t r kept part same e told is none of within grown =
    let p : Part = record { name = n; select = Whole } in
    let target = name_target names n Whole t refl told in
    let free = nothing_wrong names p form a t r (same ∙ part.1) e target is none in
    scanned_kept names old new left p t (λ v. pos v.low) (λ v. v.width) kept part target free of (λ v h. refl) (λ v h. refl) within grown

-- `name[index]` and `name[index +: count]`

indexed_free : (names : Names) (left : LeftSide) (n : Identifier) (s : Select) (index form : Expr) (a t r : Option Fault) → HasIndex s index → IsPart left (record { name = n; select = s }) → form ≡ same_form left → a ≡ least (sense names form).faults → t ≡ least (constant_target n.span (names n.name) ++ constant_faults (sense names index)) → r ≡ earlier a t → r ≡ None
    → part_faults names (record { name = n; select = s }) ≡ []
indexed_free names left n s index form a t r h part same e told is none = nothing_wrong names (record { name = n; select = s }) form a t r (same ∙ part.1) e (index_target names n s index t h told) is none

pub indexed_refused : (names : Names) (old new : List Kept) (left : LeftSide) (n : Identifier) (index form : Expr) (a t r : Option Fault) (f : Fault) → IsIndexed left n index → form ≡ same_form left → a ≡ least (sense names form).faults → t ≡ least (constant_target n.span (names n.name) ++ constant_faults (sense names index)) → r ≡ earlier a t → r ≡ Some f → new ≡ old
    → IsScanned names old new (parts_of left) t
indexed_refused names old new left n index form a t r f (s, h, part) same e told is some stays = scanned_refused names old new left (record { name = n; select = s }) form a t r f part same e (index_target names n s index t h told) is some stays

pub indexed_form : (names : Names) (left : LeftSide) (n : Identifier) (index form : Expr) (a t r : Option Fault) → IsIndexed left n index → form ≡ same_form left → a ≡ least (sense names form).faults → t ≡ least (constant_target n.span (names n.name) ++ constant_faults (sense names index)) → r ≡ earlier a t → r ≡ None → IsWhole names form
indexed_form names left n index form a t r (s, h, part) same e told is none = form_whole names (record { name = n; select = s }) form (same ∙ part.1) (indexed_free names left n s index form a t r h part same e told is none)

pub indexed_index : (names : Names) (left : LeftSide) (n : Identifier) (index form : Expr) (a t r : Option Fault) → IsIndexed left n index → form ≡ same_form left → a ≡ least (sense names form).faults → t ≡ least (constant_target n.span (names n.name) ++ constant_faults (sense names index)) → r ≡ earlier a t → r ≡ None → IsWhole names index
indexed_index names left n index form a t r (s, h, part) same e told is none =
    index_whole names n s index h (left_nil (sense names (form_of n s)).faults (target_faults names (record { name = n; select = s })) (indexed_free names left n s index form a t r h part same e told is none))

index_base : (names : Names) (s : Select) (index : Expr) (v : Vector) → HasIndex s index → constant_integer (sense names index) ≡ select_base names nothing v s
index_base names Whole index v h = absurd h
index_base names (Range at msb lsb) index v h = absurd h
index_base names (Bit at i) index v h = ap (λ (x : Expr). constant_integer (sense names x)) (sym h)
index_base names (Indexed at base count) index v h = ap (λ (x : Expr). constant_integer (sense names x)) (sym h)

pub indexed_kept : (names : Names) (old new : List Kept) (left : LeftSide) (n : Identifier) (index form : Expr) (a t r : Option Fault) (base : Bound) (size : Shape) (kept : Option Kept) → IsIndexed left n index → form ≡ same_form left → a ≡ least (sense names form).faults → t ≡ least (constant_target n.span (names n.name) ++ constant_faults (sense names index)) → r ≡ earlier a t → r ≡ None
    → bound_integer base ≡ constant_integer (sense names index) → size ≡ (sense names form).shape → IsPartOf n.span (vector_of (names n.name)) (λ v. bound_integer base) (λ v. size.width) kept → ((b : Building) → HasSignals names b → AllWithin b kept) → new ≡ old ++ listed kept → IsScanned names old new (parts_of left) t
indexed_kept names old new left n index form a t r base size kept (s, h, part) same e told is none at wide of within grown =
    let p : Part = record { name = n; select = s } in
    scanned_kept names old new left p t (λ v. bound_integer base) (λ v. size.width) kept part (index_target names n s index t h told) (indexed_free names left n s index form a t r h part same e told is none) of (λ v o. at ∙ index_base names s index v h) (form_size names p form size (same ∙ part.1) wide) within grown

-- `name[msb:lsb]`

pub range_refused : (names : Names) (old new : List Kept) (left : LeftSide) (n : Identifier) (lsb form : Expr) (a t r : Option Fault) (f : Fault) → IsRange left n lsb → form ≡ same_form left → a ≡ least (sense names form).faults → t ≡ least (constant_target n.span (names n.name)) → r ≡ earlier a t → r ≡ Some f → new ≡ old
    → IsScanned names old new (parts_of left) t
range_refused names old new left n lsb form a t r f (at, msb, part) same e told is some stays = scanned_refused names old new left (record { name = n; select = Range at msb lsb }) form a t r f part same e (name_target names n (Range at msb lsb) t refl told) is some stays

pub range_form : (names : Names) (left : LeftSide) (n : Identifier) (lsb form : Expr) (a t r : Option Fault) → IsRange left n lsb → form ≡ same_form left → a ≡ least (sense names form).faults → t ≡ least (constant_target n.span (names n.name)) → r ≡ earlier a t → r ≡ None → IsWhole names form
range_form names left n lsb form a t r (at, msb, part) same e told is none =
    let p : Part = record { name = n; select = Range at msb lsb } in
    form_whole names p form (same ∙ part.1) (nothing_wrong names p form a t r (same ∙ part.1) e (name_target names n (Range at msb lsb) t refl told) is none)

pub range_bound : (names : Names) (left : LeftSide) (n : Identifier) (lsb form : Expr) (a t r : Option Fault) → IsRange left n lsb → form ≡ same_form left → a ≡ least (sense names form).faults → t ≡ least (constant_target n.span (names n.name)) → r ≡ earlier a t → r ≡ None → IsWhole names lsb
range_bound names left n lsb form a t r (at, msb, part) same e told is none =
    (whole_part names form n at msb lsb (same ∙ part.1) (range_form names left n lsb form a t r (at, msb, part) same e told is none)).lsb

pub range_kept : (names : Names) (old new : List Kept) (left : LeftSide) (n : Identifier) (lsb form : Expr) (a t r : Option Fault) (base : Bound) (size : Shape) (kept : Option Kept) → IsRange left n lsb → form ≡ same_form left → a ≡ least (sense names form).faults → t ≡ least (constant_target n.span (names n.name)) → r ≡ earlier a t → r ≡ None
    → bound_integer base ≡ constant_integer (sense names lsb) → size ≡ (sense names form).shape → IsPartOf n.span (vector_of (names n.name)) (λ v. bound_integer base) (λ v. size.width) kept → ((b : Building) → HasSignals names b → AllWithin b kept) → new ≡ old ++ listed kept → IsScanned names old new (parts_of left) t
range_kept names old new left n lsb form a t r base size kept (at, msb, part) same e told is none low wide of within grown =
    let p : Part = record { name = n; select = Range at msb lsb } in
    let target = name_target names n (Range at msb lsb) t refl told in
    let free = nothing_wrong names p form a t r (same ∙ part.1) e target is none in
    scanned_kept names old new left p t (λ v. bound_integer base) (λ v. size.width) kept part target free of (λ v o. low) (form_size names p form size (same ∙ part.1) wide) within grown
