-- What a part of a left side writes.
use Rattle.tb_writers.proofs.Common.{◌≡◌, ℕ, Bool, true, false, ◌&&◌, nat_eq, List, [], ◌∷◌, refl, sym, ap, ◌∙◌, subst, arith, fun_ext, nat_tests, Option, Some, None, option_to_list, LeftSide, Decl}
use Rattle.tb_writers.proofs.Common.{Names, Bits, no_bits, either, sense, is_empty, Whole, Part, Vector, vector_of, part_vector, parts_of, places, has_bit, IsPart, fit_part, BenchFault, IsFirst}
use Rattle.tb_writers.proofs.Common.{is_placed, is_told, whole_name, untold_bits, bits_written, part_writes, some_below, meet_at, Writer, Net, Process, Written, taken, with_bits, with_part}
use Rattle.tb_writers.proofs.Common.{fault_where, part_faults, mask_bits, and-right}
use Rattle.mcy_base.specs.declared.span.Span.{Span}
use Rattle.vlog_syntax.specs.declared.expr.Expr.{Expr}
use Rattle.vlog_syntax.specs.declared.identifier.Identifier.{Identifier}
use Rattle.vlog_syntax.specs.declared.left_side.LeftSide.TheVariants as lv
use Rattle.vlog_meaning.specs.declared.fault.Fault.{Fault}
use Rattle.vlog_meaning.specs.Answers.{least}
use Rattle.vlog_meaning.specs.declared.scope.Decl.TheVariants.{Signal}
use Rattle.vlog_meaning.proofs.Firsts.{least_none}
use Rattle.vlog_meaning.proofs.Refusals.{least_empty}
use Rattle.vlog_effects.specs.Latches.{is_fixed, stands_in, part_covers, parts_cover}
use Rattle.vlog_effects.proofs.Folds.{parts-name}
use Rattle.elab_proc.specs.Refusals.{AreSized, same_form}
use Rattle.signal_masks.specs.Parts.{AreFit}
use Rattle.tb_faults.proofs.Firsts.{first_alone}
use Rattle.signal_masks.proofs.Placing.{or_end}
use Rattle.std.proofs.lemmas.Bool.{and_right}

pub add_none : (b : Bits) → either b no_bits ≡ b
add_none b = fun_ext (λ n. fun_ext (λ i. or_end (b n i)))

one_covers : (names : Names) (p : Part) → parts_cover names (p ∷ []) ≡ part_covers names p (part_vector names p)
one_covers names p = add_none (part_covers names p (part_vector names p))

no_faults : (fs : List Fault) → is_empty fs ≡ true → fs ≡ []
no_faults [] e = refl
no_faults (f ∷ more) e = absurd cc

-- Tests that look for a first fault.

pub without_fault : (fs : List Fault) (o : Option Fault) → o ≡ least fs → o ≡ None → true ≡ is_empty fs
without_fault fs o is none = ap is_empty (sym (least_none fs (sym is ∙ none)))

pub with_fault : (fs : List Fault) (o : Option Fault) (f : Fault) → o ≡ least fs → o ≡ Some f → false ≡ is_empty fs
with_fault [] o f is some = let none : None ≡ Some f = least_empty ∙ sym is ∙ some in absurd cc
with_fault (x ∷ more) o f is some = refl

-- a part that can be told has a shape
pub told_fits : (names : Names) (left : LeftSide) (n : Identifier) (p : Part) (b : Bool) → AreSized names → IsPart left n p → (b && is_empty (sense names (same_form left)).faults) ≡ true → AreFit names (parts_of left)
told_fits names left n p b sized is e = fit_part names left n p sized is (no_faults (sense names (same_form left)).faults (and-right b _ e))

tells : (names : Names) (left : LeftSide) (n : Identifier) (p : Part) (b : Bool) → IsPart left n p → b ≡ is_placed names p.select → (b && is_empty (sense names (same_form left)).faults) ≡ is_told names p
tells names left n p b is e = ap (λ (c : Bool). c && is_empty (sense names (same_form left)).faults) e ∙ ap (λ (x : Expr). is_placed names p.select && is_empty (sense names x).faults) is.form

-- it writes what it covers
pub writes_itself : (names : Names) (kind : Writer) (left : LeftSide) (n : Identifier) (p : Part) (b : Bool) (bits : Bits) → IsPart left n p → b ≡ is_placed names p.select → (b && is_empty (sense names (same_form left)).faults) ≡ true → bits ≡ parts_cover names (parts_of left) → bits ≡ part_writes names kind p
writes_itself names kind left n p b bits is e told covers =
    covers ∙ ap (parts_cover names) is.parts ∙ one_covers names p ∙ ap (λ (t : Bool). bits_written names kind p t (part_vector names p)) (sym told ∙ tells names left n p b is e)

-- another one of a process its whole name
pub name_written : (names : Names) (n : Identifier) (p : Part) (bits : Bits) → p.name ≡ n → bits ≡ parts_cover names (parts_of (lv.Name n)) → bits ≡ untold_bits names Process p (part_vector names p)
name_written names n p bits is covers =
    let whole : Identifier → Part = λ k. record { name = k; select = Whole } in
    covers ∙ ap (parts_cover names) (parts-name n) ∙ ap (λ (k : Identifier). parts_cover names (whole k ∷ [])) (sym is) ∙ one_covers names (whole_name p)

pub writes_other : (names : Names) (kind : Writer) (left : LeftSide) (n : Identifier) (p : Part) (b : Bool) (bits : Bits) → IsPart left n p → b ≡ is_placed names p.select → (b && is_empty (sense names (same_form left)).faults) ≡ false → ((q : Part) → q.name ≡ n → bits ≡ untold_bits names kind q (part_vector names q)) → bits ≡ part_writes names kind p
writes_other names kind left n p b bits is e told other = other p is.name_is ∙ ap (λ (t : Bool). bits_written names kind p t (part_vector names p)) (sym told ∙ tells names left n p b is e)

-- Bits of one signal.

same_number : (k : ℕ) → nat_eq k k ≡ true
same_number k = grind (arith, nat_tests)

own_bits : (names : Names) (q : Part) (v : Vector) (bits n i : ℕ) → has_bit bits i ≡ part_covers names q (Some v) v.number i → mask_bits v.number bits n i ≡ part_covers names q (Some v) n i
own_bits names q v bits n i e =
    let x : Bool = is_fixed names q.select && stands_in (places names (λ m. 0) v q.select) i in
    let here : has_bit bits i ≡ x = e ∙ ap (λ (b : Bool). b && x) (same_number v.number) in
    ap (λ (b : Bool). nat_eq n v.number && b) here

told_bits : (names : Names) (kind : Writer) (p : Part) (v : Vector) (told : Bool) (bits n i : ℕ) → has_bit bits i ≡ bits_written names kind p told (Some v) v.number i → mask_bits v.number bits n i ≡ bits_written names kind p told (Some v) n i
told_bits names kind p v true bits n i e = own_bits names p v bits n i e
told_bits names Process p v false bits n i e = own_bits names (whole_name p) v bits n i e
told_bits names Net p v false bits n i e = and_right (nat_eq n v.number) (has_bit bits i) e

-- the mask that a part has among masks
pub mask_writes : (names : Names) (kind : Writer) (p : Part) (v : Vector) (bits : ℕ) (masks : Bits) → part_vector names p ≡ Some v → ((i : ℕ) → has_bit bits i ≡ masks v.number i) → masks ≡ part_writes names kind p → mask_bits v.number bits ≡ part_writes names kind p
mask_writes names kind p v bits masks is has same =
    let of_vector : Option Vector → Bits = bits_written names kind p (is_told names p) in
    let each : (i : ℕ) → has_bit bits i ≡ of_vector (Some v) v.number i = λ i. has i ∙ ap (λ (b : Bits). b v.number i) same ∙ ap (λ (o : Option Vector). of_vector o v.number i) is in
    fun_ext (λ n. fun_ext (λ i. told_bits names kind p v (is_told names p) bits n i (each i))) ∙ sym (ap of_vector is)

-- What is refused.

first_where : (b : Bool) (at : Span) → IsFirst (option_to_list (fault_where b at)) (fault_where b at)
first_where false at = refl
first_where true at = first_alone _

-- a part of a name that is declared as a signal

part_is : (names : Names) (left : LeftSide) (n : Identifier) (p : Part) (s : List ℕ) (o : Option Decl) (width low number : ℕ) (is_signed : Bool) → IsPart left n p → s ≡ n.name → o ≡ names s → o ≡ Some (Signal width low is_signed number) → part_vector names p ≡ Some (record { number = number; width = width; low = low })
part_is names left n p s o width low number is_signed is same decl some =
    ap vector_of (ap (λ (k : Identifier). names k.name) is.name_is ∙ ap names (sym same) ∙ sym decl ∙ some)

pub part_written : (names : Names) (kind : Writer) (w new : Written) (left : LeftSide) (n : Identifier) (p : Part) (s : List ℕ) (o : Option Decl) (width low number : ℕ) (is_signed : Bool) (bits : ℕ) (masks : Bits)
    → IsPart left n p → s ≡ n.name → o ≡ names s → o ≡ Some (Signal width low is_signed number) → ((i : ℕ) → has_bit bits i ≡ masks number i) → masks ≡ part_writes names kind p
    → new ≡ with_bits kind w (mask_bits number bits) → new ≡ with_part names kind w p
part_written names kind w new left n p s o width low number is_signed bits masks is same decl some has writes e =
    let v : Vector = record { number = number; width = width; low = low } in
    let vec : part_vector names p ≡ Some v = part_is names left n p s o width low number is_signed is same decl some in
    e ∙ ap (with_bits kind w) (mask_writes names kind p v bits masks vec has writes)

pub part_refused : (names : Names) (kind : Writer) (w : Written) (left : LeftSide) (n : Identifier) (p : Part) (s : List ℕ) (o : Option Decl) (width low number : ℕ) (is_signed : Bool) (bits : ℕ) (masks : Bits) (f : Option BenchFault)
    → IsPart left n p → s ≡ n.name → o ≡ names s → o ≡ Some (Signal width low is_signed number) → ((i : ℕ) → has_bit bits i ≡ masks number i) → masks ≡ part_writes names kind p
    → f ≡ fault_where (some_below 128 (λ i. has_bit bits i && taken kind w number i)) n.span → IsFirst (part_faults names kind w p) f
part_refused names kind w left n p s o width low number is_signed bits masks f is same decl some has writes e =
    let v : Vector = record { number = number; width = width; low = low } in
    let vec : part_vector names p ≡ Some v = part_is names left n p s o width low number is_signed is same decl some in
    let each : (i : ℕ) → (has_bit bits i && taken kind w number i) ≡ (part_writes names kind p number i && taken kind w number i) = λ i. ap (λ (b : Bool). b && taken kind w number i) (has i ∙ ap (λ (m : Bits). m number i) writes) in
    let test : some_below 128 (λ i. has_bit bits i && taken kind w number i) ≡ meet_at (part_writes names kind p) (taken kind w) (part_vector names p) = ap (some_below 128) (fun_ext each) ∙ sym (ap (meet_at (part_writes names kind p) (taken kind w)) vec) in
    let told : f ≡ fault_where (meet_at (part_writes names kind p) (taken kind w) (part_vector names p)) p.name.span = e ∙ ap (λ (b : Bool). fault_where b n.span) test ∙ ap (λ (k : Identifier). fault_where (meet_at (part_writes names kind p) (taken kind w) (part_vector names p)) k.span) (sym is.name_is) in
    subst (IsFirst (part_faults names kind w p)) (sym told) (first_where (meet_at (part_writes names kind p) (taken kind w) (part_vector names p)) p.name.span)
