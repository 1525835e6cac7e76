-- What holds of sections none of which is bad.
use Rattle.project_limits.proofs.Common.{◌≡◌, ℕ, ◌+◌, Bool, true, false, ◌&&◌, if◌then◌else◌, List, [], Option, Some, None, bytes_eq, codes, refl, subst, ap, ◌∙◌, Repeated, OutOfRange, Title, Test}
use Rattle.project_limits.proofs.Common.{first_fault, behind_key, is_filled, key_of, gather, with_names, Around, around_in, fault_of, header_fault, is_test_too_many, lead_fault, lines_fault, missing}
use Rattle.project_limits.proofs.Common.{part_at, part_fault, part_reads, parts_fault, titled_fault, Part, has_header, lead, name_in, parts_of, plain_title, title_of, is_name}
use Rattle.project_limits.proofs.Lines.{none_first, none_later}

-- a good header has the title of its first word, if that is not `test`
plain_of : (a b t c : Bool) (plain : Option Title) (earlier : List Part) (number : ℕ) (header : List ℕ) → t ≡ false
    → titled_fault (if a then None else (if b then (if t && c then Some Test else None) else plain)) earlier number header ≡ None
    → (if a then None else (if b then (if t && c then Some Test else None) else plain)) ≡ plain
plain_of true b t c plain earlier number header apart good = cc
plain_of false true true c plain earlier number header apart good = cc
plain_of false true false c plain earlier number header apart good = cc
plain_of false false t c plain earlier number header apart good = refl

pub header_of_word : (word : List ℕ) (earlier : List Part) (number : ℕ) (header : List ℕ) → key_of header ≡ word → bytes_eq word (codes "test") ≡ false → header_fault earlier number header ≡ None → title_of header ≡ plain_title word
unfolding header_fault title_of
header_of_word word earlier number header is apart good =
    plain_of (is_filled (key_of (behind_key (behind_key header)))) (is_filled (name_in header)) (bytes_eq (key_of header) (codes "test")) (is_name (name_in header)) (plain_title (key_of header)) earlier number header (ap (λ key. bytes_eq key (codes "test")) is ∙ apart) good
    ∙ ap plain_title is

neither : (repeated many : Bool) (number : ℕ) → (if repeated then Some (Repeated number) else (if many then Some (OutOfRange number) else None)) ≡ None → many ≡ false
neither true many number good = cc
neither false true number good = cc
neither false false number good = refl

-- behind the sections before a good one that is of a test, a test is not too many
room_of : (a b t c : Bool) (plain : Option Title) (earlier : List Part) (number : ℕ) (header : List ℕ) → t ≡ true → plain ≡ None
    → titled_fault (if a then None else (if b then (if t && c then Some Test else None) else plain)) earlier number header ≡ None
    → is_test_too_many Test earlier ≡ false
room_of true b t c plain earlier number header is none good = cc
room_of false true true true plain earlier number header is none good = neither (has_header header earlier) (is_test_too_many Test earlier) number good
room_of false true true false plain earlier number header is none good = cc
room_of false true false c plain earlier number header is none good = cc
room_of false false t c plain earlier number header is none good =
    let bad : titled_fault None earlier number header ≡ None = subst (λ (title : Option Title). titled_fault title earlier number header ≡ None) none good in cc

pub room_for_test : (earlier : List Part) (number : ℕ) (header : List ℕ) → key_of header ≡ codes "test" → header_fault earlier number header ≡ None → is_test_too_many Test earlier ≡ false
unfolding header_fault title_of
room_for_test earlier number header is good =
    room_of (is_filled (key_of (behind_key (behind_key header)))) (is_filled (name_in header)) (bytes_eq (key_of header) (codes "test")) (is_name (name_in header)) (plain_title (key_of header)) earlier number header (ap (λ key. bytes_eq key (codes "test")) is) (ap plain_title is) good

-- A good section has a good header and good lines.

pub header_good : (around : Around) (earlier : List Part) (number : ℕ) (part : Part) → part_fault around earlier number part ≡ None → header_fault earlier part.number part.header ≡ None
unfolding part_fault part_at
header_good around earlier number part good =
    none_first (header_fault earlier part.number part.header) (lines_fault around (with_names [] (gather (part_reads around.known) earlier)) (title_of part.header) (part.number + 1) part.lines) good

pub lines_good : (around : Around) (earlier : List Part) (number : ℕ) (part : Part) → part_fault around earlier number part ≡ None → lines_fault around (with_names [] (gather (part_reads around.known) earlier)) (title_of part.header) (part.number + 1) part.lines ≡ None
unfolding part_fault part_at
lines_good around earlier number part good =
    none_later (header_fault earlier part.number part.header) (lines_fault around (with_names [] (gather (part_reads around.known) earlier)) (title_of part.header) (part.number + 1) part.lines) good

-- the sections of a file without a fault
pub sections_good : (all : List (List ℕ)) → fault_of all ≡ None → first_fault (part_fault (around_in (parts_of 1 all))) [] 0 (parts_of 1 all) ≡ None
unfolding fault_of parts_fault
sections_good all good =
    let parts : List Part = parts_of 1 all in
    none_first (first_fault (part_fault (around_in parts)) [] 0 parts) (missing parts) (none_later (first_fault lead_fault [] 1 (lead all)) (parts_fault parts) good)
