-- What a net writes that has no fault was not written before, and is written then.
use Rattle.tb_apart.proofs.Common.{◌≡◌, ◌⊎◌, inl, inr, ℕ, Bool, true, false, ◌||◌, List, [], ◌∷◌, ◌++◌, refl, sym, ap, ◌∙◌, subst, Some, option_to_list, LeftSide, Assignment, Names, part_covers}
use Rattle.tb_apart.proofs.Common.{parts_cover, Part, part_vector, parts_of, AreSized, part_opens, parts_open, left_writes, BenchFault, BenchItem, assignment_of, Net, Process, part_writes, meet_at}
use Rattle.tb_apart.proofs.Common.{or_left, or_right}
use Rattle.tb_items.specs.declared.item.BenchItem.TheVariants as b
use Rattle.tb_writers.specs.declared.writers.Writer.{Writer}
use Rattle.tb_writers.specs.Lefts.{lefts_in}
use Rattle.tb_writers.specs.Writers.{Written, taken, with_part, with_parts, with_lefts, with_item, fault_where, part_faults, parts_faults, lefts_faults, writer_of, writer_faults}
use Rattle.tb_apart.proofs.Places.{part_reaches, writes_within, meets}
use Rattle.tb_apart.proofs.Told.{AreTold}
use Rattle.std.proofs.lemmas.Option.{same_Some}

-- Lists that are empty together.

left_nil : (xs ys : List BenchFault) → xs ++ ys ≡ [] → xs ≡ []
left_nil [] ys e = refl
left_nil (x ∷ xs) ys e = absurd cc

right_nil : (xs ys : List BenchFault) → xs ++ ys ≡ [] → ys ≡ []
right_nil [] ys e = e
right_nil (x ∷ xs) ys e = absurd cc

-- The bits of the first part, or of the others.

cross : (a b c d : Bool) → ((a || b) || (c || d)) ≡ true → ((a || c) ≡ true) ⊎ ((b || d) ≡ true)
cross true b c d e = inl refl
cross false true c d e = inr refl
cross false false true d e = inl refl
cross false false false d e = inr e

first_or_more : (names : Names) (p : Part) (ps : List Part) (n i : ℕ) → left_writes names (p ∷ ps) n i ≡ true → ((part_covers names p (part_vector names p) n i || part_opens names p n i) ≡ true) ⊎ (left_writes names ps n i ≡ true)
first_or_more names p ps n i e = cross (part_covers names p (part_vector names p) n i) (parts_cover names ps n i) (part_opens names p n i) (parts_open names ps n i) e

-- What is written stays written.

part_keeps : (names : Names) (kind : Writer) (w : Written) (p : Part) (n i : ℕ) → w.nets n i ≡ true → (with_part names kind w p).nets n i ≡ true
part_keeps names Net w p n i e = or_left (w.nets n i) (part_writes names Net p n i) e
part_keeps names Process w p n i e = e

parts_keep : (names : Names) (kind : Writer) (w : Written) (ps : List Part) (n i : ℕ) → w.nets n i ≡ true → (with_parts names kind w ps).nets n i ≡ true
parts_keep names kind w [] n i e = e
parts_keep names kind w (p ∷ ps) n i e = parts_keep names kind (with_part names kind w p) ps n i (part_keeps names kind w p n i e)

lefts_keep : (names : Names) (kind : Writer) (w : Written) (xs : List LeftSide) (n i : ℕ) → w.nets n i ≡ true → (with_lefts names kind w xs).nets n i ≡ true
lefts_keep names kind w [] n i e = e
lefts_keep names kind w (x ∷ xs) n i e = lefts_keep names kind (with_parts names kind w (parts_of x)) xs n i (parts_keep names kind w (parts_of x) n i e)

pub item_keeps : (names : Names) (w : Written) (x : BenchItem) (n i : ℕ) → w.nets n i ≡ true → (with_item names w x).nets n i ≡ true
item_keeps names w x n i e = lefts_keep names (writer_of x) w (lefts_in x) n i e

-- The parts of a net's left side.

clash : (names : Names) (w : Written) (p : Part) (n i : ℕ) → AreSized names → part_faults names Net w p ≡ [] → part_writes names Net p n i ≡ true → (taken Net w) n i ≡ true → ⊥
clash names w p n i sized none e f =
    let there = writes_within names p n i sized e in
    let met : meet_at (part_writes names Net p) (taken Net w) (part_vector names p) ≡ true = meets (part_writes names Net p) (taken Net w) (part_vector names p) there.0 n i there.1.0 there.1.1 there.1.2 e f in
    refused (meet_at (part_writes names Net p) (taken Net w) (part_vector names p)) met none
  where
    refused : (t : Bool) → t ≡ true → option_to_list (fault_where t p.name.span) ≡ [] → ⊥
    refused true h k = absurd cc
    refused false h k = absurd cc

parts_clash : (names : Names) (w : Written) (ps : List Part) (n i : ℕ) → AreSized names → AreTold names ps → parts_faults names Net w ps ≡ [] → left_writes names ps n i ≡ true → w.nets n i ≡ true → ⊥
parts_clash names w [] n i sized told none e f = absurd cc
parts_clash names w (p ∷ ps) n i sized told none e f = go (first_or_more names p ps n i e) (parts_clash names (with_part names Net w p) ps n i sized told.1 (right_nil (part_faults names Net w p) (parts_faults names Net (with_part names Net w p) ps) none))
  where
    go : (((part_covers names p (part_vector names p) n i || part_opens names p n i) ≡ true) ⊎ (left_writes names ps n i ≡ true)) → (left_writes names ps n i ≡ true → (with_part names Net w p).nets n i ≡ true → ⊥) → ⊥
    go (inl here) later = clash names w p n i sized (left_nil (part_faults names Net w p) (parts_faults names Net (with_part names Net w p) ps) none) (part_reaches names p n i told.0 here) (or_left (w.nets n i) (w.variables n i) f)
    go (inr more) later = later more (part_keeps names Net w p n i f)

parts_write : (names : Names) (w : Written) (ps : List Part) (n i : ℕ) → AreTold names ps → left_writes names ps n i ≡ true → (with_parts names Net w ps).nets n i ≡ true
parts_write names w [] n i told e = absurd cc
parts_write names w (p ∷ ps) n i told e = go (first_or_more names p ps n i e) (parts_write names (with_part names Net w p) ps n i told.1)
  where
    go : (((part_covers names p (part_vector names p) n i || part_opens names p n i) ≡ true) ⊎ (left_writes names ps n i ≡ true)) → (left_writes names ps n i ≡ true → (with_parts names Net (with_part names Net w p) ps).nets n i ≡ true) → (with_parts names Net (with_part names Net w p) ps).nets n i ≡ true
    go (inl here) later = parts_keep names Net (with_part names Net w p) ps n i (or_right (w.nets n i) (part_writes names Net p n i) (part_reaches names p n i told.0 here))
    go (inr more) later = later more

-- Items that are assignments of nets.

pub record IsNet (x : BenchItem) (a : Assignment) : Type 0 where
  pub kind : writer_of x ≡ Net
  pub lefts : lefts_in x ≡ a.left ∷ []

alone : (x y : Assignment) → Some x ≡ Some y → x.left ∷ [] ≡ y.left ∷ []
alone x y e = ap (λ (z : Assignment). z.left ∷ []) (same_Some x y e)

pub net_is : (x : BenchItem) (a : Assignment) → assignment_of x ≡ Some a → IsNet x a
net_is (b.Refused fault) a e = absurd cc
net_is (b.Starts k x) a e = absurd cc
net_is (b.Drives name x) a e = record { kind = refl; lefts = alone _ a e }
net_is (b.Assigns x) a e = record { kind = refl; lefts = alone x a e }
net_is (b.Clocks at g) a e = absurd cc
net_is (b.Runs p) a e = absurd cc
net_is (b.Holds at) a e = absurd cc
net_is (b.Reads x) a e = absurd cc
net_is (b.Enters port x) a e = record { kind = refl; lefts = alone _ a e }
net_is (b.Leaves port left) a e = record { kind = refl; lefts = alone _ a e }

pub net_clash : (names : Names) (w : Written) (x : BenchItem) (a : Assignment) (n i : ℕ) → AreSized names → AreTold names (parts_of a.left) → assignment_of x ≡ Some a → writer_faults names w x ≡ [] → left_writes names (parts_of a.left) n i ≡ true → w.nets n i ≡ true → ⊥
net_clash names w x a n i sized told is none e f =
    let net : IsNet x a = net_is x a is in
    let faults : lefts_faults names Net w (a.left ∷ []) ≡ [] = sym (ap (λ (k : Writer). lefts_faults names k w (lefts_in x)) net.kind ∙ ap (lefts_faults names Net w) net.lefts) ∙ none in
    parts_clash names w (parts_of a.left) n i sized told (left_nil (parts_faults names Net w (parts_of a.left)) [] faults) e f

pub net_writes : (names : Names) (w : Written) (x : BenchItem) (a : Assignment) (n i : ℕ) → AreTold names (parts_of a.left) → assignment_of x ≡ Some a → left_writes names (parts_of a.left) n i ≡ true → (with_item names w x).nets n i ≡ true
net_writes names w x a n i told is e =
    let net : IsNet x a = net_is x a is in
    let same : with_item names w x ≡ with_parts names Net w (parts_of a.left) = ap (λ (k : Writer). with_lefts names k w (lefts_in x)) net.kind ∙ ap (with_lefts names Net w) net.lefts in
    subst (λ (v : Written). v.nets n i ≡ true) (sym same) (parts_write names w (parts_of a.left) n i told e)
