-- Names of blocks, from what the code has in hand.
use Rattle.flat_items.proofs.Common.{◌≡◌, ℕ, List, ◌++◌, codes, decimal, Option, None, Some, IsSome, sym, ap, ◌∙◌, subst, rules, Identifier, Item, What, Own, label_of, IsFree, free, taken}
use Rattle.flat_items.proofs.Common.{IsBlockName, labelled, unlabelled}

some_is : (x : What) → IsSome (Some x)
some_is x = search rules

module _ (own : Own) (number : ℕ) (prefix text str : List ℕ) (w : Option What) where
  pub name_found : (name : List ℕ) → w ≡ own str → w ≡ None → str ≡ text → text ≡ prefix ++ decimal number → name ≡ text → ((n : List ℕ) → IsFree own number prefix n → IsFree own number (codes "genblk") n) → IsFree own number (codes "genblk") name
  name_found name g n s e f goes =
      let same : name ≡ prefix ++ decimal number = f ∙ e in
      let none : own (prefix ++ decimal number) ≡ None = ap own (sym e) ∙ ap own (sym s) ∙ sym g ∙ n in
      subst (λ (x : List ℕ). IsFree own number (codes "genblk") x) (sym same) (goes (prefix ++ decimal number) (free prefix none))

  pub name_taken : (longer : List ℕ) (x : What) → w ≡ own str → w ≡ Some x → str ≡ text → text ≡ prefix ++ decimal number → longer ≡ prefix ++ codes "0" → ((n : List ℕ) → IsFree own number prefix n → IsFree own number (codes "genblk") n) → (n : List ℕ) → IsFree own number longer n → IsFree own number (codes "genblk") n
  name_taken longer x g k s e l goes n h =
      let some : own (prefix ++ decimal number) ≡ Some x = ap own (sym e) ∙ ap own (sym s) ∙ sym g ∙ k in
      goes n (taken prefix n (subst (λ (o : Option What). IsSome o) (sym some) (some_is x)) (subst (λ (y : List ℕ). IsFree own number y n) l h))

module _ (own : Own) (number : ℕ) (item : Item) (o : Option Identifier) (name : List ℕ) (is : o ≡ label_of item) where
  pub named_by : (label : Identifier) → o ≡ Some label → name ≡ label.name → IsBlockName own number (label_of item) name
  named_by label s e = subst (λ (x : Option Identifier). IsBlockName own number x name) (sym s ∙ is) (subst (λ (x : List ℕ). IsBlockName own number (Some label) x) (sym e) (labelled label))

  pub unnamed_by : o ≡ None → IsFree own number (codes "genblk") name → IsBlockName own number (label_of item) name
  unnamed_by s h = subst (λ (x : Option Identifier). IsBlockName own number x name) (sym s ∙ is) (unlabelled name h)
