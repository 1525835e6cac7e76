-- What items without a fault hold, each by itself.
use Rattle.tb_apart.proofs.Common.{◌≡◌, zero, suc, ℕ, ◌<◌, ◌≤◌, List, [], ◌∷◌, take, length, get_or, sym, subst, arith, All, take_all, NetNode, TwoClocks, BenchItem, item_nodes, nodes_of, take_more}
use Rattle.std.proofs.lemmas.List.Elements.{All-append, All-push}
use Rattle.tb_items.specs.declared.item.BenchItem.TheVariants as b
use Rattle.tb_writers.specs.Writers.{writer_faults}
use Rattle.tb_refusals.specs.Refusals.{Context, written, second, some_item, is_generator, may_start, generator_faults, own_item_faults, item_faults, AreFaultless}
use Rattle.tb_apart.specs.Laws.{IsClean, NetsAreClean, IsCleanItem, ItemsAreClean}
use Rattle.tb_apart.proofs.Apart.{left_nil, right_nil, within, get_itself}

no_items : {X : Type 0} (P : X → Type 0) → All P []
no_items P = λ k d h. absurd (omega arith)

one_item : {X : Type 0} (P : X → Type 0) (x : X) → P x → All P (x ∷ [])
one_item P x h = All-push P [] x (no_items P) h

first_of_all : {X : Type 0} (P : X → Type 0) (x : X) (xs : List X) → All P (x ∷ xs) → P x
first_of_all P x xs a = a 0 x (omega arith)

rest_of_all : {X : Type 0} (P : X → Type 0) (x : X) (xs : List X) → All P (x ∷ xs) → All P xs
rest_of_all P x xs a = λ k d h. a (suc k) d (omega arith)

module _ (c : Context) (P : BenchItem → Type 0) (clean : (before : List BenchItem) (x : BenchItem) → item_faults c before x ≡ [] → P x) (items : List BenchItem) (none : AreFaultless c items (length items)) where
  first_items : (k : ℕ) → k ≤ length items → All P (take k items)
  first_items zero h = no_items P
  first_items (suc k) h =
      let any : BenchItem = b.Holds (record { file = 0; line = 0; col = 0 }) in
      let x : BenchItem = get_or items k any in
      let inside : k < length items = omega arith in
      subst (All P) (sym (take_more items k x (get_itself items k any inside) inside)) (All-push P (take k items) x (first_items k (omega arith)) (clean (take k items) x (none k x inside (within items k any inside))))

  all_items : All P items
  all_items = subst (All P) (take_all (length items) items (omega arith)) (first_items (length items) (omega arith))

own_nil : (c : Context) (before : List BenchItem) (x : BenchItem) → item_faults c before x ≡ [] → own_item_faults c before x ≡ []
own_nil c before x e = left_nil (own_item_faults c before x) (writer_faults c.names (written c before) x) e

clean_nodes : (c : Context) (before : List BenchItem) (x : BenchItem) → item_faults c before x ≡ [] → All (IsClean c.names) (item_nodes x)
clean_nodes c before (b.Refused f) e = no_items (IsClean c.names)
clean_nodes c before (b.Starts k x) e = no_items (IsClean c.names)
clean_nodes c before (b.Drives n x) e = one_item (IsClean c.names) _ (own_nil c before (b.Drives n x) e)
clean_nodes c before (b.Assigns a) e = one_item (IsClean c.names) _ (own_nil c before (b.Assigns a) e)
clean_nodes c before (b.Clocks at g) e = no_items (IsClean c.names)
clean_nodes c before (b.Runs p) e = no_items (IsClean c.names)
clean_nodes c before (b.Holds at) e = one_item (IsClean c.names) _ tt
clean_nodes c before (b.Reads x) e = no_items (IsClean c.names)
clean_nodes c before (b.Enters port x) e = one_item (IsClean c.names) _ (own_nil c before (b.Enters port x) e)
clean_nodes c before (b.Leaves port left) e = one_item (IsClean c.names) _ (own_nil c before (b.Leaves port left) e)

joined : (P : NetNode → Type 0) (items : List BenchItem) → All (λ x. All P (item_nodes x)) items → All P (nodes_of items)
joined P [] a = no_items P
joined P (x ∷ xs) a = All-append P (item_nodes x) (nodes_of xs) (first_of_all (λ y. All P (item_nodes y)) x xs a) (joined P xs (rest_of_all (λ y. All P (item_nodes y)) x xs a))

pub nets_clean : NetsAreClean
nets_clean c items none = joined (IsClean c.names) items (all_items c (λ x. All (IsClean c.names) (item_nodes x)) (clean_nodes c) items none)

clean_item : (c : Context) (before : List BenchItem) (x : BenchItem) → item_faults c before x ≡ [] → IsCleanItem c x
clean_item c before (b.Refused f) e = tt
clean_item c before (b.Starts k x) e = own_nil c before (b.Starts k x) e
clean_item c before (b.Drives n x) e = tt
clean_item c before (b.Assigns a) e = tt
clean_item c before (b.Clocks at g) e = right_nil (second (some_item is_generator before) (TwoClocks at)) (generator_faults c g) (own_nil c before (b.Clocks at g) e)
clean_item c before (b.Runs p) e = (may_start c before, own_nil c before (b.Runs p) e)
clean_item c before (b.Holds at) e = tt
clean_item c before (b.Reads x) e = tt
clean_item c before (b.Enters port x) e = tt
clean_item c before (b.Leaves port left) e = tt

pub items_clean : ItemsAreClean
items_clean c items none = all_items c (IsCleanItem c) (clean_item c) items none
