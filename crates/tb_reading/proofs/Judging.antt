-- Items with something among them, and ports whose bits are so many.
use Rattle.tb_reading.proofs.Common.{Some, refl, ◌≡◌, ℕ, ◌+◌, ◌<◌, ◌≤◌, Bool, true, false, ◌||◌, List, [], ◌∷◌, length, drop, get_or, sym, ap, ◌∙◌, All, drop_more, drop_all, All-nil, All-cons, Port}
use Rattle.tb_reading.proofs.Common.{bits_at, Span, Generator, BenchItem, first_generator, some_item}
use Rattle.netlist_core.specs.Checked.{AllWide}
use Rattle.tb_items.specs.declared.item.BenchItem.TheVariants as b

opened_up : (p : BenchItem → Bool) (items : List BenchItem) (i : ℕ) (item : BenchItem) → i < length items → item ≡ get_or items i item → some_item p (drop i items) ≡ (p item || some_item p (drop (i + 1) items))
opened_up p items i item h is = ap (some_item p) (drop_more items i item h ∙ ap (λ x. x ∷ drop (i + 1) items) (sym is))

pub some_here : (p : BenchItem → Bool) (items : List BenchItem) (i : ℕ) (item : BenchItem) → i < length items → item ≡ get_or items i item → some_item p (drop i items) ≡ some_item p items → p item ≡ true → true ≡ some_item p items
some_here p items i item h is so_far found = sym (ap (λ (b : Bool). b || some_item p (drop (i + 1) items)) found) ∙ sym (opened_up p items i item h is) ∙ so_far

pub some_later : (p : BenchItem → Bool) (items : List BenchItem) (i : ℕ) (item : BenchItem) → i < length items → item ≡ get_or items i item → some_item p (drop i items) ≡ some_item p items → p item ≡ false → some_item p (drop (i + 1) items) ≡ some_item p items
some_later p items i item h is so_far found = sym (ap (λ (b : Bool). b || some_item p (drop (i + 1) items)) found) ∙ sym (opened_up p items i item h is) ∙ so_far

pub some_nowhere : (p : BenchItem → Bool) (items : List BenchItem) (i : ℕ) → length items ≤ i → some_item p (drop i items) ≡ some_item p items → false ≡ some_item p items
some_nowhere p items i h so_far = sym (ap (some_item p) (drop_all i items h)) ∙ so_far

pub wide_ports : (ports : List Port) → AllWide (bits_at ports) → All (λ p. (1 ≤ length p.bits) × (length p.bits ≤ 128)) ports
wide_ports [] h = All-nil (λ p. (1 ≤ length p.bits) × (length p.bits ≤ 128))
wide_ports (p ∷ more) h = All-cons (λ q. (1 ≤ length q.bits) × (length q.bits ≤ 128)) p more (h.0, h.1) (wide_ports more h.2)

-- The first generator.

generator_front : (item : BenchItem) (more : List BenchItem) → ((at : Span) (g : Generator) → item ≡ b.Clocks at g → ⊥) → first_generator (item ∷ more) ≡ first_generator more
generator_front (b.Refused fault) more h = refl
generator_front (b.Starts k x) more h = refl
generator_front (b.Drives name x) more h = refl
generator_front (b.Assigns a) more h = refl
generator_front (b.Clocks at g) more h = absurd (h at g refl)
generator_front (b.Runs p) more h = refl
generator_front (b.Holds at) more h = refl
generator_front (b.Reads x) more h = refl
generator_front (b.Enters port x) more h = refl
generator_front (b.Leaves port left) more h = refl

items_from : (items : List BenchItem) (i : ℕ) (item : BenchItem) → i < length items → item ≡ get_or items i item → drop i items ≡ item ∷ drop (i + 1) items
items_from items i item h is = drop_more items i item h ∙ ap (λ x. x ∷ drop (i + 1) items) (sym is)

pub generator_later : (items : List BenchItem) (i : ℕ) (item : BenchItem) → i < length items → item ≡ get_or items i item → first_generator (drop i items) ≡ first_generator items → ((at : Span) (g : Generator) → item ≡ b.Clocks at g → ⊥) → first_generator (drop (i + 1) items) ≡ first_generator items
generator_later items i item h is so_far other = sym (ap first_generator (items_from items i item h is) ∙ generator_front item (drop (i + 1) items) other) ∙ so_far

pub generator_here : (items : List BenchItem) (i : ℕ) (item : BenchItem) (at : Span) (g : Generator) → i < length items → item ≡ get_or items i item → first_generator (drop i items) ≡ first_generator items → item ≡ b.Clocks at g → Some g ≡ first_generator items
generator_here items i item at g h is so_far found = sym (ap first_generator (items_from items i item h is ∙ ap (λ x. x ∷ drop (i + 1) items) found)) ∙ so_far
