-- What an item means is one, and so is the design that a flattened design is.
use Rattle.elab_once.proofs.Common.{◌≡◌, List, [], ◌∷◌, ◌++◌, Option, Some, sym, ap, ◌∙◌, option_to_list, LeftSide, left_once, Meaning, assignment, Widths, Place, FlatItem, names_at, HasOneMeaning}
use Rattle.vlog_syntax.specs.declared.expr.Expr.TheVariants as e
use Rattle.flat_instances.specs.declared.item.FlatItem.TheVariants as f
use Rattle.elab_items.specs.Designs.{design_of, widths_of}
use Rattle.elab_items.specs.Meanings.{AllMean, Means}

pub means_once : (width : Widths) (places : List Place) (item : FlatItem) (m n : Option Meaning) → Means width places item m → Means width places item n → m ≡ n
means_once width places (f.Declares k) m n d o = d ∙ sym o
means_once width places (f.Assigns k left right) m n d o = d ∙ sym o
means_once width places (f.Drives k net value) m n d o = d ∙ sym o
means_once width places (f.Enters port k value) m n d o = d ∙ sym o
means_once width places (f.Open port) m n d o = d ∙ sym o
means_once width places (f.Leaves k value inside port) m n (left, is, d) (other, also, o) =
    let same : left ≡ other = left_once left other (is ∙ sym also) in
    d ∙ ap (λ (x : LeftSide). Some (assignment (names_at places k) x (names_at places inside) (e.Name port))) same ∙ sym o
means_once width places (f.Runs k p) m n d o = d ∙ sym o
means_once width places (f.Starts number k value) m n d o = d ∙ sym o
means_once width places (f.Refuses error) m n d o = d ∙ sym o

all_mean_once : (width : Widths) (places : List Place) (items : List FlatItem) (ms ns : List Meaning) → AllMean width places items ms → AllMean width places items ns → ms ≡ ns
all_mean_once width places [] ms ns d o = d ∙ sym o
all_mean_once width places (item ∷ more) ms ns (first, rest, a, b, d) (other, others, x, y, o) =
    let here : first ≡ other = means_once width places item first other a x in
    let later : rest ≡ others = all_mean_once width places more rest others b y in
    d ∙ ap (λ (m : Option Meaning). option_to_list m ++ rest) here ∙ ap (λ (l : List Meaning). option_to_list other ++ l) later ∙ sym o

pub has_one_meaning : HasOneMeaning
has_one_meaning ports clock flat design other (ms, all, is) (ns, also, o) =
    let same : ms ≡ ns = all_mean_once (widths_of flat.signals) flat.places flat.items ms ns all also in
    is ∙ ap (design_of ports clock flat) same ∙ sym o
