-- First parts of books, as they stand or as their upgrades do.
use Rattle.mcy_top.proofs.Common.{◌≡◌, inl, inr, arith, ℕ, suc, ◌+◌, ◌≤◌, false, true, List, [], ◌∷◌, ◌++◌, length, refl, sym, ap, subst, ◌∙◌, append_assoc, length-append, append-nil, Entry, Book}
use Rattle.mcy_top.proofs.Common.{in_second, with_bounds, IsBlank, IsFirst, IsSecond, Campaign, bounds_of, second_row, upgrade_of, Prepared, plan_once, plan_fit, GoesOn, IsPrefix, IsUpgrade, Stands}
use Rattle.campaign_run.proofs.Formats.{not_first}

pub on_itself : (book : Book) → GoesOn book book
on_itself book = record { meta = refl; mutations = refl; more = []; rows = sym (append-nil book.journal) }

-- a first part as the books stand
pub prefix_on : (book other : Book) → GoesOn book other → IsPrefix book other
prefix_on book other on = inr (record { one = book; two = other; stands = inl refl; other_stands = inl refl; goes_on = on })

pub prefix_itself : (book : Book) → IsPrefix book book
prefix_itself book = prefix_on book book (on_itself book)

on_trans : (a b c : Book) → GoesOn a b → GoesOn b c → GoesOn a c
on_trans a b c on further = record {
  meta = further.meta ∙ on.meta;
  mutations = further.mutations ∙ on.mutations;
  more = on.more ++ further.more;
  rows = further.rows ∙ ap (λ (l : List Entry). l ++ further.more) on.rows ∙ append_assoc a.journal on.more further.more;
}

-- Upgrades.

-- the rows of an upgrade
abbrev pub bounded : Campaign → List Entry → List Entry
bounded c rows = with_bounds (bounds_of c rows) rows

bounded_append : (c : Campaign) (xs ys : List Entry) → bounded c (xs ++ ys) ≡ bounded c xs ++ bounded c ys
bounded_append c [] ys = refl
bounded_append c (x ∷ xs) ys = ap (λ (l : List Entry). second_row true c x ∷ l) (bounded_append c xs ys)

pub bounded_length : (c : Campaign) (rows : List Entry) → length (bounded c rows) ≡ length rows
bounded_length c [] = refl
bounded_length c (x ∷ xs) = ap suc (bounded_length c xs)

-- an upgrade is of the second format
upgrade_second : (book next : Book) → IsUpgrade book next → IsSecond next
upgrade_second book next up = subst (λ (meta : List (List ℕ)). IsSecond (record next { meta = meta })) (sym up.meta) (plan_fit up.prepared up.plan).format

-- the book of a first format has no book of the second as its like
second_differs : (book other : Book) → other.meta ≡ book.meta → IsFirst book → IsSecond other → ⊥
second_differs book other same first second = not_first other second (subst (λ (meta : List (List ℕ)). IsFirst (record other { meta = meta })) (sym same) first)

-- there is one
upgrade_once : (book a b : Book) → IsUpgrade book a → IsUpgrade book b → a ≡ b
upgrade_once book a b x y =
    let meta : x.prepared.campaign.meta ≡ y.prepared.campaign.meta = sym x.meta ∙ ap (λ (k : Book). k.meta) x.is ∙ sym (ap (λ (k : Book). k.meta) y.is) ∙ y.meta in
    let same : x.prepared.campaign ≡ y.prepared.campaign = ap (λ (p : Prepared). p.campaign) (plan_once x.prepared y.prepared x.plan y.plan meta).0 in
    x.is ∙ ap (λ (c : Campaign). upgrade_of c book) same ∙ sym y.is

-- the upgrade goes on as the book does
upgraded_on : (c : Campaign) (a b : Book) → GoesOn a b → GoesOn (upgrade_of c a) (upgrade_of c b)
upgraded_on c a b on = record {
  meta = ap in_second on.meta;
  mutations = on.mutations;
  more = bounded c on.more;
  rows = ap (bounded c) on.rows ∙ bounded_append c a.journal on.more;
}

-- where a book has an upgrade, so has each with its meta
upgrade_like : (a x : Book) (up : IsUpgrade a x) (b : Book) → b.meta ≡ a.meta → IsUpgrade b (upgrade_of up.prepared.campaign b)
upgrade_like a x up b same = record {
  prepared = up.prepared;
  plan = up.plan;
  first = subst (λ (meta : List (List ℕ)). IsFirst (record b { meta = meta })) (sym same) up.first;
  meta = ap in_second same ∙ sym (ap (λ (k : Book). k.meta) up.is) ∙ up.meta;
  is = refl;
}

-- so the books of two first parts that meet go on from one another
up_on : (a b x : Book) → IsUpgrade a x → GoesOn a b → (y : Book) × IsUpgrade b y × GoesOn x y
up_on a b x up on =
    let y : Book = upgrade_of up.prepared.campaign b in
    (y, upgrade_like a x up b on.meta, subst (λ (k : Book). GoesOn k y) (sym up.is) (upgraded_on up.prepared.campaign a b on))

up_back : (a b y : Book) → IsUpgrade b y → GoesOn a b → (x : Book) × IsUpgrade a x × GoesOn x y
up_back a b y up on =
    let x : Book = upgrade_of up.prepared.campaign a in
    (x, upgrade_like b y up a (sym on.meta), subst (λ (k : Book). GoesOn x k) (sym up.is) (upgraded_on up.prepared.campaign a b on))

-- First parts of first parts.

joined : (a c h g k : Book) → Stands a h → Stands c k → GoesOn h g → GoesOn g k → IsPrefix a c
joined a c h g k from to on further = inr (record { one = h; two = k; stands = from; other_stands = to; goes_on = on_trans h g k on further })

-- the first goes on to the book as it stands, and further from its upgrade
from_upgrade : (a b c h g k : Book) → Stands a h → Stands c k → GoesOn h b → IsUpgrade b g → GoesOn g k → IsPrefix a c
from_upgrade a b c h g k (inl is) to on up further =
    let back = up_back a b g up (subst (λ (x : Book). GoesOn x b) is on) in
    joined a c back.0 g k (inr back.1) to back.2 further
from_upgrade a b c h g k (inr first) to on up further = absurd (second_differs b h (sym on.meta) up.first (upgrade_second a h first))

-- the first goes on to the upgrade, and the book further as it stands
to_upgrade : (a b c h g k : Book) → Stands a h → Stands c k → GoesOn h g → IsUpgrade b g → GoesOn b k → IsPrefix a c
to_upgrade a b c h g k from (inl is) on up further =
    let there = up_on b c g up (subst (λ (x : Book). GoesOn b x) is further) in
    joined a c h g there.0 from (inr there.1) on there.2
to_upgrade a b c h g k from (inr last) on up further = absurd (second_differs b k further.meta up.first (upgrade_second c k last))

met : (a b c h g m k : Book) → Stands a h → Stands b g → Stands b m → Stands c k → GoesOn h g → GoesOn m k → IsPrefix a c
met a b c h g m k from (inl is) (inl at) to on further = joined a c h b k from to (subst (λ (x : Book). GoesOn h x) is on) (subst (λ (x : Book). GoesOn x k) at further)
met a b c h g m k from (inl is) (inr up) to on further = from_upgrade a b c h m k from to (subst (λ (x : Book). GoesOn h x) is on) up further
met a b c h g m k from (inr up) (inl at) to on further = to_upgrade a b c h g k from to on up (subst (λ (x : Book). GoesOn x k) at further)
met a b c h g m k from (inr up) (inr other) to on further = joined a c h g k from to on (subst (λ (x : Book). GoesOn x k) (upgrade_once b m g other up) further)

first_nil : (xs ys : List Entry) → xs ++ ys ≡ [] → xs ≡ []
first_nil [] ys is = refl
first_nil (x ∷ xs) ys is = cc

-- what an empty book goes on from is empty
on_blank : (a b : Book) → GoesOn a b → IsBlank b → IsBlank a
on_blank a b on empty =
    let meta : a.meta ≡ [] = sym on.meta ∙ ap (λ (x : Book). x.meta) empty in
    let mutations : a.mutations ≡ [] = sym on.mutations ∙ ap (λ (x : Book). x.mutations) empty in
    let rows : a.journal ≡ [] = first_nil a.journal on.more (sym on.rows ∙ ap (λ (x : Book). x.journal) empty) in
    λ i. record { meta = meta i; mutations = mutations i; journal = rows i }

-- an empty book has no upgrade, and is none
no_upgrade : (b g : Book) → IsBlank b → ¬ IsUpgrade b g
no_upgrade b g empty up = let never : false ≡ true = subst IsFirst empty up.first in cc

blank_stands : (a h : Book) → Stands a h → IsBlank h → IsBlank a
blank_stands a h (inl is) empty = sym is ∙ empty
blank_stands a h (inr up) empty = absurd (let never : false ≡ true = subst IsSecond empty (upgrade_second a h up) in cc)

pub prefix_trans : (a b c : Book) → IsPrefix a b → IsPrefix b c → IsPrefix a c
prefix_trans a b c (inl empty) after = inl empty
prefix_trans a b c (inr on) (inl empty) = inl (go on.other_stands)
  where
    go : Stands b on.two → IsBlank a
    go (inl is) = blank_stands a on.one on.stands (on_blank on.one on.two on.goes_on (is ∙ empty))
    go (inr up) = absurd (no_upgrade b on.two empty up)
prefix_trans a b c (inr on) (inr further) = met a b c on.one on.two further.one further.two on.stands on.other_stands further.stands further.other_stands on.goes_on further.goes_on

-- a first part has no more rows
stands_few : (a h : Book) → Stands a h → length h.journal ≡ length a.journal
stands_few a h (inl is) = ap (λ (x : Book). length x.journal) is
stands_few a h (inr up) = ap (λ (x : Book). length x.journal) up.is ∙ bounded_length up.prepared.campaign a.journal

pub prefix_few : (a b : Book) → IsPrefix a b → length a.journal ≤ length b.journal
prefix_few a b (inl empty) = let none : length a.journal ≡ 0 = ap (λ (x : Book). length x.journal) empty in omega arith
prefix_few a b (inr on) =
    let rows : length on.two.journal ≡ length on.one.journal + length on.goes_on.more = ap length on.goes_on.rows ∙ length-append on.one.journal on.goes_on.more in
    omega (arith, stands_few a on.one on.stands, stands_few b on.two on.other_stands)
