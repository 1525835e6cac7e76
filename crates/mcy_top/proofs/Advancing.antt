-- A book that was begun, run and upgraded.
use Rattle.mcy_top.proofs.Common.{◌≡◌, arith, false, List, [], ◌∷◌, refl, sym, ap, subst, ◌∙◌, Entry, Book, is_first, with_entry, IsFirst, IsSecond, has_history, second_is_not_first, Prepared, IsPlan}
use Rattle.mcy_top.proofs.Common.{plan_fit, history, upgrade_of, IsWellFormed, AreRight, IsGood, IsNextRow, IsUpgrade, IsWithinOne, opened, Upgraded, book_of, book_form, book_second, form_more}
use Rattle.mcy_top.proofs.Common.{length_more, right_more}
use Rattle.mcy_top.proofs.Prefixes.{on_itself, prefix_on}

-- Histories.

pub history_first : (c : Prepared) (book : Book) → IsFirst book → history c.campaign book ≡ upgrade_of c.campaign book
history_first c book first = rw first refl

pub history_else : (c : Prepared) (book : Book) → is_first book ≡ false → history c.campaign book ≡ book
history_else c book other = rw other refl

pub history_second : (c : Prepared) (book : Book) → IsSecond book → history c.campaign book ≡ book
history_second c book second = history_else c book (second_is_not_first book second)

-- an upgrade of the campaign's book is one of its project
pub upgrade_is : (c : Prepared) (book next : Book) → IsPlan c → Upgraded c book next → IsUpgrade book next
upgrade_is c book next plan up = record {
  prepared = c;
  plan = plan;
  first = up.first;
  meta = ap (λ (b : Book). b.meta) up.is ∙ rw up.first at up.form.meta;
  is = up.is;
}

-- Good books.

pub good_of : (c : Prepared) (book : Book) → IsPlan c → IsWellFormed c.campaign book → AreRight c (history c.campaign book).journal → IsGood book
good_of c book plan form all = record { prepared = c; plan = plan; form = form; words_right = all }

-- of the second format
pub good_second : (c : Prepared) (book : Book) → IsPlan c → IsSecond book → IsWellFormed c.campaign book → AreRight c book.journal → IsGood book
good_second c book plan second form all = good_of c book plan form (subst (λ (b : Book). AreRight c b.journal) (sym (history_second c book second)) all)

pub good_rows : (c : Prepared) (rows : List Entry) → IsPlan c → IsWellFormed c.campaign (book_of c rows) → AreRight c rows → IsGood (book_of c rows)
good_rows c rows plan form all = good_second c (book_of c rows) plan (book_second c rows plan) form all

-- with one row more
pub good_more : (c : Prepared) (book : Book) (e : Entry) → IsPlan c → IsWellFormed c.campaign book → IsNextRow c book e → AreRight c (history c.campaign book).journal → IsGood (with_entry book e)
good_more c book e plan form next all =
    good_second c (with_entry book e) plan next.second (form_more c book e form next)
    (right_more c book.journal e (subst (λ (b : Book). AreRight c b.journal) (history_second c book next.second) all) next.word_right)

-- its history
pub good_history : (c : Prepared) (book : Book) → IsPlan c → IsWellFormed c.campaign book → AreRight c (history c.campaign book).journal → IsGood (history c.campaign book)
good_history c book plan form all =
    let has = has_history c.campaign book (plan_fit c plan) form in good_second c (history c.campaign book) plan has.second has.form all

pub opened_form : (c : Prepared) → IsPlan c → IsWellFormed c.campaign (opened c)
opened_form c plan = book_form c [] plan tt

-- the book itself, and the book with one entry more
pub within_itself : (book : Book) → IsWithinOne book book
within_itself book = record { prefix = prefix_on book book (on_itself book); one = omega arith }

pub within_more : (book : Book) (e : Entry) → IsWithinOne book (with_entry book e)
within_more book e = record {
  prefix = prefix_on book (with_entry book e) (record { meta = refl; mutations = refl; more = e ∷ []; rows = refl });
  one = omega (arith, length_more book.journal e);
}
