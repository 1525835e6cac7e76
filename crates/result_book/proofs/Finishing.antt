-- How many mutations are finished.
use Rattle.result_book.proofs.Common.{◌≡◌, ◌↔◌, arith, ℕ, zero, suc, ◌+◌, ◌<◌, ◌≤◌, Bool, true, false, List, length, cond, count_by, refl, sym, ◌∙◌, ap, subst, count_by-le-length, sum_by-cons, Entry}
use Rattle.result_book.proofs.Common.{Book, Campaign, Ask, each_from, is_ended, ask_on, IsFinished, IsStateOf, Progress}
use Rattle.result_book.proofs.Each.{length-each_from}

abbrev one_if : Bool → ℕ
one_if b = cond b 1 0

abbrev ended_from : Campaign → ℕ → ℕ → List Entry → ℕ
ended_from c m n rows = count_by is_ended (each_from (λ k. ask_on c k rows) m n)

abbrev AreEnded : Campaign → ℕ → ℕ → List Entry → Type 0
AreEnded c m n rows = (k : ℕ) → k < n → is_ended (ask_on c (m + k) rows) ≡ true

ended_from-suc : (c : Campaign) (m n : ℕ) (rows : List Entry) → ended_from c m (suc n) rows ≡ one_if (is_ended (ask_on c m rows)) + ended_from c (m + 1) n rows
ended_from-suc c m n rows = sum_by-cons (λ a. one_if (is_ended a)) (ask_on c m rows) (each_from (λ k. ask_on c k rows) (m + 1) n)

ended_from-le : (c : Campaign) (m n : ℕ) (rows : List Entry) → ended_from c m n rows ≤ n
ended_from-le c m n rows = omega (arith, count_by-le-length is_ended (each_from (λ k. ask_on c k rows) m n), length-each_from (λ k. ask_on c k rows) m n)

count_ended : (c : Campaign) (m n : ℕ) (rows : List Entry) → AreEnded c m n rows → ended_from c m n rows ≡ n
count_ended c m zero rows all = refl
count_ended c m (suc n) rows all =
    let here : is_ended (ask_on c m rows) ≡ true = subst (λ (k : ℕ). is_ended (ask_on c k rows) ≡ true) (let place : m + 0 ≡ m = omega arith in place) (all 0 (omega arith)) in
    let one : one_if (is_ended (ask_on c m rows)) ≡ 1 = ap one_if here in
    let rest : ended_from c (m + 1) n rows ≡ n = count_ended c (m + 1) n rows (λ k below. subst (λ (j : ℕ). is_ended (ask_on c j rows) ≡ true) (let place : m + suc k ≡ (m + 1) + k = omega arith in place) (all (suc k) (omega (arith, below)))) in
    omega (arith, ended_from-suc c m n rows, one, rest)

first_ended : (c : Campaign) (m n : ℕ) (rows : List Entry) (b : Bool) → one_if b + ended_from c (m + 1) n rows ≡ suc n → b ≡ true
first_ended c m n rows true all = refl
first_ended c m n rows false all = absurd (omega (arith, all, ended_from-le c (m + 1) n rows))

ended_all : (c : Campaign) (m n : ℕ) (rows : List Entry) → ended_from c m n rows ≡ n → AreEnded c m n rows
ended_all c m zero rows all k below = absurd (omega arith)
ended_all c m (suc n) rows all zero below =
    let here : is_ended (ask_on c m rows) ≡ true = first_ended c m n rows (is_ended (ask_on c m rows)) (sym (ended_from-suc c m n rows) ∙ all) in
    subst (λ (j : ℕ). is_ended (ask_on c j rows) ≡ true) (let place : m ≡ m + 0 = omega arith in place) here
ended_all c m (suc n) rows all (suc k) below =
    let here : is_ended (ask_on c m rows) ≡ true = first_ended c m n rows (is_ended (ask_on c m rows)) (sym (ended_from-suc c m n rows) ∙ all) in
    let one : one_if (is_ended (ask_on c m rows)) ≡ 1 = ap one_if here in
    let rest : ended_from c (m + 1) n rows ≡ n = omega (arith, ended_from-suc c m n rows, one, all) in
    subst (λ (j : ℕ). is_ended (ask_on c j rows) ≡ true) (let place : (m + 1) + k ≡ m + suc k = omega arith in place) (ended_all c (m + 1) n rows rest k (omega (arith, below)))

pub finished_counted : (c : Campaign) (book : Book) (s : Progress) → IsStateOf c book.journal s → (count_by is_ended s.asks ≡ length c.mutations) ↔ IsFinished c book
finished_counted c book s state =
    let n : ℕ = length c.mutations in
    let same : count_by is_ended s.asks ≡ ended_from c 0 n book.journal = ap (λ (a : List Ask). count_by is_ended a) state.asks in (
      λ all m inside. subst (λ (j : ℕ). is_ended (ask_on c j book.journal) ≡ true) (let place : 0 + m ≡ m = omega arith in place) (ended_all c 0 n book.journal (sym same ∙ all) m inside),
      λ finished. same ∙ count_ended c 0 n book.journal (λ k below. subst (λ (j : ℕ). is_ended (ask_on c j book.journal) ≡ true) (let place : k ≡ 0 + k = omega arith in place) (finished k below)),
    )
