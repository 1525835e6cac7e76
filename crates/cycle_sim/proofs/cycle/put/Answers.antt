use Rattle.cycle_sim.proofs.Common.{◌≡◌, ℕ, ◌*◌, ◌<◌, List, [], length, get_or, set, refl, sym, ◌∙◌, ap, subst, inl, inr, arith, Contains, get_or_read, set-get_or, mark_at}
use Rattle.cycle_sim.proofs.cycle.put.Goals as goal

pub returns-then-index-number : goal.returns-then-index-number
returns-then-index-number c =
    let table : List ℕ = c.args.table.now.items in
    let d : ℕ = c.args.driver in
    let same : get_or table d 0 ≡ c.args.number = sym (get_or_read table d c.index.result.now c.requires.inside c.index.ensures 0) ∙ c.if-index-number.true in
    record {
      written = sym (set-get_or table d 0) ∙ ap (λ (v : ℕ). set table d v) same;
      long = refl;
      marked = inl refl;
      others = λ k n. refl;
      kept = λ k h. h;
    }

list-is : (readers : List (List ℕ)) (d : ℕ) (l item : List ℕ) → d < length readers → l ≡ item → item ≡ get_or readers d item → l ≡ get_or readers d []
list-is readers d l item inside same is = same ∙ get_or_read readers d item inside is []

pub mark_all-requires : goal.mark_all-requires
mark_all-requires c =
    let is = list-is c.args.readers.now c.args.driver c.as_slice.result.now c.index-readers-driver.result (let i = c.requires.inside in let l = c.requires.listed in omega (arith, i, l)) c.as_slice.ensures c.index-readers-driver.is in
    subst (λ (l : List ℕ). (k d : ℕ) → k < length l → get_or l k d < 64 * length c.args.marks.now.items) (sym is) c.requires.room

pub returns : goal.returns
returns c =
    let is = list-is c.args.readers.now c.args.driver c.as_slice.result.now c.index-readers-driver.result (let i = c.requires.inside in let l = c.requires.listed in omega (arith, i, l)) c.as_slice.ensures c.index-readers-driver.is in
    let all : (k : ℕ) → Contains (get_or c.args.readers.now c.args.driver []) k → mark_at c.mark_all.new.marks.items k ≡ 1 = λ k h. c.mark_all.ensures.marked k (subst (λ (l : List ℕ). Contains l k) (sym is) h) in
    let others : (k : ℕ) → ¬ Contains (get_or c.args.readers.now c.args.driver []) k → mark_at c.mark_all.new.marks.items k ≡ mark_at c.args.marks.now.items k = λ k n. c.mark_all.ensures.others k (λ h. n (subst (λ (l : List ℕ). Contains l k) is h)) in
    record {
      written = refl;
      long = c.mark_all.ensures.long;
      marked = inr all;
      others = others;
      kept = λ k none. sym (others k (λ h. absurd (let one = all k h in omega (arith, one, none)))) ∙ none;
    }
