use Rattle.project_lines.proofs.Common.{◌≡◌, ◌<◌, ◌≤◌, ◌+◌, true, Bor, List, ℕ, arith, sym, ap, ◌∙◌, subst, length, map, drop, get_or, length-map, are_too_many, with_name, with_names}
use Rattle.project_lines.proofs.Faults.{mapped_drop, mapped_end}
use Rattle.project_lines.proofs.Reading.{count_few, count_many, names_cons, names_none, names_stay}
use Rattle.project_lines.proofs.paths.ReadFiles.add_all.Goals as goal

-- a name is added, and those behind it are left
step : (names : List (Bor (List ℕ))) (i : ℕ) (d : Bor (List ℕ)) (old new w : List (List ℕ)) → i < length names → new ≡ with_name old (get_or names i d).now → with_names old (map (λ (line : Bor (List ℕ)). line.now) (drop i names)) ≡ w → with_names new (map (λ (line : Bor (List ℕ)). line.now) (drop (i + 1) names)) ≡ w
step names i d old new w l e h =
    ap (λ ns. with_names ns (map (λ (line : Bor (List ℕ)). line.now) (drop (i + 1) names))) e
    ∙ (sym (names_cons old (get_or names i d).now (map (λ (line : Bor (List ℕ)). line.now) (drop (i + 1) names)))
    ∙ (ap (with_names old) (sym (mapped_drop (λ (line : Bor (List ℕ)). line.now) names i d l)) ∙ h))

pub returns-then-len-gt-MAX_FILES-clause-fault : goal.returns-then-len-gt-MAX_FILES-clause-fault
returns-then-len-gt-MAX_FILES-clause-fault c m =
    let names = c.args.names.now in
    let i = c.loop-name.name-index in
    let all = step names i _ c.loop-name.self c.add.new.self _ c.loop-name-test.true c.in_ok-add.ensures c.loop-name.invariant.0 in
    let many : 64 < length c.add.new.self = omega (arith, c.len.ensures) in
    count_many c.args.self.now c.args.number (map (λ (line : Bor (List ℕ)). line.now) names) (subst (λ k. 0 < k) (sym (length-map names (λ (line : Bor (List ℕ)). line.now))) (omega arith)) (subst (λ ns. are_too_many ns ≡ true) all (names_stay c.add.new.self (map (λ (line : Bor (List ℕ)). line.now) (drop (i + 1) names)) many))

pub loop-name-preserved : goal.loop-name-preserved
loop-name-preserved c = (
  step c.args.names.now c.loop-name.name-index _ c.loop-name.self c.add.new.self _ c.loop-name-test.true c.in_ok-add.ensures c.loop-name.invariant.0,
  λ some. omega (arith, c.len.ensures),
)

pub returns-clause-fault : goal.returns-clause-fault
returns-clause-fault c =
    let names = c.args.names.now in
    let all : c.loop-name.self ≡ with_names c.args.self.now (map (λ (line : Bor (List ℕ)). line.now) names) = sym (names_none c.loop-name.self) ∙ (ap (with_names c.loop-name.self) (sym (mapped_end (λ (line : Bor (List ℕ)). line.now) names c.loop-name.name-index c.loop-name-test.false)) ∙ c.loop-name.invariant.0) in
    count_few c.args.self.now c.args.number (map (λ (line : Bor (List ℕ)). line.now) names) (λ some. subst (λ ns. length ns ≤ 64) all (c.loop-name.invariant.1 (omega (arith, length-map names (λ (line : Bor (List ℕ)). line.now)))))

pub returns-clause-read : goal.returns-clause-read
returns-clause-read c = sym (names_none c.loop-name.self) ∙ (ap (with_names c.loop-name.self) (sym (mapped_end (λ (line : Bor (List ℕ)). line.now) c.args.names.now c.loop-name.name-index c.loop-name-test.false)) ∙ c.loop-name.invariant.0)
