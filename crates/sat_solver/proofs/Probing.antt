-- A trail over the clauses that a search looks at.
use Rattle.sat_solver.proofs.Common.{◌≡◌, ◌≢◌, ℕ, Bool, true, List, [], ◌∷◌, ◌++◌, length, take, ℤ, Option, Some, None, ap, ◌∙◌, subst, arith, All, Result, Ok, Err, IfOk, OnOk, MatchOption, take_all}
use Rattle.sat_solver.proofs.Common.{append_assoc, All-contains, IsQuiet, known_of, Log, Probe, Propagator, IsOpened, IsReady, IsDecided, IsDone, IsConflict, IsKept, picked, IsPart, IsFocus, in_use}
use Rattle.sat_solver.proofs.Common.{IsProbing}
use Rattle.sat_solver.specs.declared.part.Part.{Part}
use Rattle.sat_solver.proofs.Picking.{picked-append, part-more, part-none}
use Rattle.sat_solver.proofs.Hunts.{ready-opened}

-- a trail on which all is open
pub probing-new : (log : Log) (p : Probe) (limit : ℕ) → IsFocus (length log.clauses) log.free p.focus → p.part.store ≡ [] → p.part.numbers.items ≡ [] → p.part.seen ≡ 0 → IsOpened limit p.propagator.trail → ((clauses : List (List ℤ)) → IsKept clauses p.propagator) → IsProbing log p
probing-new log p limit focus store numbers seen opened kept = record {
  focus = focus;
  part = part-none p.focus.left_out.items (log.clauses ++ log.lemmas) p.part store numbers seen;
  ready = ready-opened (in_use log p) log.free limit p.propagator.trail opened;
  kept = kept (in_use log p);
}

-- where all clauses were seen, the part has those in use
pub part-whole : (log : Log) (p : Probe) → IsFocus (length log.clauses) log.free p.focus → IsPart p.focus.left_out.items (log.clauses ++ log.lemmas) p.part → p.part.seen ≡ length (log.clauses ++ log.lemmas) → p.part.store ≡ in_use log p
part-whole log p focus part seen =
    let all : take p.part.seen (log.clauses ++ log.lemmas) ≡ log.clauses ++ log.lemmas = ap (λ (n : ℕ). take n (log.clauses ++ log.lemmas)) seen ∙ take_all (length (log.clauses ++ log.lemmas)) (log.clauses ++ log.lemmas) (omega arith) in
    part.store ∙ ap (picked p.focus.left_out.items) all ∙ picked-append p.focus.left_out.items log.clauses log.lemmas focus.few

-- where nothing is left out, what is decided is so of all clauses and free bits
pub done-whole : (log : Log) (p : Probe) (values : List (Option Bool)) → IsFocus (length log.clauses) log.free p.focus → p.focus.whole ≡ true → IsDecided (in_use log p) p.focus.bits.items values → IsDone (log.clauses ++ log.lemmas) log.free values
done-whole log p values focus whole decided = record {
  quiet = let P : List Bool → Type 0 = λ flags. All (IsQuiet (known_of values)) (picked flags log.clauses ++ log.lemmas) in subst P (focus.none_left_out whole) decided.quiet;
  bits = λ v low high. let P : ℕ → Type 0 = λ w. known_of values w ≢ None in All-contains P p.focus.bits.items v decided.decided (focus.all_bits whole v low high);
}

-- so of the answer of a search over all clauses
pub done-end : {E : Type 0} (log : Log) (p : Probe) (values : List (Option Bool)) (result : Result (Option ℕ) E) → IsFocus (length log.clauses) log.free p.focus → p.focus.whole ≡ true → IfOk result (λ found. MatchOption found (IsDecided (in_use log p) p.focus.bits.items values) (IsConflict (in_use log p) (known_of values))) → IfOk result (λ found. MatchOption found (IsDone (log.clauses ++ log.lemmas) log.free values) (IsConflict (in_use log p) (known_of values)))
done-end log p values (Ok None) focus whole end = done-whole log p values focus whole end
done-end log p values (Ok (Some number)) focus whole end = end
done-end log p values (Err e) focus whole end = tt

pub on-ok : {T E P : Type 0} (result : Result T E) → P → OnOk result P
on-ok (Ok x) p = p
on-ok (Err e) p = tt

-- the part and the trail have grown
pub probing-searched : (log : Log) (old : Probe) (part : Part) (propagator : Propagator) (free : ℕ) → IsProbing log old → IsPart old.focus.left_out.items (log.clauses ++ log.lemmas) part → free ≡ log.free → part.store ≡ in_use log old → IsReady part.store free propagator.trail → IsKept part.store propagator → IsProbing log (record old { part = part; propagator = propagator })
probing-searched log old part propagator free is grown same store ready kept =
    let P : List (List ℤ) → Type 0 = λ clauses. IsReady clauses free propagator.trail in
    let Q : ℕ → Type 0 = λ n. IsReady (in_use log old) n propagator.trail in
    let R : List (List ℤ) → Type 0 = λ clauses. IsKept clauses propagator in
    record { focus = is.focus; part = grown; ready = subst Q same (subst P store ready); kept = subst R store kept }

-- one more lemma stands
pub probing-added : (log : Log) (p : Probe) (propagator : Propagator) (lemma : List ℤ) → IsProbing log p → IsReady (in_use log p ++ lemma ∷ []) log.free propagator.trail → IsKept (in_use log p ++ lemma ∷ []) propagator → IsProbing (record log { lemmas = log.lemmas ++ lemma ∷ [] }) (record p { propagator = propagator })
probing-added log p propagator lemma is ready kept =
    let more : in_use log p ++ lemma ∷ [] ≡ picked p.focus.left_out.items log.clauses ++ (log.lemmas ++ lemma ∷ []) = append_assoc (picked p.focus.left_out.items log.clauses) log.lemmas (lemma ∷ []) in
    let all : log.clauses ++ log.lemmas ++ lemma ∷ [] ≡ log.clauses ++ (log.lemmas ++ lemma ∷ []) = append_assoc log.clauses log.lemmas (lemma ∷ []) in
    let P : List (List ℤ) → Type 0 = λ clauses. IsPart p.focus.left_out.items clauses p.part in
    let Q : List (List ℤ) → Type 0 = λ clauses. IsReady clauses log.free propagator.trail in
    let R : List (List ℤ) → Type 0 = λ clauses. IsKept clauses propagator in
    record {
      focus = is.focus;
      part = subst P all (part-more p.focus.left_out.items (log.clauses ++ log.lemmas) (lemma ∷ []) p.part is.part);
      ready = subst Q more ready;
      kept = subst R more kept;
    }
