-- What the answer of a write says of the write, and which journal can keep an entry.
use Rattle.keeper_sqlite.proofs.Common.{◌≡◌, inl, inr, Bool, Option, Some, None, refl, false, true, Ok, Err, Result, OnOk, OnErr, IsOk, IsErrOf, is_ok, subst, cases_Bool, Ghosts, Held, Entry, Book}
use Rattle.keeper_sqlite.proofs.Common.{is_first, IsFirst, JournalTable, First, Second, table_of, FitsTable, Holds, Refusal, NoMemory, Database}
use Rattle.mcy_keeper.specs.declared.keeper.KeepError.{KeepError}
use Rattle.mcy_keeper.specs.declared.keeper.KeepError.TheVariants.{Fault, Memory}

-- where the answer is a fault, the write was refused
pub refused_write : (written : Result (Unit {0}) Refusal) (answer : Result (Unit {0}) KeepError) (A : Type 0) {P : Type 0} → OnOk written (A × IsOk answer) → IsErrOf answer Fault → OnErr written P → P
refused_write (Ok done) answer A ok fault err = absurd (let none : false ≡ true = subst (λ (r : Result (Unit {0}) KeepError). is_ok r ≡ true) fault ok.1 in cc)
refused_write (Err refusal) answer A ok fault err = err

-- where the answer is Ok, the write ended well
pub done_write : (written : Result (Unit {0}) Refusal) (answer : Result (Unit {0}) KeepError) (M F : Type 0) {P : Type 0} → (IsErrOf written NoMemory → M × IsErrOf answer Memory) → (IsErrOf written Database → F × IsErrOf answer Fault)
    → (IsOk written → P) → OnOk answer P
done_write (Ok done) (Ok x) M F memory fault p = p refl
done_write (Ok done) (Err e) M F memory fault p = tt
done_write (Err NoMemory) (Ok x) M F memory fault p = absurd (let no = (memory refl).1 in cc)
done_write (Err Database) (Ok x) M F memory fault p = absurd (let no = (fault refl).1 in cc)
done_write (Err refusal) (Err e) M F memory fault p = tt

pub written_done : (written : Result (Unit {0}) Refusal) {P : Type 0} → OnOk written P → IsOk written → P
written_done (Ok done) p ended = p
written_done (Err refusal) p ended = absurd (cc)

-- the journal of the book can keep an entry that the format of the book allows
fits_book : (table : JournalTable) (was : Book) (e : Entry) → table_of was ≡ table → (IsFirst was → e.bound ≡ 0) → FitsTable table e
fits_book First was e same format = elim (cases_Bool (is_first was)) [
  | inl first ↦ format first
  | inr second ↦ absurd (let no : table_of was ≡ Second = rw second refl in cc)
]
fits_book Second was e same format = tt

pub fits_held : {S : Type 0} (g : Ghosts S) (c : Option (Held S)) (settled : Bool) (table : JournalTable) (was : Book) (e : Entry) → Holds g c settled table was → (IsFirst was → e.bound ≡ 0) → FitsTable table e
fits_held g None settled table was e held format = absurd held
fits_held g (Some c) settled table was e held format = fits_book table was e held.3 format
