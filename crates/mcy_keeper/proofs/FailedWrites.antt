-- A write that failed left the new book or the old one, as the list of failing calls says.
use Rattle.std.proofs.Common.{◌≡◌, ◌∙◌, Bool, false, if◌then◌else◌, Some, Err, ap, rules}
use Rattle.mcy_base.specs.Causes.{one_more}
use Rattle.mcy_keeper.specs.declared.book.Book.{Book}
use Rattle.mcy_keeper.specs.declared.keeper.KeepError.TheVariants.{Fault}
use Rattle.mcy_keeper.specs.MemoryKeeper.{ScriptedKeeper, Writes, called, failure}

pub failed_write : (old before now : ScriptedKeeper) (after : Book) (whole : Bool)
    → failure old ≡ Some whole
    → before ≡ record (called old) { book = if whole then after else old.book }
    → now ≡ record before { told = false; settled = false; faults = one_more before.faults }
    → Writes old now after {T = Unit {0}} (Err Fault)
failed_write old before now after whole said left counted = record {
  ok = search rules;
  fault = λ _. rw said (counted ∙ ap (λ (k : ScriptedKeeper). record k { told = false; settled = false; faults = one_more k.faults }) left);
  memory = search rules;
}
