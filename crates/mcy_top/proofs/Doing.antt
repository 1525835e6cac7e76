-- A command that is done, whether what is required of the campaign is met or missed.
use Rattle.mcy_top.proofs.Common.{◌≡◌, ℕ, Bool, true, false, List, Option, Book, Appends, Command, Goal, Prepared, Outcome, Done, RequirementMissed, misses_on, Answers, Carried, DidAll, IsDone, Wrote}
use Rattle.mcy_top.proofs.Common.{done_outcome}

-- what its outcome says of the book and of the text
pub done_all : (command : Command) (aim : Goal) (c : Prepared) (loaded sure : Book) (o : Outcome) → IsDone o → Answers command aim c loaded sure o → DidAll command aim c loaded sure
done_all command aim c loaded sure Done done answer = answer.0
done_all command aim c loaded sure RequirementMissed done answer = answer.0
done_all command aim c loaded sure o done answer = absurd done

pub done_wrote : (before now : Option (List ℕ)) (text : List ℕ) (o : Outcome) → IsDone o → Wrote before now text o → Appends before now text
done_wrote before now text Done done wrote = wrote
done_wrote before now text RequirementMissed done wrote = wrote
done_wrote before now text o done wrote = absurd done

-- and its outcome, by what is missed
pub all_answers : (command : Command) (aim : Goal) (c : Prepared) (loaded sure : Book) (missed : Bool) → misses_on command c sure ≡ missed → DidAll command aim c loaded sure → Answers command aim c loaded sure (done_outcome missed)
all_answers command aim c loaded sure true is all = (all, is)
all_answers command aim c loaded sure false is all = (all, is)

pub text_wrote : (before now : Option (List ℕ)) (text : List ℕ) (missed : Bool) → Appends before now text → Wrote before now text (done_outcome missed)
text_wrote before now text true wrote = wrote
text_wrote before now text false wrote = wrote

pub done_carried : (missed : Bool) → Carried (done_outcome missed)
done_carried true = tt
done_carried false = tt
