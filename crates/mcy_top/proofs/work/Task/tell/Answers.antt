use Rattle.mcy_top.proofs.Common.{◌≡◌, ◌⊎◌, inl, inr, ℕ, Bool, Option, ap, subst, Book, status_text, Command, Init, Run, Status, Baseline, Demo, Prepared, OnlyReads, book_of, text_of}
use Rattle.source_report.specs.Lists.{list_text}
use Rattle.source_report.specs.Sources.{source_text}
use Rattle.mcy_top.proofs.work.Task.tell.Goals as goal

pub returns-in-List-clause-wrote : goal.returns-in-List-clause-wrote
unfolding list_text
returns-in-List-clause-wrote g c = rw c.in-List.is c.list.ensures.wrote

pub returns-in-Source-clause-wrote : goal.returns-in-Source-clause-wrote
unfolding source_text
returns-in-Source-clause-wrote g c = rw c.in-Source.is c.show_source.ensures.wrote

-- of the other commands one only reads, and tells the status
told_text : (command : Command) (p : Prepared) (book : Book) → OnlyReads command → ((command ≡ Init) ⊎ (((jobs : ℕ) × (stop : Option ℕ) × (retry : Option ℕ) × (command ≡ Run jobs stop retry)) ⊎ (((strict : Bool) × (command ≡ Status strict)) ⊎ ((command ≡ Baseline) ⊎ ((seed : ℕ) × (cells : ℕ) × (command ≡ Demo seed cells)))))) → text_of command p book ≡ status_text p.campaign book.journal
told_text command p book reads (inl is) = absurd (subst OnlyReads is reads)
told_text command p book reads (inr (inl run)) = absurd (subst OnlyReads run.3 reads)
told_text command p book reads (inr (inr (inl status))) = ap (λ (k : Command). text_of k p book) status.1
told_text command p book reads (inr (inr (inr (inl is)))) = absurd (subst OnlyReads is reads)
told_text command p book reads (inr (inr (inr (inr demo)))) = absurd (subst OnlyReads demo.2 reads)

pub returns-in-Init : goal.returns-in-Init
returns-in-Init g c = record {
  wrote = rw (told_text c.args.command c.args.self.now.prepared.now (book_of c.args.self.now.prepared.now c.args.state.now.rows) c.requires.reads c.in-Init.is) c.report.ensures.wrote;
  later = c.report.ensures.later;
  cause = c.report.ensures.cause;
}
