use Rattle.source_trees.proofs.Common.{ℕ, ◌+◌, ◌<◌, List, length, drop, take, sym, subst, arith, IsUtf8, take_all, All-more, All-same, SourceFile}
use Rattle.source_trees.proofs.Steps.{drop_read, text_fault_later}
use Rattle.source_trees.proofs.texts.check_texts.Goals as goal

abbrev is_text : SourceFile → Type 0
is_text file = IsUtf8 file.bytes

pub loop-number-preserved : goal.loop-number-preserved
loop-number-preserved c =
    let files : List SourceFile = c.args.files.now in
    let file : SourceFile = c.index-files-number.result in
    let n : ℕ = c.loop-number.number in
    let below : n < length files = omega arith in
    let text : IsUtf8 file.bytes = subst IsUtf8 c.as_slice.ensures c.in_ok-check_text.ensures in
    record {
      texts = All-more is_text files n file below c.loop-number.invariant.texts (subst is_text c.index-files-number.is text);
      faults = λ e fault. c.loop-number.invariant.faults e (text_fault_later n (drop n files) (drop (n + 1) files) file e (drop_read files n file below c.index-files-number.is) text fault);
    }

pub returns-clause-texts : goal.returns-clause-texts
returns-clause-texts c =
    let files : List SourceFile = c.args.files.now in
    let n : ℕ = c.loop-number.number in
    All-same is_text files (take n files) (sym (take_all n files (omega arith))) c.loop-number.invariant.texts
