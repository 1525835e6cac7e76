use Rattle.source_report.proofs.Common.{◌≡◌, ap, ◌∙◌, on_ok_weaker, TestWord, Pass, Fail, third_word, word_count, word_name}
use Rattle.source_report.proofs.Counted.{words_told}
use Rattle.source_report.proofs.Lines.{test_line-told}
use Rattle.source_report.proofs.status.add_test.Goals as goal

pub returns : goal.returns
returns c groups same =
    let test = c.args.test in
    let third : TestWord = third_word c.args.kind in
    let passed : c.word_count-passed.result ≡ word_count groups test Pass = words_told Pass test c.word_count-passed.result c.args.reads.now groups c.requires.test same c.word_count-passed.ensures in
    let failed : c.word_count-failed.result ≡ word_count groups test Fail = words_told Fail test c.word_count-failed.result c.args.reads.now groups c.requires.test same c.word_count-failed.ensures in
    let others : c.word_count-others.result ≡ word_count groups test third = words_told c.third_word-third.result test c.word_count-others.result c.args.reads.now groups c.requires.test same c.word_count-others.ensures ∙ ap (word_count groups test) c.third_word-third.ensures in
    let name : c.word_name-third.result.now ≡ word_name third = c.word_name-third.ensures ∙ ap word_name c.third_word-third.ensures in
    on_ok_weaker c.writeln.result (λ told. told ∙ test_line-told groups test c.args.kind c.word_count-passed.result c.word_count-failed.result c.word_count-others.result _ c.args.name.now c.word_name-third.result.now name passed failed others) c.writeln.ensures.bytes
