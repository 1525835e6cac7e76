use Rattle.source_trees.proofs.Common.{◌≡◌, ◌⊎◌, ℕ, ◌+◌, ◌<◌, List, [], ◌∷◌, ◌++◌, length, drop, map, refl, sym, ap, ◌∙◌, subst, arith, append-nil, drop_all, IsUtf8, SourceFile, Token, Gives, bare}
use Rattle.source_trees.proofs.Common.{ReadError, Memory, max_tokens, AreGiven, ComesTo, IsFileFault, IsUngiven}
use Rattle.std.proofs.lemmas.Result.{err_from_is_err_and}
use Rattle.source_trees.proofs.Steps.{drop_read, file_refused, given_more, map_joined, ungiven_later}
use Rattle.source_trees.proofs.given.give_files.Goals as goal

pub loop-number-preserved : goal.loop-number-preserved
loop-number-preserved c =
    let files : List SourceFile = c.args.files.now in
    let n : ℕ = c.loop-number.number in
    let file : SourceFile = c.index-files-number.result in
    let below : n < length files = omega arith in
    let split : drop n files ≡ file ∷ drop (n + 1) files = drop_read files n file below c.index-files-number.is in
    let tokens : List Token = map bare c.in_ok-one.one.items in
    let limit : ℕ = c.loop-number.limit in
    let left : ℕ = c.give_file.new.limit in
    let comes : ComesTo n file.bytes limit (Gives tokens left) = subst (λ (bytes : List ℕ). ComesTo n bytes limit (Gives tokens left)) c.as_slice.ensures c.in_ok-one.ensures.given in
    record {
      given = λ others gives.
          let all = map_joined (λ ts. map bare ts.items) c.loop-number.given.items c.in_ok-one.one others in
          let pushed = ap (λ given. map (λ ts. map bare ts.items) given ++ others) c.in_ok-add.ensures in
          subst (λ (given : List (List Token)). AreGiven 0 files max_tokens given) (sym (pushed ∙ all))
          (c.loop-number.invariant.given (tokens ∷ others) (given_more n limit left (drop n files) (drop (n + 1) files) file tokens others split comes gives));
      faults = λ e fault. c.loop-number.invariant.faults e (ungiven_later n limit left (drop n files) (drop (n + 1) files) file tokens e split comes fault);
    }

pub returns-clause-given : goal.returns-clause-given
returns-clause-given c =
    let n : ℕ = c.loop-number.number in
    let given : List (List Token) = map (λ ts. map bare ts.items) c.loop-number.given.items in
    let end : drop n c.args.files.now ≡ [] = drop_all n c.args.files.now (omega arith) in
    let none : AreGiven n (drop n c.args.files.now) c.loop-number.limit [] = subst (λ (files : List SourceFile). AreGiven n files c.loop-number.limit []) (sym end) refl in
    subst (λ (all : List (List Token)). AreGiven 0 c.args.files.now max_tokens all) (append-nil given) (c.loop-number.invariant.given [] none)

pub give_file-requires-clause-text : goal.give_file-requires-clause-text
give_file-requires-clause-text c =
    let file : SourceFile = c.index-files-number.result in
    let text : IsUtf8 file.bytes = subst (λ (f : SourceFile). IsUtf8 f.bytes) (sym c.index-files-number.is) (c.requires.texts c.loop-number.number file (omega arith)) in
    subst IsUtf8 (sym c.as_slice.ensures) text

pub returns-in_err-one-clause-refused : goal.returns-in_err-one-clause-refused
returns-in_err-one-clause-refused c =
    let files : List SourceFile = c.args.files.now in
    let n : ℕ = c.loop-number.number in
    let file : SourceFile = c.index-files-number.result in
    let below : n < length files = omega arith in
    let split : drop n files ≡ file ∷ drop (n + 1) files = drop_read files n file below c.index-files-number.is in
    let limit : ℕ = c.loop-number.limit in
    let error : ReadError = c.in_err-one.field-0.0 in
    let here : (error ≡ Memory) ⊎ IsFileFault n file.bytes limit error = subst (λ (bytes : List ℕ). (error ≡ Memory) ⊎ IsFileFault n bytes limit error) c.as_slice.ensures c.in_err-one.ensures.refused in
    let refused = file_refused (λ (e : ReadError). IsUngiven 0 files max_tokens e) n limit (drop n files) (drop (n + 1) files) file error split c.loop-number.invariant.faults here in
    let p = err_from_is_err_and c.from_residual.result c.from_residual.ensures.1 in
    rw (p.1, p.2) refused
