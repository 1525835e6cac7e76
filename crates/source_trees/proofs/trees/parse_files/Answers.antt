use Rattle.source_trees.proofs.Common.{◌≡◌, ◌⊎◌, ℕ, ◌+◌, ◌<◌, ◌≤◌, List, ◌∷◌, ◌++◌, [], length, drop, map, refl, sym, ap, ◌∙◌, subst, append_assoc, arith, append-nil, drop_all, All-append, All-same}
use Rattle.source_trees.proofs.Common.{SourceFile, Span, place_after, ParseError, Module, module_nest, Token, AreParsed, IsFault, bare, ReadError, Memory, AreModules, IsUnparsed}
use Rattle.seen_tokens.proofs.BareTrees.{fault_bare, parsed_bare}
use Rattle.source_trees.proofs.Steps.{drop_read, modules_more, parse_refused, unparsed_later}
use Rattle.source_trees.proofs.trees.parse_files.Goals as goal

abbrev is_shallow : Module → Type 0
is_shallow m = module_nest m ≤ 200

pub loop-number-preserved : goal.loop-number-preserved
loop-number-preserved c =
    let files : List SourceFile = c.args.files.now in
    let n : ℕ = c.loop-number.number in
    let file : SourceFile = c.index-files-number.result in
    let tokens : List Token = map bare c.index-given-number.result.items in
    let below : n < length files = omega arith in
    let split : drop n files ≡ file ∷ drop (n + 1) files = drop_read files n file below c.index-files-number.is in
    let rest : List (List Token) = map (λ ts. map bare ts.items) (drop n c.args.given.now) in
    let later : List (List Token) = map (λ ts. map bare ts.items) (drop (n + 1) c.args.given.now) in
    let tokens_split : rest ≡ tokens ∷ later = ap (λ ts. map (λ t. map bare t.items) ts) (drop_read c.args.given.now n c.index-given-number.result (omega (arith, below, c.requires.each)) c.index-given-number.is) in
    let before : List Module = c.loop-number.modules.items in
    let more : List Module = c.in-Ok.more.items in
    let parsed : AreParsed tokens more = parsed_bare c.index-given-number.result.items more (subst (λ (ts : List Token). AreParsed ts more) c.deref.ensures.value c.in-Ok.ensures.trees) in
    record {
      modules = λ others modules.
          subst (λ (ms : List Module). AreModules (map (λ ts. map bare ts.items) c.args.given.now) ms) (sym (ap (λ (ms : List Module). ms ++ others) c.in_ok-add_all-in-Ok.ensures ∙ append_assoc before more others))
          (c.loop-number.invariant.modules (more ++ others) (modules_more rest later tokens more others tokens_split parsed modules));
      nesting = All-same is_shallow c.add_all.new.modules.items (before ++ more) c.in_ok-add_all-in-Ok.ensures (All-append is_shallow before more c.loop-number.invariant.nesting c.in-Ok.ensures.nesting);
      faults = λ e fault. c.loop-number.invariant.faults e (unparsed_later n (drop n files) (drop (n + 1) files) file rest later tokens more e split tokens_split parsed fault);
    }

pub returns-clause-modules : goal.returns-clause-modules
returns-clause-modules c =
    let n : ℕ = c.loop-number.number in
    let modules : List Module = c.loop-number.modules.items in
    let end : drop n c.args.given.now ≡ [] = drop_all n c.args.given.now (omega (arith, c.requires.each)) in
    let none : AreModules (map (λ ts. map bare ts.items) (drop n c.args.given.now)) [] = subst (λ ts. AreModules (map (λ t. map bare t.items) ts) []) (sym end) refl in
    subst (λ (ms : List Module). AreModules (map (λ ts. map bare ts.items) c.args.given.now) ms) (append-nil modules) (c.loop-number.invariant.modules [] none)

pub returns-in-Err-clause-refused : goal.returns-in-Err-clause-refused
returns-in-Err-clause-refused c =
    let files : List SourceFile = c.args.files.now in
    let n : ℕ = c.loop-number.number in
    let file : SourceFile = c.index-files-number.result in
    let all : List (List Token) = map (λ ts. map bare ts.items) c.args.given.now in
    let error : ParseError = c.in-Err.error in
    let tokens : List Token = map bare c.index-given-number.result.items in
    let below : n < length files = omega arith in
    let split : drop n files ≡ file ∷ drop (n + 1) files = drop_read files n file below c.index-files-number.is in
    let rest : List (List Token) = map (λ ts. map bare ts.items) (drop n c.args.given.now) in
    let later : List (List Token) = map (λ ts. map bare ts.items) (drop (n + 1) c.args.given.now) in
    let tokens_split : rest ≡ tokens ∷ later = ap (λ ts. map (λ t. map bare t.items) ts) (drop_read c.args.given.now n c.index-given-number.result (omega (arith, below, c.requires.each)) c.index-given-number.is) in
    let end : c.end_of-end.result ≡ place_after n file.bytes = c.end_of-end.ensures ∙ ap (place_after n) c.as_slice.ensures in
    let seen : IsFault c.index-given-number.result.items (place_after n file.bytes) error = subst (λ (ts : List Token). IsFault ts (place_after n file.bytes) error) c.deref.ensures.value (subst (λ (at : Span). IsFault c.deref.result.now at error) end c.in-Err.ensures.faults) in
    let here : IsFault tokens (place_after n file.bytes) error = fault_bare c.index-given-number.result.items (place_after n file.bytes) error seen in
    let refused = parse_refused (λ (e : ReadError). IsUnparsed 0 files all e) n (drop n files) (drop (n + 1) files) file rest later tokens error split tokens_split here c.loop-number.invariant.faults in
    subst (λ (e : ReadError). (e ≡ Memory) ⊎ IsUnparsed 0 files all e) (sym c.of_parse.ensures) refused
