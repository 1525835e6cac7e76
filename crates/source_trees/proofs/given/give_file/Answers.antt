use Rattle.source_trees.proofs.Common.{◌≡◌, ◌⊎◌, ℕ, List, map, sym, subst, Span, Token, place_after, Comes, IsCarriedOut, IsRefused, start, Gives, bare, token_of, ReadError, Memory, IsFileFault}
use Rattle.vlog_token.specs.Sources.{AreTokensOf, seen}
use Rattle.seen_tokens.proofs.BareFiles.{carried_out_bare, refused_bare}
use Rattle.source_trees.proofs.Steps.{bare_seen, directive_fault}
use Rattle.source_trees.proofs.given.give_file.Goals as goal

pub returns-in-Ok-expand-clause-given : goal.returns-in-Ok-expand-clause-given
returns-in-Ok-expand-clause-given c =
    let number : ℕ = c.args.number in
    let bytes : List ℕ = c.args.bytes.now in
    let all : List Token = c.in-Ok.all.items in
    let given : List Token = c.in-Ok-expand.given.items in
    let left : ℕ = c.expand.new.limit in
    let are : AreTokensOf number bytes (map seen all) = subst (λ (text : List ℕ). AreTokensOf number text (map seen all)) c.text_of.ensures c.in-Ok.ensures.tokens in
    let out : IsCarriedOut (place_after number bytes) all c.args.limit.now given left =
    subst (λ (ts : List Token). IsCarriedOut (place_after number bytes) ts c.args.limit.now given left) c.deref.ensures.value (subst (λ (end : Span). IsCarriedOut end c.deref.result.now c.args.limit.now given left) c.end_of.ensures c.in-Ok-expand.ensures.ok) in
    record {
      tokens = map seen all;
      are = are;
      comes = subst (λ (ts : List Token). Comes (place_after number bytes) (start ts) c.args.limit.now (Gives (map bare given) left)) (sym (bare_seen all)) (carried_out_bare (place_after number bytes) all given c.args.limit.now left out);
    }

pub returns-clause-refused : goal.returns-clause-refused
returns-clause-refused c =
    let number : ℕ = c.args.number in
    let bytes : List ℕ = c.args.bytes.now in
    let limit : ℕ = c.args.limit.now in
    let all : List Token = c.in-Ok.all.items in
    let are : AreTokensOf number bytes (map seen all) = subst (λ (text : List ℕ). AreTokensOf number text (map seen all)) c.text_of.ensures c.in-Ok.ensures.tokens in
    let refused : IsRefused (place_after number bytes) (start all) limit c.in-Err-expand.error =
    subst (λ (ts : List Token). IsRefused (place_after number bytes) (start ts) limit c.in-Err-expand.error) c.deref.ensures.value (subst (λ (end : Span). IsRefused end (start c.deref.result.now) limit c.in-Err-expand.error) c.end_of.ensures c.in-Err-expand.ensures.refused) in
    let bare_refused : IsRefused (place_after number bytes) (start (map token_of (map seen all))) limit c.in-Err-expand.error =
    subst (λ (ts : List Token). IsRefused (place_after number bytes) (start ts) limit c.in-Err-expand.error) (sym (bare_seen all)) (refused_bare (place_after number bytes) all limit c.in-Err-expand.error refused) in
    subst (λ (e : ReadError). (e ≡ Memory) ⊎ IsFileFault number bytes limit e) (sym c.of_parse.ensures) (directive_fault number bytes limit (map seen all) c.in-Err-expand.error are bare_refused)
