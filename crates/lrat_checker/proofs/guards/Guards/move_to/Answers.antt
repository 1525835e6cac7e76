use Rattle.lrat_checker.proofs.Common.{◌≡◌, ◌<◌, ◌∙◌, length, map, arith, rules, FitsSigned, w32, to_z-of_z, length-map, place_of, lists_of, moved}
use Rattle.lrat_checker.proofs.Guarding.{are-same, are-moved}
use Rattle.lrat_checker.proofs.guards.Guards.move_to.Goals as goal

pub returns-in_err-move_number-clause-guarded : goal.returns-in_err-move_number-clause-guarded
returns-in_err-move_number-clause-guarded c = λ lemmas own guarded. are-same lemmas c.args.self.now _ c.in_err-move_number.ensures.err guarded

pub returns-clause-guarded : goal.returns-clause-guarded
returns-clause-guarded c = λ lemmas own guarded.
    let fits : FitsSigned w32 c.args.l = search rules in
    let place : c.place_of-to.result ≡ place_of c.args.l = rw (to_z-of_z w32 c.args.l fits) at c.place_of-to.ensures in
    let lists : map (λ list. list.items) c.move_number.new.lists.items ≡ moved (lists_of c.args.self.now) c.args.from (place_of c.args.l) c.args.number = rw place at c.in_ok-move_number.ensures.ok in
    let count : length (lists_of c.args.self.now) ≡ length c.args.self.now.lists.items = length-map c.args.self.now.lists.items (λ list. list.items) in
    let here : c.args.from < length (lists_of c.args.self.now) = omega (arith, count, c.requires.from) in
    let there : place_of c.args.l < length (lists_of c.args.self.now) = omega (arith, count, place) in
    are-moved lemmas c.args.self.now _ c.args.from c.args.number c.args.l lists here there (λ same. c.if-to-from.false (place ∙ same)) c.requires.last own guarded
