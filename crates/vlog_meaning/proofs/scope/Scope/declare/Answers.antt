use Rattle.vlog_meaning.proofs.Common.{◌≡◌, ◌∙◌, true, false, sym, refl, is_some, names_of}
use Rattle.std.proofs.Common.{Some}
use Rattle.vlog_meaning.proofs.Lookups.{is_there, updated_at}
use Rattle.vlog_meaning.proofs.scope.Scope.declare.Goals.{in-Ok-insert, in-Err}
use Rattle.vlog_meaning.proofs.scope.Scope.declare.Goals as goal

pub returns-then-contains_key-clause-twice : goal.returns-then-contains_key-clause-twice
returns-then-contains_key-clause-twice c =
    let there : c.contains_key.result ≡ is_some (names_of c.args.self.now c.args.name.now) = rw (← c.self.view_is) (is_there c.args.name.now c.self.inside.names c.contains_key.result c.contains_key.ensures) in
    (λ e. sym there ∙ c.if-contains_key.true, λ h. refl)

pub returns-in_default-clause-twice : goal.returns-in_default-clause-twice
returns-in_default-clause-twice c =
    let there : c.contains_key.result ≡ is_some (names_of c.args.self.now c.args.name.now) = rw (← c.self.view_is) (is_there c.args.name.now c.self.inside.names c.contains_key.result c.contains_key.ensures) in
    let none : is_some (names_of c.args.self.now c.args.name.now) ≡ false = sym there ∙ c.if-contains_key.false in
    (λ e. cc, λ h. let no : false ≡ true = sym none ∙ h in cc)

pub returns-clause-declared : goal.returns-clause-declared
returns-clause-declared c = elim c.match-insert.branch [
  | in-Ok-insert w ↦ rw w.result-is (rw (← c.self.view_is) (updated_at c.in-Ok.key c.args.name.now c.self.inside.names c.insert.new.self (Some c.args.decl) c.in-Ok.ensures.ok (rw w.in-Ok-insert.is at c.insert.ensures.updates)))
  | in-Err w ↦ rw w.result-is tt
]

pub returns-clause-twice : goal.returns-clause-twice
returns-clause-twice c =
    let there : c.contains_key.result ≡ is_some (names_of c.args.self.now c.args.name.now) = rw (← c.self.view_is) (is_there c.args.name.now c.self.inside.names c.contains_key.result c.contains_key.ensures) in
    let none : is_some (names_of c.args.self.now c.args.name.now) ≡ false = sym there ∙ c.if-contains_key.false in
    elim c.match-insert.branch [
      | in-Ok-insert w ↦ rw w.result-is (λ e. cc, λ h. let no : false ≡ true = sym none ∙ h in cc)
      | in-Err w ↦ rw w.result-is (λ e. cc, λ h. let no : false ≡ true = sym none ∙ h in cc)
    ]
