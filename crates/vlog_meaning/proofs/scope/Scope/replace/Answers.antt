use Rattle.vlog_meaning.proofs.Common.{◌≡◌, ◌∙◌, true, false, sym, ap, is_some, names_of}
use Rattle.std.proofs.Common.{None, Some}
use Rattle.vlog_meaning.proofs.Lookups.{looked_up, updated}
use Rattle.vlog_meaning.proofs.scope.Scope.replace.Goals.{in-Some, in-None}
use Rattle.vlog_meaning.proofs.scope.Scope.replace.Goals as goal

pub returns-clause-replaced : goal.returns-clause-replaced
returns-clause-replaced c = elim c.match-get_mut.branch [
  | in-Some w ↦ rw (w.result-is, w.replace.ensures.value) (rw (← c.self.view_is) (w.in-Some.ensures.value ∙ looked_up c.args.name.now c.self.inside.names.entries))
  | in-None w ↦
      let none : None ≡ names_of c.args.self.now c.args.name.now = rw (← c.self.view_is) (w.in-None.ensures.value ∙ looked_up c.args.name.now c.self.inside.names.entries) in
      let no : false ≡ true = ap is_some none ∙ c.requires in cc
]

pub returns-clause-declared : goal.returns-clause-declared
returns-clause-declared c = elim c.match-get_mut.branch [
  | in-Some w ↦ rw (w.self-inside-is, w.replace.ensures.after) (rw (← c.self.view_is) (updated c.args.name.now c.self.inside.names (c.get_mut.follows.lender c.args.decl) (Some c.args.decl) ((c.get_mut.follows.holds c.args.decl).3 (ap is_some (sym w.in-Some.ensures.value)))))
  | in-None w ↦
      let none : None ≡ names_of c.args.self.now c.args.name.now = rw (← c.self.view_is) (w.in-None.ensures.value ∙ looked_up c.args.name.now c.self.inside.names.entries) in
      let no : false ≡ true = ap is_some none ∙ c.requires in cc
]
