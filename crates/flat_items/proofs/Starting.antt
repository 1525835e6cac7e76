-- The scope of a turn.
use Rattle.flat_items.proofs.Common.{◌≡◌, List, true, Some, ap, ◌∙◌, GenerateLoop, Names, Signal, Opened, unopened, own_name, Turn, turn_start, Place}
use Rattle.vlog_meaning.specs.declared.scope.Decl.{Decl}
use Rattle.vlog_meaning.specs.declared.scope.Decl.TheVariants.{Constant}
use Rattle.flat_scopes.specs.declared.signal.What.TheVariants as w
use Rattle.flat_scopes.specs.Valued.{constant_name}
use Rattle.flat_scopes.specs.Words.{word}

pub turn_starts : (o n : Opened) (p : Place) (signals : List Signal) (x : Turn) (head : GenerateLoop) (decl : Decl) (names : Names)
    → names ≡ p.names → o ≡ unopened names signals → head ≡ x.head → decl ≡ Constant (word 32 x.value) 0 true → n ≡ constant_name o head.name decl (o.own head.name.name) → n ≡ turn_start p signals x
turn_starts o n p signals x head decl names same is heads decls e =
    let over : Names → GenerateLoop → Decl → Opened = λ (m : Names) (h : GenerateLoop) (d : Decl). own_name (unopened m signals) h.name.name w.Constant (Some d) in
    e ∙ ap (λ (y : Opened). constant_name y head.name decl (y.own head.name.name)) is ∙ ap (λ (m : Names). over m head decl) same ∙ ap (λ (h : GenerateLoop). over p.names h decl) heads ∙ ap (λ (d : Decl). over p.names x.head d) decls
