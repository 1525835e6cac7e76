-- What the items of a scope and whole modules keep of it.
use Rattle.flat_laws.proofs.Common.{◌≡◌, inr, ℕ, ◌+◌, true, List, [], ◌∷◌, ◌++◌, length, Option, None, Some, refl, sym, subst, arith, is_some, if◌then◌else◌, Identifier, Expr, Item, out-Item}
use Rattle.flat_laws.proofs.Common.{PlainItem, PortDeclaration, Ports, Named, Declarations, Module, Fault, Decl, least, const_error, Names, Sense, Head, Step, Signal, What, Opened, step, refuse}
use Rattle.flat_laws.proofs.Common.{is_among, refused_type, type_of, port_names, bits_of_range, NamesSignal}
use Rattle.vlog_syntax.specs.declared.item.Item.TheVariants as i
use Rattle.vlog_syntax.specs.declared.item.ParameterKind.{ParameterKind}
use Rattle.vlog_syntax.specs.declared.item.ParameterType.{ParameterType}
use Rattle.vlog_syntax.specs.declared.item.ParameterType.TheVariants.{Vector, Integer}
use Rattle.vlog_syntax.specs.declared.item.ParameterAssignment.{ParameterAssignment}
use Rattle.vlog_syntax.specs.declared.item.ParameterDeclaration.{ParameterDeclaration}
use Rattle.vlog_syntax.specs.declared.item.PlainItem.TheVariants as p
use Rattle.vlog_meaning.specs.declared.fault.ConstError.{ConstError}
use Rattle.flat_scopes.specs.declared.opening.Step.TheVariants as s
use Rattle.flat_scopes.specs.declared.parameter.ParameterBits.{ParameterBits}
use Rattle.flat_scopes.specs.declared.parameter.ParameterBits.TheVariants.{OfValue, OfRange}
use Rattle.flat_scopes.specs.declared.refusal.Refusal.TheVariants as r
use Rattle.flat_scopes.specs.declared.signal.What.TheVariants as w
use Rattle.flat_scopes.specs.Insides.{block_names, first_taken}
use Rattle.flat_scopes.specs.Opens.{declared, labels_of, body_labels, merged, construct, Opens, opened, open_plain, open_region, open_loop, open_if, open_block, open_null, port_at, all_parameters}
use Rattle.flat_scopes.specs.Opens.{header_names, all_ports, header, undeclared, footer, OpensModule}
use Rattle.flat_scopes.specs.Parameters.{parameter_faults}
use Rattle.flat_scopes.specs.Valued.{refused_bits, parameter_bits, given_for, value_sense, value_fault, declared_as, zero_as, constant_name, valued, parameter_name, parameter_names, parameters}
use Rattle.flat_laws.proofs.Lists.{either}
use Rattle.flat_laws.proofs.Growing.{AllSteps, SomeRefused, times_listed, times_more, steps_more}
use Rattle.flat_laws.proofs.Opening.{Keeps, kept_step, kept_refuse, kept_name, kept_genvars, kept_instances, kept_blocks, kept_range, kept_type, kept_ports, kept_all_data}

-- Parameters.

kept_bits : (start o : Opened) (x : ParameterType) → Keeps start o → Keeps start (refused_bits o x)
kept_bits start o (Vector v) h = kept_range start o (bits_of_range o.names v.range) h
kept_bits start o Integer h = h

kept_constant : (start o : Opened) (id : Identifier) (decl : Decl) (found : Option What) → Keeps start o → o.own id.name ≡ found → NamesSignal o.signals (Some decl) → Keeps start (constant_name o id decl found)
kept_constant start o id decl None h e named = kept_name start o id.name w.Constant (Some decl) h e tt named
kept_constant start o id decl (Some other) h e named = kept_refuse start o (r.Twice id.span) h

value_named : (signals : List Signal) (bits : ParameterBits) (a : Sense) → NamesSignal signals (Some (declared_as bits a))
value_named signals (OfValue signed) a = tt
value_named signals (OfRange bits signed) a = tt

zero_named : (signals : List Signal) (bits : ParameterBits) → NamesSignal signals (Some (zero_as bits))
zero_named signals (OfValue signed) = tt
zero_named signals (OfRange bits signed) = tt

kept_fault : (start o : Opened) (given : Option Expr) (e : ConstError) → Keeps start o → Keeps start (step o (value_fault given e))
kept_fault start o (Some x) e h = kept_step start o (s.RefusesGiven e) h tt (λ k. refl)
kept_fault start o None e h = kept_refuse start o (r.Value e) h

kept_valued : (start o : Opened) (bits : ParameterBits) (id : Identifier) (given : Option Expr) (a : Sense) (fault : Option Fault) → Keeps start o → Keeps start (valued o bits id given a fault)
kept_valued start o bits id given a None h = kept_constant start o id (declared_as bits a) (o.own id.name) h refl (value_named o.signals bits a)
kept_valued start o bits id given a (Some x) h =
    kept_fault start (constant_name o id (zero_as bits) (o.own id.name)) given (const_error x) (kept_constant start o id (zero_as bits) (o.own id.name) h refl (zero_named o.signals bits))

kept_parameter : (start o : Opened) (head : Head) (outside : Names) (kind : ParameterKind) (bits : ParameterBits) (x : ParameterAssignment) → Keeps start o → Keeps start (parameter_name head outside o kind bits x)
kept_parameter start o head outside kind bits x h =
    let given = given_for kind head.given x.name.name in
    let a = value_sense outside o.names given x.value in
    kept_valued start o bits x.name given a (least (parameter_faults bits a)) h

kept_assigned : (start o : Opened) (head : Head) (outside : Names) (kind : ParameterKind) (bits : ParameterBits) (xs : List ParameterAssignment) → Keeps start o → Keeps start (parameter_names head outside o kind bits xs)
kept_assigned start o head outside kind bits [] h = h
kept_assigned start o head outside kind bits (x ∷ more) h = kept_assigned start (parameter_name head outside o kind bits x) head outside kind bits more (kept_parameter start o head outside kind bits x h)

pub kept_parameters : (start o : Opened) (head : Head) (outside : Names) (x : ParameterDeclaration) → Keeps start o → Keeps start (parameters head outside o x)
kept_parameters start o head outside x h = kept_assigned start (refused_bits o x.data_type) head outside x.kind (parameter_bits o.names x.data_type) x.assignments (kept_bits start o x.data_type h)

pub kept_all_parameters : (start o : Opened) (head : Head) (outside : Names) (xs : List ParameterDeclaration) → Keeps start o → Keeps start (all_parameters head outside o xs)
kept_all_parameters start o head outside [] h = h
kept_all_parameters start o head outside (x ∷ more) h = kept_all_parameters start (parameters head outside o x) head outside more (kept_parameters start o head outside x h)

-- Items.

kept_declared : (start o : Opened) (head : Head) (outside : Names) (x : PlainItem) → Keeps start o → Keeps start (declared head outside o x)
kept_declared start o head outside (p.PortDeclaration x) h = kept_ports start (refused_type o x.data_type) head o.names x.data_type x.direction x.names (kept_type start o x.data_type h)
kept_declared start o head outside (p.DataDeclaration x) h = kept_all_data start (refused_type o x.data_type) head o.names x.data_type x.names (kept_type start o x.data_type h)
kept_declared start o head outside (p.GenvarDeclaration at names) h = kept_genvars start o names h
kept_declared start o head outside (p.ParameterDeclaration x) h = kept_parameters start o head outside x h
kept_declared start o head outside (p.ContinuousAssign at delay assignments) h = kept_step start o (s.Lists (p.ContinuousAssign at delay assignments)) h tt (λ k. refl)
kept_declared start o head outside (p.Process x) h = kept_step start o (s.Lists (p.Process x)) h tt (λ k. refl)
kept_declared start o head outside (p.ModuleInstantiation name values list) h = kept_instances start o name values true list h

-- the number of constructs plays no part
kept_counted : (start o : Opened) (n : ℕ) → Keeps start o → Keeps start (record o { constructs = n })
kept_counted start o n h = record { grows = h.grows; sized = h.sized; names = h.names; own = h.own; steps = h.steps; once = h.once; owned = h.owned; refused = h.refused }

kept_construct : (start o : Opened) (item : Item) (labels : List Identifier) → Keeps start o → Keeps start (construct o item labels)
kept_construct start o item labels h =
    let mid = block_names o labels in
    kept_step start (record mid { constructs = mid.constructs + 1 }) (s.Generates (mid.constructs + 1) item (first_taken o labels)) (kept_counted start mid (mid.constructs + 1) (kept_blocks start o labels h)) tt (λ k. refl)

pub kept_items : (start : Opened) (head : Head) (outside : Names) (o last : Opened) (items : List Item) → Opens head outside o items last → Keeps start o → Keeps start last
kept_items start head outside o last items (opened x) h = h
kept_items start head outside o last items (open_plain x end item more d) h = kept_items start head outside (declared head outside x item) end more d (kept_declared start x head outside item h)
kept_items start head outside o last items (open_region x mid end at inner more d e) h = kept_items start head outside mid end more e (kept_items start head outside x mid inner d h)
kept_items start head outside o last items (open_loop x end loop body more d) h = kept_items start head outside (construct x (i.LoopGenerate loop body) (body_labels (out-Item body))) end more d (kept_construct start x (i.LoopGenerate loop body) (body_labels (out-Item body)) h)
kept_items start head outside o last items (open_if x end at c first second more d) h = kept_items start head outside (construct x (i.IfGenerate at c first second) (merged [] (labels_of (i.IfGenerate at c first second)))) end more d (kept_construct start x (i.IfGenerate at c first second) (merged [] (labels_of (i.IfGenerate at c first second))) h)
kept_items start head outside o last items (open_block x end at name inner more d) h = kept_items start head outside x end more d h
kept_items start head outside o last items (open_null x end at more d) h = kept_items start head outside x end more d h

-- Modules.

kept_header_names : (start o : Opened) (seen names : List Identifier) → Keeps start o → Keeps start (header_names o seen names)
kept_header_names start o seen [] h = h
kept_header_names start o seen (n ∷ more) h =
    kept_header_names start (if is_among seen n.name then refuse o (r.Twice n.span) else o) (seen ++ n ∷ []) more
    (either (Keeps start) (is_among seen n.name) (refuse o (r.Twice n.span)) o (kept_refuse start o (r.Twice n.span) h) h)

pub kept_port_declaration : (start o : Opened) (head : Head) (x : PortDeclaration) → Keeps start o → Keeps start (port_names head (refused_type o x.data_type) (type_of o.names x.data_type) x.direction x.names)
kept_port_declaration start o head x h = kept_ports start (refused_type o x.data_type) head o.names x.data_type x.direction x.names (kept_type start o x.data_type h)

pub kept_all_ports : (start o : Opened) (head : Head) (xs : List PortDeclaration) → Keeps start o → Keeps start (all_ports head o xs)
kept_all_ports start o head [] h = h
kept_all_ports start o head (x ∷ more) h = kept_all_ports start (port_names head (refused_type o x.data_type) (type_of o.names x.data_type) x.direction x.names) head more (kept_port_declaration start o head x h)

pub kept_header : (start o : Opened) (head : Head) (ports : Ports) → Keeps start o → Keeps start (header head o ports)
kept_header start o head (Named names) h = kept_header_names start o [] names h
kept_header start o head (Declarations xs) h = kept_all_ports start o head xs h

-- refusals in front of the items

undeclared_stand : (o : Opened) (n : ℕ) (names : List Identifier) → AllSteps n (undeclared o names)
undeclared_stand o n [] = tt
undeclared_stand o n (x ∷ more) = either (AllSteps n) (is_some (port_at o (o.own x.name))) (undeclared o more) (s.Refuses (r.Unknown x.span) ∷ undeclared o more) (undeclared_stand o n more) (tt, undeclared_stand o n more)

undeclared_none : (o : Opened) (k : ℕ) (names : List Identifier) → times_listed k (undeclared o names) ≡ 0
undeclared_none o k [] = refl
undeclared_none o k (x ∷ more) =
    let e = undeclared_none o k more in
    either (λ (xs : List Step). times_listed k xs ≡ 0) (is_some (port_at o (o.own x.name))) (undeclared o more) (s.Refuses (r.Unknown x.span) ∷ undeclared o more) e (omega (arith, e))

refused_behind : (xs ys : List Step) → SomeRefused ys → SomeRefused (xs ++ ys)
refused_behind [] ys h = h
refused_behind (x ∷ xs) ys h = inr (refused_behind xs ys h)

pub kept_footer : (start o : Opened) (ports : Ports) → Keeps start o → Keeps start (footer o ports)
kept_footer start o (Declarations xs) h = h
kept_footer start o (Named names) h =
    let missing = undeclared o names in
    record {
      grows = h.grows;
      sized = h.sized;
      names = h.names;
      own = h.own;
      steps = steps_more (length o.signals) missing o.steps (undeclared_stand o (length o.signals) names) h.steps;
      once = λ k.
          let e : times_listed k (missing ++ o.steps) ≡ times_listed k missing + times_listed k o.steps = times_more k missing o.steps in
          let z = undeclared_none o k names in
          let f = h.once k in
          omega (arith, e, z, f);
      owned = h.owned;
      refused = λ some. refused_behind missing o.steps (h.refused some);
    }

pub kept_module : (start first last : Opened) (head : Head) (outside : Names) (m : Module) → OpensModule head outside m first last → Keeps start first → Keeps start last
kept_module start first last head outside m d h =
    let parameters = all_parameters head outside first m.parameters in
    let ports = header head parameters m.ports in
    let body = kept_items start head outside ports d.body m.items d.items (kept_header start parameters head m.ports (kept_all_parameters start first head outside m.parameters h)) in
    subst (Keeps start) (sym d.end) (kept_footer start d.body m.ports body)
