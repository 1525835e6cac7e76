-- Each name in the head of a module is a port of it, or something is refused.
use Rattle.flat_laws.proofs.Common.{◌≡◌, ◌⊎◌, inl, inr, ℕ, Bool, true, false, List, [], ◌∷◌, ◌++◌, map, length, Option, None, Some, refl, sym, ap, ◌∙◌, subst, true≢false, slice_get, not, ◌&&◌, ◌||◌}
use Rattle.flat_laws.proofs.Common.{is_some, if◌then◌else◌, option_map, bytes_eq, bytes_eq-Decides, Identifier, DataType, DeclaredName, Direction, PortDeclaration, Ports, Named, Declarations, Module}
use Rattle.flat_laws.proofs.Common.{Names, Head, Refusal, Port, Signal, What, Opened, refuse, refused_type, type_of, has_bits, new_signal, same_signal, again_port, is_among, port_found, port_name}
use Rattle.flat_laws.proofs.Common.{initial, port_names, name_in, declared_ports, ports_of, IsDirected, HasDirection, IsPort, ArePorts}
use Rattle.flat_scopes.specs.declared.opening.Step.TheVariants as s
use Rattle.flat_scopes.specs.declared.refusal.Refusal.TheVariants as r
use Rattle.flat_scopes.specs.declared.signal.What.TheVariants as w
use Rattle.flat_scopes.specs.Opens.{Opens, signal_port, port_at, all_parameters, all_ports, header, undeclared, footer, OpensModule}
use Rattle.flat_laws.proofs.Lists.{either, holds_last, holds_there}
use Rattle.flat_laws.proofs.Growing.{Grows, SomeRefused, grows_self, refused_last, refused_more}
use Rattle.flat_laws.proofs.Opening.{Keeps, kept_type, kept_port, kept_initial, kept_ports}
use Rattle.flat_laws.proofs.Opened.{kept_items, kept_all_parameters, kept_port_declaration, kept_all_ports}

-- a name is a port, or something is refused
abbrev pub IsDone : Opened → List ℕ → Type 0
IsDone o name = IsPort o.signals (o.own name) ⊎ SomeRefused o.steps

abbrev pub AreDone : Opened → List Identifier → Type 0
AreDone o [] = Unit {0}
AreDone o (n ∷ more) = IsDone o n.name × AreDone o more

-- It stays so while the scope is opened further.

pub again : (start o : Opened) → Keeps start o → Keeps o o
again start o h = record { grows = grows_self o.signals; sized = h.sized; names = h.names; own = h.own; steps = h.steps; once = λ k. refl; owned = λ name x e. e; refused = λ some. some }

pub port_on : (old new : List Signal) (found : Option What) → Grows old new → IsPort old found → IsPort new found
port_on old new (Some (w.Variable k)) g h = g.directed k h
port_on old new (Some w.Constant) g h = h
port_on old new (Some w.Genvar) g h = h
port_on old new (Some w.Inside) g h = h
port_on old new None g h = h

owned_port : (a b : Opened) (name : List ℕ) → Keeps a b → IsPort a.signals (a.own name) → IsPort b.signals (b.own name)
owned_port a b name h port = go (a.own name) refl port where
  go : (found : Option What) → a.own name ≡ found → IsPort a.signals found → IsPort b.signals (b.own name)
  go None e x = absurd x
  go (Some what) e x = subst (IsPort b.signals) (sym (h.owned name what e)) (port_on a.signals b.signals (Some what) h.grows x)

done_on : (a b : Opened) (name : List ℕ) → Keeps a b → IsDone a name → IsDone b name
done_on a b name h (inl x) = inl (owned_port a b name h x)
done_on a b name h (inr x) = inr (h.refused x)

all_done_on : (a b : Opened) (names : List Identifier) → Keeps a b → AreDone a names → AreDone b names
all_done_on a b [] h d = tt
all_done_on a b (n ∷ more) h d = (done_on a b n.name h d.0, all_done_on a b more h d.1)

done_more : (o : Opened) (xs ys : List Identifier) → AreDone o xs → AreDone o ys → AreDone o (xs ++ ys)
done_more o [] ys h g = g
done_more o (x ∷ xs) ys h g = (h.0, done_more o xs ys h.1 g)

-- Ports that declarations in the head name.

refused_done : (o : Opened) (name : List ℕ) (x : Refusal) → IsDone (refuse o x) name
refused_done o name x = inr (refused_last o.steps (s.Refuses x) tt)

own_here : (name : List ℕ) (what : What) (other : Option What) → (if bytes_eq name name then Some what else other) ≡ Some what
own_here name what other = ap (λ (b : Bool). if b then Some what else other) ((bytes_eq-Decides name name).1 refl)

new_done : (o : Opened) (prefix : List ℕ) (id : Identifier) (t : _) (direction : Direction) (has_type : Bool) → IsDone (new_signal prefix o id t (Some direction) has_type) id.name
new_done o prefix id t direction has_type =
    let o2 = new_signal prefix o id t (Some direction) has_type in
    let g : Signal = record { name = prefix ++ id.name; span = id.span; bits = t.bits; is_signed = t.is_signed; direction = Some direction; has_type = has_type } in
    let last : HasDirection (slice_get o2.signals (length o.signals)) = holds_last HasDirection g o.signals tt in
    inl (subst (IsPort o2.signals) (sym (own_here id.name (w.Variable (length o.signals)) (o.own id.name))) last)

again_done : (o : Opened) (id : Identifier) (k : ℕ) (g : Option Signal) (t : _) (direction : Direction) → slice_get o.signals k ≡ g → o.own id.name ≡ Some (w.Variable k) → IsDone (again_port o id k g t direction) id.name
again_done o id k None t direction e own = refused_done o id.name (r.Twice id.span)
again_done o id k (Some g) t direction e own =
    let o2 = same_signal o id.name k g t (Some direction) g.has_type in
    let new : Signal = record g { is_signed = g.is_signed || t.is_signed; direction = Some direction; has_type = g.has_type } in
    let there : HasDirection (slice_get o2.signals k) = holds_there HasDirection new g o.signals k e tt in
    either (λ (x : Opened). IsDone x id.name) (not (is_some g.direction) && has_bits g t && not t.has_type) o2 (refuse o (r.Twice id.span))
    (inl (subst (IsPort o2.signals) (sym own) there)) (refused_done o id.name (r.Twice id.span))

found_done : (o : Opened) (head : Head) (id : Identifier) (t : _) (direction : Direction) (found : Option What) → o.own id.name ≡ found → IsDone (port_found head o id t direction found) id.name
found_done o head id t direction None e = new_done o head.prefix id t direction t.has_type
found_done o head id t direction (Some (w.Variable k)) e = again_done o id k (slice_get o.signals k) t direction refl e
found_done o head id t direction (Some w.Constant) e = refused_done o id.name (r.Twice id.span)
found_done o head id t direction (Some w.Genvar) e = refused_done o id.name (r.Twice id.span)
found_done o head id t direction (Some w.Inside) e = refused_done o id.name (r.Twice id.span)

port_done : (o : Opened) (head : Head) (id : Identifier) (t : _) (direction : Direction) → IsDone (port_name head o id t direction) id.name
port_done o head id t direction =
    either (λ (x : Opened). IsDone x id.name) (is_among head.ports id.name) (port_found head o id t direction (o.own id.name)) (refuse o (r.Unknown id.span))
    (found_done o head id t direction (o.own id.name) refl) (refused_done o id.name (r.Unknown id.span))

names_done : (start o : Opened) (head : Head) (scope : Names) (x : DataType) (direction : Direction) (names : List DeclaredName) → Keeps start o → AreDone (port_names head o (type_of scope x) direction names) (map name_in names)
names_done start o head scope x direction [] h = tt
names_done start o head scope x direction (n ∷ more) h =
    let t = type_of scope x in
    let first = port_name head o n.name t direction in
    let mid = initial first t n n.initial in
    let last = port_names head mid t direction more in
    let one : Keeps start first = kept_port start o head n.name scope x direction h in
    let two : Keeps first mid = kept_initial first first t n n.initial (again start first one) in
    let three : Keeps mid last = kept_ports mid mid head scope x direction more (again first mid two) in
    (done_on mid last n.name.name three (done_on first mid n.name.name two (port_done o head n.name t direction)), names_done first mid head scope x direction more two)

ports_done : (start o : Opened) (head : Head) (xs : List PortDeclaration) → Keeps start o → AreDone (all_ports head o xs) (declared_ports xs)
ports_done start o head [] h = tt
ports_done start o head (x ∷ more) h =
    let mid = port_names head (refused_type o x.data_type) (type_of o.names x.data_type) x.direction x.names in
    let last = all_ports head mid more in
    let one : Keeps start mid = kept_port_declaration start o head x h in
    let two : Keeps mid last = kept_all_ports mid mid head more (again start mid one) in
    done_more last (map name_in x.names) (declared_ports more)
    (all_done_on mid last (map name_in x.names) two (names_done start (refused_type o x.data_type) head o.names x.data_type x.direction x.names (kept_type start o x.data_type h)))
    (ports_done start mid head more one)

-- Names in the head that items declare.

abbrev port_in : ℕ → Direction → Port
port_in k direction = record { number = k; direction = direction }

is_directed : (k : ℕ) (d : Option Direction) → is_some (option_map (port_in k) d) ≡ true → IsDirected d
is_directed k None e = absurd (true≢false (sym e))
is_directed k (Some x) e = tt

is_port : (k : ℕ) (g : Option Signal) → is_some (signal_port k g) ≡ true → HasDirection g
is_port k None e = absurd (true≢false (sym e))
is_port k (Some g) e = is_directed k g.direction e

port_there : (o : Opened) (found : Option What) → is_some (port_at o found) ≡ true → IsPort o.signals found
port_there o (Some (w.Variable k)) e = is_port k (slice_get o.signals k) e
port_there o (Some w.Constant) e = absurd (true≢false (sym e))
port_there o (Some w.Genvar) e = absurd (true≢false (sym e))
port_there o (Some w.Inside) e = absurd (true≢false (sym e))
port_there o None e = absurd (true≢false (sym e))

declared_ports_are : (o : Opened) (names : List Identifier) → (SomeRefused (undeclared o names) → ⊥) → ArePorts o.signals o.own names
declared_ports_are o [] none = tt
declared_ports_are o (n ∷ more) none = go (is_some (port_at o (o.own n.name))) refl (λ clear. declared_ports_are o more clear) none where
  go : (b : Bool) → is_some (port_at o (o.own n.name)) ≡ b → ((SomeRefused (undeclared o more) → ⊥) → ArePorts o.signals o.own more) → (SomeRefused (if b then undeclared o more else s.Refuses (r.Unknown n.span) ∷ undeclared o more) → ⊥) → ArePorts o.signals o.own (n ∷ more)
  go true e later clear = (port_there o (o.own n.name) e, later clear)
  go false e later clear = absurd (clear (inl tt))

done_ports_are : (o : Opened) (names : List Identifier) → (SomeRefused o.steps → ⊥) → AreDone o names → ArePorts o.signals o.own names
done_ports_are o [] none h = tt
done_ports_are o (n ∷ more) none (inl port, later) = (port, done_ports_are o more none later)
done_ports_are o (n ∷ more) none (inr some, later) = absurd (none some)

-- Where nothing is refused in a module, each name in its head is a port.
pub module_ports : (start first last : Opened) (head : Head) (outside : Names) (m : Module) → OpensModule head outside m first last → Keeps start first → (SomeRefused last.steps → ⊥) → ArePorts last.signals last.own (ports_of m.ports)
module_ports start first last head outside m d h none = go m.ports refl where
  opened : Opened
  opened = all_parameters head outside first m.parameters

  all : Keeps start opened
  all = kept_all_parameters start first head outside m.parameters h

  go : (ports : Ports) → m.ports ≡ ports → ArePorts last.signals last.own (ports_of m.ports)
  go (Named names) is =
      let end : last ≡ footer d.body (Named names) = d.end ∙ ap (footer d.body) is in
      let clear : SomeRefused (undeclared d.body names ++ d.body.steps) → ⊥ = λ some. none (subst (λ (x : Opened). SomeRefused x.steps) (sym end) some) in
      let ports : ArePorts d.body.signals d.body.own names = declared_ports_are d.body names (λ some. clear (refused_more (undeclared d.body names) d.body.steps some)) in
      subst (λ (x : Ports). ArePorts last.signals last.own (ports_of x)) (sym is) (subst (λ (x : Opened). ArePorts x.signals x.own names) (sym end) ports)
  go (Declarations xs) is =
      let end : last ≡ d.body = d.end ∙ ap (footer d.body) is in
      let front = all_ports head opened xs in
      let from : Opens head outside front m.items d.body = subst (λ (x : Ports). Opens head outside (header head opened x) m.items d.body) is d.items in
      let kept : Keeps front d.body = kept_items front head outside front d.body m.items from (again start front (kept_all_ports start opened head xs all)) in
      let done : AreDone d.body (declared_ports xs) = all_done_on front d.body (declared_ports xs) kept (ports_done start opened head xs all) in
      let ports : ArePorts d.body.signals d.body.own (declared_ports xs) = done_ports_are d.body (declared_ports xs) (λ some. none (subst (λ (x : Opened). SomeRefused x.steps) (sym end) some)) done in
      subst (λ (x : Ports). ArePorts last.signals last.own (ports_of x)) (sym is) (subst (λ (x : Opened). ArePorts x.signals x.own (declared_ports xs)) (sym end) ports)
