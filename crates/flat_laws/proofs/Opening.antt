-- What each declaration keeps of a scope that is being opened: signals only become more and keep their bits, names are those of
-- signals with the same bits, and each new signal is declared once.
use Rattle.flat_laws.proofs.Common.{◌≡◌, ℕ, ◌+◌, ◌<◌, ◌≤◌, Bool, true, false, List, [], ◌∷◌, ◌++◌, length, Option, None, Some, Result, Ok, Err, refl, sym, ap, ◌∙◌, subst, arith, true≢false, slice_get}
use Rattle.flat_laws.proofs.Common.{slice_set, not, ◌&&◌, ◌||◌, is_some, if◌then◌else◌, bytes_eq, length_push, length-set, bytes_eq-Decides, Identifier, Expr, Direction, DataType, Wire, Reg, Integer}
use Rattle.flat_laws.proofs.Common.{DeclaredName, Decl, Names, Head, Step, VectorBits, Refusal, Signal, What, Opened, step, refuse, own_name, plain_name, genvar_names, refused_range, refused_type}
use Rattle.flat_laws.proofs.Common.{type_of, new_signal, same_signal, has_bits, again_port, again_data, is_among, port_found, port_name, data_name, variable_start, initial, port_names, data_names}
use Rattle.flat_laws.proofs.Common.{bits_of_range, IsDirected, AreSized, HasBits, NamesSignal, OwnsSignal}
use Rattle.vlog_syntax.specs.declared.item.Instance.{Instance}
use Rattle.vlog_syntax.specs.declared.item.ParameterValues.{ParameterValues}
use Rattle.vlog_meaning.specs.declared.scope.Decl.TheVariants as d
use Rattle.flat_scopes.specs.declared.opening.Step.TheVariants as s
use Rattle.flat_scopes.specs.declared.range.RangeError.{RangeError}
use Rattle.flat_scopes.specs.declared.refusal.Refusal.TheVariants as r
use Rattle.flat_scopes.specs.declared.signal.What.TheVariants as w
use Rattle.flat_scopes.specs.Insides.{inner_name, placing, placed, instances, block_names}
use Rattle.flat_laws.proofs.Lists.{either, holds_last, below, here, below_more}
use Rattle.flat_laws.proofs.Sizes.{type_within}
use Rattle.flat_laws.proofs.Growing.{Grows, grows_on, grows_more, grows_set, sized_more, sized_set, named_on, owned_on, StepStands, AllSteps, listed, times_listed, SomeRefused, steps_on, steps_more}
use Rattle.flat_laws.proofs.Growing.{times_more, refused_more}

-- A scope that is being opened from another one on stands, and has what that has.
pub record Keeps (start o : Opened) : Type 0 where
  pub grows : Grows start.signals o.signals
  pub sized : AreSized o.signals
  pub names : (name : List ℕ) → NamesSignal o.signals (o.names name)
  pub own : (name : List ℕ) → OwnsSignal (length o.signals) (o.own name)
  pub steps : AllSteps (length o.signals) o.steps
  pub once : (k : ℕ) → times_listed k o.steps + below k (length start.signals) ≡ times_listed k start.steps + below k (length o.signals)
  pub owned : (name : List ℕ) (x : What) → start.own name ≡ Some x → o.own name ≡ Some x
  pub refused : SomeRefused start.steps → SomeRefused o.steps

pub kept_step : (start o : Opened) (x : Step) → Keeps start o → StepStands (length o.signals) x → ((k : ℕ) → listed k x ≡ 0) → Keeps start (step o x)
kept_step start o x h stands none = record {
  grows = h.grows;
  sized = h.sized;
  names = h.names;
  own = h.own;
  steps = steps_more (length o.signals) o.steps (x ∷ []) h.steps (stands, tt);
  once = λ k.
      let e : times_listed k (o.steps ++ x ∷ []) ≡ times_listed k o.steps + (listed k x + 0) = times_more k o.steps (x ∷ []) in
      let z = none k in
      let f = h.once k in
      omega (arith, e, z, f);
  owned = h.owned;
  refused = λ some. refused_more o.steps (x ∷ []) (h.refused some);
}

pub kept_refuse : (start o : Opened) (x : Refusal) → Keeps start o → Keeps start (refuse o x)
kept_refuse start o x h = kept_step start o (s.Refuses x) h tt (λ k. refl)

-- a name that the scope did not declare leaves those that it did
still_owned : (name other : List ℕ) (what x : What) (own : List ℕ → Option What) → own name ≡ None → own other ≡ Some x → (if bytes_eq name other then Some what else own other) ≡ Some x
still_owned name other what x own none e = go (bytes_eq name other) refl where
  go : (b : Bool) → bytes_eq name other ≡ b → (if b then Some what else own other) ≡ Some x
  go false is = e
  go true is =
      let same : name ≡ other = (bytes_eq-Decides name other).0 is in
      let clash : None ≡ Some x = sym none ∙ ap own same ∙ e in
      absurd (true≢false (sym (ap is_some clash)))

pub kept_name : (start o : Opened) (name : List ℕ) (what : What) (decl : Option Decl) → Keeps start o → o.own name ≡ None → OwnsSignal (length o.signals) (Some what) → NamesSignal o.signals decl → Keeps start (own_name o name what decl)
kept_name start o name what decl h none owns named = record {
  grows = h.grows;
  sized = h.sized;
  names = λ other. either (NamesSignal o.signals) (bytes_eq name other) decl (o.names other) named (h.names other);
  own = λ other. either (OwnsSignal (length o.signals)) (bytes_eq name other) (Some what) (o.own other) owns (h.own other);
  steps = h.steps;
  once = h.once;
  owned = λ other x e. still_owned name other what x o.own none (h.owned other x e);
  refused = h.refused;
}

-- a name for a genvar
pub kept_plain : (start o : Opened) (id : Identifier) (what : What) (found : Option What) → Keeps start o → o.own id.name ≡ found → OwnsSignal (length o.signals) (Some what) → Keeps start (plain_name o id what found)
kept_plain start o id what None h e owns = kept_name start o id.name what None h e owns tt
kept_plain start o id what (Some other) h e owns = kept_refuse start o (r.Twice id.span) h

pub kept_genvars : (start o : Opened) (names : List DeclaredName) → Keeps start o → Keeps start (genvar_names o names)
kept_genvars start o [] h = h
kept_genvars start o (n ∷ more) h = kept_genvars start (plain_name o n.name w.Genvar (o.own n.name.name)) more (kept_plain start o n.name w.Genvar (o.own n.name.name) h refl tt)

-- a name for an instance or a block
kept_inner : (start o : Opened) (name : List ℕ) (found : Option What) → Keeps start o → o.own name ≡ found → Keeps start (inner_name o name found)
kept_inner start o name None h e = kept_name start o name w.Inside None h e tt tt
kept_inner start o name (Some other) h e = h

pub kept_instances : (start o : Opened) (name : Identifier) (values : ParameterValues) (is_first : Bool) (xs : List Instance) → Keeps start o → Keeps start (instances o name values is_first xs)
kept_instances start o name values is_first [] h = h
kept_instances start o name values is_first (x ∷ more) h =
    let mid = inner_name o x.name.name (o.own x.name.name) in
    kept_instances start (placed o name values is_first x) name values false more (kept_step start mid (s.Places (placing o name values is_first x)) (kept_inner start o x.name.name (o.own x.name.name) h refl) tt (λ k. refl))

pub kept_blocks : (start o : Opened) (labels : List Identifier) → Keeps start o → Keeps start (block_names o labels)
kept_blocks start o [] h = h
kept_blocks start o (b ∷ more) h = kept_blocks start (inner_name o b.name (o.own b.name)) more (kept_inner start o b.name (o.own b.name) h refl)

-- types

pub kept_range : (start o : Opened) (x : Result VectorBits RangeError) → Keeps start o → Keeps start (refused_range o x)
kept_range start o (Ok bits) h = h
kept_range start o (Err e) h = kept_refuse start o (r.Range e) h

pub kept_type : (start o : Opened) (x : DataType) → Keeps start o → Keeps start (refused_type o x)
kept_type start o (Wire v) h = kept_range start o (bits_of_range o.names v.range) h
kept_type start o (Reg v) h = kept_range start o (bits_of_range o.names v.range) h
kept_type start o Integer h = h

-- signals

pub kept_signal : (start o : Opened) (prefix : List ℕ) (id : Identifier) (scope : Names) (x : DataType) (direction : Option Direction) (has_type : Bool) → Keeps start o → o.own id.name ≡ None → Keeps start (new_signal prefix o id (type_of scope x) direction has_type)
kept_signal start o prefix id scope x direction has_type h none =
    let t = type_of scope x in
    let n = length o.signals in
    let g : Signal = record { name = prefix ++ id.name; span = id.span; bits = t.bits; is_signed = t.is_signed; direction = direction; has_type = has_type } in
    let signals : List Signal = o.signals ++ g ∷ [] in
    let grown : Grows o.signals signals = grows_more o.signals g in
    let long : length signals ≡ n + 1 = length_push o.signals g in
    let last : HasBits t.bits.width t.bits.low (slice_get signals n) = holds_last (HasBits t.bits.width t.bits.low) g o.signals (refl, refl) in
    let inside : n < length signals = omega (arith, long) in
    let longer : n ≤ length signals = omega (arith, long) in
    record {
      grows = grows_on start.signals o.signals signals h.grows grown;
      sized = sized_more o.signals g h.sized (type_within scope x);
      names = λ other. either (NamesSignal signals) (bytes_eq id.name other) (Some (d.Signal t.bits.width t.bits.low t.is_signed n)) (o.names other) last (named_on o.signals signals (o.names other) grown (h.names other));
      own = λ other. either (OwnsSignal (length signals)) (bytes_eq id.name other) (Some (w.Variable n)) (o.own other) inside (owned_on n (length signals) (o.own other) longer (h.own other));
      steps = steps_more (length signals) o.steps (s.Declares n ∷ []) (steps_on n (length signals) o.steps longer h.steps) (inside, tt);
      once = λ k.
          let e : times_listed k (o.steps ++ s.Declares n ∷ []) ≡ times_listed k o.steps + (here k n + 0) = times_more k o.steps (s.Declares n ∷ []) in
          let f : below k (length signals) ≡ below k n + here k n = ap (below k) long ∙ below_more k n in
          let g = h.once k in
          omega (arith, e, f, g);
      owned = λ other what e. still_owned id.name other (w.Variable n) what o.own none (h.owned other what e);
      refused = λ some. refused_more o.steps (s.Declares n ∷ []) (h.refused some);
    }

kept_same : (start o : Opened) (name : List ℕ) (k : ℕ) (g : Signal) (t : _) (direction : Option Direction) (has_type : Bool) → Keeps start o → slice_get o.signals k ≡ Some g → (IsDirected g.direction → IsDirected direction) → Keeps start (same_signal o name k g t direction has_type)
kept_same start o name k g t direction has_type h e dir =
    let is_signed = g.is_signed || t.is_signed in
    let new : Signal = record g { is_signed = is_signed; direction = direction; has_type = has_type } in
    let signals : List Signal = slice_set o.signals k new in
    let grown : Grows o.signals signals = grows_set o.signals k g new e refl dir in
    let long : length signals ≡ length o.signals = length-set o.signals k new in
    let there : HasBits g.bits.width g.bits.low (slice_get signals k) = grown.same g.bits.width g.bits.low k (subst (HasBits g.bits.width g.bits.low) (sym e) (refl, refl)) in
    record {
      grows = grows_on start.signals o.signals signals h.grows grown;
      sized = sized_set o.signals k g new e refl h.sized;
      names = λ other. either (NamesSignal signals) (bytes_eq name other) (Some (d.Signal g.bits.width g.bits.low is_signed k)) (o.names other) there (named_on o.signals signals (o.names other) grown (h.names other));
      own = λ other. owned_on (length o.signals) (length signals) (o.own other) grown.longer (h.own other);
      steps = steps_on (length o.signals) (length signals) o.steps grown.longer h.steps;
      once = λ n. h.once n ∙ ap (λ (m : ℕ). times_listed n start.steps + below n m) (sym long);
      owned = h.owned;
      refused = h.refused;
    }

-- the second declaration of a port

kept_again_port : (start o : Opened) (id : Identifier) (k : ℕ) (g : Option Signal) (t : _) (direction : Direction) → Keeps start o → slice_get o.signals k ≡ g → Keeps start (again_port o id k g t direction)
kept_again_port start o id k None t direction h e = kept_refuse start o (r.Twice id.span) h
kept_again_port start o id k (Some g) t direction h e =
    either (Keeps start) (not (is_some g.direction) && has_bits g t && not t.has_type) (same_signal o id.name k g t (Some direction) g.has_type) (refuse o (r.Twice id.span))
    (kept_same start o id.name k g t (Some direction) g.has_type h e (λ x. tt))
    (kept_refuse start o (r.Twice id.span) h)

kept_again_data : (start o : Opened) (id : Identifier) (k : ℕ) (g : Option Signal) (t : _) → Keeps start o → slice_get o.signals k ≡ g → Keeps start (again_data o id k g t)
kept_again_data start o id k None t h e = kept_refuse start o (r.Twice id.span) h
kept_again_data start o id k (Some g) t h e =
    either (Keeps start) (is_some g.direction && has_bits g t && not g.has_type) (same_signal o id.name k g t g.direction true) (refuse o (r.Twice id.span))
    (kept_same start o id.name k g t g.direction true h e (λ x. x))
    (kept_refuse start o (r.Twice id.span) h)

pub kept_found : (start o : Opened) (head : Head) (id : Identifier) (scope : Names) (x : DataType) (direction : Direction) (found : Option What) → Keeps start o → o.own id.name ≡ found → Keeps start (port_found head o id (type_of scope x) direction found)
kept_found start o head id scope x direction None h e = kept_signal start o head.prefix id scope x (Some direction) (type_of scope x).has_type h e
kept_found start o head id scope x direction (Some (w.Variable k)) h e = kept_again_port start o id k (slice_get o.signals k) (type_of scope x) direction h refl
kept_found start o head id scope x direction (Some w.Constant) h e = kept_refuse start o (r.Twice id.span) h
kept_found start o head id scope x direction (Some w.Genvar) h e = kept_refuse start o (r.Twice id.span) h
kept_found start o head id scope x direction (Some w.Inside) h e = kept_refuse start o (r.Twice id.span) h

pub kept_port : (start o : Opened) (head : Head) (id : Identifier) (scope : Names) (x : DataType) (direction : Direction) → Keeps start o → Keeps start (port_name head o id (type_of scope x) direction)
kept_port start o head id scope x direction h =
    either (Keeps start) (is_among head.ports id.name) (port_found head o id (type_of scope x) direction (o.own id.name)) (refuse o (r.Unknown id.span))
    (kept_found start o head id scope x direction (o.own id.name) h refl)
    (kept_refuse start o (r.Unknown id.span) h)

kept_data : (start o : Opened) (head : Head) (id : Identifier) (scope : Names) (x : DataType) (found : Option What) → Keeps start o → o.own id.name ≡ found → Keeps start (data_name head o id (type_of scope x) found)
kept_data start o head id scope x None h e = kept_signal start o head.prefix id scope x None true h e
kept_data start o head id scope x (Some (w.Variable k)) h e = kept_again_data start o id k (slice_get o.signals k) (type_of scope x) h refl
kept_data start o head id scope x (Some w.Constant) h e = kept_refuse start o (r.Twice id.span) h
kept_data start o head id scope x (Some w.Genvar) h e = kept_refuse start o (r.Twice id.span) h
kept_data start o head id scope x (Some w.Inside) h e = kept_refuse start o (r.Twice id.span) h

-- initial values

kept_start : (start o : Opened) (found : Option What) (value : Expr) → Keeps start o → OwnsSignal (length o.signals) found → Keeps start (variable_start o found value)
kept_start start o (Some (w.Variable k)) value h owns = kept_step start o (s.Starts k value) h owns (λ n. refl)
kept_start start o (Some w.Constant) value h owns = h
kept_start start o (Some w.Genvar) value h owns = h
kept_start start o (Some w.Inside) value h owns = h
kept_start start o None value h owns = h

pub kept_initial : (start o : Opened) (t : _) (n : DeclaredName) (value : Option Expr) → Keeps start o → Keeps start (initial o t n value)
kept_initial start o t n None h = h
kept_initial start o t n (Some x) h =
    either (Keeps start) t.is_wire (step o (s.Drives n.name x)) (variable_start o (o.own n.name.name) x)
    (kept_step start o (s.Drives n.name x) h tt (λ k. refl))
    (kept_start start o (o.own n.name.name) x h (h.own n.name.name))

pub kept_ports : (start o : Opened) (head : Head) (scope : Names) (x : DataType) (direction : Direction) (names : List DeclaredName) → Keeps start o → Keeps start (port_names head o (type_of scope x) direction names)
kept_ports start o head scope x direction [] h = h
kept_ports start o head scope x direction (n ∷ more) h =
    let t = type_of scope x in
    let mid = port_name head o n.name t direction in
    kept_ports start (initial mid t n n.initial) head scope x direction more (kept_initial start mid t n n.initial (kept_port start o head n.name scope x direction h))

pub kept_all_data : (start o : Opened) (head : Head) (scope : Names) (x : DataType) (names : List DeclaredName) → Keeps start o → Keeps start (data_names head o (type_of scope x) names)
kept_all_data start o head scope x [] h = h
kept_all_data start o head scope x (n ∷ more) h =
    let t = type_of scope x in
    let mid = data_name head o n.name t (o.own n.name.name) in
    kept_all_data start (initial mid t n n.initial) head scope x more (kept_initial start mid t n n.initial (kept_data start o head n.name scope x (o.own n.name.name) h refl))
