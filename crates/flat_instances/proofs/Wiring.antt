-- A port has a connection where its name is among those of the ports that connections have.
use Rattle.flat_instances.proofs.Common.{◌≡◌, ℕ, Bool, ◌||◌, List, [], ◌∷◌, refl, ap, is_among, is_wired, ports_in}
use Rattle.std.specs.Str.{bytes_eq}
use Rattle.flat_scopes.specs.declared.wire.Wire.{Wire}
use Rattle.flat_scopes.specs.declared.wire.Wire.TheVariants.{To, Mismatch}

pub among_ports : (wires : List Wire) (name : List ℕ) → is_among (ports_in wires) name ≡ is_wired wires name
among_ports [] name = refl
among_ports (Mismatch at ∷ more) name = among_ports more name
among_ports (To port value ∷ more) name = ap (λ (b : Bool). bytes_eq port.name name || b) (among_ports more name)
