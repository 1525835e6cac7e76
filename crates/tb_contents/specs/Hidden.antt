-- The hidden signals of a testbench: one for each input and output of the design, behind the signals of its module.
use Rattle.std.specs.Prelude.{ℕ, ◌+◌, List, [], ◌∷◌, map, length}
use Rattle.netlist_core.specs.declared.port.Port.{Port}
use Rattle.vlog_meaning.specs.Scopes.{Names, with_name}
use Rattle.tb_items.specs.declared.design.Design.{Design}
use Rattle.tb_items.specs.Designs.{hidden_name, port_sign}
use Rattle.tb_signals.specs.Tables.{hidden_decl}

-- the numbers from one on, one for each port
abbrev pub numbers_from : ℕ → List Port → List ℕ
numbers_from n [] = []
numbers_from n (p ∷ more) = n ∷ numbers_from (n + 1) more

-- the names with those of the signals at these ports, whose numbers begin with this one
abbrev pub hidden_names : Design → (instance : List ℕ) → Names → ℕ → List Port → Names
hidden_names d instance names n [] = names
hidden_names d instance names n (p ∷ more) = hidden_names d instance (with_name names (hidden_name instance p.name) (hidden_decl (length p.bits) (port_sign d p.name) n)) (n + 1) more

abbrev pub port_widths : List Port → List ℕ
port_widths ports = map (λ p. length p.bits) ports
