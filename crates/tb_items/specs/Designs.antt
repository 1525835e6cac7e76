-- The design of a testbench: its module's name, the ports in its head, and what each is.
use Rattle.std.specs.Prelude.{ℕ, Bool, false, List, ◌∷◌, ◌++◌, Option, None, Some, slice_get, if◌then◌else◌}
use Rattle.std.specs.Str.{bytes_eq}
use Rattle.vlog_syntax.specs.declared.item.Direction.{Direction}
use Rattle.vlog_syntax.specs.declared.item.Direction.TheVariants as d
use Rattle.flat_scopes.specs.declared.signal.Port.{Port}
use Rattle.flat_scopes.specs.declared.signal.Signal.{Signal}
use Rattle.flat_scopes.specs.Openings.{Opened}
use Rattle.flat_scopes.specs.Opens.{port_at}
use Rattle.flat_scopes.specs.Views.{opened_of}
use Rattle.tb_items.specs.declared.design.Design.{Design}
use Rattle.tb_items.specs.declared.design.Role.{Role}
use Rattle.tb_items.specs.declared.design.Role.TheVariants.{Clock, Input, Output}

-- a name that is the clock's, where there is a clock
abbrev pub is_clock : Option (List ℕ) → List ℕ → Bool
is_clock None name = false
is_clock (Some clock) name = bytes_eq clock name

abbrev pub named_port : Opened → List ℕ → Option Port
named_port o name = port_at o (o.own name)

abbrev pub direction_role : Direction → Role
direction_role d.Input = Input
direction_role d.Output = Output

-- what is no port of the module is taken as an input
abbrev pub port_role : Option Port → Role
port_role None = Input
port_role (Some p) = direction_role p.direction

-- what a port is
abbrev pub role_of : Design → List ℕ → Role
role_of x name = if is_clock x.clock name then Clock else port_role (named_port (opened_of x.top) name)

abbrev pub signal_sign : Option Signal → Bool
signal_sign None = false
signal_sign (Some s) = s.is_signed

abbrev pub sign_at : List Signal → Option Port → Bool
sign_at signals None = false
sign_at signals (Some p) = signal_sign (slice_get signals p.number)

-- whether a port is signed
abbrev pub port_sign : Design → List ℕ → Bool
port_sign x name = sign_at (opened_of x.top).signals (named_port (opened_of x.top) name)

-- the name of the hidden signal of a port: the instance's name, a blank, and the port's name
abbrev pub hidden_name : List ℕ → List ℕ → List ℕ
hidden_name instance port = instance ++ 32 ∷ port
