-- The values that an instance gives to the parameters of its module (IEEE 1364-2005, 12.2.2).
use Rattle.std.specs.Prelude.{not, List, [], ◌∷◌, ◌++◌, map, Option, None, Some, if◌then◌else◌}
use Rattle.mcy_base.specs.declared.span.Span.{Span}
use Rattle.mcy_base.specs.Places.{stands_before}
use Rattle.vlog_syntax.specs.declared.expr.Expr.{Expr}
use Rattle.vlog_syntax.specs.Places.{first_token}
use Rattle.vlog_syntax.specs.declared.identifier.Identifier.{Identifier}
use Rattle.vlog_syntax.specs.declared.item.Item.{Item}
use Rattle.vlog_syntax.specs.declared.item.Item.TheOpen as t
use Rattle.vlog_syntax.specs.declared.item.Item.TheOpen.{Item-F}
use Rattle.vlog_syntax.specs.declared.item.Item.TheFolds.{fold-Item}
use Rattle.vlog_syntax.specs.declared.item.NamedConnection.{NamedConnection}
use Rattle.vlog_syntax.specs.declared.item.ParameterAssignment.{ParameterAssignment}
use Rattle.vlog_syntax.specs.declared.item.ParameterDeclaration.{ParameterDeclaration}
use Rattle.vlog_syntax.specs.declared.item.ParameterKind.{ParameterKind}
use Rattle.vlog_syntax.specs.declared.item.ParameterKind.TheVariants.{Parameter, Localparam}
use Rattle.vlog_syntax.specs.declared.item.ParameterValues.{ParameterValues}
use Rattle.vlog_syntax.specs.declared.item.ParameterValues.TheVariants.{Ordered, Named}
use Rattle.vlog_syntax.specs.declared.item.PlainItem.{PlainItem}
use Rattle.vlog_syntax.specs.declared.item.PlainItem.TheVariants as p
use Rattle.vlog_syntax.specs.declared.module.Module.{Module}
use Rattle.vlog_meaning.specs.declared.fault.ConstError.{ConstError}
use Rattle.vlog_meaning.specs.declared.fault.ConstError.TheVariants as k
use Rattle.flat_scopes.specs.declared.opening.Given.{Given}
use Rattle.flat_scopes.specs.declared.opening.Step.{Step}
use Rattle.flat_scopes.specs.declared.opening.Step.TheVariants.{RefusesGiven}
use Rattle.flat_scopes.specs.Openings.{is_among}
use Rattle.flat_instances.specs.declared.error.ParameterError.{ParameterError}
use Rattle.flat_instances.specs.declared.error.ParameterError.TheVariants.{Unknown, Twice, TooMany, Value}

-- The parameters that an instance can give a value, in order. It gives a local parameter none.

abbrev pub name_of : ParameterAssignment → Identifier
name_of a = a.name

abbrev pub open_names : ParameterKind → List ParameterAssignment → List Identifier
open_names Parameter assignments = map name_of assignments
open_names Localparam assignments = []

abbrev pub declared_names : ParameterDeclaration → List Identifier
declared_names d = open_names d.kind d.assignments

abbrev pub head_names : List ParameterDeclaration → List Identifier
head_names [] = []
head_names (d ∷ more) = declared_names d ++ head_names more

abbrev pub plain_names : PlainItem → List Identifier
plain_names (p.ParameterDeclaration d) = declared_names d
plain_names other = []

abbrev pub all_names : List (List Identifier) → List Identifier
all_names [] = []
all_names (names ∷ more) = names ++ all_names more

-- the items of a region are those of its module
abbrev pub names_step : Item-F (List Identifier) → List Identifier
names_step (t.Plain x) = plain_names x
names_step (t.GenerateRegion at items) = all_names items
names_step other = []

abbrev pub item_names : Item → List Identifier
item_names = fold-Item (List Identifier) names_step

abbrev pub parameters_of : Module → List Identifier
parameters_of m = head_names m.parameters ++ all_names (map item_names m.items)

-- What is given, and what is refused.
pub record Gift : Type 0 where
  pub given : List Given
  pub refused : List ParameterError

abbrev pub no_gift : Gift
no_gift = record { given = []; refused = [] }

abbrev pub with_gift : Gift → Gift → Gift
with_gift a b = record { given = a.given ++ b.given; refused = a.refused ++ b.refused }

abbrev pub refused_gift : ParameterError → Gift
refused_gift x = record { given = []; refused = x ∷ [] }

abbrev pub gift : Identifier → Expr → Gift
gift n value = record { given = record { name = n; value = value } ∷ []; refused = [] }

-- By name: a name that the module lacks is refused, and one that was named before. A name may have no value.

abbrev pub why_not : (known seen : List Identifier) → Identifier → Option ParameterError
why_not known seen n = if not (is_among known n.name) then Some (Unknown n.span) else (if is_among seen n.name then Some (Twice n.span) else None)

abbrev pub one_gift : Identifier → Option Expr → Option ParameterError → Gift
one_gift n value (Some x) = refused_gift x
one_gift n None None = no_gift
one_gift n (Some value) None = gift n value

abbrev pub named_gift : (known seen : List Identifier) → NamedConnection → Gift
named_gift known seen c = one_gift c.name c.value (why_not known seen c.name)

abbrev pub named_gifts : (known seen : List Identifier) → List NamedConnection → Gift
named_gifts known seen [] = no_gift
named_gifts known seen (c ∷ more) = with_gift (named_gift known seen c) (named_gifts known (seen ++ c.name ∷ []) more)

-- By place: the first value without a parameter is refused.
abbrev pub ordered_gifts : (known : List Identifier) → List Expr → Gift
ordered_gifts known [] = no_gift
ordered_gifts [] (value ∷ more) = refused_gift (TooMany (first_token value))
ordered_gifts (n ∷ known) (value ∷ more) = with_gift (gift n value) (ordered_gifts known more)

abbrev pub gift_of : (known : List Identifier) → ParameterValues → Gift
gift_of known (Ordered values) = ordered_gifts known values
gift_of known (Named values) = named_gifts known [] values

-- A value that is no constant is found where the module is opened, and is a fault of the instance.
abbrev pub value_faults : List Step → List ParameterError
value_faults [] = []
value_faults (RefusesGiven e ∷ more) = Value e ∷ value_faults more
value_faults (other ∷ more) = value_faults more

-- The first of such faults by place.

abbrev pub const_place : ConstError → Span
const_place (k.Unknown at) = at
const_place (k.NotConstant at) = at
const_place (k.DivideByZero at) = at
const_place (k.TooWide at) = at
const_place (k.SystemFunction at) = at
const_place (k.Drawn at) = at

abbrev pub place_of : ParameterError → Span
place_of (Unknown at) = at
place_of (Twice at) = at
place_of (TooMany at) = at
place_of (Value e) = const_place e

abbrev pub sooner : Option ParameterError → ParameterError → ParameterError
sooner None y = y
sooner (Some x) y = if stands_before (place_of y) (place_of x) then y else x

abbrev pub first_of : Option ParameterError → List ParameterError → Option ParameterError
first_of x [] = x
first_of x (y ∷ more) = first_of (Some (sooner x y)) more
