use Rattle.tag_script.proofs.Common.{List, ap, map-set, Standing, Datum, datum_of}
use Rattle.tag_script.proofs.evaluation.with_value.Goals as goal

pub returns-then-place-lt32 : goal.returns-then-place-lt32
returns-then-place-lt32 c = ap (λ (names : List Datum). let s : Standing = record { names = names; tags = c.args.state.tags } in s) (map-set datum_of c.args.state.names c.args.place c.args.value)
