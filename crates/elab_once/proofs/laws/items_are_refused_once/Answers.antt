use Rattle.elab_once.proofs.Building.{begin_alike, built_alike}
use Rattle.elab_once.proofs.Stopping.{built_or_refused, refused_once, stops_once}
use Rattle.elab_once.proofs.laws.items_are_refused_once.Goals as goal

pub returns-clause-begin : goal.returns-clause-begin
returns-clause-begin c = begin_alike

pub returns-clause-item : goal.returns-clause-item
returns-clause-item c = refused_once

pub returns-clause-built : goal.returns-clause-built
returns-clause-built c = built_alike

pub returns-clause-either : goal.returns-clause-either
returns-clause-either c = built_or_refused

pub returns-clause-stops : goal.returns-clause-stops
returns-clause-stops c = stops_once
