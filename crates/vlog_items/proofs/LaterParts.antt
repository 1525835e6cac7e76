-- The sorts of the later parts of the longer productions.
use Rattle.std.proofs.Common.{◌≡◌, true, List}
use Rattle.vlog_grammar.specs.declared.rule.Rule.TheVariants as r
use Rattle.vlog_grammar.specs.Grammar.{production, parts_of}
use Rattle.vlog_parts.specs.declared.value.Value.{Value}
use Rattle.vlog_parts.specs.Sorts.{is_expr, is_item, is_identifier}
use Rattle.vlog_parts.specs.Numbered.{seventh, ninth, eleventh, thirteenth}
use Rattle.vlog_parts.specs.Kinds.{is_of_kind, sorted}
use Rattle.vlog_parts.proofs.SortedParts.{later}

pub loop_condition : (ms : List Value) → sorted r.LoopGenerate ms ≡ true → is_expr (seventh ms) ≡ true
unfolding production is_of_kind
loop_condition ms h = later 6 (parts_of r.LoopGenerate) ms h

pub loop_name : (ms : List Value) → sorted r.LoopGenerate ms ≡ true → is_identifier (ninth ms) ≡ true
unfolding production is_of_kind
loop_name ms h = later 8 (parts_of r.LoopGenerate) ms h

pub loop_step : (ms : List Value) → sorted r.LoopGenerate ms ≡ true → is_expr (eleventh ms) ≡ true
unfolding production is_of_kind
loop_step ms h = later 10 (parts_of r.LoopGenerate) ms h

pub loop_body : (ms : List Value) → sorted r.LoopGenerate ms ≡ true → is_item (thirteenth ms) ≡ true
unfolding production is_of_kind
loop_body ms h = later 12 (parts_of r.LoopGenerate) ms h
