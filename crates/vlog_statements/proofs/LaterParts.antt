-- The sorts of the later parts of the longer productions.
use Rattle.std.proofs.Common.{◌≡◌, true, List}
use Rattle.vlog_grammar.specs.declared.rule.Rule.TheVariants as r
use Rattle.vlog_grammar.specs.Grammar.{production, parts_of}
use Rattle.vlog_parts.specs.declared.value.Value.{Value}
use Rattle.vlog_parts.specs.Sorts.{is_expr, is_left, is_stmt}
use Rattle.vlog_parts.specs.Numbered.{third, fourth, seventh, ninth, eleventh, thirteenth}
use Rattle.vlog_parts.specs.Kinds.{is_of_kind, sorted}
use Rattle.vlog_parts.proofs.SortedParts.{later}

pub for_condition : (ms : List Value) → sorted r.ForStatement ms ≡ true → is_expr (seventh ms) ≡ true
unfolding production is_of_kind
for_condition ms h = later 6 (parts_of r.ForStatement) ms h

pub for_left : (ms : List Value) → sorted r.ForStatement ms ≡ true → is_left (ninth ms) ≡ true
unfolding production is_of_kind
for_left ms h = later 8 (parts_of r.ForStatement) ms h

pub for_value : (ms : List Value) → sorted r.ForStatement ms ≡ true → is_expr (eleventh ms) ≡ true
unfolding production is_of_kind
for_value ms h = later 10 (parts_of r.ForStatement) ms h

pub for_body : (ms : List Value) → sorted r.ForStatement ms ≡ true → is_stmt (thirteenth ms) ≡ true
unfolding production is_of_kind
for_body ms h = later 12 (parts_of r.ForStatement) ms h

pub assigned_value : (ms : List Value) → sorted r.Assignment ms ≡ true → is_expr (third ms) ≡ true
unfolding production is_of_kind
assigned_value ms h = later 2 (parts_of r.Assignment) ms h

pub labelled_body : (ms : List Value) → sorted r.LabelledCaseItem ms ≡ true → is_stmt (fourth ms) ≡ true
unfolding production is_of_kind
labelled_body ms h = later 3 (parts_of r.LabelledCaseItem) ms h
