use Rattle.tb_code.proofs.Common.{◌≡◌, map, take, choice_labels, labels_of, Adds, part_of, part_number}
use Rattle.tb_code.proofs.statement.+statement.Given as goal

abbrev pub invariant-add_all-loop-statement : goal.invariant-add_all-loop-statement
invariant-add_all-loop-statement l = Adds l.initial.nodes.items l.nodes.items l.numbers (take l.statement-index l.statements)

abbrev pub invariant-add_items-loop-item : goal.invariant-add_items-loop-item
invariant-add_items-loop-item l = record {
  adds : Adds l.initial.nodes.items l.nodes.items (map part_number l.choices) (map part_of (take l.item-index l.items));
  labels : map choice_labels l.choices ≡ map labels_of (take l.item-index l.items);
}
