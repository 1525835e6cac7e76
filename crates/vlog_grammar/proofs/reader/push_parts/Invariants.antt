use Rattle.vlog_grammar.proofs.Common.{◌≡◌, ◌++◌, reverse, parts_of}
use Rattle.vlog_grammar.proofs.reader.push_parts.Given as goal

-- the parts that are left stand before what is on the stack
abbrev pub invariant-loop-symbol : goal.invariant-loop-symbol
invariant-loop-symbol l = l.symbol-iterator.iter.rest.now ++ reverse l.stack.items ≡ parts_of l.fn.rule ++ reverse l.fn.stack.items
