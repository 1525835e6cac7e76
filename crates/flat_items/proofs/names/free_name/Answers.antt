use Rattle.flat_items.proofs.Common.{string_bytes, what_of}
use Rattle.flat_items.proofs.Naming.{name_found, name_taken}
use Rattle.flat_items.proofs.names.free_name.Goals as goal

pub returns-in-None : goal.returns-in-None
returns-in-None c = name_found (what_of c.args.own.now) c.args.number (string_bytes c.zeros.prefix) (string_bytes c.in_ok-text.text) c.as_str.result.now c.get.result c.from_string.result c.get.ensures c.in-None.is c.as_str.ensures.value c.in_ok-text.ensures.ok c.from_string.ensures c.zeros.invariant

pub zeros-preserved : goal.zeros-preserved
zeros-preserved c = name_taken (what_of c.args.own.now) c.args.number (string_bytes c.zeros.prefix) (string_bytes c.in_ok-text.text) c.as_str.result.now c.get.result (string_bytes c.push_str.new.self) c.in-Some.field-0 c.get.ensures c.in-Some.is c.as_str.ensures.value c.in_ok-text.ensures.ok c.in_ok-push_str-in-Some.ensures.bytes c.zeros.invariant
