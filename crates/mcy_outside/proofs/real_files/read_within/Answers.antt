use Rattle.std.proofs.Common.{◌≡◌, ℕ, ◌+◌, ◌≤◌, List, [], length, take, Option, None, Some, IfSome, option_map, Ok, Vec, arith, rules, ap, sym, ◌∙◌}
use Rattle.std.proofs.lemmas.List.{length-take, take_all}
use Rattle.std.specs.declared.alloc.Global.{Global}
use Rattle.mcy_outside.specs.Files.{Reads}
use Rattle.mcy_outside.proofs.real_files.read_within.Goals as goal

-- bytes that are fewer than were asked for are all there are
all_read : (known : Option (List ℕ)) (max : ℕ) (v : Vec ℕ Global) → IfSome (option_map (take (max + 1)) known) (λ xs. v.items ≡ xs)
    → length v.items ≤ max → Reads (option_map (λ xs _. Some xs) known) [] max (Ok v)
all_read None max v read few = tt
all_read (Some xs) max v read few =
    let short : length xs ≤ max + 1 = omega (arith, length-take (max + 1) xs, ap length read) in
    record { same = ap (λ l. Some l) (sym (take_all (max + 1) xs short) ∙ sym read); few = few }

pub returns-in-Ok-clause-reads : goal.returns-in-Ok-clause-reads
returns-in-Ok-clause-reads g c = all_read _ c.args.max _ (search rules) (search rules)
