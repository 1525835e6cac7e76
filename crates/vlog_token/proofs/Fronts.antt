-- The longest fronts of each form.
use Rattle.vlog_token.proofs.Common.{◌≡◌, ℕ, ◌+◌, ◌<◌, true, List, [], ◌∷◌, length, length-take-le, take, sym, ◌∙◌, subst, arith, slice_index, prefix_len, cond-true, nat_tests, prefix_len-le-length}
use Rattle.vlog_token.proofs.Common.{AllAre, is_name_start, is_name_part, is_solid, IsName, IsSolid, IsLongestFront}
use Rattle.vlog_token.proofs.Runs.{run_fits, run_longest, one_more}

-- a name's first byte is also a part of names
start_is_part : (c : ℕ) → is_name_start c ≡ true → is_name_part c ≡ true
start_is_part c h = grind (arith, nat_tests)

pub parts_of_name : (text : List ℕ) → IsName text → AllAre is_name_part text
parts_of_name [] h = absurd h
parts_of_name (c ∷ cs) h = (start_is_part c h.0, h.1)

name_in : (c : ℕ) (cs : List ℕ) → is_name_start c ≡ true → IsName (take (prefix_len is_name_part (c ∷ cs)) (c ∷ cs))
name_in c cs start =
    let long = cond-true (is_name_part c) (1 + prefix_len is_name_part cs) 0 (start_is_part c start) ∙ one_more (prefix_len is_name_part cs) in
    subst (λ n. IsName (take n (c ∷ cs))) (sym long) (start, run_fits is_name_part cs)

pub name_front : (bytes : List ℕ) → 0 < length bytes → is_name_start (slice_index bytes 0) ≡ true → IsLongestFront IsName bytes (prefix_len is_name_part bytes)
name_front [] some start = absurd (omega arith)
name_front (c ∷ cs) some start = record {
  within = prefix_len-le-length is_name_part (c ∷ cs);
  fits = name_in c cs start;
  longest = λ text more h e. run_longest is_name_part (c ∷ cs) text more (parts_of_name text h) e;
}

solid_in : (cs : List ℕ) → 0 < length cs → AllAre is_solid cs → IsSolid cs
solid_in [] some h = absurd (omega arith)
solid_in (c ∷ cs) some h = h

pub solid_parts : (cs : List ℕ) → IsSolid cs → AllAre is_solid cs
solid_parts [] h = absurd h
solid_parts (c ∷ cs) h = h

pub solid_front : (bytes : List ℕ) → 0 < prefix_len is_solid bytes → IsLongestFront IsSolid bytes (prefix_len is_solid bytes)
solid_front bytes some =
    let within = prefix_len-le-length is_solid bytes in record {
      within = within;
      fits = solid_in (take (prefix_len is_solid bytes) bytes) (subst (λ n. 0 < n) (sym (length-take-le (prefix_len is_solid bytes) bytes within)) some) (run_fits is_solid bytes);
      longest = λ text more h e. run_longest is_solid bytes text more (solid_parts text h) e;
    }
