use Rattle.proc_muxes.proofs.Common.{◌≡◌, ◌+◌, ◌-◌, ◌<◌, ℕ, ℤ, pos, ◌+ℤ◌, false, length, get_or, drop, List, Option, Some, None, Vec, Global, sym, ◌∙◌, ap, Bit, Fixed, bound_integer, Vector, bit_at}
use Rattle.proc_muxes.proofs.Common.{bits_from, written}
use Rattle.std.specs.Vec.{with_item}
use Rattle.proc_muxes.proofs.Placing.{write_at, written-more, write-long}
use Rattle.proc_muxes.proofs.put.laid.Goals as goal
use Rattle.proc_muxes.proofs.put.laid.Goals.{in-Some, in_default}

-- the bits after a bit that has a place
with-bit : (x y : Vec Bit Global) (bs : List Bit) (k place : ℕ) (d : Bit) (o : Option ℕ) → y ≡ with_item x place (get_or bs k d) → o ≡ Some place → y.items ≡ write_at x.items o (get_or bs k d)
with-bit x y bs k place d o e is = ap (λ (u : Vec Bit Global). u.items) e ∙ ap (λ (p : Option ℕ). write_at x.items p (get_or bs k d)) (sym is)

taken : (v : Vector) (x y : Vec Bit Global) (old bs : List Bit) (z : ℤ) (k place : ℕ) (d : Bit) (o : Option ℕ) → y ≡ with_item x place (get_or bs k d) → o ≡ Some place → k < length bs → o ≡ bit_at v (z +ℤ pos k) → written x.items (bits_from v (z +ℤ pos k) (length bs - k)) (drop k bs) ≡ written old (bits_from v z (length bs)) bs → written y.items (bits_from v (z +ℤ pos (k + 1)) (length bs - (k + 1))) (drop (k + 1) bs) ≡ written old (bits_from v z (length bs)) bs
taken v x y old bs z k place d o e is h at same = written-more v x.items y.items old bs z k d o h at (with-bit x y bs k place d o e is) same

as-long : (x y : Vec Bit Global) (bs : List Bit) (k place : ℕ) (d : Bit) (o : Option ℕ) → y ≡ with_item x place (get_or bs k d) → o ≡ Some place → length y.items ≡ length x.items
as-long x y bs k place d o e is = write-long x.items y.items o (get_or bs k d) (with-bit x y bs k place d o e is)

passed : (v : Vector) (x y : Vec Bit Global) (old bs : List Bit) (z : ℤ) (k : ℕ) (o : Option ℕ) → y ≡ x → o ≡ None → k < length bs → o ≡ bit_at v (z +ℤ pos k) → written x.items (bits_from v (z +ℤ pos k) (length bs - k)) (drop k bs) ≡ written old (bits_from v z (length bs)) bs → written y.items (bits_from v (z +ℤ pos (k + 1)) (length bs - (k + 1))) (drop (k + 1) bs) ≡ written old (bits_from v z (length bs)) bs
passed v x y old bs z k o e is h at same =
    let d : Bit = Fixed false in
    written-more v x.items y.items old bs z k d o h at (ap (λ (u : Vec Bit Global). u.items) e ∙ ap (λ (p : Option ℕ). write_at x.items p (get_or bs k d)) (sym is)) same

pub loop-k-preserved : goal.loop-k-preserved
loop-k-preserved c = elim c.match-place_of.branch [
  | in-Some w ↦ record {
    long = as-long c.loop-k.found c.match-place_of.found c.args.bits.now c.loop-k.k w.in-Some.place _ c.place_of.result w.found-is w.in-Some.is ∙ c.loop-k.invariant.long;
    same = λ v e f. taken v c.loop-k.found c.match-place_of.found c.args.old.now c.args.bits.now (bound_integer c.args.base) c.loop-k.k w.in-Some.place _ c.place_of.result w.found-is w.in-Some.is c.loop-k-test.true (c.place_of.ensures.place v e f) (c.loop-k.invariant.same v e f);
  }
  | in_default w ↦ record {
    long = ap (λ (u : Vec Bit Global). length u.items) w.found-is ∙ c.loop-k.invariant.long;
    same = λ v e f. passed v c.loop-k.found c.match-place_of.found c.args.old.now c.args.bits.now (bound_integer c.args.base) c.loop-k.k c.place_of.result w.found-is w.in_default.is c.loop-k-test.true (c.place_of.ensures.place v e f) (c.loop-k.invariant.same v e f);
  }
]
