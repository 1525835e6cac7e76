-- Whether a bit is covered, and whether it is read early, goes by itself for each bit.
use Rattle.vlog_effects.proofs.Common.{◌≡◌, ℕ, Bool, true, false, not, ◌&&◌, ◌||◌, List, [], ◌∷◌, refl, ap, Expr, Names, Bits, reads, Part, parts_of, Selection, Steps, Done, Assign, Choose, Case}
use Rattle.vlog_effects.proofs.Common.{Refuse, Arms, Otherwise, Arm, index_reads, parts_cover, covered, arms_covered, missed, all_missed, parts_missed, early, arms_early}
use Rattle.vlog_effects.proofs.Bools.{or-same, and-same, not-missing}

missed-at : (names : Names) (e : Expr) (b c : Bits) (n i : ℕ) → b n i ≡ c n i → missed names e b n i ≡ missed names e c n i
missed-at names e b c n i f = ap (λ (x : Bool). reads names e n i && not x) f

all_missed-at : (names : Names) (xs : List Expr) (b c : Bits) (n i : ℕ) → b n i ≡ c n i → all_missed names xs b n i ≡ all_missed names xs c n i
all_missed-at names [] b c n i f = refl
all_missed-at names (x ∷ xs) b c n i f = or-same _ _ _ _ (missed-at names x b c n i f) (all_missed-at names xs b c n i f)

parts_missed-at : (names : Names) (ps : List Part) (b c : Bits) (n i : ℕ) → b n i ≡ c n i → parts_missed names ps b n i ≡ parts_missed names ps c n i
parts_missed-at names [] b c n i f = refl
parts_missed-at names (p ∷ ps) b c n i f = or-same _ _ _ _ (ap (λ (y : Bool). index_reads names p.select n i && not y) f) (parts_missed-at names ps b c n i f)

mutual
  pub covered-at : (steps : Steps) (b c : Bits) (n i : ℕ) → b n i ≡ c n i → covered steps b n i ≡ covered steps c n i
  covered-at Done b c n i f = f
  covered-at (Assign a more) b c n i f = covered-at more _ _ n i (ap (λ (y : Bool). y || parts_cover a.names (parts_of a.left) n i) f)
  covered-at (Choose at d then_part else_part more) b c n i f = covered-at more _ _ n i (and-same _ _ _ _ (covered-at then_part b c n i f) (covered-at else_part b c n i f))
  covered-at (Case d arms bodies more) b c n i f = covered-at more _ _ n i (arms_covered-at arms b c n i f)
  covered-at (Refuse x more) b c n i f = covered-at more b c n i f

  pub arms_covered-at : (arms : Arms) (b c : Bits) (n i : ℕ) → b n i ≡ c n i → arms_covered arms b n i ≡ arms_covered arms c n i
  arms_covered-at (Otherwise body) b c n i f = covered-at body b c n i f
  arms_covered-at (Arm at labels body others) b c n i f = and-same _ _ _ _ (covered-at body b c n i f) (arms_covered-at others b c n i f)

mutual
  pub early-at : (steps : Steps) (b c : Bits) (n i : ℕ) → b n i ≡ c n i → early steps b n i ≡ early steps c n i
  early-at Done b c n i f = refl
  early-at (Assign a more) b c n i f =
      or-same _ _ _ _ (or-same _ _ _ _ (missed-at a.names a.right b c n i f) (parts_missed-at a.names (parts_of a.left) b c n i f))
      (early-at more _ _ n i (ap (λ (y : Bool). y || parts_cover a.names (parts_of a.left) n i) f))
  early-at (Choose at d then_part else_part more) b c n i f =
      or-same _ _ _ _ (or-same _ _ _ _ (missed-at d.names d.condition b c n i f) (or-same _ _ _ _ (early-at then_part b c n i f) (early-at else_part b c n i f)))
      (early-at more _ _ n i (and-same _ _ _ _ (covered-at then_part b c n i f) (covered-at else_part b c n i f)))
  early-at (Case d arms bodies more) b c n i f =
      or-same _ _ _ _ (or-same _ _ _ _ (missed-at d.names d.selector b c n i f) (arms_early-at d arms b c n i f)) (early-at more _ _ n i (arms_covered-at arms b c n i f))
  early-at (Refuse x more) b c n i f = early-at more b c n i f

  pub arms_early-at : (d : Selection) (arms : Arms) (b c : Bits) (n i : ℕ) → b n i ≡ c n i → arms_early d arms b n i ≡ arms_early d arms c n i
  arms_early-at d (Otherwise body) b c n i f = early-at body b c n i f
  arms_early-at d (Arm at labels body others) b c n i f = or-same _ _ _ _ (all_missed-at d.names labels b c n i f) (or-same _ _ _ _ (early-at body b c n i f) (arms_early-at d others b c n i f))

-- A bit that is assigned stays so, and is not read early.

all_missed-all : (names : Names) (xs : List Expr) (b : Bits) (n i : ℕ) → b n i ≡ true → all_missed names xs b n i ≡ false
all_missed-all names [] b n i f = refl
all_missed-all names (x ∷ xs) b n i f = or-same _ false _ false (not-missing (reads names x n i) (b n i) f) (all_missed-all names xs b n i f)

parts_missed-all : (names : Names) (ps : List Part) (b : Bits) (n i : ℕ) → b n i ≡ true → parts_missed names ps b n i ≡ false
parts_missed-all names [] b n i f = refl
parts_missed-all names (p ∷ ps) b n i f = or-same _ false _ false (not-missing (index_reads names p.select n i) (b n i) f) (parts_missed-all names ps b n i f)

mutual
  pub covered-all : (steps : Steps) (b : Bits) (n i : ℕ) → b n i ≡ true → covered steps b n i ≡ true
  covered-all Done b n i f = f
  covered-all (Assign a more) b n i f = covered-all more _ n i (ap (λ (y : Bool). y || parts_cover a.names (parts_of a.left) n i) f)
  covered-all (Choose at d then_part else_part more) b n i f = covered-all more _ n i (and-same _ true _ true (covered-all then_part b n i f) (covered-all else_part b n i f))
  covered-all (Case d arms bodies more) b n i f = covered-all more _ n i (arms_covered-all arms b n i f)
  covered-all (Refuse x more) b n i f = covered-all more b n i f

  pub arms_covered-all : (arms : Arms) (b : Bits) (n i : ℕ) → b n i ≡ true → arms_covered arms b n i ≡ true
  arms_covered-all (Otherwise body) b n i f = covered-all body b n i f
  arms_covered-all (Arm at labels body others) b n i f = and-same _ true _ true (covered-all body b n i f) (arms_covered-all others b n i f)

mutual
  pub early-all : (steps : Steps) (b : Bits) (n i : ℕ) → b n i ≡ true → early steps b n i ≡ false
  early-all Done b n i f = refl
  early-all (Assign a more) b n i f =
      or-same _ false _ false (or-same _ false _ false (not-missing (reads a.names a.right n i) (b n i) f) (parts_missed-all a.names (parts_of a.left) b n i f))
      (early-all more _ n i (ap (λ (y : Bool). y || parts_cover a.names (parts_of a.left) n i) f))
  early-all (Choose at d then_part else_part more) b n i f =
      or-same _ false _ false (or-same _ false _ false (not-missing (reads d.names d.condition n i) (b n i) f) (or-same _ false _ false (early-all then_part b n i f) (early-all else_part b n i f)))
      (early-all more _ n i (and-same _ true _ true (covered-all then_part b n i f) (covered-all else_part b n i f)))
  early-all (Case d arms bodies more) b n i f =
      or-same _ false _ false (or-same _ false _ false (not-missing (reads d.names d.selector n i) (b n i) f) (arms_early-all d arms b n i f)) (early-all more _ n i (arms_covered-all arms b n i f))
  early-all (Refuse x more) b n i f = early-all more b n i f

  pub arms_early-all : (d : Selection) (arms : Arms) (b : Bits) (n i : ℕ) → b n i ≡ true → arms_early d arms b n i ≡ false
  arms_early-all d (Otherwise body) b n i f = early-all body b n i f
  arms_early-all d (Arm at labels body others) b n i f = or-same _ false _ false (all_missed-all d.names labels b n i f) (or-same _ false _ false (early-all body b n i f) (arms_early-all d others b n i f))
