-- Names that are declared again.
use Rattle.vlog_meaning.proofs.Common.{◌≡◌, ℕ, Bool, true, false, refl, ap, Option, Some, if◌then◌else◌, bytes_eq, bytes_decides, Word, Decl, Signal, Constant, LastCounts, Restores, SignalsStay}
use Rattle.std.proofs.Math.Path.{fun_ext}

last_of : (b : Bool) (x y z : Option Decl) → (if b then x else (if b then y else z)) ≡ (if b then x else z)
last_of true x y z = refl
last_of false x y z = refl

pub last_counts : LastCounts
last_counts names name first last = fun_ext (λ other. last_of (bytes_eq name other) last first (names other))

own_of : (b : Bool) (x y z : Option Decl) → (b ≡ true → x ≡ z) → (if b then x else (if b then y else z)) ≡ z
own_of true x y z same = same refl
own_of false x y z same = refl

pub restores : Restores
restores names name between = fun_ext (λ other. own_of (bytes_eq name other) (names name) between (names other) (λ e. ap names ((bytes_decides name other).0 e)))

stays : (b : Bool) (value : Word) (first : ℕ) (s : Bool) (z : Option Decl) (width low : ℕ) (sign : Bool) (number : ℕ) → (if b then Some (Constant value first s) else z) ≡ Some (Signal width low sign number) → z ≡ Some (Signal width low sign number)
stays true value first s z width low sign number e = cc
stays false value first s z width low sign number e = e

pub signals_stay : SignalsStay
signals_stay names name value first s other width low sign number e = stays (bytes_eq name other) value first s (names other) width low sign number e
