-- Joints of a port, one bit after the other.
use Rattle.flat_assigns.proofs.Common.{◌≡◌, ℕ, zero, suc, ◌+◌, ◌<◌, List, [], ◌∷◌, ◌++◌, length, drop, get_or, Bool, Option, Some, None, refl, sym, ap, ◌∙◌, subst, append_assoc, arith, drop-cons}
use Rattle.flat_assigns.proofs.Common.{slice_get, append-nil, Bit, Fixed, Net, Joint, Building, with_joint, Place, HasOwnNets, IsBit, with_joints, AreJoints, places_from, own_stays, IsJoinedTo}
use Rattle.std.proofs.lemmas.Option.{get_or_from_slice_get}

joints_then : (b : Building) (left more : List (Option Place)) (bits : List Bit) (js ks : List Joint) → AreJoints b left bits js → AreJoints b more (drop (length left) bits) ks → AreJoints b (left ++ more) bits (js ++ ks)
joints_then b [] more bits [] ks h r = r
joints_then b [] more bits (j ∷ js) ks h r = absurd h
joints_then b (None ∷ left) more [] js ks h r = absurd h
joints_then b (None ∷ left) more (x ∷ bits) js ks h r = joints_then b left more bits js ks h r
joints_then b (Some p ∷ left) more [] js ks h r = absurd h
joints_then b (Some p ∷ left) more (x ∷ bits) [] ks h r = absurd h
joints_then b (Some p ∷ left) more (x ∷ bits) (j ∷ js) ks h r = (h.0, h.1, joints_then b left more bits js ks h.2 r)

with_all : (b : Building) (js ks : List Joint) → with_joints (with_joints b js) ks ≡ with_joints b (js ++ ks)
with_all b js ks = ap (λ (l : List Joint). let x : Building = record b { joints = l } in x) (append_assoc b.joints js ks)

-- other places, to the bits behind
pub joined_then : (a b c : Building) (left more : List (Option Place)) (bits : List Bit) → IsJoinedTo a b left bits → IsJoinedTo b c more (drop (length left) bits) → IsJoinedTo a c (left ++ more) bits
joined_then a b c left more bits h r =
    let second = subst (λ (x : Building). AreJoints x more (drop (length left) bits) r.0) h.2 r.1 in
    (h.0 ++ r.0, joints_then a left more bits h.0 r.0 h.1 second, r.2 ∙ ap (λ (x : Building). with_joints x r.0) h.2 ∙ with_all a h.0 r.0)

with_none : (b : Building) → b ≡ with_joints b []
with_none b = ap (λ (l : List Joint). let x : Building = record b { joints = l } in x) (sym (append-nil b.joints))

-- a bit outside the range
pub joined_outside : (b : Building) (bit : Bit) (more : List Bit) → IsJoinedTo b b (None ∷ []) (bit ∷ more)
joined_outside b bit more = ([], tt, with_none b)

-- a bit
pub joined_one : (old new : Building) (p : Place) (n : ℕ) (bit : Bit) (more : List Bit) → IsBit old p.signal p.bit n → new ≡ with_joint n bit old → IsJoinedTo old new (Some p ∷ []) (bit ∷ more)
joined_one old new p n bit more at is = (record { net = n; bit = bit } ∷ [], (at, refl, tt), is)

pub signals_joined : (old new : Building) (left : List (Option Place)) (bits : List Bit) → IsJoinedTo old new left bits → new.signals ≡ old.signals
signals_joined old new left bits h = ap (λ (x : Building). x.signals) h.2

pub own_joined : (old new : Building) (left : List (Option Place)) (bits : List Bit) → HasOwnNets old → IsJoinedTo old new left bits → HasOwnNets new
own_joined old new left bits own h = let e : new.nets ≡ old.nets = ap (λ (x : Building). x.nets) h.2 in own_stays old new own (ap (λ (x : Building). x.signals) h.2) (omega (arith, e))

-- The places of a port.

pub port_long : (k i n : ℕ) → length (places_from k i n) ≡ n
port_long k i zero = refl
port_long k i (suc n) = let e = port_long k (suc i) n in omega (arith, e)

spot : ℕ → ℕ → Option Place
spot k i = Some (record { signal = k; bit = i })

places_suc : (k i n : ℕ) → places_from k i (suc n) ≡ places_from k i n ++ spot k (i + n) ∷ []
unfolding spot
places_suc k i zero = let e : i ≡ i + 0 = omega arith in ap (λ (j : ℕ). Some (record { signal = k; bit = j }) ∷ []) e
places_suc k i (suc n) =
    let e : suc i + n ≡ i + suc n = omega arith in
    ap (λ (l : List (Option Place)). Some (record { signal = k; bit = i }) ∷ l) (places_suc k (suc i) n ∙ ap (λ (j : ℕ). places_from k (suc i) n ++ Some (record { signal = k; bit = j }) ∷ []) e)

-- one more bit
pub port_step : (a b c : Building) (port k j n : ℕ) (bits : List Bit) (d : Bit) → j ≡ k → k < length bits → IsJoinedTo a b (places_from port 0 k) bits → IsBit b port k n → c ≡ with_joint n (get_or bits j d) b → IsJoinedTo a c (places_from port 0 (k + 1)) bits
unfolding spot
port_step a b c port k j n bits d same less h at grown =
    let p : Place = record { signal = port; bit = k } in
    let here : c ≡ with_joint n (get_or bits k d) b = grown ∙ ap (λ (i : ℕ). with_joint n (get_or bits i d) b) same in
    let P : List Bit → Type 0 = λ l. IsJoinedTo b c (Some p ∷ []) l in
    let Q : ℕ → Type 0 = λ i. IsJoinedTo b c (Some p ∷ []) (drop i bits) in
    let R : List (Option Place) → Type 0 = λ l. IsJoinedTo a c l bits in
    let next = subst P (sym (drop-cons bits k d less)) (joined_one b c p n (get_or bits k d) (drop (suc k) bits) at here) in
    let start : 0 + k ≡ k = omega arith in
    let one : k + 1 ≡ suc k = omega arith in
    let places : places_from port 0 (k + 1) ≡ places_from port 0 k ++ Some p ∷ [] = ap (places_from port 0) one ∙ places_suc port 0 k ∙ ap (λ (i : ℕ). places_from port 0 k ++ Some (record { signal = port; bit = i }) ∷ []) start in
    subst R (sym places) (joined_then a b c (places_from port 0 k) (Some p ∷ []) bits h (subst Q (sym (port_long port 0 k)) next))

-- a signal with own nets has no constant among its bits
pub no_constant : (xs ys : List Bit) (i n : ℕ) (d : Bit) (v : Bool) → ys ≡ xs → slice_get xs i ≡ Some (Net n) → get_or ys i d ≡ Fixed v → ⊥
no_constant xs ys i n d v same at is =
    let there : get_or xs i d ≡ Net n = get_or_from_slice_get xs i (Net n) d at in
    let both : Net n ≡ Fixed v = sym there ∙ ap (λ (l : List Bit). get_or l i d) (sym same) ∙ is in
    cc
