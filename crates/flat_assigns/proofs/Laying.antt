-- What assignments and connections add is what they lay.
use Rattle.flat_assigns.proofs.Common.{◌≡◌, ℕ, List, [], ◌∷◌, ◌++◌, length, Option, None, Some, refl, sym, ap, ◌∙◌, subst, Bit, Expr, Shape, Names, width_of, parts_of, Joint, Building, signal, Place}
use Rattle.flat_assigns.proofs.Common.{AreJoints, places_from, whole, with_joints, IsJoinedTo, form_parts, left_width, right_shape}
use Rattle.elab_expr.specs.Laid.{lay, number_bits, showing}
use Rattle.flat_assigns.specs.Laid.{OutputsAreLaid, joined, lay_input, lay_joint, lay_joints, lay_open, lay_parts, lay_value}
use Rattle.flat_assigns.proofs.Forms.{form_is}

joints_laid : (b : Building) (left : List (Option Place)) (bits : List Bit) (js : List Joint) → AreJoints b left bits js → js ≡ lay_joints b left bits
joints_laid b [] bits [] h = refl
joints_laid b [] bits (j ∷ js) h = absurd h
joints_laid b (None ∷ left) [] js h = absurd h
joints_laid b (None ∷ left) (x ∷ bits) js h = joints_laid b left bits js h
joints_laid b (Some p ∷ left) [] js h = absurd h
joints_laid b (Some p ∷ left) (x ∷ bits) [] h = absurd h
joints_laid b (Some p ∷ left) (x ∷ bits) (j ∷ js) h =
    let here = ap (λ (o : Option Bit). lay_joint o x) (sym h.0) in
    let first = (λ t. record { net = j.net; bit = h.1 t } ∷ []) ∙ here in
    let rest : js ≡ lay_joints b left bits = joints_laid b left bits js h.2 in
    λ t. first t ++ rest t

joined_laid : (mid new : Building) (left : List (Option Place)) (bits : List Bit) → IsJoinedTo mid new left bits → new ≡ joined left (showing mid bits)
joined_laid mid new left bits h = h.2 ∙ ap (with_joints mid) (joints_laid mid left bits h.0 h.1)

-- the value of a right side is joined to places
pub value_laid : (names : Names) (right : Expr) (old mid new : Building) (left : List (Option Place)) (bits shown : List Bit) (c : Shape) (width : ℕ) → showing mid bits ≡ lay names right c old → c ≡ right_shape names right width → shown ≡ bits → IsJoinedTo mid new left shown → new ≡ lay_value left width names right old
value_laid names right old mid new left bits shown c width is shape same h =
    joined_laid mid new left shown h
    ∙ ap (λ (l : List Bit). joined left (showing mid l)) same
    ∙ ap (joined left) (is ∙ ap (λ (s : Shape). lay names right s old) shape)

-- an input
pub input_laid : (names : Names) (right : Expr) (old mid new : Building) (bits shown : List Bit) (c : Shape) (port w : ℕ) → showing mid bits ≡ lay names right c old → c ≡ right_shape names right (length (signal old port)) → shown ≡ bits → w ≡ length (signal old port) → IsJoinedTo mid new (places_from port 0 w) shown → new ≡ lay_input names right port old
input_laid names right old mid new bits shown c port w is shape same wide h =
    value_laid names right old mid new (whole old port) bits shown c (length (signal old port)) is shape same (subst (λ (n : ℕ). IsJoinedTo mid new (places_from port 0 n) shown) wide h)

-- an input without a connection
pub open_laid : (old new : Building) (bits shown : List Bit) (port w : ℕ) → bits ≡ number_bits w 0 → shown ≡ bits → w ≡ length (signal old port) → IsJoinedTo old new (places_from port 0 w) shown → new ≡ lay_open port old
open_laid old new bits shown port w is same wide h =
    joined_laid old new (whole old port) shown (subst (λ (n : ℕ). IsJoinedTo old new (places_from port 0 n) shown) wide h)
    ∙ ap (λ (l : List Bit). joined (whole old port) (showing old l)) (same ∙ is ∙ ap (λ (n : ℕ). number_bits n 0) wide)

-- an output, which is an assignment to the left side of its form
pub outputs_laid : OutputsAreLaid
outputs_laid lefts left value rights right b is =
    let parts : parts_of left ≡ form_parts value = sym (form_is left) ∙ ap form_parts is in
    let wide : left_width lefts left ≡ width_of lefts value = ap (width_of lefts) is in
    λ t. lay_parts lefts (parts t) (wide t) rights right b
