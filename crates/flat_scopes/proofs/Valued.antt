-- The value of a parameter, and a word of its own width and bits.
use Rattle.flat_scopes.proofs.Common.{◌≡◌, ◌≤◌, ◌<◌, ◌%◌, ◌^◌, ◌||◌, ℕ, Bool, Option, None, Some, refl, sym, ap, ◌∙◌, subst, arith, true≢false, mod-eq_of_lt, option_map, is_some, Expr, Identifier}
use Rattle.flat_scopes.proofs.Common.{ConstError, Fault, const_error, nothing, Sense, own, assigned, Opened, step, declared_as, valued, constant_name, zero_as, value_fault}
use Rattle.std.specs.Coded.{le_prop}
use Rattle.mcy_base.specs.declared.word.Word.{Word}
use Rattle.vlog_meaning.specs.declared.scope.Decl.{Decl}
use Rattle.vlog_meaning.specs.declared.scope.Decl.TheVariants as d
use Rattle.flat_scopes.specs.declared.parameter.ParameterBits.{ParameterBits}
use Rattle.flat_scopes.specs.declared.parameter.ParameterBits.TheVariants.{OfValue, OfRange}
use Rattle.flat_scopes.specs.Parameters.{IsDeclared}
use Rattle.flat_scopes.specs.Words.{word, width_in}

-- two words of one width and the same bits
pub same_parts : (u v : Word) → u.width ≡ v.width → u.bits ≡ v.bits → u ≡ v
same_parts u v p q =
    let At : (w b : ℕ) → Type 0 = λ (w b : ℕ). (some : 1 ≤ w) (narrow : w ≤ 128) (fits : b < 2 ^ w) → u ≡ record { width = w; bits = b; some = some; narrow = narrow; fits = fits } in
    let by_some : (1 ≤ u.width) → Word = λ s. record { width = u.width; bits = u.bits; some = s; narrow = u.narrow; fits = u.fits } in
    let here : At u.width u.bits = λ some narrow fits.
    let by_narrow : (u.width ≤ 128) → Word = λ n. record { width = u.width; bits = u.bits; some = some; narrow = n; fits = u.fits } in
    let by_fits : (u.bits < 2 ^ u.width) → Word = λ f. record { width = u.width; bits = u.bits; some = some; narrow = narrow; fits = f } in
    ap by_some (le_prop u.some some) ∙ ap by_narrow (le_prop u.narrow narrow) ∙ ap by_fits (le_prop u.fits fits) in
    let there : At v.width v.bits = subst (λ (b : ℕ). At v.width b) q (subst (λ (w : ℕ). At w u.bits) p here) in
    there v.some v.narrow v.fits

pub word_is : (w : Word) (width bits : ℕ) → w.width ≡ width → w.bits ≡ bits → w ≡ word width bits
word_is w width bits p q =
    let some : 1 ≤ w.width = w.some in
    let narrow : w.width ≤ 128 = w.narrow in
    let wide : w.width ≡ width_in w.width = omega arith in
    let own : w.bits ≡ w.bits % 2 ^ w.width = sym (mod-eq_of_lt w.fits) in
    let again : w ≡ word w.width w.bits = same_parts w (word w.width w.bits) wide (own ∙ ap (λ (n : ℕ). w.bits % 2 ^ n) wide) in
    again ∙ ap (λ (n : ℕ). word n w.bits) p ∙ ap (λ (n : ℕ). word width n) q

same_constant : (value : Word) (low : ℕ) (sign : Bool) (width bits first : ℕ) (signed : Bool) → value.width ≡ width → value.bits ≡ bits → low ≡ first → sign ≡ signed → d.Constant value low sign ≡ d.Constant (word width bits) first signed
same_constant value low sign width bits first signed e f g h =
    ap (λ (w : Word). d.Constant w low sign) (word_is value width bits e f) ∙ ap (λ (n : ℕ). d.Constant (word width bits) n sign) g ∙ ap (λ (s : Bool). d.Constant (word width bits) first s) h

pub declared_is : (bits : ParameterBits) (a : Sense) (decl : Decl) → IsDeclared bits a decl → decl ≡ declared_as bits a
declared_is (OfValue signed) a (d.Constant value low is_signed) h = same_constant value low is_signed a.shape.width (own nothing a) 0 (signed || a.shape.is_signed) h.0 h.1 h.2 h.3
declared_is (OfRange bits signed) a (d.Constant value low is_signed) h = same_constant value low is_signed bits.width (a.value nothing (assigned a bits.width) % 2 ^ bits.width) bits.low signed h.0 h.1 h.2 h.3
declared_is (OfValue signed) a (d.Signal width low is_signed number) h = absurd h
declared_is (OfRange w signed) a (d.Signal width low is_signed number) h = absurd h

-- what goes by the content of two equal options
some_same : {A : Type 0} (f : ConstError → A) (x y : ConstError) → Some x ≡ Some y → f y ≡ f x
some_same f x y h = let e : x ≡ y = cc in sym (ap f e)

-- a value without a fault, and one that is refused
module _ (o : Opened) (bits : ParameterBits) (id : Identifier) (given : Option Expr) (a : Sense) where
  pub value_stands : (f : Option Fault) → None ≡ option_map const_error f → valued o bits id given a f ≡ constant_name o id (declared_as bits a) (o.own id.name)
  value_stands None h = refl
  value_stands (Some f) h = absurd (true≢false (sym (ap is_some h)))

  pub value_fails : (f : Option Fault) (e : ConstError) → Some e ≡ option_map const_error f → valued o bits id given a f ≡ step (constant_name o id (zero_as bits) (o.own id.name)) (value_fault given e)
  value_fails None e h = absurd (true≢false (ap is_some h))
  value_fails (Some f) e h =
      some_same (λ (x : ConstError). step (constant_name o id (zero_as bits) (o.own id.name)) (value_fault given x)) e (const_error f) h
