-- What trees over bare tokens mean.
use Rattle.seen_tokens.proofs.Common.{◌≡◌, ℕ, ◌+◌, List, [], ◌∷◌, map, Option, Some, None, option_map, slice_get, inl, inr, refl, sym, ap, subst, ◌∙◌, ap₂, Span, Token, ParseError, Rule, Value, first}
use Rattle.seen_tokens.proofs.Common.{modules_of, leaf, made, means, modules, bare}
use Rattle.std.proofs.lemmas.Option.{slice_get-map}
use Rattle.vlog_syntax.specs.declared.module.Module.{Module}
use Rattle.vlog_expand.specs.declared.error.ParseError.TheVariants as e
use Rattle.vlog_grammar.specs.declared.step.Token.{Token as Classed}
use Rattle.vlog_grammar.specs.declared.stop.Stop.{Stop}
use Rattle.vlog_grammar.specs.declared.stop.Stop.TheVariants as stop
use Rattle.vlog_grammar.specs.Trees.{Trees, Nil, Leaf, Node}
use Rattle.vlog_grammar.specs.Reading.{AreTreesOf}
use Rattle.vlog_parts.specs.declared.value.Value.TheVariants as v
use Rattle.vlog_parse.specs.declared.classes.Context.{Context}
use Rattle.vlog_parse.specs.declared.classes.Context.TheVariants as x
use Rattle.vlog_parse.specs.Classes.{classed, classes, classes_from, token_class}
use Rattle.vlog_parse.specs.Nesting.{IsTooDeepAt}
use Rattle.vlog_parse.specs.Parsing.{AreParsed, IsFault, IsFirstStop, place, span_or, stopped}
use Rattle.seen_tokens.proofs.BareValues.{all_bare, bare_value}
use Rattle.seen_tokens.proofs.BareRules.{made_blind}

classes_from_bare : (n : ℕ) (context : Context) (ts : List Token) → classes_from n context (map bare ts) ≡ classes_from n context ts
unfolding token_class
classes_from_bare n context [] = refl
classes_from_bare n context (t ∷ ts) = ap (λ (more : List Classed). record { class = (classed context t).0; at = n } ∷ more) (classes_from_bare (n + 1) (classed context t).1 ts)

classes_bare : (ts : List Token) → classes (map bare ts) ≡ classes ts
classes_bare ts = classes_from_bare 0 x.Outside ts

-- what a token means

abbrev value_of : Option Token → Value
value_of None = v.Nothing
value_of (Some t) = v.Token t

value_of_bare : (t : Option Token) → bare_value (value_of (option_map bare t)) ≡ bare_value (value_of t)
value_of_bare None = refl
value_of_bare (Some t) = refl

leaf_bare : (ts : List Token) (t : Classed) → bare_value (leaf (map bare ts) t) ≡ bare_value (leaf ts t)
unfolding leaf
leaf_bare ts t = ap (λ (o : Option Token). bare_value (value_of o)) (slice_get-map bare ts t.at) ∙ value_of_bare (slice_get ts t.at)

-- parts that are the same but for where their tokens lie mean the same but for that
made_alike : (rule : Rule) (ms ns : List Value) → map bare_value ms ≡ map bare_value ns → bare_value (made rule ms) ≡ bare_value (made rule ns)
made_alike rule ms ns same =
    sym (all_bare (λ (xs : List Value). bare_value (made rule xs)) (made_blind rule) ms) ∙ ap (λ (xs : List Value). bare_value (made rule xs)) same ∙ all_bare (λ (xs : List Value). bare_value (made rule xs)) (made_blind rule) ns

means_bare : (ts : List Token) (f : Trees) → map bare_value (means (map bare ts) f) ≡ map bare_value (means ts f)
means_bare ts Nil = refl
means_bare ts (Leaf t x f) = ap₂ (λ (y : Value) (ys : List Value). y ∷ ys) (leaf_bare ts t) (means_bare ts f)
means_bare ts (Node rule parts f) = ap₂ (λ (y : Value) (ys : List Value). y ∷ ys) (made_alike rule (means (map bare ts) parts) (means ts parts) (means_bare ts parts)) (means_bare ts f)

first_bare : (ms : List Value) → first (map bare_value ms) ≡ bare_value (first ms)
unfolding first
first_bare [] = refl
first_bare (y ∷ ms) = refl

modules_of_bare : (y : Value) → modules_of (bare_value y) ≡ modules_of y
modules_of_bare (v.Token t) = refl
modules_of_bare y = refl

modules_in : (ms ns : List Value) → map bare_value ms ≡ map bare_value ns → modules_of (first ms) ≡ modules_of (first ns)
modules_in ms ns same =
    sym (modules_of_bare (first ms)) ∙ ap modules_of (sym (first_bare ms)) ∙ ap (λ (xs : List Value). modules_of (first xs)) same ∙ ap modules_of (first_bare ns) ∙ modules_of_bare (first ns)

modules_bare : (ts : List Token) (f : Trees) → modules (map bare ts) f ≡ modules ts f
modules_bare ts f = modules_in (means (map bare ts) f) (means ts f) (means_bare ts f)

pub parsed_bare : (tokens : List Token) (ms : List Module) → AreParsed tokens ms → AreParsed (map bare tokens) ms
parsed_bare tokens ms parsed =
    let text = parsed.are.text in
    record {
      are = record { text = text; trees = subst (AreTreesOf text) (sym (classes_bare tokens)) parsed.are.trees; mean = parsed.are.mean ∙ sym (modules_bare tokens text) };
      shallow = parsed.shallow;
    }

-- faults

span_or_bare : (end : Span) (t : Option Token) → span_or end (option_map bare t) ≡ span_or end t
span_or_bare end None = refl
span_or_bare end (Some t) = refl

place_bare : (tokens : List Token) (end : Span) (n : ℕ) → place (map bare tokens) end n ≡ place tokens end n
place_bare tokens end n = ap (span_or end) (slice_get-map bare tokens n) ∙ span_or_bare end (slice_get tokens n)

stopped_bare : (tokens : List Token) (end : Span) (why : Stop) → stopped (map bare tokens) end why ≡ stopped tokens end why
stopped_bare tokens end (stop.Unexpected n) = ap e.Unexpected (place_bare tokens end n)
stopped_bare tokens end (stop.Unsupported n feature) = ap (λ (at : Span). e.Unsupported at feature) (place_bare tokens end n)

pub fault_bare : (tokens : List Token) (end : Span) (error : ParseError) → IsFault tokens end error → IsFault (map bare tokens) end error
fault_bare tokens end error (inl (why, stops, is)) = inl (why, subst (λ (ts : List Classed). IsFirstStop ts why) (sym (classes_bare tokens)) stops, is ∙ sym (stopped_bare tokens end why))
fault_bare tokens end error (inr (inl (n, deep, is))) = inr (inl (n, subst (λ (ts : List Classed). IsTooDeepAt ts n) (sym (classes_bare tokens)) deep, is ∙ ap e.TooDeep (sym (place_bare tokens end n))))
fault_bare tokens end error (inr (inr memory)) = inr (inr memory)
