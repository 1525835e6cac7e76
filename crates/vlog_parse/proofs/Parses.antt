-- What the parser answers, from its reading.
use Rattle.vlog_parse.proofs.Common.{◌≡◌, ℕ, ◌≤◌, List, [], Option, Some, None, inl, inr, refl, sym, subst, ◌∙◌, All, Span, Module, module_nest, Token, ParseError, Step, Stop, IsReading, IsText}
use Rattle.vlog_parse.proofs.Common.{Trees, steps_of, same_steps, modules, classes, AllShallow, first_deep, outermost, walked, AreMeant, AreParsed, IsFault, place, stopped}
use Rattle.vlog_expand.specs.declared.error.ParseError.TheVariants as e
use Rattle.vlog_trees.proofs.Runs.{modules_by_steps}
use Rattle.vlog_parse.proofs.ModuleNests.{modules_nest}
use Rattle.vlog_parse.proofs.OneAnswer.{not_shallow_whole, read_alone}
use Rattle.vlog_parse.proofs.Readings.{deep_at, depths_by_steps, is_read, none_found, shallow_to}

pub is_too_deep : (tokens : List Token) (end : Span) (steps : List Step) (why : Option Stop) (at : ℕ) → IsReading (classes tokens) steps why → Some at ≡ first_deep 0 (walked outermost [] steps) → IsFault tokens end (e.TooDeep (place tokens end at))
is_too_deep tokens end steps why at reading found = inr (inl (at, deep_at (classes tokens) (walked outermost [] steps) at (is_read (classes tokens) steps why reading) (sym found), refl))

pub is_stopped : (tokens : List Token) (end : Span) (steps : List Step) (why : Stop) → IsReading (classes tokens) steps (Some why) → None ≡ first_deep 0 (walked outermost [] steps) → IsFault tokens end (stopped tokens end why)
is_stopped tokens end steps why reading none =
    inl (why, record { number = reading.0; is_stop = reading.1; shallow = shallow_to (classes tokens) reading.0 steps why reading.1 reading.2 (sym none) }, refl)

pub are_parsed : (tokens : List Token) (steps : List Step) (ms : List Module) → IsReading (classes tokens) steps None → None ≡ first_deep 0 (walked outermost [] steps) → ((text : Trees) → IsText text → steps_of text ≡ steps → ms ≡ modules tokens text) → AreParsed tokens ms
are_parsed tokens steps ms reading none built =
    let text = reading.text in
    let is_text = reading.trees.is_text in
    record {
      are = record { text = text; trees = reading.trees; mean = built text is_text reading.are };
      shallow = subst AllShallow (sym (depths_by_steps text steps is_text reading.are)) (none_found 0 (walked outermost [] steps) (sym none));
    }

pub are_shallow : (tokens : List Token) (steps : List Step) (ms : List Module) → IsReading (classes tokens) steps None → None ≡ first_deep 0 (walked outermost [] steps) → ((text : Trees) → IsText text → steps_of text ≡ steps → ms ≡ modules tokens text) → All (λ m. module_nest m ≤ 200) ms
are_shallow tokens steps ms reading none built = modules_nest tokens ms (are_parsed tokens steps ms reading none built)

-- the modules of tokens
pub one_meaning : (tokens : List Token) (ms ns : List Module) → AreMeant tokens ms → AreMeant tokens ns → ms ≡ ns
one_meaning tokens ms ns f g =
    f.mean ∙ modules_by_steps tokens f.text g.text f.trees.is_text g.trees.is_text (same_steps f.text g.text f.trees.is_text g.trees.is_text (f.trees.derives ∙ sym g.trees.derives)) ∙ sym g.mean

-- tokens with modules have no fault
pub no_fault : (tokens : List Token) (end : Span) (ms : List Module) (error : ParseError) → AreParsed tokens ms → IsFault tokens end error → error ≡ e.Memory
no_fault tokens end ms error parsed (inl a) = absurd (read_alone (classes tokens) parsed.are.text a.0 parsed.are.trees a.1)
no_fault tokens end ms error parsed (inr (inl a)) = absurd (not_shallow_whole (classes tokens) a.0 parsed.are.text a.1 parsed.are.trees parsed.shallow)
no_fault tokens end ms error parsed (inr (inr a)) = a
