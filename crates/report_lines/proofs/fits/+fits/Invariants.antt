use Rattle.std.proofs.Common.{◌≡◌, drop, map}
use Rattle.report_lines.specs.Fits.{all_true, term_fits}
use Rattle.report_lines.proofs.fits.+fits.Given as goal

abbrev pub invariant-terms_fit-loop-term : goal.invariant-terms_fit-loop-term
invariant-terms_fit-loop-term l = all_true (map (term_fits l.tags) (drop l.term-index l.terms)) ≡ all_true (map (term_fits l.tags) l.terms)
