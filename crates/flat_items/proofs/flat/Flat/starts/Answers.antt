use Rattle.flat_items.proofs.Common.{IfOk-weaker, place_of, flat_of, List, ℕ, subst, Sees}
use Rattle.flat_items.proofs.Rules.{genvar_refused, start_refused, loop_starts}
use Rattle.flat_items.proofs.flat.Flat.starts.Goals as goal

pub returns-in-Some : goal.returns-in-Some
returns-in-Some c =
    let flat = flat_of c.args.self.now in
    let sees : Sees flat.places c.args.head.now.name.name c.args.place c.in_ok-what.what = subst (λ (n : List ℕ). Sees flat.places n c.args.place c.in_ok-what.what) c.as_str.ensures c.in_ok-what.ensures in
    IfOk-weaker c.one.result _ _ (λ tasks e. genvar_refused flat c.args.place c.args.number tasks.items c.args.taken c.args.head.now c.args.body.now c.in_ok-what.what sees c.in-Some.error c.genvar_fault.result c.genvar_fault.ensures c.in-Some.is e) c.one.ensures

pub returns-in-Err : goal.returns-in-Err
returns-in-Err c =
    let flat = flat_of c.args.self.now in
    let sees : Sees flat.places c.args.head.now.name.name c.args.place c.in_ok-what.what = subst (λ (n : List ℕ). Sees flat.places n c.args.place c.in_ok-what.what) c.as_str.ensures c.in_ok-what.ensures in
    IfOk-weaker c.one-in-Err.result _ _ (λ tasks e. start_refused flat c.args.place c.args.number tasks.items c.args.taken c.args.head.now c.args.body.now c.in_ok-what.what sees c.genvar_fault.result (place_of c.in-Some-place.around.now) c.in-Err.error c.get.result.now c.integer.result c.genvar_fault.ensures c.in_default.is c.in-Some-place.ensures c.get.ensures c.integer.ensures c.in-Err.is e) c.one-in-Err.ensures

pub returns-in_ok-name-in-Ok : goal.returns-in_ok-name-in-Ok
returns-in_ok-name-in-Ok c =
    let flat = flat_of c.args.self.now in
    let sees : Sees flat.places c.args.head.now.name.name c.args.place c.in_ok-what.what = subst (λ (n : List ℕ). Sees flat.places n c.args.place c.in_ok-what.what) c.as_str.ensures c.in_ok-what.ensures in
    IfOk-weaker c.start.result _ _ (λ tasks e. loop_starts flat c.args.place c.args.number tasks.items c.args.taken c.args.head.now c.args.body.now c.in_ok-what.what sees c.genvar_fault.result (place_of c.in-Some-place.around.now) c.in-Ok.value c.in_ok-name-in-Ok.name c.get.result.now c.integer.result c.genvar_fault.ensures c.in_default.is c.in-Some-place.ensures c.get.ensures c.integer.ensures c.in-Ok.is c.in_ok-name-in-Ok.ensures e) c.start.ensures
