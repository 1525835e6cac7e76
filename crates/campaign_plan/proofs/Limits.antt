-- A campaign whose limit of cycles is to follow from its benches is one under any limit.
use Rattle.campaign_plan.proofs.Common.{◌≡◌, ◌∙◌, ℕ, false, List, SourceFile, Prepared, IsPlan, IsPrepared}

-- under this limit, which is the project's where it does not follow from them
pub prepared_limited : (config : List ℕ) (files : List SourceFile) (c : Prepared) (cycles : ℕ) → (c.auto_cycles ≡ false → cycles ≡ c.cycles) → IsPrepared config files c → IsPrepared config files (record c { cycles = cycles })
prepared_limited config files c cycles same made = record {
  project = made.project;
  says = made.says;
  script = made.script;
  report = made.report;
  scripts = made.scripts;
  names = made.names;
  design = made.design;
  few = made.few;
  omitted = made.omitted;
  left_out = made.left_out;
  some = made.some;
  reading = made.reading;
  is_reading = made.is_reading;
  trials = made.trials;
  cycles = λ fixed. same fixed ∙ made.cycles fixed;
  seed = made.seed;
  campaign = made.campaign;
  count = made.count;
  places = made.places;
  placed = made.placed;
  sources = made.sources;
  requirement = made.requirement;
  baseline = made.baseline;
  auto = made.auto;
}

pub plan_limited : (c : Prepared) (cycles : ℕ) → (c.auto_cycles ≡ false → cycles ≡ c.cycles) → IsPlan c → IsPlan (record c { cycles = cycles })
plan_limited c cycles same plan = record { config = plan.config; files = plan.files; made = prepared_limited plan.config plan.files c cycles same plan.made }
