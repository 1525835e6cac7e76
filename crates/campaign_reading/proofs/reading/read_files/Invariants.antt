use Rattle.campaign_reading.proofs.Common.{◌≡◌, ◌≤◌, ℕ, List, drop, length, map, take, GotAll, max_bytes, IsNext}
use Rattle.std.proofs.Common.{All}
use Rattle.campaign_reading.proofs.reading.read_files.Given as goal

abbrev pub invariant-loop-name : goal.invariant-loop-name
invariant-loop-name g l = record {
  same : g.F.SourceFiles.held l.files ≡ g.F.SourceFiles.held l.initial.files;
  names : map (λ file. file.name) l.read ≡ map (λ name. name.now) (take l.name-index l.names);
  got : GotAll (g.F.SourceFiles.held l.initial.files) l.read;
  few : All (λ file. length file.bytes ≤ max_bytes) l.read;
  next : (name : List ℕ) → IsNext (g.F.SourceFiles.held l.initial.files) (map (λ name. name.now) (drop l.name-index l.names)) name → IsNext (g.F.SourceFiles.held l.initial.files) (map (λ name. name.now) l.names) name;
  later : g.F.SourceFiles.faults l.initial.files ≤ g.F.SourceFiles.faults l.files;
}
