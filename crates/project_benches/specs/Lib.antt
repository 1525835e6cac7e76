pub mod Benches
pub mod Choice
pub use Rattle.project_sources.specs.Netlists
pub use Rattle.project_sources.specs.Skipped
pub use Rattle.project_sources.specs.declared.netlist.NetlistError
pub use Rattle.tb_reading.specs.Laws
pub use Rattle.source_faults.specs.declared.fault.SourceError
