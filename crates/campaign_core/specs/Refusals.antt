-- How a keeper's refusal is told.
use Rattle.mcy_keeper.specs.declared.keeper.KeepError.{KeepError}
use Rattle.mcy_keeper.specs.declared.keeper.KeepError.TheVariants.{Fault, Memory}
use Rattle.campaign_core.specs.declared.event.CoreError.{CoreError}
use Rattle.campaign_core.specs.declared.event.CoreError.TheVariants.{Keeper as Failed, Memory as NoMemory}

abbrev pub refused_as : KeepError → CoreError
refused_as Fault = Failed
refused_as Memory = NoMemory
