use Rattle.elab_items.proofs.Sounding.{declared_stands, designs_begin}
use Rattle.elab_items.proofs.laws.sound_designs_are_declared.Goals as goal

pub returns-clause-stands : goal.returns-clause-stands
returns-clause-stands c = declared_stands

pub returns-clause-begins : goal.returns-clause-begins
returns-clause-begins c = designs_begin
