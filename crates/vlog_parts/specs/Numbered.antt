-- The parts of a production by their number.
use Rattle.std.specs.Prelude.{List, [], ◌∷◌}
use Rattle.vlog_parts.specs.declared.value.Value.{Value}
use Rattle.vlog_parts.specs.declared.value.Value.TheVariants as v

unfoldable pub first : List Value → Value
first [] = v.Nothing
first (x ∷ xs) = x

unfoldable pub rest : List Value → List Value
rest [] = []
rest (x ∷ xs) = xs

abbrev pub second : List Value → Value
second ms = first (rest ms)

abbrev pub third : List Value → Value
third ms = first (rest (rest ms))

-- For proofs alone.

abbrev pub fourth : List Value → Value
fourth ms = first (rest (rest (rest ms)))

abbrev pub fifth : List Value → Value
fifth ms = first (rest (rest (rest (rest ms))))

abbrev pub sixth : List Value → Value
sixth ms = first (rest (rest (rest (rest (rest ms)))))

abbrev pub seventh : List Value → Value
seventh ms = first (rest (rest (rest (rest (rest (rest ms))))))

abbrev pub eighth : List Value → Value
eighth ms = first (rest (rest (rest (rest (rest (rest (rest ms)))))))

abbrev pub ninth : List Value → Value
ninth ms = first (rest (rest (rest (rest (rest (rest (rest (rest ms))))))))

abbrev pub tenth : List Value → Value
tenth ms = first (rest (rest (rest (rest (rest (rest (rest (rest (rest ms)))))))))

abbrev pub eleventh : List Value → Value
eleventh ms = first (rest (rest (rest (rest (rest (rest (rest (rest (rest (rest ms))))))))))

abbrev pub thirteenth : List Value → Value
thirteenth ms = first (rest (rest (rest (rest (rest (rest (rest (rest (rest (rest (rest (rest ms))))))))))))
