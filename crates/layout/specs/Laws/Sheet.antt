-- P12 of the bench sheet, by computation.
-- Assumes nothing.
use Rattle.std.specs.Prelude.{refl}
use Rattle.layout.specs.Batch.{allowed, geometry_of, column_at, mapped}
use Rattle.layout.specs.Sheet.{P12}

pub p12 : P12
unfolding allowed geometry_of column_at mapped
p12 = record { four = refl; column = refl; none = refl; three = refl; large = refl }
