-- P12 of the bench sheet.
-- Assumes nothing.
use Rattle.std.specs.Prelude.{◌≡◌, Err, Ok}
use Rattle.layout.specs.Batch.{geometry_of, mapped}
use Rattle.layout.specs.Questions.{no}
use Rattle.layout.specs.declared.questions.Question.TheVariants.{BatchSize}

pub record P12 : Type 0 where
  pub four : geometry_of 4 ≡ Ok (record { cpi = 4; w_cols = 8192; m = 16384; one_col = 8192; w128 = 64 })
  pub column : mapped 2048 4 5 2 ≡ Ok 22
  pub none : geometry_of 0 ≡ Err (no BatchSize 0)
  pub three : geometry_of 3 ≡ Err (no BatchSize 0)
  pub large : geometry_of 512 ≡ Err (no BatchSize 0)
