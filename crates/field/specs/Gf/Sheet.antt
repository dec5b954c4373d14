-- The bench sheet's products P1, P2 and P3, by computation.
use Rattle.std.specs.Prelude.{refl}
use Rattle.field.specs.Gf.{bit, ◌⊕◌, scale, turns, multiply, times-t, ◌⊗◌, of_words, low, high, value, element, product}
use Rattle.field.specs.Sheet.{Holds, sheet}

pub sheet-holds : Holds sheet
unfolding product element value of_words low high ◌⊗◌ multiply turns times-t scale bit ◌⊕◌
sheet-holds = (refl, (refl, (refl, tt)))
