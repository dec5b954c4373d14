-- The calls of packed storage over the order that is asked for: a batch packed, handed over or not, and words rearranged.
-- Assumes nothing.
use Rattle.std.specs.Prelude.{◌≡◌, ℕ, Bool, cond, List, length}
use Rattle.layout.specs.Questions.{Called, after}
use Rattle.packed.specs.declared.order.Order.{Order}
use Rattle.packed.specs.declared.order.Order.TheVariants.{Batch, Cycles}
use Rattle.packed.specs.Order.{put_into}
use Rattle.packed.specs.Storage.{packed, packed_by_cycle, lower_bits, store_asked, order_asked}

abbrev pub packed_in : Order → ℕ → List ℕ → List ℕ
packed_in Batch cpi batch = packed cpi batch
packed_in Cycles cpi batch = packed_by_cycle cpi batch

-- handed over where the columns are bits
pub record Handed (order : Order) (cpi : ℕ) (batch before after : List ℕ) (answer : Bool) : Type 0 where
  pub answered : answer ≡ lower_bits cpi batch
  pub out : after ≡ cond (lower_bits cpi batch) (packed_in order cpi batch) before

abbrev pub store_called : Order → ℕ → List ℕ → List ℕ → Called
store_called order cpi batch out = after (store_asked cpi batch (length out)) (packed_in order cpi batch) out

abbrev pub rearrange_called : Order → ℕ → List ℕ → List ℕ → Called
rearrange_called order cpi words out = after (order_asked cpi (length words) (length out)) (put_into order cpi words) out
