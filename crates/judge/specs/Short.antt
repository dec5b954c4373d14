-- The short way to an accepted batch: the one column is 1, the columns that rows name are bits, and every cycle is judged with yes from
-- its packed words. (Laws/Short: what it says yes to, the check accepts.)
-- Assumes nothing.
use Rattle.std.specs.Prelude.{◌≡◌, Bool, true, false, ◌&&◌, List, ℕ, ◌+◌, ◌*◌, length, replicate, Err, Ok}
use Rattle.field.specs.Gf.{one, same}
use Rattle.layout.specs.Batch.{allowed, batch_words, batch_asked, scratch_fits}
use Rattle.strict.specs.declared.Known.{Known}
use Rattle.strict.specs.Known.{listing_of}
use Rattle.verdict.specs.Row.{element_at}
use Rattle.packed.specs.Packed.{packed_named, named_bits}
use Rattle.judge.specs.Words.{all_judged}
use Rattle.layout.specs.Questions.{Asked}

-- the columns that rows name are bits, and every cycle is judged with yes from the words that are packed into a slice; the output is
-- the public element behind the one column
unfoldable pub short_bits : Known → ℕ → List ℕ → List ℕ → Bool
short_bits k cpi batch out = named_bits cpi batch && all_judged k (packed_named cpi batch out) (element_at batch (2048 * cpi + 1)) cpi 0

abbrev pub is_yes : Asked → Bool
is_yes (Ok _) = true
is_yes (Err r) = false

-- of any batch: questions 1 and 2, the one column, and a slice of zeros to pack into
unfoldable pub short_yes : Known → ℕ → List ℕ → Bool
short_yes k cpi batch =
    is_yes (batch_asked cpi (length batch)) && (same (element_at batch (2048 * cpi)) one && short_bits k cpi batch (replicate (32 * cpi) 0))

pub record ShortIn (cpi : ℕ) (batch : List ℕ) : Type 0 where
  pub size : allowed cpi ≡ true
  pub words : length batch ≡ batch_words cpi

-- of a call that lends a listing, which is known, and scratch of so many words
pub record ShortRow (k : Known) (cpi : ℕ) (listing batch : List ℕ) (room : ℕ) : Type 0 where
  pub scratch : scratch_fits room ≡ true
  pub known : listing ≡ listing_of k
  pub yes : short_yes k cpi batch ≡ true
