-- `strict::words_in` meets its contract: so many words each listing has.
-- Assumes nothing.
use mathlib.Core.Path.{sym, ap, ◌∙◌}
use lib.ListN.{length}
use Rattle.strict.specs.Known.{listing_of}
use Rattle.circuit.specs.Laws.House as house
use Rattle.strict.proofs.Laws.Strict as strict
use Rattle.strict.proofs.words_in.Goals as goal

pub returns-in-House : goal.returns-in-House
returns-in-House c = sym (ap (λ k. length (listing_of k)) c.in-House.is ∙ (house.counts).words)

pub returns-in-Strict : goal.returns-in-Strict
returns-in-Strict c = sym (ap (λ k. length (listing_of k)) c.in-Strict.is ∙ (strict.counts).words)
