-- `witness::upper::write_upper` meets its contract: its three pieces one behind the other.
-- Assumes nothing.
use Rattle.witness.specs.Laws.Halves.{upper-written}
use Rattle.witness.proofs.upper.write_upper.Goals as goal

pub returns : goal.returns
returns c =
    upper-written c.args.start c.args.public.now c.args.out.now _ _ c.requires c.copy_at.ensures
    c.clear_from.ensures
