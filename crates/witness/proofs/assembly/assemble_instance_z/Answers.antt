-- `witness::assembly::assemble_instance_z` meets its contract: where the questions are passed, the cycles and the public values fit.
-- Assumes nothing.
use Rattle.std.proofs.Common.{sym, ◌∙◌}
use Rattle.witness.proofs.Passed.{all-passed}
use Rattle.witness.proofs.assembly.assemble_instance_z.Goals as goal

pub assemble-requires : goal.assemble-requires
assemble-requires c =
    let a = c.args in
    all-passed _ _ a.cycles.now a.batch.now (sym c.ask.ensures ∙ c.in_ok-ask.was)
