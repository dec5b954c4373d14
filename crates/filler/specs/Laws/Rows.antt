-- A cycle whose derived columns are as the words say meets the determining rows.
-- Assumes nothing.
use Rattle.std.specs.Prelude.{◌≡◌, ℕ, ◌+◌, Bool, true}
use Rattle.std.proofs.Common.{arith}
use Rattle.base.specs.Lists.{All}
use Rattle.base.specs.Laws.Lists.{◌and◌, all-joined}
use Rattle.base.specs.Laws.From.{all_from, all-each}
use Rattle.layout.specs.Columns.{ONE-COL, WE, IS-LOAD, HALT, LD-HALF, LD-WORD, OPSYS, OPBR, EQF, CEQ, CLT, CLU}
use Rattle.circuit.specs.Circuit.{adder_row, copy_rows, neither_row, taken_row, write_gate_row, lane_rows, conditional_rows, funct3_rows}
use Rattle.step.specs.Solve.{Holds}
use Rattle.step.specs.Determining.{before_halt, after_halt, determining_families, determining}
use Rattle.step.proofs.Laws.Sides.{sum_one, sum-not, sum-six}
use Rattle.filler.specs.Laws.Derive.{ByWords}
use Rattle.filler.specs.Laws.Holds.{product-holds, copy_holds}
use Rattle.filler.specs.Laws.AdderRows.{first-carry-holds, adder-holds, copies-hold, zeros-hold}
use Rattle.filler.specs.Laws.LaneRows.{lanes-hold, conditionals-hold, neither, write-gate}
use Rattle.filler.specs.Laws.BranchRows.{has-branches, in-branches, opcode-holds, funct3-hold, comparisons-hold, mux-hold, extend16-holds, extend8-holds}

module _ (y : ℕ → Bool) (y1 : y ONE-COL ≡ true) (d : ByWords y) where
  neither-holds : Holds y neither_row
  neither-holds = product-holds y y1 _ _ _ (sum-not y y1 LD-WORD) (sum-not y y1 LD-HALF) (neither y y1 d)

  taken-holds : Holds y taken_row
  taken-holds = product-holds y y1 _ _ _ (sum_one y y1 (OPBR + 6)) (sum-six y y1 CEQ (EQF + 1) CLT (EQF + 5) CLU (EQF + 7)) d.taken

  write-gate-holds : Holds y write_gate_row
  write-gate-holds = product-holds y y1 _ _ _ (sum_one y y1 WE) (sum-not y y1 IS-LOAD) (write-gate y y1 d)

  -- family by family, in the order in which they are solved
  pub rows-hold : All (Holds y) determining
  unfolding determining before_halt after_halt
  rows-hold =
      (all-joined (Holds y) determining_families
      ).1
      ((first-carry-holds y y1 d and tt)
      and (all_from (Holds y) 0 63 adder_row).1 (λ i _ l. adder-holds y y1 d i (omega arith))
      and (all-each (Holds y) 0 64 copy_rows).1 (λ i _ l. copies-hold y y1 d i (omega arith))
      and (all-each (Holds y) 0 8 lane_rows).1 (λ a _ l. lanes-hold y y1 d a (omega arith))
      and (all-each (Holds y) 0 8 conditional_rows).1 (λ a _ l. conditionals-hold y y1 d a (omega arith))
      and (neither-holds and tt)
      and (extend16-holds y y1 d and tt)
      and (extend8-holds y y1 d and tt)
      and zeros-hold y y1 d
      and opcode-holds y y1 d OPSYS 0x73 (omega arith) (in-branches y y1 d 0 7 _ (has-branches y y1 d).0 (omega arith))
      and opcode-holds y y1 d OPBR 0x63 (omega arith) (in-branches y y1 d 7 7 _ (has-branches y y1 d).1.0 (omega arith))
      and (copy_holds y y1 HALT (OPSYS + 6) d.halt and tt)
      and (all-each (Holds y) 0 8 funct3_rows).1 (λ f _ l. funct3-hold y y1 d f (omega arith))
      and comparisons-hold y y1 d
      and mux-hold y y1 d
      and (taken-holds and tt)
      and (write-gate-holds and tt)
      and tt)
