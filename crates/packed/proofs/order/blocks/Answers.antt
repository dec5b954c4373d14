-- `packed::order::blocks` meets its contract: the blocks passed stand in the order that is asked for.
-- Assumes nothing.
use Rattle.std.proofs.Common.{ℕ, ◌+◌, ◌*◌, List, sym, subst, ◌∙◌, arith, rules}
use Rattle.packed.specs.declared.order.Order.{Order}
use Rattle.packed.specs.declared.order.Order.TheVariants.{Batch, Cycles}
use Rattle.packed.specs.Storage.{Fit}
use Rattle.packed.specs.Laws.Order.{AlikeIn, block-length, block_read, block_written, words-got, words-put, more-alike, blocks-end}
use Rattle.packed.proofs.order.blocks.Goals.{in-Batch, in-Cycles}
use Rattle.packed.proofs.order.blocks.Goals as goal

pub loop-q-preserved : goal.loop-q-preserved
loop-q-preserved c =
    let a = c.args in let l = c.loop-q in let g = l.invariant in let t = c.loop-q-test.true in let m = c.match-order in
    let n : ℕ = 64 * (l.q + 1) in
    record {
      count = omega (arith, t);
      first = search rules;
      second = search rules;
      room = search rules;
      fit = elim m.branch [
        | in-Batch w ↦ subst Fit (sym w.out-is) (λ k n. omega (arith, w.slice_known-in-Batch-4-1.given k))
        | in-Cycles w ↦ subst Fit (sym w.out-is) (λ k n. omega (arith, w.slice_known-in-Cycles-3-1.given k))
      ];
      alike = elim m.branch [
        | in-Batch w ↦
            let sized = w.unturn.auto.p ∙ block-length a.cpi l.q l.out t g.room in
            let was = subst (λ (o : Order). AlikeIn o a.cpi a.words.now l.out (64 * l.q)) w.in-Batch.is g.alike in
            subst (λ (o : Order). AlikeIn o a.cpi a.words.now m.out n) (sym w.in-Batch.is)
            (subst (λ (out : List ℕ). AlikeIn Batch a.cpi a.words.now out n) (sym w.out-is)
            (more-alike a.cpi _ l.q _ _ _ _ _ _ c.requires.even w.unturn.ensures (block_written a.cpi l.q _ l.out t g.room sized)
            (words-got a.cpi l.q _ _ (search rules) w.get_words.ensures) was))
        | in-Cycles w ↦
            let was = subst (λ (o : Order). AlikeIn o a.cpi a.words.now l.out (64 * l.q)) w.in-Cycles.is g.alike in
            subst (λ (o : Order). AlikeIn o a.cpi a.words.now m.out n) (sym w.in-Cycles.is)
            (subst (λ (out : List ℕ). AlikeIn Cycles a.cpi a.words.now out n) (sym w.out-is)
            (more-alike a.cpi _ l.q _ _ _ _ _ _ c.requires.even w.turn.ensures (block_read a.cpi l.q a.words.now)
            (words-put a.cpi l.q _ _ _ t (search rules) w.put_words.ensures) was))
      ];
    }

pub returns : goal.returns
returns c = search (blocks-end, rules)
