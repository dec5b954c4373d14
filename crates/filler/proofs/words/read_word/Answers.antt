-- `filler::words::read_word` meets its contract: from the top bit down, w is the word of the columns passed.
-- Assumes nothing.
use Rattle.std.proofs.Common.{◌≡◌, ℕ, ◌+◌, ◌-◌, ◌*◌, refl, ap, ◌∙◌, add-zero, arith}
use Rattle.base.specs.Bits.{val, word}
use Rattle.base.specs.Laws.Values.{digit_lt}
use Rattle.verdict.specs.Row.{bits_of}
use Rattle.filler.specs.Words.{word_at}
use Rattle.filler.specs.Laws.Loops.{word-turn, word_fits}
use Rattle.filler.proofs.words.read_word.Goals as goal

pub loop-i-init : goal.loop-i-init
unfolding val
loop-i-init c = refl

pub overflow_mul-w : goal.overflow_mul-w
overflow_mul-w c =
    let a = c.args in let l = c.loop-i in
    omega (arith, word_fits (bits_of a.cpi a.batch.now a.cycle) (a.column + l.i) l.i l.w (omega arith) l.invariant)

pub overflow_add-w : goal.overflow_add-w
overflow_add-w c =
    let a = c.args in let l = c.loop-i in
    let z = bits_of a.cpi a.batch.now a.cycle in
    omega (arith, word_fits z (a.column + l.i) l.i l.w (omega arith) l.invariant, digit_lt (z (a.column + (l.i - 1))))

pub loop-i-preserved : goal.loop-i-preserved
loop-i-preserved c =
    let a = c.args in let l = c.loop-i in
    let z = bits_of a.cpi a.batch.now a.cycle in
    ap (λ (b : ℕ). b + 2 * l.w) c.bit_at.ensures ∙ word-turn z a.column l.i l.w (omega arith) l.auto.i l.invariant

pub returns : goal.returns
unfolding word_at
returns c =
    let a = c.args in let l = c.loop-i in let z = bits_of a.cpi a.batch.now a.cycle in
    let e : l.i ≡ 0 = omega arith in
    l.invariant ∙ ap (λ (i : ℕ). word z (a.column + i) (64 - i)) e ∙ ap (λ (o : ℕ). word z o 64) (add-zero a.column)
