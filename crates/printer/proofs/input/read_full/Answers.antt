-- `printer::input::read_full` meets its contract: a read adds what it gives to what has been filled, and one that fails takes nothing.
-- Assumes nothing.
use Rattle.std.proofs.Common.{rules, ◌≡◌, ℕ, ◌+◌, ◌-◌, ◌≤◌, List, ◌++◌, length, take, sym, ap, ap₂, ◌∙◌, subst, le_refl, drop_at, length-take-le}
use Rattle.std.proofs.lemmas.Slice.{take-put_mid_below}
use Rattle.std.specs.Io.KnownBytes.{Consumes}
use Rattle.std.proofs.KnownBytes.{Consumes-trans, Consumes-kept}
use borrow.Rule.Slice.PartMut.{put_mid, post_of}
use lib.Seq.{take-add, take-append-le}
use Rattle.printer.proofs.input.read_full.Goals as goal
use Rattle.printer.proofs.input.read_full.Goals.{in-Ok, in-Err+else-ne}

-- n bytes that a read gave, behind the a bytes that were there
filled : (a k n : ℕ) (xs ys : List ℕ) → a ≤ length xs → n ≤ length ys → take a xs ++ take n ys ≡ take (a + n) (put_mid a k xs ys)
filled a k n xs ys within fits =
    let after = post_of a k xs in
    let part = ap (take n) (drop_at (take a xs) (ys ++ after) a (length-take-le a xs within)) ∙ take-append-le n ys after fits in
    sym (take-add a n (put_mid a k xs ys) ∙ ap₂ (λ l m. l ++ m) (take-put_mid_below a k xs ys a (le_refl _) within) part)

pub loop-preserved : goal.loop-preserved
loop-preserved g c =
    let before = c.loop.invariant in let room = length c.loop.buf - c.loop.at in
    elim c.match-read.branch [
      | in-Ok w ↦
          let more = filled c.loop.at room w.in-Ok.n c.loop.buf c.read.new.buf before.1 w.in-Ok.ensures.bound.0 in (
            search rules,
            search rules,
            subst (Consumes _ _) (more ∙ ap (λ n. take n (put_mid c.loop.at room c.loop.buf c.read.new.buf)) (sym w.at-is))
                (Consumes-trans _ _ _ _ _ before.2 w.in-Ok.ensures.bytes.0),
          )
      | in-Err+else-ne w ↦
          let same = take-put_mid_below c.loop.at room c.loop.buf c.read.new.buf c.loop.at (le_refl _) before.1 in (
            search rules,
            search rules,
            subst (Consumes _ _) (sym same ∙ ap (λ n. take n (put_mid c.loop.at room c.loop.buf c.read.new.buf)) (sym w.at-is))
                (Consumes-kept _ _ _ _ before.2 w.in-Err.ensures.bytes),
          )
    ]
