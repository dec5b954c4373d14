-- `benchpage::show::put_pages` meets its contract: the row is found, and takes no more than there is.
-- Assumes nothing.
use mathlib.Core.Path.{◌≡◌, sym, ap, ◌∙◌}
use Prim.Native.Nat.{ℕ, ◌*◌, ◌/◌, ◌≤◌}
use native.Mathlib.Omega.{arith}
use lib.Seq.{length-take-le}
use Rattle.benchpage.specs.Laws.Laid.{five-answered, bytes-answered, five-not-refused}
use Rattle.benchpage.proofs.show.put_pages.Goals as goal
use Rattle.std.specs.Prelude.{Ok}

-- there is room for so many characters and their line ends
lined-fit : (long n room : ℕ) → long ≡ n → n ≤ 18000 → 18300 ≤ room → 61 * (long / 60) ≤ room
lined-fit long n room e h r = omega arith

pub slice_bounds-put_laid-end : goal.slice_bounds-put_laid-end
slice_bounds-put_laid-end c =
    let few = five-answered _ _ c.requires.1.1.1 _ c.build_circuit-listing.ensures _ c.page_bytes.ensures _ c.in-Ok.is in
    omega arith

pub put_laid-requires : goal.put_laid-requires
put_laid-requires c =
    let page = c.requires.1.1.1 in let house = c.build_circuit-listing.ensures in
    let few = five-answered _ _ page _ house _ c.page_bytes.ensures _ c.in-Ok.is in
    let long = length-take-le c.in-Ok.n c.args.pages.now (omega arith) in (
      lined-fit _ _ _ long few c.requires.0,
      (house, (c.requires.1.1.0, bytes-answered _ _ page _ house _ c.page_bytes.ensures _ c.in-Ok.is ∙ ap Ok (sym long))),
    )

pub returns-in-Err : goal.returns-in-Err
returns-in-Err c =
    absurd (five-not-refused _ _ c.requires.1.1.1 _ c.build_circuit-listing.ensures _ c.page_bytes.ensures _ c.in-Err.is)
