-- `printer::line` meets its contract: the last 8 of a word's 16 digits are its 8 digits, and they leave the last line end.
-- Assumes nothing.
use Rattle.std.proofs.Common.{◌≡◌, ◌∙◌, take, drop, take_all, arith}
use Rattle.text.specs.Digits.{hex}
use Rattle.text.specs.Laws.Hexadecimal.{hex-length, hex-last}
use Rattle.text.specs.Laws.Put.{put-fits, put_as}
use Rattle.printer.specs.Hex.{line_of}
use Rattle.printer.proofs.line.Goals as goal

pub returns : goal.returns
unfolding line_of
returns c =
    let w = c.args.w in let h = hex-length 8 w in
    let low : take 8 (drop 8 c.hex_digits-digits.result) ≡ hex 8 w
    = rw (c.hex_digits-digits.ensures, hex-last 8 8 w, take_all 8 (hex 8 w) (omega arith)) in
    (put-fits _ _ _ _ _ (omega arith) (put_as _ _ _ _ _ _ low c.put.ensures)).after_is ∙ rw h
