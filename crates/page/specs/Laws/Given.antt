-- A given row, laid out by computation in a batch of four cycles line by line; and given calls, with what they answer and leave.
-- Assumes nothing.
use Rattle.std.specs.Prelude.{◌≡◌, refl, List, [], ◌∷◌, ℕ, set, replicate, Err, Ok}
use Rattle.base.specs.Text.{ascii}
use Rattle.text.specs.Digits.{decimal_in, right, hex}
use Rattle.field.specs.Gf.Element.{value-words}
use Rattle.layout.specs.Batch.{allowed, batch_asked, column_at}
use Rattle.layout.specs.Questions.{no}
use Rattle.layout.specs.Segments.{segments, name_in, segment_name}
use Rattle.circuit.specs.declared.Relation.TheVariants.{Bin, Fld}
use Rattle.circuit.specs.declared.Coefficient.TheVariants.{Zero, Power}
use Rattle.circuit.specs.declared.Side.TheVariants.{A, B, C}
use Rattle.circuit.specs.Words.{clean_of, word_of, mark_word, term_word}
use Rattle.circuit.specs.Parse.{parse}
use Rattle.circuit.specs.Valid.{after_mark, after_term, after_word, valid_from, validated}
use Rattle.circuit.specs.Found.{until, row_at, found}
use Rattle.verdict.specs.declared.Verdict.TheVariants.{Accepted, Failed}
use Rattle.verdict.specs.Row.{cycle_of}
use Rattle.verdict.specs.Counts.{counts}
use Rattle.page.specs.Line.{answer_line}
use Rattle.page.specs.Lines.{head_line, line_of, term_line, row_lines}
use Rattle.page.specs.Pages.{page_count, page_bytes, sides_at, bytes_for, laid_at, laid_out}
use Rattle.layout.specs.declared.questions.Question.TheVariants.{BatchLength, BatchSize, CycleRange, PageLength, RowSought, TermOrder}

-- bin row 5: two terms on A, the second of coefficient zero, one on B, and a public column on C
abbrev listing : List ℕ
listing =
    mark_word Bin 5 ∷ term_word A (Power 0) 0 ∷ term_word A Zero 810 ∷ term_word B (Power 5) 2047 ∷ term_word C (Power 63) 4095 ∷ []

-- four cycles: in the last one, column 0 and column 2,047 are not zero
abbrev four : List ℕ
four = set (set (set (replicate 32768 0) 6 0x0123456789abcdef) 7 0xfedcba9876543210) 16382 1

-- a term of A behind one of B
abbrev out_of_order : List ℕ
out_of_order = mark_word Bin 5 ∷ term_word B (Power 0) 0 ∷ term_word A (Power 0) 0 ∷ []

pub record Given : Type 0 where
  pub lines : row_lines 4 four 3 Bin 5 (sides_at listing 0)
      ≡ ascii "bin    1541                                                 "
      ∷ ascii "A       3 rs1         0 fedcba98765432100123456789abcdef    "
      ∷ ascii "A    3243            -- 00000000000000000000000000000000    "
      ∷ ascii "B    8191 crossaux    5 00000000000000000000000000000001    "
      ∷ ascii "C   10239            63 00000000000000000000000000000000    " ∷ []
  -- 1 to 60 lines are a page, 61 are two
  pub one_line : page_bytes 1 ≡ 3600
  pub one-page : page_bytes 60 ≡ 3600
  pub two-pages : page_bytes 61 ≡ 7200
  pub bytes : bytes_for listing Bin 5 ≡ Ok 3600
  pub no_row : bytes_for listing Fld 5 ≡ Err (no RowSought 0)
  pub fld-head : head_line Fld 99 ≡ ascii "fld      99                                                 "
  pub no-order : bytes_for out_of_order Bin 5 ≡ Err (no TermOrder 2)
  -- the lines of a failure in fld, and of four cycles accepted
  pub fld-line : answer_line (Ok (Failed Fld 1 (counts 483 2))) ≡ ascii "failed fld row=1 bin=483 fld=2\n"
  pub four-line : answer_line (Ok (Accepted (counts 1932 124))) ≡ ascii "accepted bin=1932 fld=124\n"
  -- the call with its page lent; and with things wrong, of which the question that is asked first counts: its number, its place, and
  -- every byte as it came
  pub laid_out_lem : (laid_out 4 listing four Bin 5 3 (replicate 3600 7)).answer ≡ Ok tt
  pub size : laid_out 3 out_of_order four Bin 6 4 (replicate 3599 7) ≡ record { answer = Err (no BatchSize 0); page = replicate 3599 7 }
  pub batch : laid_out 8 out_of_order four Bin 6 8 (replicate 3599 7) ≡ record { answer = Err (no BatchLength 0); page = replicate 3599 7 }
  pub order : laid_out 4 out_of_order four Bin 6 4 (replicate 3599 7) ≡ record { answer = Err (no TermOrder 2); page = replicate 3599 7 }
  pub row : laid_out 4 listing four Bin 6 4 (replicate 3599 7) ≡ record { answer = Err (no RowSought 0); page = replicate 3599 7 }
  pub room : laid_out 4 listing four Bin 5 4 (replicate 3599 7) ≡ record { answer = Err (no PageLength 0); page = replicate 3599 7 }
  pub cycle : laid_out 4 listing four Bin 5 4 (replicate 3600 7) ≡ record { answer = Err (no CycleRange 0); page = replicate 3600 7 }

pub given : Given
unfolding right decimal_in segments name_in segment_name column_at clean_of word_of parse after_mark after_term after_word valid_from validated
    until row_at found cycle_of head_line line_of term_line row_lines page_count page_bytes bytes_for hex allowed batch_asked laid_at laid_out
given =
    record {
      lines = simp value-words refl;
      one_line = refl;
      one-page = refl;
      two-pages = refl;
      bytes = refl;
      no_row = refl;
      fld-head = refl;
      no-order = refl;
      fld-line = refl;
      four-line = refl;
      laid_out_lem = refl;
      size = refl;
      batch = refl;
      order = refl;
      row = refl;
      room = refl;
      cycle = refl;
    }
