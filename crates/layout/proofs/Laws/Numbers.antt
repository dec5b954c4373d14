-- The number of each question, as documents 01 and 02 give it: what a theorem says of a refusal by its question, it says by this number.
-- Assumes nothing.
use Rattle.std.specs.Prelude.{◌≡◌, refl}
use Rattle.layout.specs.declared.questions.Question.TheVariants.{BatchSize, BatchLength, PublicLength, CyclesLength, ScratchLength, ListingLength, WordBits, FirstMark, MarkOrder, TermOrder, GivenBits, OneColumn, RowSought, ColumnRange, CycleRange, PageLength, LowerBits, PackedLength, MergeSizes, PublicColumns}
use Rattle.layout.specs.Questions.{number_of}

pub record QuestionNumbers : Type 0 where
  pub batch_size : number_of BatchSize ≡ 1
  pub batch_length : number_of BatchLength ≡ 2
  pub public_length : number_of PublicLength ≡ 3
  pub cycles_length : number_of CyclesLength ≡ 4
  pub scratch_length : number_of ScratchLength ≡ 5
  pub listing_length : number_of ListingLength ≡ 6
  pub word_bits : number_of WordBits ≡ 7
  pub first_mark : number_of FirstMark ≡ 8
  pub mark_order : number_of MarkOrder ≡ 9
  pub term_order : number_of TermOrder ≡ 10
  pub given_bits : number_of GivenBits ≡ 11
  pub one_column : number_of OneColumn ≡ 12
  pub row_sought : number_of RowSought ≡ 13
  pub column_range : number_of ColumnRange ≡ 14
  pub cycle_range : number_of CycleRange ≡ 15
  pub page_length : number_of PageLength ≡ 16
  pub lower_bits : number_of LowerBits ≡ 17
  pub packed_length : number_of PackedLength ≡ 18
  pub merge_sizes : number_of MergeSizes ≡ 19
  pub public_columns : number_of PublicColumns ≡ 20

pub question-numbers : QuestionNumbers
question-numbers = record {
  batch_size = refl;
  batch_length = refl;
  public_length = refl;
  cycles_length = refl;
  scratch_length = refl;
  listing_length = refl;
  word_bits = refl;
  first_mark = refl;
  mark_order = refl;
  term_order = refl;
  given_bits = refl;
  one_column = refl;
  row_sought = refl;
  column_range = refl;
  cycle_range = refl;
  page_length = refl;
  lower_bits = refl;
  packed_length = refl;
  merge_sizes = refl;
  public_columns = refl;
}
