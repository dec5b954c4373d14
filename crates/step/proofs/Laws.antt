-- Laws, which the prover checks; nobody has to believe them.
--     Alone             of all fillings exactly the filler's makes the determining rows hold: `filler-alone`
--     Answers           accepted and failing, of the check as it is called: a refused batch is neither
--     Batch             a batch's fillings, cycle by cycle
--     BinRows           the bin rows over bits, as far as they are not solved as they stand
--     BitTest           the bit test of given batches of every size: a column that is no bit is named, whatever bits stand elsewhere
--     Branches          the taken clause met by every cycle that compares: each size, opcode and funct3, any two words
--     Chosen            a batch of any size from any choice of bits meets demand 3's premises
--     Clauses           the clauses of demand 3 at work, of every size and in every cycle
--     ComparingRow      a cycle that compares and does nothing else: what its words read, and that it meets the conditions
--     Comparison        what it is for a cycle to compare RS1 with RS2, in numbers: `compares-exactly`
--     Conditions        where the determining rows hold, the others hold exactly when the ten conditions do
--     Count             counting fillings: `all-fillings`
--     Cycle             one cycle over bits: its rows over the field are the determining rows, and the others
--     CycleOrder        the constraints of cycle 0 in their order
--     Derived           how many columns are derived, where they stand, and how many a batch has
--     Determined        what the determining rows come to, family by family, over bits
--     Determining       the determining rows are solved in turn, and their solution is the one that makes them hold
--     FieldRows         rows over the field, of a cycle whose columns up to the one column are bits
--     FieldSums         sides over the field: a packed sum is zero exactly when each of its bits is
--     FillAnswers       the filler's yes is what demand 3 supposes of a batch: `demand3-of-fill`
--     FillRefusals      the filler's refusals 11 and 12, of given batches of every size: the number, the place, and the batch as it came
--     FilledRow         a row given by the columns that hold 1, filled and checked as called
--     FillingElements   what a filling holds, column by column: its bits in the derived columns, and what stood there in all others
--     Given             the step conditions read given columns alone
--     Listings          the house rows with further bin rows that read given columns alone: what the theorem speaks of
--     Ones              rows with 1 in the columns of a list: what stands where, and what the rows of the circuit make of it
--     Proved            demand 3 proved: `demand3`
--     Sheet             P5's row with 1 in more columns: what stands in it, and what it holds once filled
--     Sides             what a side of a row adds up to over bits, where the one column is 1
--     Solvable          when a row can be solved for a column, as a test that computes, and what a row that passes it says of its target
--     Step              OFF and funct3 have three bits
--     Strict            the strict listing's eight rows say of the flags what the strict conditions say: `meaning`
--     StrictFlags       the strict conditions at work: all 32 choices of the five flags, of every size and in every cycle
--     StrictNames       where flags are wrong, the strict listing's verdict on the filler's batch names the first such cycle and row
--     Stricter          what the strict listing accepts the house listing accepts: `stricter`
--     Taken             halt and taken where the determining rows hold
--     Unique            rows that can be solved in turn: `solve` meets them, and nothing else does
--     Widths            as many widths as loads: `width-clauses`
pub mod Alone
pub mod Answers
pub mod Batch
pub mod BinRows
pub mod BitTest
pub mod Branches
pub mod Chosen
pub mod Clauses
pub mod ComparingRow
pub mod Comparison
pub mod Conditions
pub mod Count
pub mod Cycle
pub mod CycleOrder
pub mod Derived
pub mod Determined
pub mod Determining
pub mod FieldRows
pub mod FieldSums
pub mod FillAnswers
pub mod FillRefusals
pub mod FilledRow
pub mod FillingElements
pub mod Given
pub mod Listings
pub mod Ones
pub mod Proved
pub mod Sheet
pub mod Sides
pub mod Solvable
pub mod Step
pub mod Strict
pub mod StrictFlags
pub mod StrictNames
pub mod Stricter
pub mod Taken
pub mod Unique
pub mod Widths
