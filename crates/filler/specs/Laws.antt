-- Laws, which the prover checks; nobody has to believe them.
--     AdderRows         the adder's rows, the copies and the zero chain hold, where the columns are as the words say
--     Blocks            what a batch holds after words are put into blocks of a cycle's columns
--     BranchRows        the rows of opcode, funct3, comparisons and mux hold, where the columns are as the words say
--     ByBit             the filler's words bit by bit: carries, chains and lanes, with no word operation in them
--     Cycle             the cycle that the filler writes by words is the one whose determining rows hold
--     Cycles            cycle after cycle filled by words, a batch becomes the filler's: `filled`, of which demand 3 speaks
--     Derive            a cycle whose derived columns are as the words say
--     Holds             rows hold where their columns are what they say: the shapes that the determining rows have
--     LaneRows          the rows of the byte lanes hold, where the columns are as the words say
--     Lanes             which lane an offset or funct3 is, bit by bit: by computing every case
--     Loops             what the filler's code makes at each turn of its loops, and of its words
--     MetEach           each test is true exactly when the condition of its number holds
--     MetFirst          all tests are true exactly when the ten conditions hold; the answer names the first that does not
--     MetRead           what the code reads of a cycle is what the conditions are about: the fields of two words of its columns
--     Promise           what the filler promises to the crates above it, of every batch and cycle, and of its words bit by bit
--     Rows              a cycle whose derived columns are as the words say meets the determining rows
pub mod AdderRows
pub mod Blocks
pub mod BranchRows
pub mod ByBit
pub mod Cycle
pub mod Cycles
pub mod Derive
pub mod Holds
pub mod LaneRows
pub mod Lanes
pub mod Loops
pub mod MetEach
pub mod MetFirst
pub mod MetRead
pub mod Promise
pub mod Rows
