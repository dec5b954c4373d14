-- Laws, which the prover checks; nobody has to believe them.
--     Exactly           a cycle is judged with yes exactly when it meets the conditions and its derived columns are the filler's
--     Examples          the definitions met by examples, and cycles close to them that are judged with no
--     Filled            what the filler makes of a batch is over bits, and is judged as the conditions say
--     Judges            over bits, every cycle is judged with yes exactly when the check accepts
--     Named             the same where bits are known only in the columns that rows name
--     Short             what the short way says yes to, the check accepts; of bits it says yes to nothing less
--     WordsSame         the judgement of packed words is that of the cycle's bits
--     WordsWalk         the blocks part by part; and cycle after cycle: a turn of the loop, and each cycle of a yes
--     Written           blocks are written in a cycle exactly when each of their columns has the bit of its block's word
pub mod Exactly
pub mod Examples
pub mod Filled
pub mod Judges
pub mod Named
pub mod Short
pub mod WordsSame
pub mod WordsWalk
pub mod Written
