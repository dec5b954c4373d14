-- The columns of one cycle, as `WITNESS_LAYOUT` places them; a word's or field's column is that of its bit 0. The same names are constants
-- in src/columns.rt, which says where they differ from the original's; `witness_layout` and `field_widths` tie the two. Assumes nothing.
use Rattle.std.specs.Prelude.{List, [], ◌∷◌, ℕ, ◌+◌, ◌-◌, ◌/◌}

-- ---- how many bits a word has, and each field of the instruction bus

abbrev pub W-BITS : ℕ
W-BITS = 64  -- a word

abbrev pub OP-BITS : ℕ
OP-BITS = 7  -- opcode

abbrev pub IDX-BITS : ℕ
IDX-BITS = 6  -- index of a register

abbrev pub FUNCT3-BITS : ℕ
FUNCT3-BITS = 3  -- funct3

abbrev pub IMM-BITS : ℕ
IMM-BITS = 13  -- immediate

-- the widths above, in that order
unfoldable pub field_widths : List ℕ
field_widths = W-BITS ∷ OP-BITS ∷ IDX-BITS ∷ FUNCT3-BITS ∷ IMM-BITS ∷ []

-- ---- the halves of a row z = (w, 1, x): the witness columns, the one column, the public values

abbrev pub W-COLS : ℕ
W-COLS = 2048  -- witness columns of a cycle

abbrev pub ONE-COL : ℕ
ONE-COL = W-COLS  -- the one column: the first public one

abbrev pub M : ℕ
M = 4096  -- all columns of a row

abbrev pub X-COLS : ℕ
X-COLS = M / 2 - 1  -- public values of a row

-- ---- words of 64 bits, low bit first: the column of bit 0

abbrev pub RS1 : ℕ
RS1 = 0  -- first source register

abbrev pub RS2 : ℕ
RS2 = 64  -- second source register

abbrev pub RD : ℕ
RD = 128  -- destination register

abbrev pub LOAD-VAL : ℕ
LOAD-VAL = 192  -- the memory word at the access address

abbrev pub SHIFT-OUT : ℕ
SHIFT-OUT = 256  -- what the shifter gives

abbrev pub T1 : ℕ
T1 = 320  -- first operand of the adder

abbrev pub T2 : ℕ
T2 = 384  -- second operand of the adder

abbrev pub CARRY-OFF : ℕ
CARRY-OFF = 448  -- carry into each bit of the adder

abbrev pub ALU : ℕ
ALU = 512  -- what the ALU gives

abbrev pub SHIFT-SRC : ℕ
SHIFT-SRC = 576  -- copy of RS1

abbrev pub STORE-OLD : ℕ
STORE-OLD = 640  -- copy of LOAD_VAL

abbrev pub STORE-SRC : ℕ
STORE-SRC = 704  -- copy of RS2

-- ---- flags, offset, addresses and the instruction

abbrev pub FLAGS : ℕ
FLAGS = 768  -- 16 flag bits

abbrev pub OFF : ℕ
OFF = 784  -- byte offset of an access, 3 bits

abbrev pub RAM-ADDR : ℕ
RAM-ADDR = 792  -- word address of an access, 8 bits

abbrev pub PC : ℕ
PC = 800  -- micro-PC, 8 bits

abbrev pub FETCH : ℕ
FETCH = 832  -- the instruction bus, 64 bits: 808..831 stay empty, so that it is aligned

-- ---- the flags

abbrev pub SUB : ℕ
SUB = FLAGS  -- subtract

abbrev pub WE : ℕ
WE = FLAGS + 1  -- write the destination register

abbrev pub IS-LOAD : ℕ
IS-LOAD = FLAGS + 2  -- load

abbrev pub IS-STORE : ℕ
IS-STORE = FLAGS + 3  -- store

abbrev pub IS-ARITH : ℕ
IS-ARITH = FLAGS + 4  -- arithmetic: the adder gives ALU

abbrev pub HALT : ℕ
HALT = FLAGS + 5  -- the program ends: derived

abbrev pub IS-SHIFT : ℕ
IS-SHIFT = FLAGS + 6  -- shift: the shifter gives ALU

abbrev pub IS-LOGIC : ℕ
IS-LOGIC = FLAGS + 7  -- logic: named by no row

abbrev pub LD-BYTE : ℕ
LD-BYTE = FLAGS + 8  -- load of a byte

abbrev pub LD-HALF : ℕ
LD-HALF = FLAGS + 9  -- load of two bytes

abbrev pub LD-WORD : ℕ
LD-WORD = FLAGS + 10  -- load of all 64 bits

abbrev pub TAKEN : ℕ
TAKEN = FLAGS + 11  -- the branch is taken: derived

-- ---- fields of the instruction bus: the column of each one's bit 0

abbrev pub FETCH-OP : ℕ
FETCH-OP = FETCH  -- opcode, 7 bits

abbrev pub FETCH-RD : ℕ
FETCH-RD = FETCH + 7  -- index of rd, 6 bits

abbrev pub FETCH-RS1 : ℕ
FETCH-RS1 = FETCH + 13  -- index of rs1, 6 bits

abbrev pub FETCH-RS2 : ℕ
FETCH-RS2 = FETCH + 19  -- index of rs2, 6 bits

abbrev pub FETCH-FUNCT3 : ℕ
FETCH-FUNCT3 = FETCH + 25  -- funct3, 3 bits

abbrev pub FETCH-IMM : ℕ
FETCH-IMM = FETCH + 28  -- immediate, 13 bits

-- ---- the derived columns of byte lanes, 8 a name, one a lane, and two gates; src/columns.rt says what the rows make of each

abbrev pub EQA : ℕ
EQA = 896

abbrev pub PA : ℕ
PA = 904

abbrev pub EQB : ℕ
EQB = 912

abbrev pub PB : ℕ
PB = 920

abbrev pub CA : ℕ
CA = 928

abbrev pub CH : ℕ
CH = 936

abbrev pub CH2 : ℕ
CH2 = 944

abbrev pub NH : ℕ
NH = 952

abbrev pub WNL : ℕ
WNL = 953

-- ---- chains and comparisons

abbrev pub ZERO : ℕ
ZERO = 1024

abbrev pub OPSYS : ℕ
OPSYS = 1088

abbrev pub OPBR : ℕ
OPBR = 1095

abbrev pub EQFM : ℕ
EQFM = 1102

abbrev pub EQF : ℕ
EQF = 1110

abbrev pub LTSA : ℕ
LTSA = 1118

abbrev pub LTSB : ℕ
LTSB = 1119

abbrev pub LTUA : ℕ
LTUA = 1120

abbrev pub LTUB : ℕ
LTUB = 1121

abbrev pub CEQ : ℕ
CEQ = 1122

abbrev pub CLT : ℕ
CLT = 1123

abbrev pub CLU : ℕ
CLU = 1124

abbrev pub ZE16 : ℕ
ZE16 = 1125

abbrev pub ZE8 : ℕ
ZE8 = 1126

abbrev pub USED : ℕ
USED = 1127

-- every column above, in that order
unfoldable pub witness_layout : List ℕ
witness_layout =
    W-COLS ∷ ONE-COL ∷ M ∷ X-COLS
    ∷ RS1 ∷ RS2 ∷ RD ∷ LOAD-VAL ∷ SHIFT-OUT ∷ T1 ∷ T2 ∷ CARRY-OFF ∷ ALU ∷ SHIFT-SRC ∷ STORE-OLD ∷ STORE-SRC
    ∷ FLAGS ∷ OFF ∷ RAM-ADDR ∷ PC ∷ FETCH
    ∷ SUB ∷ WE ∷ IS-LOAD ∷ IS-STORE ∷ IS-ARITH ∷ HALT ∷ IS-SHIFT ∷ IS-LOGIC ∷ LD-BYTE ∷ LD-HALF ∷ LD-WORD ∷ TAKEN
    ∷ FETCH-OP ∷ FETCH-RD ∷ FETCH-RS1 ∷ FETCH-RS2 ∷ FETCH-FUNCT3 ∷ FETCH-IMM
    ∷ EQA ∷ PA ∷ EQB ∷ PB ∷ CA ∷ CH ∷ CH2 ∷ NH ∷ WNL
    ∷ ZERO ∷ OPSYS ∷ OPBR ∷ EQFM ∷ EQF ∷ LTSA ∷ LTSB ∷ LTUA ∷ LTUB ∷ CEQ ∷ CLT ∷ CLU ∷ ZE16 ∷ ZE8 ∷ USED
    ∷ []
