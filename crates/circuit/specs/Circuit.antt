-- The rows of `build_circuit`, family by family, in its order. Each family is a definition over its index.
-- Assumes nothing.
use Rattle.std.specs.Prelude.{List, [], ◌∷◌, ◌++◌, map, ℕ, ◌+◌, ◌-◌, ◌*◌, ◌%◌, zero, suc}
use Rattle.base.specs.Lists.{from, from_each, joined}
use Rattle.base.specs.Bits.{bit_of}
use Rattle.layout.specs.Columns.{ONE-COL, RS1, RS2, RD, LOAD-VAL, SHIFT-OUT, T1, T2, CARRY-OFF, ALU, SHIFT-SRC, STORE-OLD, STORE-SRC, SUB, WE, IS-LOAD, IS-STORE, IS-ARITH, HALT, IS-SHIFT, LD-BYTE, LD-HALF, LD-WORD, TAKEN, OFF, RAM-ADDR, FETCH-OP, FETCH-FUNCT3, EQA, PA, EQB, PB, CA, CH, CH2, NH, WNL, ZERO, OPSYS, OPBR, EQFM, EQF, LTSA, LTSB, LTUA, LTUB, CEQ, CLT, CLU, ZE16, ZE8}
use Rattle.circuit.specs.declared.Coefficient.TheVariants.{Zero, Power}
use Rattle.circuit.specs.declared.Relation.TheVariants.{Bin, Fld}
use Rattle.circuit.specs.Rows.{Term, Sides, Row, numbered, encode}

-- 2^k times a column
abbrev pub power_term : ℕ → ℕ → Term
power_term k c = record { coefficient = Power k; column = c }

-- a column
abbrev pub col : ℕ → Term
col c = power_term 0 c

-- the 1 of a sum
abbrev pub one_term : Term
one_term = col ONE-COL

abbrev pub row : List Term → List Term → List Term → Sides
row a b c = record { a = a; b = b; c = c }

-- x · y = z
abbrev pub product_row : ℕ → ℕ → ℕ → Sides
product_row x y z = row (col x ∷ []) (col y ∷ []) (col z ∷ [])

abbrev pub if_zero : {A : Type 0} → ℕ → A → A → A
if_zero zero a b = a
if_zero (suc n) a b = b

-- 1 + x + b, which says whether x is the bit b: the 1 is written only where b is 0
abbrev pub is : ℕ → ℕ → List Term
is x b = if_zero b (col x ∷ one_term ∷ []) (col x ∷ [])

-- the same with the 1 written always, of coefficient zero where b is 1: in all, 21 such terms
abbrev pub is_of : ℕ → ℕ → List Term
is_of x b = col x ∷ record { coefficient = if_zero b (Power 0) Zero; column = ONE-COL } ∷ []

-- ---- bin rows

-- (t1 + carry)(t2 + carry) = next carry + carry
abbrev pub adder_row : ℕ → Sides
adder_row i =
    row (col (T1 + i) ∷ col (CARRY-OFF + i) ∷ []) (col (T2 + i) ∷ col (CARRY-OFF + i) ∷ [])
    (col (CARRY-OFF + suc i) ∷ col (CARRY-OFF + i) ∷ [])

-- (x + y) · 1 = 0
abbrev pub copy_row : ℕ → ℕ → Sides
copy_row x y = row (col x ∷ col y ∷ []) (one_term ∷ []) []

abbrev pub copy_rows : ℕ → List Sides
copy_rows i =
    copy_row (SHIFT-SRC + i) (RS1 + i)
    ∷ copy_row (STORE-OLD + i) (LOAD-VAL + i)
    ∷ copy_row (STORE-SRC + i) (RS2 + i)
    ∷ []

-- (load + store)(address + alu) = 0: load and store together cancel
abbrev pub address_row : ℕ → Sides
address_row t = row (col IS-LOAD ∷ col IS-STORE ∷ []) (col (RAM-ADDR + t) ∷ col (ALU + 3 + t) ∷ []) []

-- p says whether the low two bits of OFF are those of v, and e whether OFF is v
abbrev pub offset_rows : ℕ → ℕ → ℕ → List Sides
offset_rows v p e =
    row (is OFF (bit_of v 0)) (is (OFF + 1) (bit_of v 1)) (col p ∷ [])
    ∷ row (col p ∷ []) (is (OFF + 2) (bit_of v 2)) (col e ∷ [])
    ∷ []

-- lane a is that of byte OFF where OFF is a, and that of byte OFF + 1 where OFF is a - 1, modulo 8
abbrev pub lane_rows : ℕ → List Sides
lane_rows a = offset_rows a (PA + a) (EQA + a) ++ offset_rows ((a + 7) % 8) (PB + a) (EQB + a)

abbrev pub conditional_rows : ℕ → List Sides
conditional_rows a =
    product_row (EQA + a) LD-BYTE (CA + a)
    ∷ product_row (EQA + a) LD-HALF (CH + a)
    ∷ product_row (EQB + a) LD-HALF (CH2 + a)
    ∷ []

abbrev pub neither_row : Sides
neither_row = row (col LD-WORD ∷ one_term ∷ []) (col LD-HALF ∷ one_term ∷ []) (col NH ∷ [])

abbrev pub extend16_row : Sides
extend16_row = row (col LD-WORD ∷ one_term ∷ []) (col IS-LOAD ∷ []) (col ZE16 ∷ [])

abbrev pub extend8_row : Sides
extend8_row = product_row NH IS-LOAD ZE8

-- where the gate is 1, bit b of RD is 0
abbrev pub extension_row : ℕ → ℕ → Sides
extension_row gate b = row (col gate ∷ []) (col (RD + b) ∷ []) []

-- a chain at x starts with its first test, and goes on with the product of what stands before and the next test
abbrev pub chain_start : ℕ → List Term → Sides
chain_start x test = row (col x ∷ test) (one_term ∷ []) []

abbrev pub chain_next : ℕ → ℕ → List Term → Sides
chain_next x i test = row (col (x + i - 1) ∷ []) test (col (x + i) ∷ [])

abbrev pub zero_rows : List Sides
zero_rows = chain_start ZERO (is ALU 0) ∷ from 1 63 (λ i. chain_next ZERO i (is (ALU + i) 0))

-- the chain at x says whether the opcode is op
abbrev pub opcode_rows : ℕ → ℕ → List Sides
opcode_rows x op = chain_start x (is_of FETCH-OP (bit_of op 0)) ∷ from 1 6 (λ i. chain_next x i (is_of (FETCH-OP + i) (bit_of op i)))

-- halt is 1 exactly where the chain at OPSYS ends in 1
abbrev pub halt_rows : List Sides
halt_rows =
    row (col HALT ∷ []) (col (OPSYS + 6) ∷ one_term ∷ []) []
    ∷ row (col HALT ∷ one_term ∷ []) (col (OPSYS + 6) ∷ []) []
    ∷ []

abbrev pub funct3_rows : ℕ → List Sides
funct3_rows f =
    row (is_of FETCH-FUNCT3 (bit_of f 0)) (is_of (FETCH-FUNCT3 + 1) (bit_of f 1)) (col (EQFM + f) ∷ [])
    ∷ row (col (EQFM + f) ∷ []) (is_of (FETCH-FUNCT3 + 2) (bit_of f 2)) (col (EQF + f) ∷ [])
    ∷ []

-- signed less by signs and ALU; the adder's carry out, whose complement is unsigned less
abbrev pub comparison_rows : List Sides
comparison_rows =
    row (col (RS1 + 63) ∷ col (RS2 + 63) ∷ []) (col (RS1 + 63) ∷ []) (col LTSA ∷ [])
    ∷ row (col (RS1 + 63) ∷ col (RS2 + 63) ∷ one_term ∷ []) (col (ALU + 63) ∷ []) (col LTSB ∷ [])
    ∷ product_row (T1 + 63) (T2 + 63) LTUA
    ∷ row (col (CARRY-OFF + 63) ∷ []) (col (T1 + 63) ∷ col (T2 + 63) ∷ []) (col LTUB ∷ [])
    ∷ []

abbrev pub mux_rows : List Sides
mux_rows =
    row (col EQF ∷ col (EQF + 1) ∷ []) (col (ZERO + 63) ∷ []) (col CEQ ∷ [])
    ∷ row (col (EQF + 4) ∷ col (EQF + 5) ∷ []) (col LTSA ∷ col LTSB ∷ []) (col CLT ∷ [])
    ∷ row (col (EQF + 6) ∷ col (EQF + 7) ∷ []) (col LTUA ∷ col LTUB ∷ one_term ∷ []) (col CLU ∷ [])
    ∷ []

abbrev pub taken_row : Sides
taken_row =
    row (col (OPBR + 6) ∷ [])
    (col CEQ ∷ col (EQF + 1) ∷ col CLT ∷ col (EQF + 5) ∷ col CLU ∷ col (EQF + 7) ∷ []) (col TAKEN ∷ [])

abbrev pub write_gate_row : Sides
write_gate_row = row (col WE ∷ []) (col IS-LOAD ∷ one_term ∷ []) (col WNL ∷ [])

unfoldable pub bin_families : List (List Sides)
bin_families =
    from 0 63 adder_row
    ∷ from_each 0 64 copy_rows
    ∷ from 0 8 address_row
    ∷ from_each 0 8 lane_rows
    ∷ from_each 0 8 conditional_rows
    ∷ (neither_row ∷ [])
    ∷ (extend16_row ∷ [])
    ∷ (extend8_row ∷ [])
    ∷ from 16 48 (extension_row ZE16)
    ∷ from 8 8 (extension_row ZE8)
    ∷ zero_rows
    ∷ opcode_rows OPSYS 0x73
    ∷ opcode_rows OPBR 0x63
    ∷ halt_rows
    ∷ from_each 0 8 funct3_rows
    ∷ comparison_rows
    ∷ mux_rows
    ∷ (taken_row ∷ [])
    ∷ (write_gate_row ∷ [])
    ∷ []

-- ---- fld rows

-- bits i below n of the words that start at the columns xs, bit i with coefficient 2^i
abbrev pub packed : ℕ → List ℕ → List Term
packed n xs = from_each 0 n (λ i. map (λ x. power_term i (x + i)) xs)

-- where column x is 1, the words at y and z agree in their low n bits
abbrev pub agree_row : ℕ → ℕ → ℕ → ℕ → Sides
agree_row n x y z = row (col x ∷ []) (packed n (y ∷ z ∷ [])) []

abbrev pub sum_row : Sides
sum_row = row (packed 64 (T1 ∷ T2 ∷ CARRY-OFF ∷ ALU ∷ [])) (col IS-ARITH ∷ []) []

abbrev pub first_carry_row : Sides
first_carry_row = product_row SUB ONE-COL CARRY-OFF

-- where halt is 1, RD is the public output
abbrev pub output_row : Sides
output_row = row (col HALT ∷ []) (packed 64 (RD ∷ []) ++ (col (ONE-COL + 1) ∷ [])) []

abbrev pub load_rows : ℕ → List Sides
load_rows a =
    agree_row 8 (CA + a) (LOAD-VAL + 8 * a) RD
    ∷ agree_row 8 (CH + a) (LOAD-VAL + 8 * a) RD
    ∷ agree_row 8 (CH2 + a) (LOAD-VAL + 8 * a) (RD + 8)
    ∷ []

unfoldable pub fld_families : List (List Sides)
fld_families =
    (agree_row 64 WNL ALU RD ∷ [])
    ∷ (sum_row ∷ [])
    ∷ (first_carry_row ∷ [])
    ∷ (output_row ∷ [])
    ∷ (agree_row 64 HALT RD RS1 ∷ [])
    ∷ (agree_row 64 IS-SHIFT ALU SHIFT-OUT ∷ [])
    ∷ (agree_row 64 LD-WORD RD LOAD-VAL ∷ [])
    ∷ from_each 0 8 load_rows
    ∷ []

-- ---- the house listing, document 01's term for the listing that the prover ships: its rows, and its words

unfoldable pub circuit_rows : List Row
circuit_rows = numbered Bin 0 (joined bin_families) ++ numbered Fld 0 (joined fld_families)

unfoldable pub circuit_words : List ℕ
circuit_words = encode circuit_rows
