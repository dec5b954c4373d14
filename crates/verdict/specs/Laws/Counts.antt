-- Counts add up relation by relation; what constraints count, and that their number is the sum.
-- Assumes nothing.
use Rattle.std.specs.Prelude.{◌≡◌, refl, cond, List, [], ◌∷◌, ◌++◌, map, ℕ, zero, suc, ◌+◌, ◌*◌, length}
use Rattle.std.proofs.Common.{sym, ap, ap₂, ◌∙◌, add-zero, zero-add, suc-mul, mul-add, arith}
use Rattle.base.specs.Lists.{from_each}
use Rattle.circuit.specs.declared.Relation.{Relation}
use Rattle.circuit.specs.declared.Relation.TheVariants.{Bin, Fld}
use Rattle.circuit.specs.Rows.{Sides, Row, numbered, same_relation, of_relation}
use Rattle.verdict.specs.declared.Counts.{Counts}
use Rattle.verdict.specs.Counts.{counts, none, counted, rows, every_row}
use Rattle.verdict.specs.Check.{Constraint, in_cycle, in_cycles, constraints}

abbrev pub plus : Counts → Counts → Counts
plus n m = counts (n.bin + m.bin) (n.fld + m.fld)

pub plus_none : (n : Counts) → plus n none ≡ n
plus_none n = ap₂ counts (add-zero n.bin) (add-zero n.fld)

pub none-plus : (n : Counts) → plus none n ≡ n
none-plus n = ap₂ counts (zero-add n.bin) (zero-add n.fld)

pub plus_assoc : (n m k : Counts) → plus (plus n m) k ≡ plus n (plus m k)
plus_assoc n m k = ap₂ counts (omega arith) (omega arith)

-- one more counts alike before and after
pub counted-plus : (rel : Relation) (n m : Counts) → counted rel (plus n m) ≡ plus n (counted rel m)
counted-plus Bin n m = ap (λ (b : ℕ). counts b (n.fld + m.fld)) (omega arith)
counted-plus Fld n m = ap (λ (f : ℕ). counts (n.bin + m.bin) f) (omega arith)

pub counted-first : (rel : Relation) (n m : Counts) → plus (counted rel n) m ≡ plus n (counted rel m)
counted-first Bin n m = ap (λ (b : ℕ). counts b (n.fld + m.fld)) (omega arith)
counted-first Fld n m = ap (λ (f : ℕ). counts (n.bin + m.bin) f) (omega arith)

-- the sum counts each once
pub rows-counted : (rel : Relation) (n : Counts) → rows (counted rel n) ≡ rows n + 1
rows-counted Bin n = omega arith
rows-counted Fld n = omega arith

-- ---- what constraints count

-- so many of one relation
abbrev pub of_one : Relation → ℕ → Counts
of_one Bin n = counts n 0
of_one Fld n = counts 0 n

unfoldable pub tally : List Constraint → Counts
tally [] = none
tally (k ∷ ks) = counted k.row.relation (tally ks)

pub rows-tally : (ks : List Constraint) → rows (tally ks) ≡ length ks
unfolding tally
rows-tally [] = refl
rows-tally (k ∷ ks) = rows-counted k.row.relation (tally ks) ∙ omega (arith, rows-tally ks)

pub tally-append : (xs ys : List Constraint) → tally (xs ++ ys) ≡ plus (tally xs) (tally ys)
unfolding tally
tally-append [] ys = sym (none-plus (tally ys))
tally-append (x ∷ xs) ys = ap (counted x.row.relation) (tally-append xs ys) ∙ outside x.row.relation (tally xs) (tally ys)
  where
    outside : (rel : Relation) (n m : Counts) → counted rel (plus n m) ≡ plus (counted rel n) m
    outside rel n m = counted-plus rel n m ∙ sym (counted-first rel n m)

-- rows of one relation: numbered ones in a cycle, those of a listing, and these in several cycles
pub counted-one : (rel : Relation) (n : ℕ) → counted rel (of_one rel n) ≡ of_one rel (suc n)
counted-one Bin n = ap (λ (b : ℕ). counts b 0) (omega arith)
counted-one Fld n = ap (λ (f : ℕ). counts 0 f) (omega arith)

pub tally-numbered : (rel : Relation) (d m : ℕ) (ss : List Sides) → tally (map (in_cycle d) (numbered rel m ss)) ≡ of_one rel (length ss)
unfolding tally numbered
tally-numbered Bin d m [] = refl
tally-numbered Fld d m [] = refl
tally-numbered rel d m (s ∷ ss) = ap (counted rel) (tally-numbered rel d (suc m) ss) ∙ counted-one rel (length ss)

tally-rows : (rel : Relation) (d : ℕ) (rs : List Row) → tally (map (in_cycle d) (of_relation rel rs)) ≡ of_one rel (length (of_relation rel rs))
unfolding tally of_relation
tally-rows Bin d [] = refl
tally-rows Fld d [] = refl
tally-rows rel d (r ∷ rs) = by-test r.relation rel refl (tally-rows rel d rs)
  where
    by-test : (q p : Relation) → r.relation ≡ q → tally (map (in_cycle d) (of_relation p rs)) ≡ of_one p (length (of_relation p rs))
        → tally (map (in_cycle d) (cond (same_relation q p) (r ∷ of_relation p rs) (of_relation p rs)))
        ≡ of_one p (length (cond (same_relation q p) (r ∷ of_relation p rs) (of_relation p rs)))
    by-test Bin Bin e later = ap₂ counted e later ∙ counted-one Bin (length (of_relation Bin rs))
    by-test Fld Fld e later = ap₂ counted e later ∙ counted-one Fld (length (of_relation Fld rs))
    by-test Bin Fld e later = later
    by-test Fld Bin e later = later

plus_one : (rel : Relation) (n m : ℕ) → plus (of_one rel n) (of_one rel m) ≡ of_one rel (n + m)
plus_one Bin n m = refl
plus_one Fld n m = refl

pub tally-cycles : (rel : Relation) (rs : List Row) (n d : ℕ)
    → tally (in_cycles d n (of_relation rel rs)) ≡ of_one rel (n * length (of_relation rel rs))
unfolding from_each tally
tally-cycles rel rs zero d = nothing rel
  where
    nothing : (rel : Relation) → none ≡ of_one rel (0 * length (of_relation rel rs))
    nothing Bin = ap (λ (b : ℕ). counts b 0) (omega arith)
    nothing Fld = ap (λ (f : ℕ). counts 0 f) (omega arith)
tally-cycles rel rs (suc n) d =
    tally-append (map (in_cycle d) (of_relation rel rs)) (in_cycles (suc d) n (of_relation rel rs))
    ∙ ap₂ plus (tally-rows rel d rs) (tally-cycles rel rs n (suc d))
    ∙ plus_one rel (length (of_relation rel rs)) (n * length (of_relation rel rs))
    ∙ ap (of_one rel) (omega (arith, suc-mul n (length (of_relation rel rs))))

-- a row is of one relation or the other, so together they are all rows
count-relations : (rs : List Row) → length (of_relation Bin rs) + length (of_relation Fld rs) ≡ length rs
unfolding of_relation
count-relations [] = refl
count-relations (r ∷ rs) = by-relation r.relation (count-relations rs)
  where
    by-relation : (rel : Relation) → length (of_relation Bin rs) + length (of_relation Fld rs) ≡ length rs
        → length (cond (same_relation rel Bin) (r ∷ of_relation Bin rs) (of_relation Bin rs))
        + length (cond (same_relation rel Fld) (r ∷ of_relation Fld rs) (of_relation Fld rs)) ≡ suc (length rs)
    by-relation Bin e = omega arith
    by-relation Fld e = omega arith

pub rows-every : (cpi : ℕ) (rs : List Row) → rows (every_row cpi rs) ≡ cpi * length rs
rows-every cpi rs =
    sym (mul-add cpi (length (of_relation Bin rs)) (length (of_relation Fld rs))) ∙ ap (λ (n : ℕ). cpi * n) (count-relations rs)

-- all of a batch: as many of each relation as there are cycles and rows of it
pub tally-all : (cpi : ℕ) (rs : List Row) → tally (constraints cpi rs) ≡ every_row cpi rs
unfolding constraints
tally-all cpi rs =
    tally-append (in_cycles 0 cpi (of_relation Bin rs)) (in_cycles 0 cpi (of_relation Fld rs))
    ∙ ap₂ plus (tally-cycles Bin rs cpi 0) (tally-cycles Fld rs cpi 0)
    ∙ ap₂ counts (add-zero (cpi * length (of_relation Bin rs))) (zero-add (cpi * length (of_relation Fld rs)))
