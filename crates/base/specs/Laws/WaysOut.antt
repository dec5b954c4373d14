-- A way out of a function that its tests pick is the case that a definition picks by the same tests. Each law takes one test off the
-- definition's side; `waysOut` is what `search` is handed to take off all of them.
-- Assumes nothing.
use Rattle.std.specs.Prelude.{◌≡◌, Bool, true, false, cond, not}
use Rattle.std.proofs.Common.{sym, ap, ◌∙◌, lt-ltb, le-ltb, le-leb, eq-eqb, ne_eqb}
use Rattle.base.specs.Laws.Tests.{passed, refused}
use Rattle.std.proofs.lemmas.Bool.{not-true, not-false, lt-leb}

-- the test was passed, or it was not
pub if-passed : {A : Type 0} (test : Bool) (x next refusal : A) → test ≡ true → x ≡ next → x ≡ cond test next refusal
if-passed test x next refusal e h = h ∙ passed test next refusal e

pub if-refused : {A : Type 0} (test : Bool) (x next refusal : A) → test ≡ false → x ≡ refusal → x ≡ cond test next refusal
if-refused test x next refusal e h = h ∙ refused test next refusal e

-- a test that a function answered
pub told : {A : Type 0} (answer test value : A) → answer ≡ test → answer ≡ value → test ≡ value
told answer test value e h = sym e ∙ h

pub told-not : (answer test : Bool) → answer ≡ test → not answer ≡ true → test ≡ false
told-not answer test e h = sym e ∙ not-true answer h

pub told-so : (answer test : Bool) → answer ≡ test → not answer ≡ false → test ≡ true
told-so answer test e h = sym e ∙ not-false answer h

-- what a function's answer was read as, which picks the arm
pub read_as : {A B : Type 0} (f : A → B) (told value arm : A) (x : B) → told ≡ value → told ≡ arm → x ≡ f arm → x ≡ f value
read_as f told value arm x e q h = h ∙ ap f (sym q ∙ e)

pub ruleset waysOut = (if-passed, if-refused, told, told-not, told-so, lt-ltb, le-ltb, le-leb, lt-leb, eq-eqb, ne_eqb)
