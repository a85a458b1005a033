-- When a step makes a value: a test over a row as its numbers stand in the work area, which the search for a step back runs, and what it says.
use Rattle.std.specs.Prelude.{◌≡◌, refl, Bool, true, false, cond, List, ℕ, ◌+◌, ◌*◌, ◌/◌, ◌%◌, ◌<◌, ◌≤◌, eqb, ℤ, pos, ◌+ℤ◌, length, get_or, None, Option, Some}
use Rattle.std.proofs.Common.{sym, ◌∙◌, arith, below_more, eqb-true, eq-eqb, ne_eqb, SFits}
use Rattle.std.specs.Int.{w64}
use Rattle.integers.specs.Integer.{eq_z, Within}
use Rattle.integers.proofs.Linear.{ints, zs}
use Rattle.integers.specs.Laws.{never, eq_eq_z, eq_z_true, ne_eq_z}
use Rattle.lines.specs.Limits.{max_variables}
use Rattle.lines.specs.Line.{line_at, line_count}
use Rattle.lines.specs.Valid.{LinesOk}
use Rattle.steps.specs.declared.Step.{Step}
use Rattle.steps.specs.Step.{max_weight, step_numbered_lem}
use Rattle.steps.specs.Laws.{from_line}
use Rattle.steps.proofs.Mirror.{line_step_known}
use Rattle.lines.specs.Limits.{absent_greatest}

-- an entry of a row as it is stored
abbrev pub entry : List ℤ → ℕ → ℤ
entry row p = get_or row p (pos 0)

-- an entry that is a number lies within plus and minus this: a row has at most as many rounds as there are points
abbrev pub max_entry : ℕ
max_entry = 2 * max_variables * max_weight

-- a stored entry stands for no walk, or is small
abbrev pub Near : ℤ → Type 0
Near z = (z ≡ absent_greatest → ⊥) → Within max_entry z

-- ---- the test
-- the step ends at v, and the old row's entry at its start is a number that makes z with the weight
unfoldable pub step_makes_lem : List ℤ → ℕ → ℤ → Step → Bool
step_makes_lem old v z t =
    cond (eqb t.to v)
    (cond (eq_z (entry old t.from) absent_greatest) false (eq_z (entry old t.from +ℤ t.weight) z))
    false

abbrev pub named_makes : List ℤ → ℕ → ℤ → Option Step → Bool
named_makes old v z (Some t) = step_makes_lem old v z t
named_makes old v z None = false

-- the step with a number makes z at v
abbrev pub makes_value : List ℤ → List ℤ → ℕ → ℤ → ℕ → Bool
makes_value L old v z number = named_makes old v z (step_numbered_lem L number)

-- where a step starts
abbrev pub start_of : Option Step → ℕ
start_of (Some t) = t.from
start_of None = 0

-- ---- what the functions ask and promise
-- the old row of a list's points, each entry of it near
pub record OldRow (L old : List ℤ) : Type 0 where
  pub variables : ℕ
  pub few : variables ≤ max_variables
  pub lines : LinesOk variables L
  pub size : length old ≡ 2 * variables
  pub near : (p : ℕ) → p < length old → Near (entry old p)

-- the number is that of a step that makes z at v
pub record IsMaker (L old : List ℤ) (v : ℕ) (z : ℤ) (number : ℕ) : Type 0 where
  pub below : number < 2 * line_count L
  pub makes : makes_value L old v z number ≡ true

-- there is such a step
pub record Maker (L old : List ℤ) (v : ℕ) (z : ℤ) : Type 0 where
  pub number : ℕ
  pub is : IsMaker L old v z number

pub record SearchOk (L old : List ℤ) (v : ℕ) (z : ℤ) : Type 0 where
  pub row : OldRow L old
  pub some : Maker L old v z

-- no step with a number below k makes z at v
abbrev pub NoneBelow : List ℤ → List ℤ → ℕ → ℤ → ℕ → Type 0
NoneBelow L old v z k = (i : ℕ) → i < k → makes_value L old v z i ≡ true → ⊥

module _ (L old : List ℤ) (v : ℕ) (z : ℤ) where
  pub none_fewer : {k j : ℕ} → NoneBelow L old v z k → j ≤ k → NoneBelow L old v z j
  none_fewer none h i l = none i (omega arith)

  -- one step more was tried, with the outcome r
  pub none_more : (k : ℕ) (r : Bool) → NoneBelow L old v z k → r ≡ makes_value L old v z k → r ≡ false → NoneBelow L old v z (k + 1)
  none_more k r none is left = below_more (λ (i : ℕ). makes_value L old v z i ≡ true → ⊥) k none (λ f. let clash : true ≡ false = sym f ∙ sym is ∙ left in never (cc))

-- ---- the ways through the test
module _ (old : List ℤ) (v : ℕ) (z : ℤ) (t : Step) where
  pub ends_elsewhere : (t.to ≡ v → ⊥) → false ≡ step_makes_lem old v z t
  unfolding step_makes_lem
  ends_elsewhere n = rw (ne_eqb t.to v n)

  pub starts_nowhere : t.to ≡ v → entry old t.from ≡ absent_greatest → false ≡ step_makes_lem old v z t
  unfolding step_makes_lem
  starts_nowhere e f = rw (eq-eqb t.to v e, eq_eq_z (entry old t.from) absent_greatest f)

  pub sums : t.to ≡ v → (entry old t.from ≡ absent_greatest → ⊥) → eq_z (entry old t.from +ℤ t.weight) z ≡ step_makes_lem old v z t
  unfolding step_makes_lem
  sums e n = rw (eq-eqb t.to v e, ne_eq_z (entry old t.from) absent_greatest n)

-- a small entry and a weight do not overflow
pub weight_fits : (w : ℤ) → Within max_weight w → SFits w64 w
weight_fits w b = simp ints (omega zs)

pub sum_fits : (d w : ℤ) → Within max_entry d → Within max_weight w → SFits w64 (d +ℤ w)
sum_fits d w a b = simp ints (omega zs)

-- ---- the step with a number
pub numbered_start : (n : ℕ) (L : List ℤ) (k : ℕ) (t : Step) → LinesOk n L → step_numbered_lem L k ≡ Some t → t.from < 2 * n
numbered_start n L k t ok e =
    let l = from_line L k t e in
    (line_step_known n (line_at L (k / 2)) (k % 2) t (ok (k / 2) l.0) (omega arith) l.1).from_lt

-- ---- what the test says of a step where it holds
pub record StepMade (old : List ℤ) (v : ℕ) (z : ℤ) (t : Step) : Type 0 where
  pub ends : t.to ≡ v
  pub known : entry old t.from ≡ absent_greatest → ⊥
  pub sum : entry old t.from +ℤ t.weight ≡ z

pub step_made : (old : List ℤ) (v : ℕ) (z : ℤ) (t : Step) → step_makes_lem old v z t ≡ true → StepMade old v z t
unfolding step_makes_lem
step_made old v z t = by (eqb t.to v) (eq_z (entry old t.from) absent_greatest) (eq_z (entry old t.from +ℤ t.weight) z) refl refl refl
  where
    by : (a b c : Bool) → eqb t.to v ≡ a → eq_z (entry old t.from) absent_greatest ≡ b → eq_z (entry old t.from +ℤ t.weight) z ≡ c
        → cond a (cond b false c) false ≡ true → StepMade old v z t
    by false b c ea eb ec e = never (cc)
    by true true c ea eb ec e = never (cc)
    by true false c ea eb ec e =
        record {
          ends = eqb-true t.to v ea;
          known = λ f. let clash : true ≡ false = sym (eq_eq_z (entry old t.from) absent_greatest f) ∙ eb in never (cc);
          sum = eq_z_true (entry old t.from +ℤ t.weight) z (ec ∙ e);
        }

-- and back
pub step_makes : (old : List ℤ) (v : ℕ) (z : ℤ) (t : Step) → StepMade old v z t → step_makes_lem old v z t ≡ true
unfolding step_makes_lem
step_makes old v z t m = rw (eq-eqb t.to v m.ends, ne_eq_z (entry old t.from) absent_greatest m.known) (eq_eq_z (entry old t.from +ℤ t.weight) z m.sum)

-- the same of a number
pub record Made (L old : List ℤ) (v : ℕ) (z : ℤ) (number : ℕ) : Type 0 where
  pub step : Step
  pub named : step_numbered_lem L number ≡ Some step
  pub is : StepMade old v z step

pub made : (L old : List ℤ) (v : ℕ) (z : ℤ) (number : ℕ) → makes_value L old v z number ≡ true → Made L old v z number
made L old v z number = go (step_numbered_lem L number) refl
  where
    go : (s : Option Step) → step_numbered_lem L number ≡ s → named_makes old v z s ≡ true → Made L old v z number
    go (Some t) n e = record { step = t; named = n; is = step_made old v z t e }
    go None n e = never (cc)

pub makes : (L old : List ℤ) (v : ℕ) (z : ℤ) (number : ℕ) → Made L old v z number → makes_value L old v z number ≡ true
makes L old v z number m = rw m.named (step_makes old v z m.step m.is)
