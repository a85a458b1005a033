-- `session_learn::can_learn` meets its contract, in each of its four ways.
use Rattle.steps.specs.declared.Step.{Step}
use Rattle.std.specs.Prelude.{Option}
use mathlib.Core.Path.{◌≡◌, sym, ap, ap₂, ◌∙◌}
use mathlib.Core.Bool.{Bool, true, false, ◌||◌}
use mathlib.Core.List.{List}
use Prim.Native.Nat.{ℕ, ◌+◌, ◌*◌}
use borrow.Author.Tests.{not-true, not-false}
use lib.IntN.{ℤ}
use Rattle.integers.specs.Table.{all_below}
use Rattle.lines.specs.Limits.{max_variables}
use Rattle.lines.specs.Line.{line_at, is_false_lem}
use Rattle.lines.specs.Valid.{lines_more}
use Rattle.steps.specs.Step.{step_numbered_lem}
use Rattle.theory_bounds.specs.Verdict.{halves_ok_lem}
use Rattle.theory_inserting.specs.Two.{insert_named}
use Rattle.session_step.specs.Read.{small_table}
use Rattle.session_line.specs.Both.{line_stays_in, line_inserted}
use Rattle.theory_bounds.specs.Tight.{Table}
use Rattle.session_learn.specs.With.{StepsReady, numbered_named}
use Rattle.session_learn.specs.Learnt.{both_wide_lem, halves_stand, learns, learns_not_false, learns_not_negative, learns_by_halves}
use mathlib.Core.Bool.{not}
use Rattle.session_learn.proofs.can_learn.Goals.{After-both_stay, After-both_wide, After-is_false, After-step_numbered-y}
use Rattle.session_learn.proofs.can_learn.Goals as goal

-- the line
module _ (f : After-is_false) where
  abbrev L : List ℤ
  L = f.args.list.now

  abbrev t : List ℤ
  t = f.args.table.now

  is : f.is_false.result ≡ is_false_lem (line_at L f.args.k)
  is = f.is_false.ensures ∙ ap is_false_lem f.line_at.ensures

pub returns-then-is_false : goal.returns-then-is_false
returns-then-is_false c =
    learns_not_false c.args.n (L (goal.at.returns-then-is_false c).After-is_false) c.args.k (t (goal.at.returns-then-is_false c).After-is_false) (sym (is (goal.at.returns-then-is_false c).After-is_false) ∙ c.if-is_false.true)

-- not false, and its two steps tested
module _ (b : After-both_stay) where
  right : is_false_lem (line_at (L (goal.at.After-both_stay b).After-is_false) b.args.k) ≡ false
  right = sym (is (goal.at.After-both_stay b).After-is_false) ∙ b.if-is_false.false

  stay_is : b.both_stay.result ≡ line_stays_in (2 * b.args.n) (L (goal.at.After-both_stay b).After-is_false) b.args.k (t (goal.at.After-both_stay b).After-is_false)
  stay_is = b.both_stay.ensures

pub both_stay-requires : goal.both_stay-requires
both_stay-requires c = (c.requires.table, c.requires.valid, c.requires.line)

pub returns-then-not-both_stay : goal.returns-then-not-both_stay
returns-then-not-both_stay c =
    learns_not_negative c.args.n (L (goal.at.returns-then-not-both_stay c).After-is_false) c.args.k (t (goal.at.returns-then-not-both_stay c).After-is_false) (right (goal.at.returns-then-not-both_stay c).After-both_stay) (sym (stay_is (goal.at.returns-then-not-both_stay c).After-both_stay) ∙ not-true _ (ap not c.if-not-both_stay.true))

pub step_numbered-x-requires : goal.step_numbered-x-requires
step_numbered-x-requires c = lines_more c.args.n max_variables c.args.list.now c.requires.table.variables c.requires.valid _

pub step_numbered-y-requires : goal.step_numbered-y-requires
step_numbered-y-requires c = lines_more c.args.n max_variables c.args.list.now c.requires.table.variables c.requires.valid _

-- the two steps
module _ (c : After-step_numbered-y) where
  abbrev x : Option Step
  x = c.step_numbered-x.result

  abbrev y : Option Step
  y = c.step_numbered-y.result

  x_is : x ≡ step_numbered_lem (L (goal.at.After-step_numbered-y c).After-is_false) (2 * c.args.k)
  x_is = c.step_numbered-x.ensures

  y_is : y ≡ step_numbered_lem (L (goal.at.After-step_numbered-y c).After-is_false) (2 * c.args.k + 1)
  y_is = c.step_numbered-y.ensures

  ready : StepsReady c.args.n (t (goal.at.After-step_numbered-y c).After-is_false) x y
  ready =
      record {
        table = c.requires.table;
        first = numbered_named c.args.n (L (goal.at.After-step_numbered-y c).After-is_false) c.requires.valid (2 * c.args.k) x x_is;
        second = numbered_named c.args.n (L (goal.at.After-step_numbered-y c).After-is_false) c.requires.valid (2 * c.args.k + 1) y y_is;
      }

pub both_wide-requires : goal.both_wide-requires
both_wide-requires c = ready c

-- whether both are wide
module _ (w : After-both_wide) where
  abbrev n : ℕ
  n = w.args.n

  abbrev table : List ℤ
  table = t (goal.at.After-both_wide w).After-is_false

  abbrev D : Table
  D = line_inserted (2 * n) (L (goal.at.After-both_wide w).After-is_false) w.args.k table

  -- with the steps as they were found
  with : {A : Type 0} (g : Table → Option Step → Option Step → A) → g (insert_named (insert_named (small_table (2 * n) table) (x (goal.at.After-both_wide w).After-step_numbered-y)) (y (goal.at.After-both_wide w).After-step_numbered-y)) (x (goal.at.After-both_wide w).After-step_numbered-y) (y (goal.at.After-both_wide w).After-step_numbered-y) ≡ g D (step_numbered_lem (L (goal.at.After-both_wide w).After-is_false) (2 * w.args.k)) (step_numbered_lem (L (goal.at.After-both_wide w).After-is_false) (2 * w.args.k + 1))
  with g = ap₂ (λ (p q : Option Step). g (insert_named (insert_named (small_table (2 * n) table) p) q) p q) (x_is (goal.at.After-both_wide w).After-step_numbered-y) (y_is (goal.at.After-both_wide w).After-step_numbered-y)

  wide_is : w.both_wide.result ≡ both_wide_lem D (step_numbered_lem (L (goal.at.After-both_wide w).After-is_false) (2 * w.args.k)) (step_numbered_lem (L (goal.at.After-both_wide w).After-is_false) (2 * w.args.k + 1))
  wide_is = w.both_wide.ensures ∙ with both_wide_lem

  by_halves : (r : Bool) → r ≡ halves_stand n (L (goal.at.After-both_wide w).After-is_false) w.args.k table → r ≡ learns n (L (goal.at.After-both_wide w).After-is_false) w.args.k table
  by_halves = learns_by_halves n (L (goal.at.After-both_wide w).After-is_false) w.args.k table (right (goal.at.After-both_wide w).After-both_stay) (sym (stay_is (goal.at.After-both_wide w).After-both_stay) ∙ not-false _ (ap not w.if-not-both_stay.false))

pub returns-then-both_wide : goal.returns-then-both_wide
returns-then-both_wide c =
    by_halves (goal.at.returns-then-both_wide c).After-both_wide true (ap (λ (q : Bool). q || all_below (2 * n (goal.at.returns-then-both_wide c).After-both_wide) (halves_ok_lem (D (goal.at.returns-then-both_wide c).After-both_wide))) (sym c.if-both_wide.true ∙ wide_is (goal.at.returns-then-both_wide c).After-both_wide))

pub points_stand-requires : goal.points_stand-requires
points_stand-requires c = ready (goal.at.points_stand-requires c).After-step_numbered-y

pub returns : goal.returns
returns c =
    by_halves (goal.at.returns c).After-both_wide c.points_stand.result
    (c.points_stand.ensures
    ∙ with (goal.at.returns c).After-both_wide (λ E p q. all_below (2 * n (goal.at.returns c).After-both_wide) (halves_ok_lem E))
    ∙ ap (λ (q : Bool). q || all_below (2 * n (goal.at.returns c).After-both_wide) (halves_ok_lem (D (goal.at.returns c).After-both_wide))) (sym c.if-both_wide.false ∙ wide_is (goal.at.returns c).After-both_wide))
