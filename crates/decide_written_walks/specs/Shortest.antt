-- A walk of least sum between two points, or a closed walk of negative sum, as its step numbers stand in the work area.
use Rattle.std.specs.Prelude.{◌≡◌, ◌⊎◌, true, false, ℕ, suc, ◌+◌, ◌*◌, ◌-◌, ◌<◌, ◌≤◌, ℤ, pos, length, take, drop}
use Rattle.std.proofs.Common.{sym, subst, ◌∙◌, inl, inr, mul-le-mul_right, arith, length-append, length-drop, take_at, drop_at, length-take-le, drop-drop}
use Rattle.std.proofs.Math.Path.{ap}
use mathlib.Core.List.{List, ◌++◌, map}
use Rattle.std.proofs.lemmas.List.{length-map}
use Rattle.integers.specs.Integer.{◌⋖◌}
use Rattle.integers.specs.Laws.{never}
use Rattle.lines.specs.Limits.{max_variables}
use Rattle.lines.specs.Line.{lines_of}
use Rattle.lines.specs.Valid.{LinesOk, all_ok}
use Rattle.steps.specs.declared.Step.{Step}
use Rattle.steps.specs.Step.{steps_of}
use Rattle.steps.specs.Walk.{Path, total, Names}
use Rattle.theory_walks.specs.Distance.{Distance, some}
use Rattle.theory_walks.specs.Row.{at, row_at, best, some_is}
use Rattle.theory_walks.specs.Negative.{not_below0, is_below, negative_stays}
use Rattle.theory_walks.specs.Graph.{ends_points}
use Rattle.decide_rows.specs.Stored.{stored_rows}
use Rattle.decide_rows.specs.Rows.{Stops, settled, negative, RowsDone, rows_length}
use Rattle.decide_rows.specs.Table.{table_start}
use Rattle.decide_walkback.specs.WalkBack.{RowsStand, Walked}

-- behind the rows and the table
abbrev pub walk_start : ℕ → ℕ
walk_start m = table_start m + m * m

-- the rows of u end early where they show a closed walk of negative sum: such a walk is wanted, or none goes through u
pub record WalkReady (n : ℕ) (L : List ℤ) (u v : ℕ) (w : List ℤ) : Type 0 where
  pub few : n ≤ max_variables
  pub valid : LinesOk n L
  pub within : u < 2 * n
  pub room : walk_start (2 * n) + 2 * n ≤ length w
  pub value : ℤ
  pub reached : best (steps_of (lines_of L)) (2 * n) u v ≡ some value
  pub wanted : (u ≡ v) ⊎ (not_below0 (best (steps_of (lines_of L)) (2 * n) u u) ≡ true)

-- the sum of the walk found: the distance, or below 0 if the walk is closed
pub data SumFound (E : List Step) (m u v : ℕ) (z : ℤ) : Type 0 where
  least : best E m u v ≡ some z → SumFound E m u v z
  closed : u ≡ v → z ⋖ pos 0 → SumFound E m u v z

-- the r numbers before the place 2n behind the start name the steps of such a walk, and what lies behind them is as it was
pub record WalkFound (n : ℕ) (L : List ℤ) (u v : ℕ) (w w' : List ℤ) (r : ℕ) : Type 0 where
  pub few : r ≤ 2 * n
  pub numbers : List ℕ
  pub count : length numbers ≡ r
  pub stand : drop (walk_start (2 * n) + 2 * n - r) w' ≡ map pos numbers ++ drop (walk_start (2 * n) + 2 * n) w
  pub same_length : length w' ≡ length w
  pub steps : List Step
  pub named : Names L numbers steps
  pub path : Path u steps v
  pub sum : SumFound (steps_of (lines_of L)) (2 * n) u v (total steps)

module _ (n : ℕ) (L : List ℤ) (u v : ℕ) (w : List ℤ) (ready : WalkReady n L u v w) where
  abbrev E : List Step
  E = steps_of (lines_of L)

  abbrev m : ℕ
  m = 2 * n

  module _ (w₁ : List ℤ) (top : ℕ) (d : RowsDone E m u w w₁ top) where
    front : suc top * m ≤ table_start m
    front = let a : suc top * m ≤ (m + 1) * m = mul-le-mul_right m (omega (arith, d.count)) in a

    rows_size : length (stored_rows E m u (suc top)) ≡ suc top * m
    rows_size = rows_length E m u (suc top)

    pub behind_same : (i : ℕ) → suc top * m ≤ i → drop i w₁ ≡ drop i w
    behind_same i h =
        let e : i ≡ suc top * m + (i - suc top * m) = omega arith in
        ap (λ (j : ℕ). drop j w₁) e
        ∙ sym (drop-drop (i - suc top * m) (suc top * m) w₁)
        ∙ ap (drop (i - suc top * m)) (ap (drop (suc top * m)) d.rows ∙ drop_at (stored_rows E m u (suc top)) (drop (suc top * m) w) (suc top * m) rows_size)
        ∙ drop-drop (i - suc top * m) (suc top * m) w
        ∙ ap (λ (j : ℕ). drop j w) (sym e)

    pub rows_same_length : length w₁ ≡ length w
    rows_same_length = ap length d.rows ∙ length-append (stored_rows E m u (suc top)) (drop (suc top * m) w) ∙ omega (arith, rows_size, length-drop (suc top * m) w, front, ready.room)

    is_best : row_at E m u top ≡ row_at E m u m → at (row_at E m u top) v ≡ best E m u v
    unfolding best
    is_best e = ap (λ (row : List Distance). at row v) e

    -- the entry of v in the last row
    last_at : (z : ℤ) × (at (row_at E m u top) v ≡ some z) × SumFound E m u v z
    last_at = go d.stops ready.wanted
      where
        go : Stops E m u top → (u ≡ v) ⊎ (not_below0 (best E m u u) ≡ true) → (z : ℤ) × (at (row_at E m u top) v ≡ some z) × SumFound E m u v z
        go (settled e) a = (ready.value, is_best e ∙ ready.reached, least ready.reached)
        go (negative e) (inl s) =
            let b = is_below (at (row_at E m u top) u) e in
            (b.0, ap (at (row_at E m u top)) (sym s) ∙ b.1, closed s b.2)
        go (negative e) (inr f) =
            let clash : true ≡ false = sym f ∙ negative_stays E m (ends_points n (lines_of L) (all_ok n L ready.valid)) u top ready.within d.count e in
            never (cc)

    pub rows_stand : (place : ℕ) → place ≡ walk_start m + (m - top) → RowsStand n L u w₁ top v place
    rows_stand place e =
        record {
          few = ready.few;
          lines = ready.valid;
          rounds = d.count;
          rows = ap (take (suc top * m)) d.rows ∙ take_at (stored_rows E m u (suc top)) (drop (suc top * m) w) (suc top * m) rows_size;
          value = last_at.0;
          reached = last_at.1;
          behind = omega (arith, front);
          room = omega (arith, rows_same_length, ready.room, d.count);
        }

    pub walk_found : (place : ℕ) → place ≡ walk_start m + (m - top) → (w₂ : List ℤ) (r : ℕ) → Walked n L u w₁ top v place w₂ r → WalkFound n L u v w w₂ r
    walk_found place e w₂ r k =
        record {
          few = omega (arith, k.few, d.count);
          numbers = k.numbers;
          count = k.count;
          stand =
              ap₂' ∙ ap (drop (place + top - r)) k.area
              ∙ drop_at (take (place + top - r) w₁) (map pos k.numbers ++ drop (place + top) w₁) (place + top - r) head
              ∙ ap (λ (x : List ℤ). map pos k.numbers ++ x) tail;
          same_length = ap length k.area ∙ length-append (take (place + top - r) w₁) _ ∙ whole;
          steps = k.steps;
          named = k.named;
          path = k.path;
          sum = subst (SumFound E m u v) (some_is (sym last_at.1 ∙ k.sum)) last_at.2;
        }
      where
        end : walk_start m + m ≡ place + top
        end = omega (arith, e, d.count)

        ap₂' : drop (walk_start m + m - r) w₂ ≡ drop (place + top - r) w₂
        ap₂' = ap (λ (j : ℕ). drop (j - r) w₂) end

        fits : place + top ≤ length w₁
        fits = omega (arith, rows_same_length, ready.room, end)

        head : length (take (place + top - r) w₁) ≡ place + top - r
        head = length-take-le (place + top - r) w₁ (omega (arith, fits))

        tail : drop (place + top) w₁ ≡ drop (walk_start m + m) w
        tail = behind_same (place + top) (omega (arith, front, e)) ∙ ap (λ (j : ℕ). drop j w) (sym end)

        whole : length (take (place + top - r) w₁) + length (map pos k.numbers ++ drop (place + top) w₁) ≡ length w
        whole = omega (arith, head, length-append (map pos k.numbers) (drop (place + top) w₁), length-map k.numbers pos, k.count, length-drop (place + top) w₁, fits, rows_same_length, k.few, e)
