-- `session_step::put_step` meets its contract: the columns are collected, then the rows are lowered in them.
use mathlib.Core.Path.{◌≡◌, ap, ◌∙◌}
use mathlib.Core.List.{List}
use Prim.Native.Nat.{ℕ, ◌*◌, ◌-◌, ◌≤◌}
use native.Mathlib.Omega.{arith}
use lib.IntN.{ℤ, pos}
use lib.ListN.{replicate, take}
use Rattle.lines.specs.Limits.{max_variables}
use Rattle.theory_bounds.specs.Tight.{Table}
use Rattle.session_step.specs.Read.{small_table}
use Rattle.session_step.specs.Columns.{Collected, found_few, columns_found, sums_found}
use Rattle.session_step.specs.Rows.{RowsReady}
use Rattle.session_step.proofs.put_step.Goals.{After-find_columns-found}
use Rattle.session_step.proofs.put_step.Goals as goal

-- what was collected
module _ (c : After-find_columns-found) where
  abbrev D : Table
  D = small_table (2 * c.args.n) c.args.table.now

  abbrev no_columns : List ℕ
  no_columns = replicate (2 * max_variables) 0

  abbrev no_sums : List ℤ
  no_sums = replicate (2 * max_variables) (pos 0)

  abbrev columns : List ℕ
  columns = c.find_columns-found.new.columns

  abbrev sums : List ℤ
  sums = c.find_columns-found.new.sums

  abbrev found : ℕ
  found = c.find_columns-found.result

  collected : Collected D c.args.step no_columns no_sums (2 * c.args.n) columns sums found
  collected = c.find_columns-found.ensures

  few : found ≤ 2 * max_variables
  few = omega (arith, found_few collected, c.requires.0.variables)

  ready : RowsReady c.args.n c.args.step c.args.table.now (take (found - 0) columns) (take (found - 0) sums)
  ready =
      let all : found - 0 ≡ found = omega arith in
      record {
        table = c.requires.0;
        step = c.requires.1;
        columns_are = ap (λ (k : ℕ). take k columns) all ∙ columns_found collected;
        sums_are = ap (λ (k : ℕ). take k sums) all ∙ sums_found collected;
      }

pub slice_bounds-put_in_rows-end : goal.slice_bounds-put_in_rows-end
slice_bounds-put_in_rows-end c = omega (arith, few (goal.at.slice_bounds-put_in_rows-end c).After-find_columns-found)

pub slice_bounds-put_in_rows-end-2 : goal.slice_bounds-put_in_rows-end-2
slice_bounds-put_in_rows-end-2 c = omega (arith, few (goal.at.slice_bounds-put_in_rows-end-2 c).After-find_columns-found)

pub put_in_rows-requires : goal.put_in_rows-requires
put_in_rows-requires c = ready (goal.at.put_in_rows-requires c).After-find_columns-found

pub returns : goal.returns
returns c = c.put_in_rows.ensures
