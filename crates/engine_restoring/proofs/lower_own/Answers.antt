-- `engine_restoring::lower_own` meets its contract.
use mathlib.Core.Path.{◌≡◌}
use lib.IntN.{◌+ℤ◌}
use mir.Syntax.{w64}
use mir.Val.{SFits, to_z, of_z}
use mir.Facts.{to_z-of_z}
use Rattle.integers.proofs.Halving.{test_yes}
use Rattle.engine_reduced_table.specs.Reduced.{other_asked, own_fits, between_ready}
use Rattle.engine_restoring.proofs.lower_own.Goals.{After-entry_at-second}
use Rattle.engine_restoring.proofs.lower_own.Goals as goal

pub entry_at-second-requires : goal.entry_at-second-requires
entry_at-second-requires c =
    other_asked c.requires c.opposite_of-other.result c.opposite_of-other.ensures

-- the two numbers that were read
module _ (c : After-entry_at-second) where
  fits : SFits w64 (c.entry_at-first.result +ℤ c.entry_at-second.result)
  fits = own_fits c.requires c.opposite_of-other.result c.opposite_of-other.ensures c.entry_at-first.result c.entry_at-second.result c.entry_at-first.ensures c.entry_at-second.ensures

  first_read : to_z w64 (of_z w64 c.entry_at-first.result) ≡ c.entry_at-first.result
  first_read = to_z-of_z {w = w64} (record { sfits = c.entry_at-first.type_inv })

  second_read : to_z w64 (of_z w64 c.entry_at-second.result) ≡ c.entry_at-second.result
  second_read = to_z-of_z {w = w64} (record { sfits = c.entry_at-second.type_inv })

  sum_is : to_z w64 (of_z w64 (to_z w64 (of_z w64 c.entry_at-first.result) +ℤ to_z w64 (of_z w64 c.entry_at-second.result))) ≡ c.entry_at-first.result +ℤ c.entry_at-second.result
  sum_is = rw (first_read, second_read) (to_z-of_z fits)

pub overflow_add-sum : goal.overflow_add-sum
overflow_add-sum c = rw (first_read c, second_read c) (fits c)

pub lower_entry-requires : goal.lower_entry-requires
lower_entry-requires c =
    rw (sum_is (goal.at.lower_entry-requires c).After-entry_at-second)
    (between_ready c.requires c.opposite_of-other.result c.opposite_of-other.ensures c.entry_at-first.result c.entry_at-second.result c.entry_at-first.ensures c.entry_at-second.ensures c.opposite_of-own.result c.opposite_of-own.ensures
    (test_yes _ _ (rw (sum_is (goal.at.lower_entry-requires c).After-entry_at-second) at c.if-sum-lt-FAR.true)))
