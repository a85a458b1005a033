-- `differences_model::write_plain_model` meets its contract: one value after the other is written, each given those before it.
use mathlib.Core.Path.{◌≡◌, ◌∙◌}
use lib.IntN.{ℤ}
use lib.ListN.{take}
use mir.Syntax.{w32, w64}
use mir.Val.{SFits, to_z, of_z}
use mir.Facts.{to_z-of_z}
use Rattle.integers.proofs.Bits.{kept}
use Rattle.theory_bounds.specs.Tight.{Table}
use Rattle.theory_differences.specs.Distances.{doubled}
use Rattle.decide_stored_table.specs.Table.{table_of}
use Rattle.decide_model.specs.Written.{next_of, part_length, part_small, next_fits, written_more}
use Rattle.differences_model.proofs.write_plain_model.Goals.{After-next_value-value, At-loop-k}
use Rattle.differences_model.proofs.write_plain_model.Goals as goal

-- the distances
abbrev D : At-loop-k → Table
D l = doubled (table_of l.args.n l.args.table.now)

pub next_value-value-requires : goal.next_value-value-requires
next_value-value-requires c =
    let a = c.args in
    let d = D (goal.at.next_value-value-requires c).At-loop-k in
    let l = c.loop-k in
    let h = c.loop-k-test.true in
    record {
      table = c.requires.table;
      count = rw (part_length a.n d a.model.now c.requires.room l.k h l.model l.invariant) h;
      small = part_small a.n d a.model.now c.requires.room l.k h l.model l.invariant c.requires.small;
    }

-- the next value, as it was given and as it is kept
module _ (c : After-next_value-value) where
  abbrev given : ℤ
  given = to_z w64 (of_z w64 c.next_value-value.result)

  is_next : given ≡ next_of (D (goal.at.After-next_value-value c).At-loop-k) (take c.loop-k.k c.loop-k.model)
  is_next = kept w64 c.next_value-value.result c.next_value-value.type_inv ∙ c.next_value-value.ensures

  fits : SFits w32 given
  fits = next_fits c.args.n _ c.args.model.now c.requires.room c.loop-k.k c.loop-k-test.true c.loop-k.model c.loop-k.invariant c.requires.small given is_next

pub overflow_cast-value : goal.overflow_cast-value
overflow_cast-value c = fits c

pub loop-k-preserved : goal.loop-k-preserved
loop-k-preserved c = written_more c.args.n _ c.args.model.now c.requires.room c.loop-k.k c.loop-k-test.true c.loop-k.model c.loop-k.invariant _ (to_z-of_z (fits c) ∙ is_next c)
