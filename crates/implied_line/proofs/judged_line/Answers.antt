-- `implied_line::judged_line` meets its contract: what the two searches leave gives the answer.
use mathlib.Core.Path.{◌≡◌, sym, ap, ◌∙◌}
use mathlib.Core.List.{List, ◌++◌}
use Prim.Native.Nat.{ℕ, ◌+◌, ◌≤◌}
use native.Mathlib.Nat.{le_trans}
use native.Mathlib.Omega.{arith}
use borrow.Author.Rules.{rules}
use lib.IntN.{ℤ}
use lib.ListN.{length, take, length-append}
use Rattle.lines.specs.declared.Line.{Line}
use Rattle.lines.specs.Limits.{line_size}
use Rattle.lines.specs.Line.{line_numbers_lem}
use Rattle.lines.specs.LineNumbers.{length_numbers}
use Rattle.longer_list.specs.Written.{most_numbers, front_is}
use Rattle.opposite_line.specs.Opposite.{opposed}
use Rattle.implied_line.specs.Judged.{search_ready, line_small, long, unsolvable, model_asked, implied, not_implied}
use Rattle.implied_line.proofs.judged_line.Goals.{After-copy_with_line, Else-refuted}
use Rattle.implied_line.proofs.judged_line.Goals as goal

pub refuted-requires : goal.refuted-requires
refuted-requires c = search_ready _ _ _ _ _ c.requires

pub returns-then-refuted : goal.returns-then-refuted
returns-then-refuted c =
    unsolvable _ _ _ _ _ c.requires c.refuted.ensures c.if-refuted.true

-- it found no refutation
module _ (none : Else-refuted) where
  short : length none.args.list.now + line_size ≤ most_numbers
  short = long _ _ _ _ _ none.requires

pub opposite_line-requires : goal.opposite_line-requires
opposite_line-requires c = line_small _ _ _ _ _ c.requires

pub copy_with_line-requires : goal.copy_with_line-requires
copy_with_line-requires c = le_trans (short (goal.at.copy_with_line-requires c).Else-refuted) (search rules)

-- the longer list is copied
module _ (copied : After-copy_with_line) where
  abbrev list : List ℤ
  list = copied.args.list.now

  abbrev line : Line
  line = copied.args.line

  -- the line behind it
  abbrev behind : Line
  behind = copied.opposite_line.result

  abbrev longer : List ℤ
  longer = copied.copy_with_line.new.longer

  -- where it ends
  abbrev end : ℕ
  end = length list + line_size

  end_is : length (list ++ line_numbers_lem behind) ≡ end
  end_is = length-append list (line_numbers_lem behind) ∙ ap (λ (k : ℕ). length list + k) (length_numbers behind)

  front : take end longer ≡ list ++ line_numbers_lem behind
  front = front_is longer (list ++ line_numbers_lem behind) _ end copied.copy_with_line.ensures end_is

  longer_is : take end longer ≡ opposed list line
  longer_is = front ∙ ap (λ (o : Line). list ++ line_numbers_lem o) copied.opposite_line.ensures

pub overflow_add-end : goal.overflow_add-end
overflow_add-end c = omega (arith, short (goal.at.overflow_add-end c).Else-refuted)

pub slice_bounds-longer-end : goal.slice_bounds-longer-end
slice_bounds-longer-end c = omega (arith, short (goal.at.slice_bounds-longer-end c).Else-refuted)

pub slice_bounds-refuted_or_modelled-end : goal.slice_bounds-refuted_or_modelled-end
slice_bounds-refuted_or_modelled-end c = sym (ap length (front (goal.at.slice_bounds-refuted_or_modelled-end c).After-copy_with_line) ∙ end_is (goal.at.slice_bounds-refuted_or_modelled-end c).After-copy_with_line)

pub refuted_or_modelled-requires : goal.refuted_or_modelled-requires
refuted_or_modelled-requires c =
    rw (longer_is (goal.at.refuted_or_modelled-requires c).After-copy_with_line) (model_asked _ _ _ _ _ c.requires c.refuted.ensures c.if-refuted.false)

pub returns-then-refuted_or_modelled : goal.returns-then-refuted_or_modelled
returns-then-refuted_or_modelled c =
    implied _ _ _ _ _ c.requires c.refuted.ensures c.if-refuted.false (rw (longer_is (goal.at.returns-then-refuted_or_modelled c).After-copy_with_line) at c.refuted_or_modelled.ensures) c.if-refuted_or_modelled.true

pub returns : goal.returns
returns c =
    not_implied _ _ _ _ _ c.requires c.refuted.ensures c.if-refuted.false (rw (longer_is (goal.at.returns c).After-copy_with_line) at c.refuted_or_modelled.ensures) c.if-refuted_or_modelled.false
