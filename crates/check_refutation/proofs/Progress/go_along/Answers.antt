-- `check_refutation::Progress::go_along` meets its contract: one of the sums takes one weight more, and neither overflows.
use Rattle.std.specs.Prelude.{◌≡◌, cond, ltb, Bool, ◌+◌, ◌*◌, ◌+ℤ◌, ℤ, pos}
use Rattle.std.specs.Int.{w64}
use Rattle.std.proofs.Common.{to_z, of_z, to_z-of_z, SFits}
use Rattle.integers.specs.Integer.{Within}
use Rattle.integers.proofs.Linear.{ints, zs}
use Rattle.lines.specs.Limits.{max_refutation}
use Rattle.steps.specs.Step.{max_weight}
use Rattle.check_refutation.specs.Progress.{head_size, along}
use Rattle.check_refutation.specs.Small.{first_within, second_within, either, none_within}
use Rattle.check_refutation.proofs.Progress.go_along.Goals as goal

weight_fits : (w : ℤ) → Within max_weight w → SFits w64 w
weight_fits w h = simp ints (omega zs)

-- a sum takes one weight more
module _ (z w : ℤ) (h : Within (max_refutation * max_weight) z) (k : Within max_weight w) where
  before_fits : SFits w64 z
  before_fits = simp ints (omega zs)

  after_fits : SFits w64 (z +ℤ w)
  after_fits = simp ints (omega zs)

  sum_is : (x : ℤ) → x ≡ w → to_z w64 (of_z w64 (to_z w64 (of_z w64 z) +ℤ to_z w64 (of_z w64 x))) ≡ z +ℤ w
  sum_is x e = rw (e, to_z-of_z before_fits, to_z-of_z (weight_fits w k)) (to_z-of_z after_fits)

pub returns : goal.returns
unfolding along
returns c =
    let s = c.args.self in
    let w = c.args.t.weight in
    let is_first : Bool = ltb s.read (head_size + s.p) in
    let weight : to_z w64 (of_z w64 w) ≡ w = to_z-of_z (weight_fits w c.requires.2) in
    let none = none_within max_weight in
    let first = sum_is s.first (cond is_first w (pos 0)) (first_within _ s c.requires.0) (either (Within max_weight) is_first c.requires.2 none) c.choose.result (rw weight at c.choose.ensures) in
    let second = sum_is s.second (cond is_first (pos 0) w) (second_within _ s c.requires.0) (either (Within max_weight) is_first none c.requires.2) c.choose-2.result (rw weight at c.choose-2.ensures) in
    rw (first, second, c.only_if-next.ensures, c.goes_on.ensures, c.choose-u.ensures)
