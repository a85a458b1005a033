-- What the two points of a variable stand for.
use Rattle.std.specs.Prelude.{◌≡◌, ℕ, ◌/◌, ◌%◌, neg_ℤ}
use Rattle.std.proofs.Common.{arith}
use Rattle.lines.specs.Line.{Assignment}
use Rattle.steps.specs.Point.{point, value}

pub value_plus : (s : Assignment) (x : ℕ) → value s (point x 0) ≡ s x
unfolding value
value_plus s x =
    let e : point x 0 % 2 ≡ 0 = omega arith in
    let f : point x 0 / 2 ≡ x = omega arith in
    rw (e, f)

pub value_minus : (s : Assignment) (x : ℕ) → value s (point x 1) ≡ neg_ℤ (s x)
unfolding value
value_minus s x =
    let e : point x 1 % 2 ≡ 1 = omega arith in
    let f : point x 1 / 2 ≡ x = omega arith in
    rw (e, f)
