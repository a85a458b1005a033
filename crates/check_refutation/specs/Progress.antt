-- The refutation checker's rule: what is kept between two numbers of a refutation, how one number takes it on, and when the end says yes.
use Rattle.std.specs.Prelude.{Bool, true, false, not, cond, ◌&&◌, ◌||◌, List, [], ◌∷◌, ℕ, ◌+◌, ◌-◌, ◌/◌, ◌%◌, eqb, ltb, ℤ, pos, ◌+ℤ◌, None, Option, Some}
use Rattle.std.specs.Int.Signed.{lt_z}
use Rattle.integers.specs.Integer.{half}
use Rattle.lines.specs.Line.{line_at, line_count, is_false_lem}
use Rattle.steps.specs.declared.Step.{Step}
use Rattle.steps.specs.Point.{opposite}
use Rattle.steps.specs.Step.{step_numbered_lem}
use Rattle.check_refutation.specs.declared.Progress.{Progress}

-- the numbers before the steps: kind, first count p, second count q
abbrev pub head_size : ℕ
head_size = 3

abbrev pub start : Progress
start = record { read = 0; kind = 0; p = 0; q = 0; u = 0; here = 0; first = pos 0; second = pos 0; good = true; wrong = 0 }

-- the counts that a kind takes
unfoldable pub counts_ok_lem : ℕ → ℕ → ℕ → Bool
counts_ok_lem kind p q =
    cond (eqb kind 1) (ltb 0 p && eqb q 0)
    (cond (eqb kind 2) (ltb 0 p && ltb 0 q)
    (cond (eqb kind 3) (eqb p 1 && eqb q 0) false))

-- twice the number of a false line
unfoldable pub is_false_step_lem : List ℤ → ℕ → Bool
is_false_step_lem L k = eqb (k % 2) 0 && (ltb (k / 2) (line_count L) && is_false_lem (line_at L (k / 2)))

-- a number of the head: kind, then p, then q
unfoldable pub head_on : Progress → ℕ → Progress
head_on s r =
    cond (eqb s.read 0)
    (record { read = s.read + 1; kind = r; p = s.p; q = s.q; u = s.u; here = s.here; first = s.first; second = s.second; good = s.good; wrong = s.wrong })
    (cond (eqb s.read 1)
    (record { read = s.read + 1; kind = s.kind; p = r; q = s.q; u = s.u; here = s.here; first = s.first; second = s.second; good = s.good; wrong = s.wrong })
    (record { read = s.read + 1; kind = s.kind; p = s.p; q = r; u = s.u; here = s.here; first = s.first; second = s.second; good = s.good && counts_ok_lem s.kind s.p r; wrong = s.wrong }))

-- the first step number that was wrong, if one was, once this one is judged
unfoldable pub wrong_after : Progress → Bool → ℕ
wrong_after s b = cond (s.good && not b) s.read s.wrong

-- one number more, with one more thing that has to hold
abbrev pub only_if_lem : Progress → Bool → Progress
only_if_lem s b = record { read = s.read + 1; kind = s.kind; p = s.p; q = s.q; u = s.u; here = s.here; first = s.first; second = s.second; good = s.good && b; wrong = wrong_after s b }

-- a step starts where the walk is; the first may start anywhere
unfoldable pub joins : Progress → ℕ → Bool
joins s from = eqb s.read head_size || eqb from s.here

-- in kind 2 the first p steps end at the opposite of u
unfoldable pub turns : Progress → ℕ → ℕ → Bool
turns s u to = not (eqb s.kind 2 && eqb (s.read + 1) (head_size + s.p)) || eqb to (opposite u)

-- one step more
unfoldable pub along : Progress → Step → Progress
along s t =
    let is_first = ltb s.read (head_size + s.p) in
    let u = cond (eqb s.read head_size) t.from s.u in
    record {
      read = s.read + 1;
      kind = s.kind;
      p = s.p;
      q = s.q;
      u = u;
      here = t.to;
      first = s.first +ℤ cond is_first t.weight (pos 0);
      second = s.second +ℤ cond is_first (pos 0) t.weight;
      good = s.good && (joins s t.from && turns s u t.to);
      wrong = wrong_after s (joins s t.from && turns s u t.to);
    }

abbrev pub walk_on : Progress → Option Step → Progress
walk_on s (Some t) = along s t
walk_on s None = only_if_lem s false

-- one number more
unfoldable pub advance : List ℤ → Progress → ℕ → Progress
advance L s r = cond (ltb s.read head_size) (head_on s r) (cond (eqb s.kind 3) (only_if_lem s (is_false_step_lem L r)) (walk_on s (step_numbered_lem L r)))

-- all numbers, from the first on
unfoldable pub run : List ℤ → Progress → List ℕ → Progress
run L s [] = s
run L s (r ∷ R) = run L (advance L s r) R

-- the walk is closed and its sums are low enough
unfoldable pub closes : Progress → Bool
closes s =
    cond (eqb s.kind 3) true
    (eqb s.here s.u && cond (eqb s.kind 1) (lt_z s.first (pos 0)) (lt_z (half s.first +ℤ half s.second) (pos 0)))

-- nothing was wrong, as many numbers as the counts say, and the walk closes
unfoldable pub accepted : Progress → Bool
accepted s = s.good && (eqb s.read (head_size + s.p + s.q) && closes s)

-- 1, 2 or 3
abbrev pub kind_ok_lem : ℕ → Bool
kind_ok_lem k = ltb 0 k && ltb k 4

-- where it breaks: a bad kind or no whole head is 0, bad counts 1, a length that disagrees with them 2; then the first wrong step number; last, a walk
-- that does not end where it began and sums that are not low enough: the last number
unfoldable pub broken_at_lem : Progress → ℕ
broken_at_lem s =
    cond (ltb s.read head_size || not (kind_ok_lem s.kind)) 0
    (cond (not (counts_ok_lem s.kind s.p s.q)) 1
    (cond (not (eqb s.read (head_size + s.p + s.q))) 2
    (cond s.good (s.read - 1) s.wrong)))

-- the checker's rule: R is accepted against the list L
unfoldable pub accepts : List ℤ → List ℕ → Bool
accepts L R = accepted (run L start R)
