-- A showing of a line: a refutation of the list against the line. It says that every solution of the list meets the line, and it says so of every longer list.
--
-- A step number of a showing is that of a line of the list or of the opposite line, since the lines between have no steps; in a longer list both have the
-- numbers that they had.
use Rattle.std.specs.Prelude.{◌≡◌, true, List, ◌++◌, ℕ, ◌/◌, ◌%◌, ◌<◌, ◌≤◌, ℤ, length, drop, Some}
use Rattle.std.proofs.Common.{sym, ◌∙◌, arith, lt-ltb}
use Rattle.std.proofs.Math.Path.{ap}
use Rattle.integers.specs.Laws.{never}
use Rattle.lines.specs.declared.Line.{Line}
use Rattle.lines.specs.Limits.{line_size, max_lines, work_lines}
use Rattle.lines.specs.Line.{line_at, line_count, lines_of, Implies, is_false_lem}
use Rattle.lines.specs.LineNumbers.{count_append, line_left}
use Rattle.lines.specs.Solutions.{meets_stable}
use Rattle.lines.specs.Valid.{Workable}
use Rattle.steps.specs.declared.Step.{Step}
use Rattle.steps.specs.Step.{step_of, step_numbered_lem}
use Rattle.steps.specs.Laws.{from_line}
use Rattle.steps.specs.Zero.{zero_no_step, zero_not_false}
use Rattle.check_refutation.specs.Progress.{head_size, accepts}
use Rattle.check_soundness.specs.Refutes.{FalseStep, Refutes}
use Rattle.check_soundness.specs.Carried.{each_always, refutes_carried}
use Rattle.check_soundness.specs.Meaning.{accepts_exactly}
use Rattle.check_soundness.specs.Sound.{solved_not_refuted}
use Rattle.shown_list.specs.Against.{Where, own, gap, last, where_is, against, count_against, own_line, zero_line_law, last_line, solves_against}

-- by the checker's rule
abbrev pub Shows : List ℤ → Line → List ℕ → Type 0
Shows L l R = Refutes (against L l) R

-- ---- what it says
module _ (n : ℕ) (L : List ℤ) (whole : length L % line_size ≡ 0) (few : line_count L ≤ max_lines) (l : Line) where
  pub shown_met : Workable n (against L l) → (R : List ℕ) → Shows L l R → Implies (lines_of L) l
  shown_met works R r s h = meets_stable s l (λ f. solved_not_refuted n (against L l) works.lines s ((solves_against L whole few l s).1 (h, f)) R r)

-- ---- in a longer list
module _ (L M : List ℤ) (whole : length L % line_size ≡ 0) (few : line_count (L ++ M) ≤ max_lines) (all : length (L ++ M) % line_size ≡ 0) (l : Line) where
  abbrev long : List ℤ
  long = against (L ++ M) l

  count_longer : line_count L ≤ line_count (L ++ M)
  count_longer = omega (arith, count_append L M whole)

  few_own : line_count L ≤ max_lines
  few_own = omega (arith, count_longer)

  -- a line of the list, and the opposite line, have their numbers
  own_same : (k : ℕ) → k < line_count L → line_at long k ≡ line_at (against L l) k
  own_same k h =
      own_line (L ++ M) all few l k (omega (arith, count_longer)) ∙ line_left L M whole k h ∙ sym (own_line L whole few_own l k h)

  last_same : (k : ℕ) → k ≡ max_lines → line_at long k ≡ line_at (against L l) k
  last_same k e = ap (line_at long) e ∙ last_line (L ++ M) all few l ∙ sym (ap (line_at (against L l)) e ∙ last_line L whole few_own l)

  within : (k : ℕ) → k < line_count (against L l) → k < work_lines
  within k h = omega (arith, count_against L whole few_own l)

  found : (k : ℕ) (t : Step) → Unit {0} → step_numbered_lem (against L l) k ≡ Some t → step_numbered_lem long k ≡ Some t
  unfolding step_numbered_lem
  found k t p e =
      let f = from_line (against L l) k t e in
      rw (lt-ltb (k / 2) (line_count long) (omega (arith, count_against (L ++ M) all few l, within (k / 2) f.0))) (go (where_is (line_count L) (k / 2) (within (k / 2) f.0)) f.1)
    where
      same : line_at long (k / 2) ≡ line_at (against L l) (k / 2) → step_of (line_at (against L l) (k / 2)) (k % 2) ≡ Some t → step_of (line_at long (k / 2)) (k % 2) ≡ Some t
      same q g = ap (λ (m : Line). step_of m (k % 2)) q ∙ g

      go : Where (line_count L) (k / 2) → step_of (line_at (against L l) (k / 2)) (k % 2) ≡ Some t → step_of (line_at long (k / 2)) (k % 2) ≡ Some t
      go (own h) g = same (own_same (k / 2) h) g
      go (gap low high) g =
          never (cc (sym (zero_no_step (k % 2) (omega arith)) ∙ ap (λ (m : Line). step_of m (k % 2)) (sym (zero_line_law L whole few_own l (k / 2) low high)) ∙ g))
      go (last q) g = same (last_same (k / 2) q) g

  false_step : (k : ℕ) → Unit {0} → FalseStep (against L l) k → FalseStep long k
  false_step k p w =
      record {
        line = w.line;
        is = w.is;
        within = omega (arith, count_against (L ++ M) all few l, within w.line w.within);
        false_line = go (where_is (line_count L) w.line (within w.line w.within));
      }
    where
      go : Where (line_count L) w.line → is_false_lem (line_at long w.line) ≡ true
      go (own h) = ap is_false_lem (own_same w.line h) ∙ w.false_line
      go (gap low high) = never (cc (sym zero_not_false ∙ ap is_false_lem (sym (zero_line_law L whole few_own l w.line low high)) ∙ w.false_line))
      go (last q) = ap is_false_lem (last_same w.line q) ∙ w.false_line

  pub shown_longer : (R : List ℕ) → Shows L l R → Shows (L ++ M) l R
  shown_longer R = refutes_carried (against L l) long (λ k. Unit {0}) found false_step R (each_always (λ k. tt) (drop head_size R))

  pub accepts_shown_longer : (R : List ℕ) → accepts (against L l) R ≡ true → accepts long R ≡ true
  accepts_shown_longer R e = (accepts_exactly long R).1 (shown_longer R ((accepts_exactly (against L l) R).0 e))
