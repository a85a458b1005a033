-- The numbers of a progress are small, and stay so with each number read: sums of at most maxRefutation weights, so that none overflows.
-- What a weight is at most is a parameter: the checker works on any list that deciding works on.
use Rattle.std.specs.Prelude.{◌≡◌, refl, Bool, true, false, not, cond, ◌&&◌, List, [], ◌∷◌, ◌++◌, ℕ, ◌+◌, ◌*◌, ◌^◌, ◌<◌, ◌≤◌, eqb, ltb, ℤ, pos, ◌+ℤ◌, length, None, Option, Some}
use Rattle.std.proofs.Common.{◌∙◌, mul-le-mul_left, mul-le-mul_right, arith}
use Rattle.integers.specs.Integer.{Within}
use Rattle.integers.proofs.Linear.{ints, given, given₂}
use Rattle.lines.specs.Limits.{max_refutation}
use Rattle.steps.specs.declared.Step.{Step}
use Rattle.steps.specs.Step.{step_numbered_lem}
use Rattle.check_refutation.specs.declared.Progress.{Progress}
use Rattle.check_refutation.specs.Progress.{head_size, start, is_false_step_lem, head_on, wrong_after, only_if_lem, along, walk_on, advance, run}

pub record Small (most : ℕ) (s : Progress) : Type 0 where
  pub read : s.read ≤ max_refutation
  pub p : s.p < 2 ^ 32
  pub q : s.q < 2 ^ 32
  pub first : Within (s.read * most) s.first
  pub second : Within (s.read * most) s.second
  pub wrong : s.wrong ≤ s.read

-- what holds either way holds of the choice
pub either : {A : Type 0} (P : A → Type 0) (b : Bool) {x y : A} → P x → P y → P (cond b x y)
either P true h k = h
either P false h k = k

wider : (a b : ℕ) (z : ℤ) → a ≤ b → Within a z → Within b z
wider a b z l h = record { low = given h.low (simp ints (omega arith)); high = given h.high (simp ints (omega arith)) }

-- a sum of at most k weights is one of at most m, and with a weight more one of at most k + 1
more_within : (most k m : ℕ) (z : ℤ) → k ≤ m → Within (k * most) z → Within (m * most) z
more_within most k m z l h = wider (k * most) (m * most) z (mul-le-mul_right most l) h

sum_within : (most k : ℕ) (z w : ℤ) → Within (k * most) z → Within most w → Within ((k + 1) * most) (z +ℤ w)
sum_within most k z w h i =
    let e : (k + 1) * most ≡ k * most + most = omega arith in
    rw e (record { low = given₂ h.low i.low (simp ints (omega arith)); high = given₂ h.high i.high (simp ints (omega arith)) })

pub none_within : (most : ℕ) → Within most (pos 0)
none_within most = record { low = simp ints (omega arith); high = simp ints (omega arith) }

-- both sums, within one limit
pub first_within : (most : ℕ) (s : Progress) → Small most s → Within (max_refutation * most) s.first
first_within most s h = more_within most s.read max_refutation s.first h.read h.first

pub second_within : (most : ℕ) (s : Progress) → Small most s → Within (max_refutation * most) s.second
second_within most s h = more_within most s.read max_refutation s.second h.read h.second

-- what is small by lighter steps is small
pub small_wider : (most more : ℕ) (s : Progress) → most ≤ more → Small most s → Small more s
small_wider most more s l h =
    let k : s.read * most ≤ s.read * more = mul-le-mul_left s.read l in
    record { read = h.read; p = h.p; q = h.q; first = wider _ _ _ k h.first; second = wider _ _ _ k h.second; wrong = h.wrong }

pub start_small : (most : ℕ) → Small most start
start_small most =
    let zero = none_within (0 * most) in
    record { read = omega arith; p = omega arith; q = omega arith; first = zero; second = zero; wrong = omega arith }

-- a step number that is found wrong now is the one just read
wrong_after_law : (s : Progress) (b : Bool) → s.wrong ≤ s.read → wrong_after s b ≤ s.read + 1
unfolding wrong_after
wrong_after_law s b h = either (λ k. k ≤ s.read + 1) (s.good && not b) (omega arith) (omega arith)

-- one number more keeps the numbers small
module _ (most : ℕ) (s : Progress) (small : Small most s) (more : s.read < max_refutation) where
  head_small : (r : ℕ) → r < 2 ^ 32 → Small most (head_on s r)
  unfolding head_on
  head_small r h =
      let first = more_within most s.read (s.read + 1) s.first (omega arith) small.first in
      let second = more_within most s.read (s.read + 1) s.second (omega arith) small.second in
      either (Small most) (eqb s.read 0)
      (record { read = omega arith; p = small.p; q = small.q; first = first; second = second; wrong = omega (arith, small.wrong) })
      (either (Small most) (eqb s.read 1)
      (record { read = omega arith; p = h; q = small.q; first = first; second = second; wrong = omega (arith, small.wrong) })
      (record { read = omega arith; p = small.p; q = h; first = first; second = second; wrong = omega (arith, small.wrong) }))

  only_small : (b : Bool) → Small most (only_if_lem s b)
  only_small b =
      record {
        read = omega arith;
        p = small.p;
        q = small.q;
        first = more_within most s.read (s.read + 1) s.first (omega arith) small.first;
        second = more_within most s.read (s.read + 1) s.second (omega arith) small.second;
        wrong = wrong_after_law s b small.wrong;
      }

  along_small : (t : Step) → Within most t.weight → Small most (along s t)
  unfolding along
  along_small t w =
      record {
        read = omega arith;
        p = small.p;
        q = small.q;
        first = sum_within most s.read s.first _ small.first (either (Within most) (ltb s.read (head_size + s.p)) w (none_within most));
        second = sum_within most s.read s.second _ small.second (either (Within most) (ltb s.read (head_size + s.p)) (none_within most) w);
        wrong = wrong_after_law s _ small.wrong;
      }

  walk_small : (m : Option Step) → ((t : Step) → m ≡ Some t → Within most t.weight) → Small most (walk_on s m)
  walk_small (Some t) w = along_small t (w t refl)
  walk_small None w = only_small false

  pub advance_small : (L : List ℤ) (r : ℕ) → ((t : Step) → step_numbered_lem L r ≡ Some t → Within most t.weight) → r < 2 ^ 32 → Small most (advance L s r)
  unfolding advance
  advance_small L r light h =
      either (Small most) (ltb s.read head_size) (head_small r h)
      (either (Small most) (eqb s.kind 3) (only_small (is_false_step_lem L r)) (walk_small (step_numbered_lem L r) light))

-- one number more is counted
walk_read : (s : Progress) (m : Option Step) → (walk_on s m).read ≡ s.read + 1
unfolding along
walk_read s (Some t) = refl
walk_read s None = refl

pub advance_read : (L : List ℤ) (s : Progress) (r : ℕ) → (advance L s r).read ≡ s.read + 1
unfolding advance head_on
advance_read L s r =
    let P : Progress → Type 0 = λ t. t.read ≡ s.read + 1 in
    either P (ltb s.read head_size) (either P (eqb s.read 0) refl (either P (eqb s.read 1) refl refl))
    (either P (eqb s.kind 3) refl (walk_read s (step_numbered_lem L r)))

pub run_read : (L : List ℤ) (s : Progress) (R : List ℕ) → (run L s R).read ≡ s.read + length R
unfolding run
run_read L s [] = omega arith
run_read L s (r ∷ R) = run_read L (advance L s r) R ∙ omega (arith, advance_read L s r)

-- what was wrong first was read, whatever is read
walk_wrong : (s : Progress) (m : Option Step) → s.wrong ≤ s.read → (walk_on s m).wrong ≤ s.read + 1
unfolding along
walk_wrong s (Some t) h = wrong_after_law s _ h
walk_wrong s None h = wrong_after_law s false h

advance_wrong : (L : List ℤ) (s : Progress) (r : ℕ) → s.wrong ≤ s.read → (advance L s r).wrong ≤ s.read + 1
unfolding advance head_on
advance_wrong L s r h =
    let P : Progress → Type 0 = λ t. t.wrong ≤ s.read + 1 in
    either P (ltb s.read head_size) (either P (eqb s.read 0) (omega arith) (either P (eqb s.read 1) (omega arith) (omega arith)))
    (either P (eqb s.kind 3) (wrong_after_law s _ h) (walk_wrong s (step_numbered_lem L r) h))

pub run_wrong : (L : List ℤ) (s : Progress) (R : List ℕ) → s.wrong ≤ s.read → (run L s R).wrong ≤ (run L s R).read
unfolding run
run_wrong L s [] h = h
run_wrong L s (r ∷ R) h = run_wrong L (advance L s r) R (omega (arith, advance_read L s r, advance_wrong L s r h))

-- the last number of all is taken last
pub run_snoc : (L : List ℤ) (s : Progress) (R : List ℕ) (r : ℕ) → run L s (R ++ r ∷ []) ≡ advance L (run L s R) r
unfolding run
run_snoc L s [] r = refl
run_snoc L s (x ∷ R) r = run_snoc L (advance L s x) R r
