-- A solution in which no value has a size beyond L and up to L + M stays one where all values beyond are moved by one: toward zero where no d is below -M, and
-- away from it where none is above M.
use Rattle.std.specs.Prelude.{◌≡◌, ◌⊎◌, List, [], ◌∷◌, ℕ, zero, suc, ◌+◌, ◌-◌, ◌≤◌, ◌<◌, min, ℤ, pos, negsuc, neg_ℤ, nat_abs, ◌+ℤ◌, ◌-ℤ◌, ◌*ℤ◌}
use Rattle.std.proofs.Common.{ap, inl, inr, arith}
use Rattle.integers.specs.Integer.{◌⩽◌, ◌⋖◌, Within}
use Rattle.integers.proofs.Linear.{ints, given}
use Rattle.lines.specs.declared.Line.{Line}
use Rattle.lines.specs.Line.{Assignment, left_side_lem, Meets, Solves}
use Rattle.lines.specs.Valid.{LineWorks, variable_lt, AllOk}
use Rattle.steps.specs.Point.{signed}

-- every d is at least -M
abbrev pub AllAbove : ℕ → List Line → Type 0
AllAbove M [] = Unit {0}
AllAbove M (l ∷ ls) = (neg_ℤ (pos M) ⩽ l.d) × AllAbove M ls

-- every d is at most M
abbrev pub AllBelow : ℕ → List Line → Type 0
AllBelow M [] = Unit {0}
AllBelow M (l ∷ ls) = (l.d ⩽ pos M) × AllBelow M ls

-- ---- one value moved
-- a size beyond F by one less, and by one more
pub fewer : ℕ → ℕ → ℕ
fewer F n = n - min 1 (n - F)

pub more : ℕ → ℕ → ℕ
more F n = n + min 1 (n - F)

fewer_far : (F n : ℕ) → F < n → suc (fewer F n) ≡ n
unfolding fewer
fewer_far F n h = omega arith

fewer_near : (F n : ℕ) → n ≤ F → fewer F n ≡ n
unfolding fewer
fewer_near F n h = omega arith

more_far : (F n : ℕ) → F < n → more F n ≡ suc n
unfolding more
more_far F n h = omega arith

more_near : (F n : ℕ) → n ≤ F → more F n ≡ n
unfolding more
more_near F n h = omega arith

-- a value of another size
pub resized : (ℕ → ℕ) → ℤ → ℤ
resized f (pos n) = pos (f n)
resized f (negsuc n) = neg_ℤ (pos (f (suc n)))

-- toward zero, and away from it
abbrev pub inward : ℕ → ℤ → ℤ
inward F = resized (fewer F)

abbrev pub outward : ℕ → ℤ → ℤ
outward F = resized (more F)

resized_same : (f : ℕ → ℕ) (z : ℤ) → f (nat_abs z) ≡ nat_abs z → resized f z ≡ z
unfolding resized
resized_same f (pos n) e = ap pos e
resized_same f (negsuc n) e = ap (λ (k : ℕ). neg_ℤ (pos k)) e

pub inward_near : (F : ℕ) (z : ℤ) → nat_abs z ≤ F → inward F z ≡ z
inward_near F z h = resized_same (fewer F) z (fewer_near F (nat_abs z) h)

pub outward_near : (F : ℕ) (z : ℤ) → nat_abs z ≤ F → outward F z ≡ z
outward_near F z h = resized_same (more F) z (more_near F (nat_abs z) h)

pub inward_far : (F : ℕ) (z : ℤ) → F < nat_abs z → nat_abs (inward F z) < nat_abs z
unfolding resized fewer
inward_far F (pos n) h = omega arith
inward_far F (negsuc n) h = shrinks (fewer F (suc n)) n (omega arith)
  where
    shrinks : (k n : ℕ) → k < suc n → nat_abs (neg_ℤ (pos k)) < suc n
    shrinks k n = simp ints (omega arith)

-- with either sign: what is above F gets more, and what is not below -F gets no less
pub outward_far : (F q : ℕ) (z : ℤ) → pos F ⋖ signed q z → signed q z ⋖ signed q (outward F z)
unfolding resized
outward_far F zero (pos n) h = grows (more F n) n (more_far F n (given h (simp ints (omega arith))))
  where
    grows : (k n : ℕ) → k ≡ suc n → pos n ⋖ pos k
    grows k n = simp ints (omega arith)
outward_far F zero (negsuc n) h = absurd (given h (simp ints (omega arith)))
outward_far F (suc q) (pos n) h = absurd (given h (simp ints (omega arith)))
outward_far F (suc q) (negsuc n) h = grows (more F (suc n)) n (more_far F (suc n) (given h (simp ints (omega arith))))
  where
    grows : (k n : ℕ) → k ≡ suc (suc n) → neg_ℤ (negsuc n) ⋖ neg_ℤ (neg_ℤ (pos k))
    grows k n = simp ints (omega arith)

more_least : (F n : ℕ) → n ≤ more F n
unfolding more
more_least F n = omega arith

pub outward_least : (F q : ℕ) (z : ℤ) → neg_ℤ (pos F) ⩽ signed q z → signed q z ⩽ signed q (outward F z)
unfolding resized
outward_least F zero (pos n) h = given (more_least F n) (simp ints (omega arith))
outward_least F zero (negsuc n) h = same (more F (suc n)) n (more_near F (suc n) (given h (simp ints (omega arith))))
  where
    same : (k n : ℕ) → k ≡ suc n → negsuc n ⩽ neg_ℤ (pos k)
    same k n = simp ints (omega arith)
outward_least F (suc q) (pos n) h = same (more F n) n (more_near F n (given h (simp ints (omega arith))))
  where
    same : (k n : ℕ) → k ≡ n → neg_ℤ (pos n) ⩽ neg_ℤ (pos k)
    same k n = simp ints (omega arith)
outward_least F (suc q) (negsuc n) h = grows (more F (suc n)) n (more_least F (suc n))
  where
    grows : (k n : ℕ) → suc n ≤ k → neg_ℤ (negsuc n) ⩽ neg_ℤ (neg_ℤ (pos k))
    grows k n = simp ints (omega arith)

-- a term u of a line, and what becomes of it on both ways: small, it stays; beyond F, it is moved by one
data Moved (L F : ℕ) (u v w : ℤ) : Type 0 where
  near : neg_ℤ (pos L) ⩽ u → u ⩽ pos L → v ≡ u → w ≡ u → Moved L F u v w
  high : pos F ⋖ u → v ≡ u -ℤ pos 1 → w ≡ u +ℤ pos 1 → Moved L F u v w
  low : u ⋖ neg_ℤ (pos F) → v ≡ u +ℤ pos 1 → w ≡ u -ℤ pos 1 → Moved L F u v w

-- a size is small or beyond F
abbrev pub Apart : ℕ → ℕ → ℕ → Type 0
Apart L F k = (k ≤ L) ⊎ (F < k)

moved : (L F : ℕ) (z : ℤ) → L ≤ F → Apart L F (nat_abs z) → Moved L F z (inward F z) (outward F z)
unfolding resized
moved L F z l (inl h) = near (low_side z L h) (high_side z L h) (inward_near F z (omega arith)) (outward_near F z (omega arith))
  where
    low_side : (z : ℤ) (L : ℕ) → nat_abs z ≤ L → neg_ℤ (pos L) ⩽ z
    low_side z L = simp ints (omega arith)

    high_side : (z : ℤ) (L : ℕ) → nat_abs z ≤ L → z ⩽ pos L
    high_side z L = simp ints (omega arith)
moved L F (pos n) l (inr h) = high (beyond F n h) (less (fewer F n) n (fewer_far F n h)) (one_more (more F n) n (more_far F n h))
  where
    beyond : (F n : ℕ) → F < n → pos F ⋖ pos n
    beyond F n = simp ints (omega arith)

    less : (k n : ℕ) → suc k ≡ n → pos k ≡ pos n -ℤ pos 1
    less k n = simp ints (omega arith)

    one_more : (k n : ℕ) → k ≡ suc n → pos k ≡ pos n +ℤ pos 1
    one_more k n = simp ints (omega arith)
moved L F (negsuc n) l (inr h) = low (beyond F n h) (less (fewer F (suc n)) n (fewer_far F (suc n) h)) (one_more (more F (suc n)) n (more_far F (suc n) h))
  where
    beyond : (F n : ℕ) → F < suc n → negsuc n ⋖ neg_ℤ (pos F)
    beyond F n = simp ints (omega arith)

    less : (k n : ℕ) → suc k ≡ suc n → neg_ℤ (pos k) ≡ negsuc n +ℤ pos 1
    less k n = simp ints (omega arith)

    one_more : (k n : ℕ) → k ≡ suc (suc n) → neg_ℤ (pos k) ≡ negsuc n -ℤ pos 1
    one_more k n = simp ints (omega arith)

-- ---- a term, with its coefficient
moved_zero : (L F : ℕ) (z v w : ℤ) → Moved L F (pos 0 *ℤ z) (pos 0 *ℤ v) (pos 0 *ℤ w)
moved_zero L F z v w = near (low_side L z) (high_side L z) (same z v) (same z w)
  where
    low_side : (L : ℕ) (z : ℤ) → neg_ℤ (pos L) ⩽ pos 0 *ℤ z
    low_side L z = simp ints (omega arith)

    high_side : (L : ℕ) (z : ℤ) → pos 0 *ℤ z ⩽ pos L
    high_side L z = simp ints (omega arith)

    same : (z w : ℤ) → pos 0 *ℤ w ≡ pos 0 *ℤ z
    same z w = simp ints (omega arith)

moved_one : (L F : ℕ) (z v w : ℤ) → Moved L F z v w → Moved L F (pos 1 *ℤ z) (pos 1 *ℤ v) (pos 1 *ℤ w)
moved_one L F z v w (near h k e f) =
    near (given h (simp ints (omega arith))) (given k (simp ints (omega arith))) (given e (simp ints (omega arith))) (given f (simp ints (omega arith)))
moved_one L F z v w (high h e f) = high (given h (simp ints (omega arith))) (given e (simp ints (omega arith))) (given f (simp ints (omega arith)))
moved_one L F z v w (low h e f) = low (given h (simp ints (omega arith))) (given e (simp ints (omega arith))) (given f (simp ints (omega arith)))

moved_minus : (L F : ℕ) (z v w : ℤ) → Moved L F z v w → Moved L F (negsuc 0 *ℤ z) (negsuc 0 *ℤ v) (negsuc 0 *ℤ w)
moved_minus L F z v w (near h k e f) =
    near (given k (simp ints (omega arith))) (given h (simp ints (omega arith))) (given e (simp ints (omega arith))) (given f (simp ints (omega arith)))
moved_minus L F z v w (high h e f) = low (given h (simp ints (omega arith))) (given e (simp ints (omega arith))) (given f (simp ints (omega arith)))
moved_minus L F z v w (low h e f) = high (given h (simp ints (omega arith))) (given e (simp ints (omega arith))) (given f (simp ints (omega arith)))

not_zero : (n : ℕ) → pos (suc n) ≡ pos 0 → ⊥
not_zero n = simp ints (omega arith)

not_negative : (n : ℕ) → negsuc n ≡ pos 0 → ⊥
not_negative n = simp ints (omega arith)

not_more : (n : ℕ) → pos (suc (suc n)) ⩽ pos 1 → ⊥
not_more n = simp ints (omega arith)

not_less : (n : ℕ) → neg_ℤ (pos 1) ⩽ negsuc (suc n) → ⊥
not_less n = simp ints (omega arith)

term_moved : (L F : ℕ) (a z : ℤ) → L ≤ F → Within 1 a → ((a ≡ pos 0 → ⊥) → Apart L F (nat_abs z)) → Moved L F (a *ℤ z) (a *ℤ inward F z) (a *ℤ outward F z)
term_moved L F (pos zero) z l c h = moved_zero L F z (inward F z) (outward F z)
term_moved L F (pos (suc zero)) z l c h = moved_one L F z (inward F z) (outward F z) (moved L F z l (h (not_zero 0)))
term_moved L F (pos (suc (suc n))) z l c h = absurd (not_more n c.high)
term_moved L F (negsuc zero) z l c h = moved_minus L F z (inward F z) (outward F z) (moved L F z l (h (not_negative 0)))
term_moved L F (negsuc (suc n)) z l c h = absurd (not_less n c.low)

-- ---- a line stays met. A sum with a high and no low term is above M, and stays there on the way inward; one with a low and no high term is below -M; one with
-- both, or with none, does not change.
abbrev Met : (M : ℕ) (v v' w w' d : ℤ) → Type 0
Met M v v' w w' d = (neg_ℤ (pos M) ⩽ d → v +ℤ v' ⩽ d) × (d ⩽ pos M → w +ℤ w' ⩽ d)

near_near : (M : ℕ) (u u' v v' w w' d : ℤ) → v ≡ u → v' ≡ u' → w ≡ u → w' ≡ u' → u +ℤ u' ⩽ d → Met M v v' w w' d
near_near M u u' v v' w w' d = simp ints (omega arith)

high_near : (L M : ℕ) (u u' v v' w w' d : ℤ) → pos (L + M) ⋖ u → v ≡ u -ℤ pos 1 → w ≡ u +ℤ pos 1 → neg_ℤ (pos L) ⩽ u' → v' ≡ u' → w' ≡ u' → u +ℤ u' ⩽ d → Met M v v' w w' d
high_near L M u u' v v' w w' d = simp ints (omega arith)

high_high : (L M : ℕ) (u u' v v' w w' d : ℤ) → pos (L + M) ⋖ u → v ≡ u -ℤ pos 1 → w ≡ u +ℤ pos 1 → pos (L + M) ⋖ u' → v' ≡ u' -ℤ pos 1 → w' ≡ u' +ℤ pos 1 → u +ℤ u' ⩽ d → Met M v v' w w' d
high_high L M u u' v v' w w' d = simp ints (omega arith)

high_low : (M : ℕ) (u u' v v' w w' d : ℤ) → v ≡ u -ℤ pos 1 → w ≡ u +ℤ pos 1 → v' ≡ u' +ℤ pos 1 → w' ≡ u' -ℤ pos 1 → u +ℤ u' ⩽ d → Met M v v' w w' d
high_low M u u' v v' w w' d = simp ints (omega arith)

low_near : (L M : ℕ) (u u' v v' w w' d : ℤ) → u ⋖ neg_ℤ (pos (L + M)) → v ≡ u +ℤ pos 1 → w ≡ u -ℤ pos 1 → u' ⩽ pos L → v' ≡ u' → w' ≡ u' → u +ℤ u' ⩽ d → Met M v v' w w' d
low_near L M u u' v v' w w' d = simp ints (omega arith)

low_low : (L M : ℕ) (u u' v v' w w' d : ℤ) → u ⋖ neg_ℤ (pos (L + M)) → v ≡ u +ℤ pos 1 → w ≡ u -ℤ pos 1 → u' ⋖ neg_ℤ (pos (L + M)) → v' ≡ u' +ℤ pos 1 → w' ≡ u' -ℤ pos 1 → u +ℤ u' ⩽ d → Met M v v' w w' d
low_low L M u u' v v' w w' d = simp ints (omega arith)

-- the order of the terms does not matter
turned : (M : ℕ) (u u' v v' w w' d : ℤ) → (u' +ℤ u ⩽ d → Met M v' v w' w d) → u +ℤ u' ⩽ d → Met M v v' w w' d
turned M u u' v v' w w' d f h =
    let m = f (swap u u' d h) in ((λ k. swap v' v d (m.0 k)), (λ k. swap w' w d (m.1 k)))
  where
    swap : (u v d : ℤ) → u +ℤ v ⩽ d → v +ℤ u ⩽ d
    swap u v d = simp ints (omega arith)

sum_moved : (L M : ℕ) (u u' v v' w w' d : ℤ) → Moved L (L + M) u v w → Moved L (L + M) u' v' w' → u +ℤ u' ⩽ d → Met M v v' w w' d
sum_moved L M u u' v v' w w' d (near _ _ e f) (near _ _ e' f') = near_near M u u' v v' w w' d e e' f f'
sum_moved L M u u' v v' w w' d (near b _ e f) (high h e' f') = turned M u u' v v' w w' d (high_near L M u' u v' v w' w d h e' f' b e f)
sum_moved L M u u' v v' w w' d (near _ b e f) (low h e' f') = turned M u u' v v' w w' d (low_near L M u' u v' v w' w d h e' f' b e f)
sum_moved L M u u' v v' w w' d (high h e f) (near b _ e' f') = high_near L M u u' v v' w w' d h e f b e' f'
sum_moved L M u u' v v' w w' d (high h e f) (high k e' f') = high_high L M u u' v v' w w' d h e f k e' f'
sum_moved L M u u' v v' w w' d (high h e f) (low _ e' f') = high_low M u u' v v' w w' d e f e' f'
sum_moved L M u u' v v' w w' d (low h e f) (near _ b e' f') = low_near L M u u' v v' w w' d h e f b e' f'
sum_moved L M u u' v v' w w' d (low _ e f) (high h e' f') = turned M u u' v v' w w' d (high_low M u' u v' v w' w d e' f' e f)
sum_moved L M u u' v v' w w' d (low h e f) (low k e' f') = low_low L M u u' v v' w w' d h e f k e' f'

-- ---- so a solution stays one where no variable has a size beyond L and up to L + M
module _ (n L M : ℕ) (s : Assignment) (apart : (x : ℕ) → x < n → Apart L (L + M) (nat_abs (s x))) where
  abbrev pub drawn_in : Assignment
  drawn_in x = inward (L + M) (s x)

  abbrev pub drawn_out : Assignment
  drawn_out x = outward (L + M) (s x)

  line_moved : (l : Line) → LineWorks n l → Meets s l → (neg_ℤ (pos M) ⩽ l.d → Meets drawn_in l) × (l.d ⩽ pos M → Meets drawn_out l)
  unfolding left_side_lem
  line_moved l ok =
      sum_moved L M _ _ _ _ _ _ l.d
      (term_moved L (L + M) l.a (s (nat_abs l.x)) (omega arith) ok.coefficient_a (λ z. apart _ (variable_lt n l.x (ok.variable_x z))))
      (term_moved L (L + M) l.b (s (nat_abs l.y)) (omega arith) ok.coefficient_b (λ z. apart _ (variable_lt n l.y (ok.variable_y z))))

  pub solves_inward : (ls : List Line) → AllOk n ls → AllAbove M ls → Solves ls s → Solves ls drawn_in
  solves_inward [] ok b h = tt
  solves_inward (l ∷ ls) ok b h = ((line_moved l ok.0 h.0).0 b.0, solves_inward ls ok.1 b.1 h.1)

  pub solves_outward : (ls : List Line) → AllOk n ls → AllBelow M ls → Solves ls s → Solves ls drawn_out
  solves_outward [] ok b h = tt
  solves_outward (l ∷ ls) ok b h = ((line_moved l ok.0 h.0).1 b.0, solves_outward ls ok.1 b.1 h.1)
