-- All values of a solution moved by the same amount are a solution, so that no variable has a bound and none is the mirror image of another.
use Rattle.std.specs.Prelude.{◌≡◌, refl, List, [], ◌∷◌, ℕ, suc, ℤ, pos, negsuc, neg_ℤ, nat_abs, ◌+ℤ◌, ◌-ℤ◌, ◌*ℤ◌}
use Rattle.std.proofs.Common.{arith}
use Rattle.integers.specs.Integer.{◌⩽◌}
use Rattle.integers.proofs.Linear.{ints}
use Rattle.lines.specs.declared.Line.{Line}
use Rattle.lines.specs.Line.{Assignment, left_side_lem, Meets, Solves, Solvable}
use Rattle.theory_answers.specs.Semantics.{value_of, NoLeast, NoGreatest, Mirrored}
use Rattle.theory_differences.specs.Plain.{Difference, forward, backward, Differences}

abbrev pub shifted : Assignment → ℤ → Assignment
shifted s c x = s x +ℤ c

shift_meets : (l : Line) → Difference l → (s : Assignment) (c : ℤ) → Meets s l → Meets (shifted s c) l
unfolding left_side_lem
shift_meets l (forward e f) s c h = rw (e, f) (move (s (nat_abs l.x)) (s (nat_abs l.y)) c l.d (rw (e, f) at h))
  where
    move : (u v c d : ℤ) → pos 1 *ℤ u +ℤ negsuc 0 *ℤ v ⩽ d → pos 1 *ℤ (u +ℤ c) +ℤ negsuc 0 *ℤ (v +ℤ c) ⩽ d
    move u v c d = simp ints (omega arith)
shift_meets l (backward e f) s c h = rw (e, f) (move (s (nat_abs l.x)) (s (nat_abs l.y)) c l.d (rw (e, f) at h))
  where
    move : (u v c d : ℤ) → negsuc 0 *ℤ u +ℤ pos 1 *ℤ v ⩽ d → negsuc 0 *ℤ (u +ℤ c) +ℤ pos 1 *ℤ (v +ℤ c) ⩽ d
    move u v c d = simp ints (omega arith)

pub shift_solves : (ls : List Line) → Differences ls → (s : Assignment) (c : ℤ) → Solves ls s → Solves ls (shifted s c)
shift_solves [] ds s c h = tt
shift_solves (l ∷ ls) ds s c h = (shift_meets l (ds 0 l refl) s c h.0, shift_solves ls (λ k m a. ds (suc k) m a) s c h.1)

module _ (ls : List Line) (ds : Differences ls) (v : Solvable ls) where
  -- the solution in which x has this value
  moved : (x : ℕ) (z : ℤ) → Solves ls (shifted v.assignment (z -ℤ v.assignment x))
  moved x z = shift_solves ls ds v.assignment (z -ℤ v.assignment x) v.solves

  pub no_least : (x : ℕ) → NoLeast ls x
  no_least x = record { beyond = λ z. (shifted v.assignment (z -ℤ v.assignment x), moved x z, low (v.assignment x) z) }
    where
      low : (a z : ℤ) → a +ℤ (z -ℤ a) ⩽ z
      low a z = simp ints (omega arith)

  pub no_greatest : (x : ℕ) → NoGreatest ls (value_of x)
  no_greatest x = record { beyond = λ z. (shifted v.assignment (z -ℤ v.assignment x), moved x z, high (v.assignment x) z) }
    where
      high : (a z : ℤ) → z ⩽ a +ℤ (z -ℤ a)
      high a z = simp ints (omega arith)

  -- x = -r in every solution only where there is none; at r = x too: no variable is always 0
  pub never_mirrored : (x r : ℕ) → Mirrored ls x r → ⊥
  never_mirrored x r always =
      clash (v.assignment x) (v.assignment r) (always v.assignment v.solves) (always (shifted v.assignment (pos 1)) (shift_solves ls ds v.assignment (pos 1) v.solves))
    where
      clash : (a b : ℤ) → a ≡ neg_ℤ b → a +ℤ pos 1 ≡ neg_ℤ (b +ℤ pos 1) → ⊥
      clash a b = simp ints (omega arith)
