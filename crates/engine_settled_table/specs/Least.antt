-- An entry that is at most the reduced sum of every walk is the distance, turned back by the numbers of its two points.
use Rattle.std.specs.Prelude.{◌≡◌, refl, Bool, true, false, List, ℕ, ◌*◌, ◌<◌, ◌≤◌, ℤ, pos, neg_ℤ, ◌+ℤ◌, ◌-ℤ◌}
use Rattle.std.proofs.Common.{sym, ap, ◌∙◌, mul-le-mul_right, arith}
use Rattle.std.specs.Int.Signed.{lt_z}
use Rattle.integers.specs.Integer.{◌⩽◌, ◌⋖◌, half, Within}
use Rattle.integers.proofs.Linear.{ints}
use Rattle.lines.specs.Limits.{max_variables}
use Rattle.steps.specs.declared.Step.{Step}
use Rattle.steps.specs.Step.{max_weight}
use Rattle.steps.specs.Walk.{total}
use Rattle.theory_walks.specs.Distance.{Distance, none, some, ◌⊑◌, le_some}
use Rattle.theory_walks.specs.Row.{WithinPoints, best}
use Rattle.theory_walks.specs.Reach.{Walk}
use Rattle.theory_walks.specs.Least.{NoneNegative, best_attained, best_least}
use Rattle.theory_walks.specs.Size.{WithinWeights, best_within, within_more}
use Rattle.engine_reduced_table.specs.Reduced.{far, max_potential, Entry}
use Rattle.engine_settled_table.specs.Out.{out_of, out_near, out_far}

-- far is above every reduced sum of a walk with at most as many steps as points
module _ (E : List Step) (size : ℕ) (within : WithinPoints size E) (weights : WithinWeights max_weight E) (points : size ≤ 2 * max_variables) (nonneg : NoneNegative E size) where
  pub least_exact : (i t : ℕ) → i < size → (a b : ℤ) → Within max_potential a → Within max_potential b → (x : ℤ) → Entry E a b i t x
      → ((ss : List Step) → Walk E i ss t → x +ℤ b ⩽ (total ss +ℤ total ss) +ℤ a) → out_of a b x ≡ best E size i t
  least_exact i t hi a b small_a small_b x e by_walk = go (best E size i t) refl (lt_z x (pos far)) refl
    where
      near : (x : ℤ) → lt_z x (pos far) ≡ true → x ⋖ pos far
      near x = simp ints (omega arith)

      not_near : (x : ℤ) → lt_z x (pos far) ≡ false → pos far ⩽ x
      not_near x = simp ints (omega arith)

      least : (ss : List Step) → Walk E i ss t → best E size i t ⊑ some (total ss)
      least ss p = best_least E size within nonneg i t hi ss p

      halved : (x a b n : ℤ) → x +ℤ b ≡ (n +ℤ n) +ℤ a → half ((x +ℤ b) -ℤ a) ≡ n
      halved x a b n = simp ints (omega arith)

      same : (x a b n z : ℤ) → x +ℤ b ≡ (n +ℤ n) +ℤ a → x +ℤ b ⩽ (z +ℤ z) +ℤ a → z ⩽ n → n ≡ z
      same x a b n z = simp ints (omega arith)

      too_far : (x a b z : ℤ) → pos far ⩽ x → x +ℤ b ⩽ (z +ℤ z) +ℤ a → z ⩽ pos max_potential → a ⩽ pos max_potential → neg_ℤ (pos max_potential) ⩽ b → ⊥
      too_far x a b z = simp ints (omega arith)

      go : (d : Distance) → best E size i t ≡ d → (f : Bool) → lt_z x (pos far) ≡ f → out_of a b x ≡ best E size i t
      go none n false f = out_far a b x f ∙ sym n
      go none n true f =
          let s = e.reached (near x f) in
          absurd (rw n at (least s.path s.walk)).le
      go (some z) n true f =
          let s = e.reached (near x f) in
          let w = best_attained E size i t z n in
          let h : x +ℤ b ⩽ (z +ℤ z) +ℤ a = rw w.sum at (by_walk w.steps w.walk) in
          let k : total s.path ≡ z = same x a b (total s.path) z s.sum h (le_some (rw n at (least s.path s.walk))) in
          out_near a b x f ∙ ap some (halved x a b (total s.path) s.sum ∙ k) ∙ sym n
      go (some z) n false f =
          let w = best_attained E size i t z n in
          let h : x +ℤ b ⩽ (z +ℤ z) +ℤ a = rw w.sum at (by_walk w.steps w.walk) in
          let m : Within max_potential z = within_more (omega (arith, mul-le-mul_right max_weight points)) (best_within max_weight E weights size i t z n) in
          absurd (too_far x a b z (not_near x f) h m.high small_a.high small_b.low)
