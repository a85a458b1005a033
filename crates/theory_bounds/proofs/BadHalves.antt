-- Where halves contradict each other, two walks show it.
use Rattle.std.specs.Prelude.{◌≡◌, refl, false, List, ℕ, ◌*◌, ◌<◌, ℤ, pos, ◌+ℤ◌}
use Rattle.std.proofs.Common.{sym, subst}
use Rattle.integers.specs.Integer.{◌⋖◌, half}
use Rattle.integers.specs.Laws.{never}
use Rattle.lines.specs.declared.Line.{Line}
use Rattle.steps.specs.Point.{opposite}
use Rattle.theory_walks.specs.Distance.{Distance, none, some, ◌⊞◌, half_d}
use Rattle.theory_walks.specs.Negative.{not_below0, one_false, is_below}
use Rattle.theory_bounds.specs.Verdict.{distances, halves_ok_lem, consistent_halves, BadHalves}

bad_at : (D : ℕ → ℕ → Distance) (N u : ℕ) → u < N → halves_ok_lem D u ≡ false → BadHalves D N
bad_at D N u h = go (D u (opposite u)) refl (D (opposite u) u) refl
  where
    go : (a : Distance) → D u (opposite u) ≡ a → (b : Distance) → D (opposite u) u ≡ b → not_below0 (half_d a ⊞ half_d b) ≡ false → BadHalves D N
    go none p b q e = never (cc)
    go (some a) p none q e = never (cc)
    go (some a) p (some b) q e =
        let r = is_below (some (half a +ℤ half b)) e in
        let z : half a +ℤ half b ≡ r.0 = cc in
        record { point = u; low = h; there = a; back = b; there_is = p; back_is = q; negative = subst (λ (x : ℤ). x ⋖ pos 0) (sym z) r.2 }

pub bad_halves : (n : ℕ) (ls : List Line) → consistent_halves n ls ≡ false → BadHalves (distances n ls) (2 * n)
unfolding consistent_halves
bad_halves n ls e = let r = one_false (2 * n) (halves_ok_lem (distances n ls)) e in bad_at (distances n ls) (2 * n) r.0 r.1 r.2
