-- Step numbers copied from the work area to the refutation.
use Rattle.std.specs.Prelude.{◌≡◌, refl, List, [], ◌∷◌, map, ℕ, zero, suc, ◌+◌, ◌*◌, ◌<◌, ℤ, pos, nat_abs, length, get_or, set, drop}
use Rattle.std.proofs.Common.{sym, ap, ◌∙◌, arith, add-one, length-drop, get_or-drop}
use Rattle.std.proofs.lemmas.List.{length-map}
use Rattle.std.proofs.Math.Seq.{paste, paste-zero, paste-suc}
use Rattle.lines.specs.Limits.{work_lines}
use Rattle.lines.specs.Line.{number}

-- each of `count` numbers from a place on is a step number: not negative, and below twice the most lines
abbrev pub StepNumbers : List ℤ → ℕ → ℕ → Type 0
StepNumbers w from count = (i : ℕ) → i < count → (k : ℕ) × (number w (from + i) ≡ pos k) × (k < 2 * work_lines)

-- the first i of them, from `to` on
abbrev pub copied_to : List ℕ → ℕ → List ℤ → ℕ → ℕ → List ℕ
copied_to R to w from i = paste R to (map nat_abs (drop from w)) i

pub copied_none : (R : List ℕ) (to : ℕ) (w : List ℤ) (from : ℕ) → R ≡ copied_to R to w from 0
copied_none R to w from = paste-zero R to (map nat_abs (drop from w))

get_d_map : (l : List ℤ) (i : ℕ) → i < length l → get_or (map nat_abs l) i 0 ≡ nat_abs (get_or l i (pos 0))
get_d_map [] i h = absurd (omega arith)
get_d_map (x ∷ l) zero h = refl
get_d_map (x ∷ l) (suc i) h = get_d_map l i (omega arith)

pub copied_more : (R : List ℕ) (to : ℕ) (w : List ℤ) (from i : ℕ) → to + i < length R → from + i < length w
    → set (copied_to R to w from i) (to + i) (nat_abs (number w (from + i))) ≡ copied_to R to w from (i + 1)
copied_more R to w from i h l =
    let a : i < length (drop from w) = omega (arith, length-drop from w) in
    let b : nat_abs (number w (from + i)) ≡ get_or (map nat_abs (drop from w)) i 0 = sym (get_d_map (drop from w) i a ∙ ap nat_abs (get_or-drop from w i (pos 0))) in
    rw (b, add-one) (paste-suc R to (map nat_abs (drop from w)) i 0 h (omega (arith, length-map (drop from w) nat_abs, a)))
