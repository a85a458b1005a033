-- Passes that leave marks: of them nothing is asked but that their numbers stay small, and that a point is a point, since
-- what they find is checked.
use Rattle.std.specs.Prelude.{◌≡◌, List, ℕ, ◌+◌, ◌*◌, ◌≤◌, ◌<◌, ℤ, pos, neg_ℤ, ◌+ℤ◌, length, set}
use Rattle.std.proofs.Math.Decide.{ℕ_discrete}
use Rattle.std.proofs.Common.{arith, get_or-set_same, get_or-set_other, SFits}
use Rattle.std.specs.Int.{w64}
use Rattle.integers.specs.Integer.{◌⩽◌, ◌⋖◌, Within}
use Rattle.integers.proofs.Linear.{ints, zs}
use Rattle.lines.specs.Line.{number}
use Rattle.steps.specs.Step.{max_weight}
use Rattle.engine_packed_steps.specs.Steps.{StepOk, StepsReady, ReadReady}
use Rattle.engine_packed_steps.specs.Scratch.{Scratch, scratch_none, scratch_ready, scratch_set, scratch_trans}

-- numbers of the row stay within plus and minus this
abbrev pub max_mark : ℕ
max_mark = 1_000_000_000_000_000

-- the row's numbers are small
abbrev pub SmallRow : ℕ → ℕ → List ℤ → Type 0
SmallRow row size w = (p : ℕ) → p < size → Within max_mark (number w (row + p))

-- what a pass leaves: row and marks may be changed, the row's numbers are small, and the answer is a point or the number of
-- points
pub record Passed (row size : ℕ) (w w' : List ℤ) (last : ℕ) : Type 0 where
  pub scratch : Scratch row (row + 2 * size) w w'
  pub small : SmallRow row size w'
  pub within : last ≤ size

pub passed_none : (row size last : ℕ) (w : List ℤ) → SmallRow row size w → last ≤ size → Passed row size w w last
passed_none row size last w f h = record { scratch = scratch_none row (row + 2 * size) w; small = f; within = h }

pub passed_more : {row size : ℕ} {w w' w'' : List ℤ} {p q : ℕ} → Passed row size w w' p → Passed row size w' w'' q → Passed row size w w'' q
passed_more a b = record { scratch = scratch_trans a.scratch b.scratch; small = b.small; within = b.within }

-- ---- a pass
pub record PassReady (count row size : ℕ) (w : List ℤ) : Type 0 where
  pub steps : StepsReady count row size w
  pub room : row + 2 * size ≤ length w
  pub small : SmallRow row size w

pub pass_ready : {count row size last : ℕ} {w w' : List ℤ} → PassReady count row size w → Passed row size w w' last → PassReady count row size w'
pass_ready r m = record { steps = scratch_ready r.steps m.scratch; room = omega (arith, r.room, m.scratch.same_length); small = m.small }

-- ---- one step of it
pub record MarkReady (i row size last : ℕ) (w : List ℤ) : Type 0 where
  pub before : i < row
  pub room : row + 2 * size ≤ length w
  pub ok : StepOk size (number w i)
  pub small : SmallRow row size w
  pub within : last ≤ size

pub mark_ready : {count row size last : ℕ} {w : List ℤ} → PassReady count row size w → (i : ℕ) → i < count → last ≤ size → MarkReady i row size last w
mark_ready r i h l = record { before = omega (arith, r.steps.before, h); room = r.room; ok = r.steps.ok i h; small = r.small; within = l }

pub step_ready : {i row size last : ℕ} {w : List ℤ} → MarkReady i row size last w → ReadReady i w
step_ready r = record { room = omega (arith, r.before, r.room); low = r.ok.low; light = r.ok.light }

pub sum_fits : (z v : ℤ) → Within max_mark z → Within max_weight v → SFits w64 (z +ℤ v)
sum_fits z v h k = simp ints (omega zs)

pub sum_small : (s e : ℤ) → s ⋖ e → neg_ℤ (pos max_mark) ⋖ s → Within max_mark e → Within max_mark s
sum_small s e h l k = record { low = low s l; high = high s e h k.high }
  where
    low : (s : ℤ) → neg_ℤ (pos max_mark) ⋖ s → neg_ℤ (pos max_mark) ⩽ s
    low s = simp ints (omega arith)

    high : (s e : ℤ) → s ⋖ e → e ⩽ pos max_mark → s ⩽ pos max_mark
    high s e = simp ints (omega arith)

-- the sum is stored at q, and some number as the mark
pub passed_store : (row size q : ℕ) (w : List ℤ) → row + 2 * size ≤ length w → q < size → SmallRow row size w → (s mark : ℤ) → Within max_mark s
    → Passed row size w (set (set w (row + q) s) (row + size + q) mark) q
passed_store row size q w room h f s mark small = record {
  scratch = scratch_trans (scratch_set row (row + 2 * size) w (row + q) s (omega arith) (omega (arith, h))) (scratch_set row (row + 2 * size) _ (row + size + q) mark (omega arith) (omega (arith, h)));
  small = λ p l. each p l (ℕ_discrete p q);
  within = omega (arith, h);
}
  where
    each : (p : ℕ) → p < size → Dec (p ≡ q) → Within max_mark (number (set (set w (row + q) s) (row + size + q) mark) (row + p))
    each p l (yes e) =
        rw (get_or-set_other (set w (row + q) s) (row + size + q) (row + p) mark (pos 0) (λ x. omega (arith, x, l)), e, get_or-set_same w (row + q) s (pos 0) (omega (arith, room, h))) small
    each p l (no n) =
        rw (get_or-set_other (set w (row + q) s) (row + size + q) (row + p) mark (pos 0) (λ x. omega (arith, x, l)), get_or-set_other w (row + q) (row + p) s (pos 0) (λ x. n (omega (arith, x)))) (f p l)
