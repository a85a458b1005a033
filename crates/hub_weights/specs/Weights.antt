-- The least weights of a list with one hub at the front of the work area, by rows: what laying them asks, and what it leaves.
use Rattle.std.specs.Prelude.{◌≡◌, Bool, true, List, ℕ, ◌+◌, ◌*◌, ◌≤◌, ◌<◌, ℤ, length}
use Rattle.std.proofs.Common.{subst, arith}
use Rattle.integers.specs.Integer.{Within}
use Rattle.lines.specs.Line.{number, lines_of}
use Rattle.lines.specs.Valid.{Workable, all_ok}
use Rattle.steps.specs.Step.{max_weight}
use Rattle.theory_walks.specs.Graph.{weights_small}
use Rattle.theory_hub.specs.Hub.{weight_rows, Weights, Weighs}
use Rattle.decide_rows.specs.Read.{distance_of, Short}
use Rattle.engine_packed_steps.specs.Scratch.{Scratch}

-- behind the rows of weights in the work area
abbrev pub weights_end : ℕ → ℕ
weights_end n = weight_rows * (2 * n)

-- the rows, as they stand at the front of the work area
abbrev pub weights_in : ℕ → List ℤ → Weights
weights_in n w k p = distance_of (number w (k * (2 * n) + p))

pub record WeightsReady (n : ℕ) (L w : List ℤ) : Type 0 where
  pub valid : Workable n L
  pub room : weights_end n ≤ length w

-- the rows alone may change
pub ready_kept : {n : ℕ} {L w w' : List ℤ} → WeightsReady n L w → Scratch 0 (weights_end n) w w' → WeightsReady n L w'
ready_kept r s = record { valid = r.valid; room = omega (arith, r.room, s.same_length) }

-- if the answer is yes, the rows are the list's least weights; of no nothing is said
pub record WeightsLaid (n : ℕ) (L w w' : List ℤ) (r : Bool) : Type 0 where
  pub scratch : Scratch 0 (weights_end n) w w'
  pub weighs : r ≡ true → Weighs n (lines_of L) (weights_in n w')

-- each weight is a step's, and so small
pub weighs_short : {n : ℕ} {L : List ℤ} {W : Weights} → Workable n L → Weighs n (lines_of L) W → (k p : ℕ) → k < weight_rows → p < 2 * n → Short max_weight (W k p)
weighs_short {n} {L} v g k p hk hp z e =
    let (t, i, _, _, is) = g.taken k p hk hp z e in
    subst (Within max_weight) is (weights_small n (lines_of L) (all_ok n L v.lines) t i)
