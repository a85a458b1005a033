-- Steps at the front of the work area, each in one number.
use Rattle.std.specs.Prelude.{◌≡◌, refl, ℕ, zero, suc, ◌+◌, ◌*◌, ◌^◌, ◌≤◌, ◌<◌, ℤ, pos, negsuc, nat_abs, length, set}
use Rattle.std.proofs.Math.Path.{ap}
use Rattle.std.proofs.Common.{◌∙◌, inl, inr, get_or-set_same, get_or-set_other}
use mathlib.Core.List.{List, [], ◌∷◌, ◌++◌}
use native.Mathlib.Omega.{arith}
use Rattle.std.specs.Int.Signed.{mag}
use Rattle.std.specs.Int.{w64}
use mir.Val.{Fits, hbits}
use Rattle.integers.specs.Integer.{◌⩽◌, Within}
use Rattle.integers.specs.Sequence.{tabulate, tabulate_add, tabulate_cong}
use Rattle.lines.specs.Line.{number}
use Rattle.steps.specs.declared.Step.{Step}
use Rattle.steps.specs.Step.{max_weight}
use Rattle.theory_walks.specs.Row.{In, WithinPoints}
use Rattle.theory_walks.specs.Size.{WithinWeights}
use Rattle.engine_packed_steps.specs.Packed.{point_radix, unpacked}

-- the most steps: one from each point to each
abbrev pub max_steps : ℕ
max_steps = point_radix * point_radix

abbrev pub step_in_lem : List ℤ → ℕ → Step
step_in_lem work i = unpacked (nat_abs (number work i))

unfoldable pub steps_in : ℕ → List ℤ → List Step
steps_in count work = tabulate count (step_in_lem work)

-- a number that is a step between points below `size`
pub record StepOk (size : ℕ) (z : ℤ) : Type 0 where
  pub low : pos 0 ⩽ z
  pub from_lt : (unpacked (nat_abs z)).from < size
  pub to_lt : (unpacked (nat_abs z)).to < size
  pub light : Within max_weight (unpacked (nat_abs z)).weight

-- the steps stand before a place at which there is room for a row
pub record StepsReady (count place size : ℕ) (work : List ℤ) : Type 0 where
  pub few : count ≤ max_steps
  pub before : count ≤ place
  pub room : place + size ≤ length work
  pub ok : (i : ℕ) → i < count → StepOk size (number work i)

-- ---- all steps
-- what holds of the first steps holds of each
pub tabulate_all : (P : Step → Type 0) (n : ℕ) (f : ℕ → Step) → ((i : ℕ) → i < n → P (f i)) → (s : Step) → In s (tabulate n f) → P s
tabulate_all P zero f h s i = absurd i
tabulate_all P (suc n) f h s (inl e) = rw e (h 0 (omega arith))
tabulate_all P (suc n) f h s (inr i) = tabulate_all P n (λ k. f (suc k)) (λ k l. h (suc k) (omega arith)) s i

pub within_all : (count size : ℕ) (work : List ℤ) → ((i : ℕ) → i < count → StepOk size (number work i)) → WithinPoints size (steps_in count work)
unfolding steps_in
within_all count size work f = tabulate_all (λ s. (s.from < size) × (s.to < size)) count (step_in_lem work) (λ i h. ((f i h).from_lt, (f i h).to_lt))

pub within_steps : {count place size : ℕ} {work : List ℤ} → StepsReady count place size work → WithinPoints size (steps_in count work)
within_steps {count} {size} {work} r = within_all count size work r.ok

pub light_steps : (count size : ℕ) (work : List ℤ) → ((i : ℕ) → i < count → StepOk size (number work i)) → WithinWeights max_weight (steps_in count work)
unfolding steps_in
light_steps count size work f = tabulate_all (λ s. Within max_weight s.weight) count (step_in_lem work) (λ i h. (f i h).light)

-- a step that stands in the work area is one of the steps
pub step_in : (count : ℕ) (w : List ℤ) (i : ℕ) → i < count → In (step_in_lem w i) (steps_in count w)
unfolding steps_in
step_in count w i h = go count (step_in_lem w) i h
  where
    go : (n : ℕ) (f : ℕ → Step) (i : ℕ) → i < n → In (f i) (tabulate n f)
    go zero f i h = absurd (omega arith)
    go (suc n) f zero h = inl refl
    go (suc n) f (suc i) h = inr (go n (λ k. f (suc k)) i (omega arith))

pub steps_none : (w : List ℤ) → steps_in 0 w ≡ []
unfolding steps_in
steps_none w = refl

-- equal numbers are equal steps
pub steps_same : (count : ℕ) (w w' : List ℤ) → ((i : ℕ) → i < count → number w' i ≡ number w i) → steps_in count w' ≡ steps_in count w
unfolding steps_in
steps_same count w w' f = tabulate_cong count _ _ (λ i h. ap (λ (z : ℤ). unpacked (nat_abs z)) (f i h))

-- one more, stored behind `count` others
module _ (count : ℕ) (w : List ℤ) (z : ℤ) (room : count < length w) where
  pub stored_same : (i : ℕ) → i < count → number (set w count z) i ≡ number w i
  stored_same i h = get_or-set_other w count i z (pos 0) (λ e. omega (arith, e, h))

  pub stored_last : number (set w count z) count ≡ z
  stored_last = get_or-set_same w count z (pos 0) room

  pub steps_more : steps_in (count + 1) (set w count z) ≡ steps_in count w ++ unpacked (nat_abs z) ∷ []
  unfolding steps_in
  steps_more =
      tabulate_add count 1 (step_in_lem (set w count z))
      ∙ ap (λ (F : List Step). F ++ step_in_lem (set w count z) (count + 0) ∷ []) (steps_same count w (set w count z) stored_same)
      ∙ ap (λ (s : Step). steps_in count w ++ s ∷ []) (ap (step_in_lem (set w count z)) none ∙ ap (λ (y : ℤ). unpacked (nat_abs y)) stored_last)
    where
      none : count + 0 ≡ count
      none = omega arith

-- ---- reading
-- a signed number that is not below 0, as an unsigned one
pub abs_fits : (z : ℤ) → mag z < 2 ^ hbits w64 → Fits w64 (nat_abs z)
abs_fits (pos n) h = record { fits = omega (arith, h) }
abs_fits (negsuc n) h = record { fits = omega (arith, h) }

pub record ReadReady (i : ℕ) (w : List ℤ) : Type 0 where
  pub room : i < length w
  pub low : pos 0 ⩽ number w i
  pub light : Within max_weight (step_in_lem w i).weight

pub read_ready : {count place size : ℕ} {w : List ℤ} → StepsReady count place size w → (i : ℕ) → i < count → ReadReady i w
read_ready r i h = record { room = omega (arith, r.before, r.room, h); low = (r.ok i h).low; light = (r.ok i h).light }
