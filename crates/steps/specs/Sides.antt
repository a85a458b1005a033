-- The table's entries for two coefficients, as they are computed from the coefficients' digits.
use Rattle.std.specs.Prelude.{◌≡◌, refl, cond, ℕ, zero, suc, ◌+◌, ◌*◌, ◌-◌, ◌/◌, ◌<◌, eqb}
use Rattle.std.proofs.Common.{arith}
use Rattle.steps.specs.declared.Side.{Side}
use Rattle.steps.specs.Table.{entry}

-- the three entries at the digits p, of x, and q, of y
abbrev pub side_at : (p q side : ℕ) → Side
side_at p q side =
    let c = 6 * (3 * p + q) + 3 * side in
    record { start = entry c; end = entry (c + 1); factor = entry (c + 2) }

-- where there is no step
abbrev pub no_step_lem : Side
no_step_lem = record { start = 0; end = 0; factor = 0 }

-- those of a coefficient that stands alone: it has one step, from a start to an end, and 0 has none
abbrev pub lone_side_lem : (digit side start end : ℕ) → Side
lone_side_lem d side s e = cond (eqb d 1) no_step_lem (cond (eqb side 1) no_step_lem (record { start = s; end = e; factor = 2 }))

-- y stands alone
pub lone_y : (q side : ℕ) → q < 3 → side < 2 → lone_side_lem q side (3 - q / 2) (2 + q / 2) ≡ side_at 1 q side
unfolding entry
lone_y zero zero h g = refl
lone_y zero (suc zero) h g = refl
lone_y zero (suc (suc side)) h g = absurd (omega arith)
lone_y (suc zero) zero h g = refl
lone_y (suc zero) (suc zero) h g = refl
lone_y (suc zero) (suc (suc side)) h g = absurd (omega arith)
lone_y (suc (suc zero)) zero h g = refl
lone_y (suc (suc zero)) (suc zero) h g = refl
lone_y (suc (suc zero)) (suc (suc side)) h g = absurd (omega arith)
lone_y (suc (suc (suc q))) side h g = absurd (omega arith)

-- x stands alone
pub lone_x : (p side : ℕ) → p < 3 → (p ≡ 1 → ⊥) → side < 2 → lone_side_lem p side (1 - p / 2) (p / 2) ≡ side_at p 1 side
unfolding entry
lone_x zero zero h n g = refl
lone_x zero (suc zero) h n g = refl
lone_x zero (suc (suc side)) h n g = absurd (omega arith)
lone_x (suc zero) side h n g = absurd (n refl)
lone_x (suc (suc zero)) zero h n g = refl
lone_x (suc (suc zero)) (suc zero) h n g = refl
lone_x (suc (suc zero)) (suc (suc side)) h n g = absurd (omega arith)
lone_x (suc (suc (suc p))) side h n g = absurd (omega arith)

-- neither does
pub record BothSides (p q : ℕ) : Type 0 where
  pub first : record { start = 1 - p / 2; end = 2 + q / 2; factor = 1 } ≡ side_at p q 0
  pub second : record { start = 3 - q / 2; end = p / 2; factor = 1 } ≡ side_at p q 1

pub both : (p q : ℕ) → p < 3 → (p ≡ 1 → ⊥) → q < 3 → (q ≡ 1 → ⊥) → BothSides p q
unfolding entry
both zero zero h m g n = record { first = refl; second = refl }
both zero (suc (suc zero)) h m g n = record { first = refl; second = refl }
both zero (suc zero) h m g n = absurd (n refl)
both zero (suc (suc (suc q))) h m g n = absurd (omega arith)
both (suc (suc zero)) zero h m g n = record { first = refl; second = refl }
both (suc (suc zero)) (suc (suc zero)) h m g n = record { first = refl; second = refl }
both (suc (suc zero)) (suc zero) h m g n = absurd (n refl)
both (suc (suc zero)) (suc (suc (suc q))) h m g n = absurd (omega arith)
both (suc zero) q h m g n = absurd (m refl)
both (suc (suc (suc p))) q h m g n = absurd (omega arith)
