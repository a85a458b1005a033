-- The steps of a list, written one number after another to the front of the work area.
use Rattle.std.specs.Prelude.{◌≡◌, refl, List, [], ◌∷◌, ◌++◌, ℕ, ◌+◌, ◌*◌, ◌≤◌, ◌<◌, ℤ, nat_abs, length, set, None, Option, Some}
use Rattle.std.proofs.Common.{sym, ap, subst, ◌∙◌, append-nil, arith}
use Rattle.std.proofs.Math.Decide.{dec_lt}
use Rattle.lines.specs.Limits.{max_variables, work_lines}
use Rattle.lines.specs.Line.{line_count, lines_of}
use Rattle.lines.specs.Valid.{LinesOk}
use Rattle.lines.specs.Line.{number}
use Rattle.steps.specs.declared.Step.{Step}
use Rattle.steps.specs.Step.{step_numbered_lem, steps_of, named}
use Rattle.decide_rows.specs.Numbers.{StepOk as WrittenOk, steps_before, before_zero, before_more, before_all}
use Rattle.engine_packed_steps.specs.Packed.{Packs, unpacked}
use Rattle.engine_packed_steps.specs.Steps.{StepOk, steps_in, steps_none, steps_more, stored_same, stored_last}
use Rattle.engine_packed_steps.specs.Scratch.{Scratch, scratch_none, scratch_trans, scratch_set}

-- what writing one number asks
pub record NumberReady (n : ℕ) (L work : List ℤ) (k kept : ℕ) : Type 0 where
  pub few : n ≤ max_variables
  pub valid : LinesOk n L
  pub few_lines : line_count L ≤ work_lines
  pub below : k < 2 * line_count L
  pub room : kept < length work

-- what a number names is written behind `kept` others: it is nothing, or one step
abbrev pub Put : ℕ → Option Step → ℕ → List ℤ → List ℤ → ℕ → Type 0
Put n None kept work work' r = (work' ≡ work) × (r ≡ kept)
Put n (Some s) kept work work' r = (z : ℤ) × StepOk (2 * n) z × (unpacked (nat_abs z) ≡ s) × (work' ≡ set work kept z) × (r ≡ kept + 1)

-- a step that was found is packed
pub found_put : (n k kept : ℕ) (s : Step) (work : List ℤ) (z : ℤ) → WrittenOk n s → Packs s.from s.to s.weight k z → Put n (Some s) kept work (set work kept z) (kept + 1)
found_put n k kept s work z o p = (z, record { low = p.low; from_lt = rw (ap from_of p.step) o.from_lt; to_lt = rw (ap to_of p.step) o.to_lt; light = rw (ap weight_of p.step) o.small }, p.step, refl, refl)
  where
    from_of : Step → ℕ
    from_of s = s.from

    to_of : Step → ℕ
    to_of s = s.to

    weight_of : Step → ℤ
    weight_of s = s.weight

-- by what a number was found to name
pub put_found : (n k kept : ℕ) (t : Option Step) (s : Step) → t ≡ Some s → (work : List ℤ) (z : ℤ) → WrittenOk n s → Packs s.from s.to s.weight k z → Put n t kept work (set work kept z) (kept + 1)
put_found n k kept t s e work z o p = subst (λ (x : Option Step). Put n x kept work (set work kept z) (kept + 1)) (sym e) (found_put n k kept s work z o p)

pub put_nothing : (n : ℕ) (t : Option Step) → t ≡ None → (kept : ℕ) (work : List ℤ) → Put n t kept work work kept
put_nothing n t e kept work = subst (λ (x : Option Step). Put n x kept work work kept) (sym e) (refl, refl)

pub record WriteReady (n : ℕ) (L work : List ℤ) : Type 0 where
  pub few : n ≤ max_variables
  pub valid : LinesOk n L
  pub few_lines : line_count L ≤ work_lines
  pub room : 2 * line_count L ≤ length work

-- the first `kept` numbers are the steps of the first k numbers
pub record Writing (n : ℕ) (L w₀ work : List ℤ) (k kept : ℕ) : Type 0 where
  pub at_most : k ≤ 2 * line_count L
  pub no_more : kept ≤ k
  pub scratch : Scratch 0 (2 * line_count L) w₀ work
  pub ok : (i : ℕ) → i < kept → StepOk (2 * n) (number work i)
  pub are : steps_in kept work ≡ steps_before L k

-- the first r numbers are the steps of the list, and nothing beyond as many as it could have is changed
pub record Written (n : ℕ) (L work work' : List ℤ) (r : ℕ) : Type 0 where
  pub no_more : r ≤ 2 * line_count L
  pub scratch : Scratch 0 (2 * line_count L) work work'
  pub ok : (i : ℕ) → i < r → StepOk (2 * n) (number work' i)
  pub are : steps_in r work' ≡ steps_of (lines_of L)

module _ (n : ℕ) (L w₀ : List ℤ) (room : 2 * line_count L ≤ length w₀) where
  pub writing_start : Writing n L w₀ w₀ 0 0
  writing_start = record {
    at_most = omega arith;
    no_more = omega arith;
    scratch = scratch_none 0 (2 * line_count L) w₀;
    ok = λ i h. absurd (omega arith);
    are = steps_none w₀ ∙ sym (before_zero L);
  }

  module _ (work : List ℤ) (k kept : ℕ) (p : Writing n L w₀ work k kept) where
    pub writing_more : k < 2 * line_count L → (work' : List ℤ) (r : ℕ) → Put n (step_numbered_lem L k) kept work work' r → Writing n L w₀ work' (k + 1) r
    writing_more h work' r q = go (step_numbered_lem L k) refl q
      where
        go : (s : Option Step) → step_numbered_lem L k ≡ s → Put n s kept work work' r → Writing n L w₀ work' (k + 1) r
        go None e (f, g) = record {
          at_most = omega (arith, h);
          no_more = omega (arith, p.no_more, g);
          scratch = rw f p.scratch;
          ok = rw (f, g) p.ok;
          are = rw (f, g) (p.are ∙ sym (append-nil (steps_before L k)) ∙ sym (before_more L k ∙ ap (λ (x : Option Step). steps_before L k ++ named x) e));
        }
        go (Some s) e (z, o, u, f, g) = record {
          at_most = omega (arith, h);
          no_more = omega (arith, p.no_more, g);
          scratch = rw f (scratch_trans p.scratch (scratch_set 0 (2 * line_count L) work kept z (omega arith) (omega (arith, p.no_more, h))));
          ok = rw (f, g) (λ i l. each i l (dec_lt i kept));
          are = rw (f, g) (steps_more kept work z in_room ∙ ap (λ (F : List Step). F ++ unpacked (nat_abs z) ∷ []) p.are
              ∙ ap (λ (t : Step). steps_before L k ++ t ∷ []) u ∙ sym (before_more L k ∙ ap (λ (x : Option Step). steps_before L k ++ named x) e));
        }
          where
            in_room : kept < length work
            in_room = omega (arith, p.no_more, h, room, p.scratch.same_length)

            each : (i : ℕ) → i < kept + 1 → Dec (i < kept) → StepOk (2 * n) (number (set work kept z) i)
            each i l (yes a) = rw (stored_same kept work z in_room i a) (p.ok i a)
            each i l (no a) = let same : i ≡ kept = omega arith in rw (same, stored_last kept work z in_room) o

    pub writing_end : k ≡ 2 * line_count L → Written n L w₀ work kept
    writing_end e = record {
      no_more = omega (arith, p.no_more, e);
      scratch = p.scratch;
      ok = p.ok;
      are = p.are ∙ ap (steps_before L) e ∙ before_all L;
    }
