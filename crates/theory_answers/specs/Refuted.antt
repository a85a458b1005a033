-- Where the verdict is no there is a refutation of the due kind with at most 4n steps, or that of the lowest false line.
use Rattle.std.specs.Prelude.{◌≡◌, Bool, not, ◌&&◌, ℕ, ◌*◌, ◌<◌, ◌≤◌, ℤ, length}
use Rattle.std.proofs.Math.Path.{refl, sym}
use Rattle.std.proofs.Common.{ap, ◌∙◌, length-append}
use Rattle.std.proofs.Math.Bool.{true, false}
use mathlib.Core.List.{List, [], ◌∷◌, ◌++◌}
use native.Mathlib.Omega.{arith}
use Rattle.integers.specs.Laws.{never}
use Rattle.lines.specs.declared.Line.{Line}
use Rattle.lines.specs.Line.{lines_of, is_false_lem}
use Rattle.steps.specs.declared.Step.{Step}
use Rattle.steps.specs.Point.{opposite}
use Rattle.steps.specs.Step.{steps_of}
use Rattle.steps.specs.Walk.{Path}
use Rattle.decide_buffers.specs.Room.{refutation_room_lem}
use Rattle.theory_walks.specs.Least.{best_attained}
use Rattle.theory_walks.specs.Negative.{no_negative, negative_point, negative_walk}
use Rattle.check_soundness.specs.Head.{kind_of, steps_in}
use Rattle.check_soundness.specs.Refutes.{Closed, Falsehood, Refutes, kind_1, kind_2, kind_3}
use Rattle.theory_walks.specs.Graph.{at_line, numbered}
use Rattle.theory_bounds.specs.Verdict.{has_false, first_false_lem, lowest_false, consistent_halves, verdict_of, due_kind}
use Rattle.theory_bounds.proofs.BadHalves.{bad_halves}

-- a refutation of the due kind: that of the lowest false line, or one with at most 4n steps
pub record Due (n : ℕ) (L : List ℤ) (R : List ℕ) : Type 0 where
  pub refutes : Refutes L R
  pub kind : kind_of R ≡ due_kind n (lines_of L)
  pub lowest : due_kind n (lines_of L) ≡ 3 → R ≡ 3 ∷ 1 ∷ 0 ∷ 2 * first_false_lem 0 (lines_of L) ∷ []
  pub few : (due_kind n (lines_of L) ≡ 3 → ⊥) → steps_in R ≤ 4 * n
  pub size : length R ≤ refutation_room_lem n

pub kind_false : (n : ℕ) (ls : List Line) → has_false ls ≡ true → due_kind n ls ≡ 3
unfolding due_kind
kind_false n ls e = rw e

pub kind_negative : (n : ℕ) (ls : List Line) → has_false ls ≡ false → no_negative (steps_of ls) (2 * n) ≡ false → due_kind n ls ≡ 1
unfolding due_kind
kind_negative n ls e f = rw (e, f)

pub kind_halves : (n : ℕ) (ls : List Line) → has_false ls ≡ false → no_negative (steps_of ls) (2 * n) ≡ true → due_kind n ls ≡ 2
unfolding due_kind
kind_halves n ls e f = rw (e, f)

module _ (n : ℕ) (L : List ℤ) where
  abbrev ls : List Line
  ls = lines_of L

  -- a false line, the lowest
  pub falsehood : has_false ls ≡ true → Falsehood L (3 ∷ 1 ∷ 0 ∷ 2 * first_false_lem 0 ls ∷ [])
  falsehood e =
      let f = lowest_false ls e in
      let a = at_line L (first_false_lem 0 ls) f.line f.at in
      record {
        number = 2 * first_false_lem 0 ls;
        is = refl;
        false_step = record { line = first_false_lem 0 ls; is = refl; within = a.0; false_line = ap is_false_lem a.1 ∙ f.false_line };
      }

  pub due_false : (e : has_false ls ≡ true) → Due n L (3 ∷ 1 ∷ 0 ∷ 2 * first_false_lem 0 ls ∷ [])
  due_false e =
      record {
        refutes = kind_3 (falsehood e);
        kind = sym (kind_false n ls e);
        lowest = λ _. refl;
        few = λ z. absurd (z (kind_false n ls e));
        size = omega arith;
      }

  -- a closed walk of negative sum, with at most 2n steps
  pub closed_walk : no_negative (steps_of ls) (2 * n) ≡ false → (R : List ℕ) × Closed L R
  closed_walk f =
      let w = negative_walk (steps_of ls) (2 * n) (negative_point (steps_of ls) (2 * n) f) in
      let m = numbered L w.steps w.walk.steps in (
        1 ∷ length m.numbers ∷ 0 ∷ m.numbers,
        record {
          numbers = m.numbers;
          point = w.point;
          is = refl;
          walk = record { steps = w.steps; some = omega (arith, m.count, w.nonempty); named = m.names; path = w.walk.path };
          low = w.negative;
        },
      )

  due_negative : has_false ls ≡ false → (f : no_negative (steps_of ls) (2 * n) ≡ false) → Due n L (closed_walk f).0
  unfolding closed_walk
  due_negative e f =
      let w = negative_walk (steps_of ls) (2 * n) (negative_point (steps_of ls) (2 * n) f) in
      let m = numbered L w.steps w.walk.steps in
      let d = kind_negative n ls e f in
      record {
        refutes = kind_1 (closed_walk f).1;
        kind = sym d;
        few = λ _. omega (arith, m.count, w.few);
        lowest = λ z. absurd (omega arith);
        size = omega (arith, m.count, w.few);
      }

  -- a point is not its own opposite, so that a walk between them has steps
  some_step : (u : ℕ) (ts : List Step) → Path u ts (opposite u) → 0 < length ts
  unfolding opposite
  some_step u [] p = absurd (omega (arith, p))
  some_step u (t ∷ ts) p = omega arith

  some_back : (u : ℕ) (ts : List Step) → Path (opposite u) ts u → 0 < length ts
  unfolding opposite
  some_back u [] p = absurd (omega (arith, p))
  some_back u (t ∷ ts) p = omega arith

  due_halves : has_false ls ≡ false → no_negative (steps_of ls) (2 * n) ≡ true → consistent_halves n ls ≡ false → (R : List ℕ) × Due n L R
  due_halves e f g =
      let b = bad_halves n ls g in
      let E = steps_of ls in
      let u = b.point in
      let v = best_attained E (2 * n) u (opposite u) b.there b.there_is in
      let w = best_attained E (2 * n) (opposite u) u b.back b.back_is in
      let p = numbered L v.steps v.walk.steps in
      let q = numbered L w.steps w.walk.steps in
      let d = kind_halves n ls e f in (
        2 ∷ length p.numbers ∷ length q.numbers ∷ (p.numbers ++ q.numbers),
        record {
          refutes = kind_2
              (record {
                numbers = p.numbers;
                more = q.numbers;
                point = u;
                is = refl;
                there = record { steps = v.steps; some = omega (arith, p.count, some_step u v.steps v.walk.path); named = p.names; path = v.walk.path };
                back = record { steps = w.steps; some = omega (arith, q.count, some_back u w.steps w.walk.path); named = q.names; path = w.walk.path };
                low = rw (v.sum, w.sum) b.negative;
              });
          kind = sym d;
          few = λ _. omega (arith, p.count, q.count, v.count, w.count);
          lowest = λ z. absurd (omega arith);
          size = omega (arith, length-append p.numbers q.numbers, p.count, q.count, v.count, w.count);
        },
      )

  -- a no is shown
  pub due_refutation : verdict_of n ls ≡ false → (R : List ℕ) × Due n L R
  unfolding verdict_of
  due_refutation = go (has_false ls) refl (no_negative (steps_of ls) (2 * n)) refl (consistent_halves n ls) refl
    where
      go : (a : Bool) → has_false ls ≡ a → (b : Bool) → no_negative (steps_of ls) (2 * n) ≡ b → (c : Bool) → consistent_halves n ls ≡ c → (not a && (b && c)) ≡ false → (R : List ℕ) × Due n L R
      go true e b f c g z = (_, due_false e)
      go false e false f c g z = (_, due_negative e f)
      go false e true f false g z = due_halves e f g
      go false e true f true g z = never (cc)
