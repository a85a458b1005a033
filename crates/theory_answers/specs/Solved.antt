-- Where the verdict is yes the lines have solutions, and they are those of the table of distances.
use Rattle.std.specs.Prelude.{◌≡◌, refl, Bool, true, false, not, List, [], ◌∷◌, ℕ, ◌*◌, ◌<◌, ℤ, pos, ◌+ℤ◌, ◌-ℤ◌}
use Rattle.std.proofs.Common.{sym, subst, ◌∙◌, arith}
use Rattle.std.proofs.Math.Path.{ap, ap₂}
use Rattle.integers.specs.Integer.{◌⩽◌}
use Rattle.integers.proofs.Linear.{ints}
use Rattle.integers.specs.Laws.{and_true}
use Rattle.integers.specs.Table.{below_at}
use Rattle.lines.specs.declared.Line.{Line}
use Rattle.lines.specs.Line.{Assignment, Solves}
use Rattle.lines.specs.Valid.{AllOk}
use Rattle.steps.specs.declared.Step.{Step}
use Rattle.steps.specs.Point.{opposite, value, opposite_twice}
use Rattle.steps.specs.Step.{steps_of, Says}
use Rattle.steps.specs.Walk.{AllSay, walk_says}
use Rattle.theory_walks.specs.Distance.{Distance, some, ◌⊑◌, ◌⊞◌, half_d, up_inv, up_of_le, up_at, le_some}
use Rattle.theory_walks.specs.Row.{In}
use Rattle.theory_walks.specs.Reach.{Steps, walk_one}
use Rattle.theory_walks.specs.Least.{NoneNegative, best_attained, best_short, best_self, best_triangle}
use Rattle.theory_walks.specs.Mirror.{best_mirror}
use Rattle.theory_walks.specs.Negative.{no_negative, no_negative_yes, is_not_below}
use Rattle.theory_bounds.specs.Tight.{Table, halves}
use Rattle.theory_bounds.specs.Table.{ClosedTable, Solution}
use Rattle.theory_walks.specs.Graph.{ends_points, steps_mirrored, solution_says, says_solution}
use Rattle.theory_bounds.specs.Verdict.{has_false, no_false, distances, halves_ok_lem, consistent_halves, verdict_of}

-- what a verdict of yes says
pub record Verdicts (n : ℕ) (ls : List Line) : Type 0 where
  pub clear : has_false ls ≡ false
  pub none_negative : NoneNegative (steps_of ls) (2 * n)
  pub consistent : consistent_halves n ls ≡ true

not_is : (t : Bool) → not t ≡ true → t ≡ false
not_is true e = sym e
not_is false e = refl

pub verdict_yes : (n : ℕ) (ls : List Line) → verdict_of n ls ≡ true → Verdicts n ls
unfolding verdict_of
verdict_yes n ls e =
    let a = and_true (not (has_false ls)) _ e in
    let b = and_true (no_negative (steps_of ls) (2 * n)) (consistent_halves n ls) a.1 in
    record { clear = not_is (has_false ls) a.0; none_negative = no_negative_yes (steps_of ls) (2 * n) b.0; consistent = b.1 }

module _ (n : ℕ) (ls : List Line) (ok : AllOk n ls) where
  abbrev E : List Step
  E = steps_of ls

  abbrev D : Table
  D = distances n ls

  all_say : (s : Assignment) → ((t : Step) → In t E → Says s t) → (ts : List Step) → Steps E ts → AllSay s ts
  all_say s h [] a = tt
  all_say s h (t ∷ ts) a = (h t a.0, all_say s h ts a.1)

  -- a solution of the lines keeps every distance
  pub to_table : (s : Assignment) → Solves ls s → Solution n D s
  to_table s h = record { holds = λ i j _ _ d e. bound i j d e }
    where
      bound : (i j : ℕ) (d : ℤ) → D i j ≡ some d → value s i -ℤ value s j ⩽ d
      bound i j d e =
          let r = best_attained E (2 * n) i j d e in
          subst (λ (z : ℤ). value s i -ℤ value s j ⩽ z) r.sum (walk_says s i r.steps j (all_say s (solution_says n ls ok s h) r.steps r.walk.steps) r.walk.path)

  -- and back, where no line is false
  pub of_table : has_false ls ≡ false → (s : Assignment) → Solution n D s → Solves ls s
  of_table clear s h = says_solution n ls ok s says (no_false ls clear)
    where
      add_zero : (v w d x : ℤ) → v -ℤ w ⩽ d → d ⩽ x +ℤ pos 0 → v -ℤ w ⩽ x
      add_zero v w d x = simp ints (omega arith)

      says : (t : Step) → In t E → Says s t
      says t i =
          let p = ends_points n ls ok t i in
          let b = best_short E (2 * n) (ends_points n ls ok) t.from t.to p.0 (t ∷ []) (walk_one t i) (omega (arith, p.0)) in
          let u = up_inv (up_of_le b _ (up_at _)) in
          add_zero (value s t.from) (value s t.to) u.0 t.weight (h.holds t.from t.to p.0 p.1 u.0 u.1) u.2

  -- the halves of a point and its opposite do not sum below 0
  not_low : Verdicts n ls → (i : ℕ) → i < 2 * n → (a b : ℤ) → halves D i ≡ some a → halves D (opposite i) ≡ some b → pos 0 ⩽ a +ℤ b
  unfolding halves consistent_halves
  not_low v i h a b p q =
      let back : half_d (D (opposite i) i) ≡ some b = ap (λ (j : ℕ). half_d (D (opposite i) j)) (sym (opposite_twice i)) ∙ q in
      let e : half_d (D i (opposite i)) ⊞ half_d (D (opposite i) i) ≡ some (a +ℤ b) = ap₂ (λ (x y : Distance). x ⊞ y) p back in
      le_some (subst (λ (x : Distance). some (pos 0) ⊑ x) e (is_not_below _ (below_at (2 * n) (halves_ok_lem D) v.consistent i h)))

  -- the table is closed
  pub closed_table : Verdicts n ls → ClosedTable n D
  closed_table v =
      record {
        diagonal = λ i h. best_self E (2 * n) (ends_points n ls ok) v.none_negative i h;
        triangle = λ i j k _ _ _. best_triangle E (2 * n) (ends_points n ls ok) v.none_negative i j k;
        mirrored = λ i j _ _. best_mirror E (2 * n) (ends_points n ls ok) (steps_mirrored n ls ok) (omega arith) i j;
        consistent = not_low v;
      }
