-- What the questions answer where the table is that of a list: the pair and the line of request Eight, with no search.
use Rattle.steps.specs.declared.Step.{Step}
use Rattle.std.specs.Prelude.{◌≡◌, ◌↔◌, Bool, true, not, cond, ◌&&◌, List, ℕ, ◌*◌, ◌<◌, ℤ, ◌+ℤ◌, ◌-ℤ◌, None, Ok, Option, Some}
use Rattle.std.proofs.Math.Path.{refl}
use Rattle.std.proofs.Common.{sym, ap, ap₂, ◌∙◌, arith}
use Rattle.std.proofs.Math.Bool.{false}
use Rattle.std.proofs.Math.IntN.{pos}
use Rattle.std.specs.Int.Signed.{le_z, lt_z}
use Rattle.integers.specs.Integer.{◌⩽◌}
use Rattle.integers.proofs.Linear.{ints}
use Rattle.integers.specs.Laws.{never, and_true, both_true}
use Rattle.lines.specs.declared.Line.{Line}
use Rattle.lines.specs.Limits.{max_constant}
use Rattle.lines.specs.Line.{line_count, lines_of, Assignment, Solves, Solvable, Implies, is_zero, is_false_lem}
use Rattle.lines.specs.Refusal.{line_validity_lem, validity_of}
use Rattle.lines.specs.Valid.{LineWorks, AllOk, line_ok, line_works, workable}
use Rattle.steps.specs.Point.{value}
use Rattle.steps.specs.Step.{step_of, steps_of, Holds}
use Rattle.steps.proofs.Mirror.{line_step_known}
use Rattle.steps.proofs.Meaning.{meets_holds, line_steps, false_line}
use Rattle.theory_walks.specs.Distance.{Distance, none, some}
use Rattle.theory_bounds.specs.Tight.{Table, tight}
use Rattle.theory_bounds.specs.Table.{greatest_difference, no_greatest_difference}
use Rattle.theory_bounds.specs.Agree.{Agree, tight_same}
use Rattle.theory_bounds.specs.Verdict.{distances, verdict_of}
use Rattle.theory_answers.specs.Solved.{to_table}
use Rattle.theory_answers.specs.Meaning.{closed, table_solves}
use Rattle.theory_answers.specs.Decided.{lines_ok, yes_solvable}
use Rattle.implied_pair.specs.Pair as pairs
use Rattle.implied_pair.specs.Pair.{pair_in_lem}
use Rattle.implied_pair.specs.Reading.{pair_same}
use Rattle.implied_pair.specs.Meaning.{IsPair, computed_pair}
use Rattle.implied_line.specs.declared.LineAnswer.TheVariants.{Implied, NotImplied}
use Rattle.opposite_line.specs.Opposite.{opposed}
use Rattle.implied_line.specs.Answer.{judged_by, judged}
use Rattle.implied_line.specs.Meaning.{implied_exactly}
use Rattle.theory_inserting.specs.Two.{EndsBelow}
use Rattle.session_step.specs.Read.{small_table, small_agree}
use Rattle.session_step.specs.Done.{at_most}
use Rattle.session_step.specs.Meaning.{TableFor, agree, short_table}
use Rattle.session_questions.specs.Asked.{named_implied, line_implied}

ends_of : (n : ℕ) (l : Line) → LineWorks n l → (side : ℕ) → side < 2 → EndsBelow (2 * n) (step_of l side)
ends_of n l ok side h = go (step_of l side) refl
  where
    go : (x : Option Step) → step_of l side ≡ x → EndsBelow (2 * n) x
    go (Some t) e = let k = line_step_known n l side t ok h e in (k.from_lt, k.to_lt)
    go None e = tt

-- ---- over the distances of a list that has a solution
module _ (n : ℕ) (ls : List Line) (all : AllOk n ls) (yes_verdict : verdict_of n ls ≡ true) where
  abbrev D : Table
  D = distances n ls

  leads : (v d w : ℤ) → v ⩽ d → le_z d w ≡ true → v ⩽ w
  leads v d w = simp ints (omega arith)

  meets : (v d w : ℤ) → v ≡ d → v ⩽ w → le_z d w ≡ true
  meets v d w = simp ints (omega arith)

  passes : (v w : ℤ) → w +ℤ pos 1 ⩽ v → v ⩽ w → ⊥
  passes v w = simp ints (omega arith)

  -- a step is implied exactly if it holds in every solution
  named_holds : (x : Option Step) → EndsBelow (2 * n) x → named_implied D x ≡ true → (s : Assignment) → Solves ls s → Holds s x
  named_holds None b e s h = tt
  named_holds (Some t) b e s h = go (tight D t.from t.to) refl e
    where
      go : (d : Distance) → tight D t.from t.to ≡ d → at_most d t.weight ≡ true → value s t.from -ℤ value s t.to ⩽ t.weight
      go none q f = never (cc)
      go (some d) q f =
          leads _ d t.weight ((greatest_difference n D (closed n ls all yes_verdict) t.from t.to b.0 b.1 d q).0 s (to_table n ls all s h)) f

  holds_named : (x : Option Step) → EndsBelow (2 * n) x → ((s : Assignment) → Solves ls s → Holds s x) → named_implied D x ≡ true
  holds_named None b f = refl
  holds_named (Some t) b f = go (tight D t.from t.to) refl
    where
      go : (d : Distance) → tight D t.from t.to ≡ d → at_most d t.weight ≡ true
      go none q =
          let g = no_greatest_difference n D (closed n ls all yes_verdict) t.from t.to b.0 b.1 q (t.weight +ℤ pos 1) in
          absurd (passes _ t.weight g.2 (f g.0 (table_solves n ls all yes_verdict g.0 g.1)))
      go (some d) q =
          let g = (greatest_difference n D (closed n ls all yes_verdict) t.from t.to b.0 b.1 d q).1 in
          meets _ d t.weight g.2 (f g.0 (table_solves n ls all yes_verdict g.0 g.1))

  module _ (l : Line) (works : LineWorks n l) where
    -- a zero, zero line that is not false has a d of at least 0
    right : is_false_lem l ≡ false → is_zero l ≡ true → pos 0 ⩽ l.d
    unfolding is_false_lem
    right e z = go (lt_z l.d (pos 0)) refl
      where
        low : (d : ℤ) → lt_z d (pos 0) ≡ false → pos 0 ⩽ d
        low d = simp ints (omega arith)

        go : (b : Bool) → lt_z l.d (pos 0) ≡ b → pos 0 ⩽ l.d
        go true q = let c : true ≡ false = sym (both_true _ _ z q) ∙ e in never (cc)
        go false q = low l.d q

    not_true : (b : Bool) → not b ≡ true → b ≡ false
    not_true true e = never (cc)
    not_true false e = refl

    yes_implies : line_implied D l ≡ true → Implies ls l
    yes_implies e s h =
        let a = and_true (not (is_false_lem l)) (named_implied D (step_of l 0) && named_implied D (step_of l 1)) e in
        let b = and_true (named_implied D (step_of l 0)) (named_implied D (step_of l 1)) a.1 in
        (line_steps s n l works).1
        (record {
          side_0 = named_holds (step_of l 0) (ends_of n l works 0 (omega arith)) b.0 s h;
          side_1 = named_holds (step_of l 1) (ends_of n l works 1 (omega arith)) b.1 s h;
          zero_zero = right (not_true (is_false_lem l) a.0);
        })

    implies_yes : (s : Assignment) → Solves ls s → Implies ls l → line_implied D l ≡ true
    implies_yes s h i =
        both_true (not (is_false_lem l)) (named_implied D (step_of l 0) && named_implied D (step_of l 1)) (go (is_false_lem l) refl)
        (both_true (named_implied D (step_of l 0)) (named_implied D (step_of l 1))
        (holds_named (step_of l 0) (ends_of n l works 0 (omega arith)) (λ t k. meets_holds t l n works 0 (omega arith) (i t k)))
        (holds_named (step_of l 1) (ends_of n l works 1 (omega arith)) (λ t k. meets_holds t l n works 1 (omega arith) (i t k))))
      where
        go : (b : Bool) → is_false_lem l ≡ b → not b ≡ true
        go true e = absurd (false_line s n l works e (i s h))
        go false e = refl

-- ---- what is read off a table with the distances of a list
module _ (n : ℕ) (L t : List ℤ) (a : TableFor n (steps_of (lines_of L)) t) where
  read_agree : Agree (2 * n) (small_table (2 * n) t) (distances n (lines_of L))
  read_agree u v hu hv =
      small_agree n t (short_table n (steps_of (lines_of L)) t a) u v hu hv ∙ agree n (steps_of (lines_of L)) t a u v hu hv

  named_same : (x : Option Step) → EndsBelow (2 * n) x → named_implied (small_table (2 * n) t) x ≡ named_implied (distances n (lines_of L)) x
  named_same None e = refl
  named_same (Some s) e = ap (λ (d : Distance). at_most d s.weight) (tight_same n (small_table (2 * n) t) (distances n (lines_of L)) read_agree s.from s.to e.0 e.1)

  line_same : (l : Line) → LineWorks n l → line_implied (small_table (2 * n) t) l ≡ line_implied (distances n (lines_of L)) l
  line_same l works =
      ap₂ (λ (p q : Bool). not (is_false_lem l) && (p && q)) (named_same (step_of l 0) (ends_of n l works 0 (omega arith))) (named_same (step_of l 1) (ends_of n l works 1 (omega arith)))

  -- the pair
  pub pair_is : (x y : ℕ) → x < n → y < n → pair_in_lem (small_table (2 * n) t) x y ≡ pair_in_lem (distances n (lines_of L)) x y
  pair_is x y hx hy = pair_same n (small_table (2 * n) t) (distances n (lines_of L)) read_agree x y hx hy

  -- of a valid list that has a solution, and a valid line
  module _ (valid : validity_of n L ≡ Ok tt) (yes_verdict : verdict_of n (lines_of L) ≡ true) where
    all : AllOk n (lines_of L)
    all = lines_ok n L (workable n L valid)

    -- the pair asked is that of the search, and so the greatest values of its sums over all solutions
    pub pair_is_judged : (x y : ℕ) → x < n → y < n
        → Some (pair_in_lem (small_table (2 * n) t) x y) ≡ pairs.judged (verdict_of n (lines_of L)) (pair_in_lem (distances n (lines_of L)) x y)
    pair_is_judged x y hx hy = ap₂ pairs.judged (sym yes_verdict) (pair_is x y hx hy)

    pub asked_pair : (x y : ℕ) → x < n → y < n → IsPair (lines_of L) x y (pair_in_lem (small_table (2 * n) t) x y)
    asked_pair x y hx hy = rw (pair_is x y hx hy) (computed_pair n L valid yes_verdict x y hx hy)

    module _ (l : Line) (line_valid : line_validity_lem n (line_count L) l ≡ Ok tt) where
      works : LineWorks n l
      works = line_works max_constant n l (omega arith) (line_ok n (line_count L) l line_valid)

      -- the line asked is implied exactly if every solution meets it
      pub asked_exactly : (line_implied (small_table (2 * n) t) l ≡ true) ↔ Implies (lines_of L) l
      asked_exactly =
          let s = yes_solvable n L (workable n L valid) yes_verdict in (
            (λ e. yes_implies n (lines_of L) all yes_verdict l works (sym (line_same l works) ∙ e)),
            (λ i. line_same l works ∙ implies_yes n (lines_of L) all yes_verdict l works s.assignment s.solves i),
          )

      -- and the answer is that of the search
      pub asked_is_judged : cond (line_implied (small_table (2 * n) t) l) Implied NotImplied ≡ judged n L l
      asked_is_judged = go (line_implied (small_table (2 * n) t) l) refl
        where
          solvable : Solvable (lines_of L)
          solvable = yes_solvable n L (workable n L valid) yes_verdict

          other : (b : Bool) → line_implied (small_table (2 * n) t) l ≡ false → verdict_of n (lines_of (opposed L l)) ≡ b → NotImplied ≡ judged_by true b
          other true e q = refl
          other false e q =
              let i = (implied_exactly n L l valid line_valid).0 (ap₂ judged_by yes_verdict q) in
              let c : true ≡ false = sym (asked_exactly.1 i.1) ∙ e in
              never (cc)

          go : (b : Bool) → line_implied (small_table (2 * n) t) l ≡ b → cond b Implied NotImplied ≡ judged n L l
          go true e = sym ((implied_exactly n L l valid line_valid).1 (solvable, asked_exactly.0 e))
          go false e = other (verdict_of n (lines_of (opposed L l))) e refl ∙ ap (λ (b : Bool). judged_by b (verdict_of n (lines_of (opposed L l)))) (sym yes_verdict)
