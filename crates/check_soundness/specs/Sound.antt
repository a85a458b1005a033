-- Nothing is accepted against a list that has a solution, and whatever is accepted against a list is accepted against each longer one.
use Rattle.std.specs.Prelude.{◌≡◌, true, List, [], ◌∷◌, ◌++◌, ℕ, ◌%◌, ℤ, pos, neg_ℤ, ◌+ℤ◌, ◌-ℤ◌, length, drop}
use Rattle.std.proofs.Common.{ap, subst, ◌∙◌, arith}
use Rattle.integers.specs.Integer.{◌⩽◌, ◌⋖◌, half}
use Rattle.integers.proofs.Linear.{ints}
use Rattle.lines.specs.Limits.{line_size}
use Rattle.lines.specs.Line.{Assignment, Solves, lines_of, is_false_lem}
use Rattle.lines.specs.Valid.{LinesOk}
use Rattle.lines.specs.LineNumbers.{count_append, line_left}
use Rattle.steps.specs.declared.Step.{Step}
use Rattle.steps.specs.Point.{value, value_opposite}
use Rattle.steps.specs.Step.{Holds}
use Rattle.steps.specs.Laws.{numbered_longer}
use Rattle.steps.proofs.Meaning.{numbered_holds, no_false_line}
use Rattle.steps.specs.Walk.{Names, AllSay, total, walk_says}
use Rattle.check_refutation.specs.Progress.{head_size, accepts}
use Rattle.check_soundness.specs.Refutes.{Walk, FalseStep, Refutes, kind_1, kind_2, kind_3}
use Rattle.check_soundness.specs.Carried.{each_always, refutes_carried}
use Rattle.check_soundness.specs.Meaning.{accepts_exactly}

-- ---- against a solution
module _ (n : ℕ) (L : List ℤ) (ok : LinesOk n L) (s : Assignment) (solves : Solves (lines_of L) s) where
  all_say : (ks : List ℕ) (ts : List Step) → Names L ks ts → AllSay s ts
  all_say [] [] h = tt
  all_say [] (t ∷ ts) h = absurd h
  all_say (k ∷ ks) [] h = absurd h
  all_say (k ∷ ks) (t ∷ ts) h = (subst (Holds s) h.0 (numbered_holds n L ok s solves k), all_say ks ts h.1)

  -- a walk's sum bounds the difference of its ends
  walk_bounds : (u v : ℕ) (ks : List ℕ) (w : Walk L u ks v) → value s u -ℤ value s v ⩽ total w.steps
  walk_bounds u v ks w = walk_says s u w.steps v (all_say ks w.steps w.named) w.path

  pub solved_not_refuted : (R : List ℕ) → Refutes L R → ⊥
  solved_not_refuted R (kind_1 c) = clash (value s c.point) (total c.walk.steps) (walk_bounds _ _ _ c.walk) c.low
    where
      clash : (x w : ℤ) → x -ℤ x ⩽ w → w ⋖ pos 0 → ⊥
      clash x w = simp ints (omega arith)
  solved_not_refuted R (kind_2 c) =
      let e = value_opposite s c.point in
      clash (value s c.point) (total c.there.steps) (total c.back.steps) (rw e at (walk_bounds _ _ _ c.there)) (rw e at (walk_bounds _ _ _ c.back)) c.low
    where
      clash : (x v w : ℤ) → x -ℤ neg_ℤ x ⩽ v → neg_ℤ x -ℤ x ⩽ w → half v +ℤ half w ⋖ pos 0 → ⊥
      clash x v w = simp ints (omega arith)
  solved_not_refuted R (kind_3 c) = let w = c.false_step in no_false_line n L ok s solves w.line w.within w.false_line

  pub accepts_nothing_solved : (R : List ℕ) → accepts L R ≡ true → ⊥
  accepts_nothing_solved R e = solved_not_refuted R ((accepts_exactly L R).0 e)

-- ---- against a longer list
module _ (L M : List ℤ) (whole : length L % line_size ≡ 0) where
  false_longer : (r : ℕ) → FalseStep L r → FalseStep (L ++ M) r
  false_longer r w =
      record {
        line = w.line;
        is = w.is;
        within = omega (arith, count_append L M whole, w.within);
        false_line = ap is_false_lem (line_left L M whole w.line w.within) ∙ w.false_line;
      }

  refutes_longer : (R : List ℕ) → Refutes L R → Refutes (L ++ M) R
  refutes_longer R =
      refutes_carried L (L ++ M) (λ k. Unit {0}) (λ k t p e. numbered_longer L M k t whole e) (λ k p w. false_longer k w) R (each_always (λ k. tt) (drop head_size R))

  pub accepts_longer : (R : List ℕ) → accepts L R ≡ true → accepts (L ++ M) R ≡ true
  accepts_longer R e = (accepts_exactly (L ++ M) R).1 (refutes_longer R ((accepts_exactly L R).0 e))
