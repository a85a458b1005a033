-- What the answers on a line mean, without any algorithm: every solution of the list meets the line, some solution does not, or there is none; and what a no
-- writes is a solution of the list that does not meet the line.
use Rattle.std.specs.Prelude.{◌≡◌, refl, ◌↔◌, Bool, true, false, List, ℕ, ℤ, pos, length, Ok}
use Rattle.std.proofs.Math.Path.{sym}
use Rattle.std.proofs.Common.{◌∙◌, arith}
use Rattle.std.proofs.Math.Seq.{ext_get_or}
use Rattle.integers.specs.Laws.{never}
use Rattle.integers.specs.Sequence.{length_tabulate}
use Rattle.lines.specs.declared.Line.{Line}
use Rattle.lines.specs.Line.{line_count, lines_of, Assignment, assignment_of, Meets, Solves, Solvable, Entails, Implies, Breaks}
use Rattle.lines.specs.Refusal.{line_validity_lem, validity_of}
use Rattle.lines.specs.Solutions.{meets_stable}
use Rattle.lines.specs.Valid.{Workable, workable}
use Rattle.check_soundness.specs.Refutes.{Refutes}
use Rattle.theory_bounds.specs.Verdict.{verdict_of}
use Rattle.theory_bounds.specs.Answers.{model_of}
use Rattle.theory_answers.specs.Semantics.{IsModel}
use Rattle.theory_answers.specs.Meaning.{model_is_model, only_model}
use Rattle.theory_answers.specs.Refuted.{Due, due_refutation}
use Rattle.theory_answers.specs.Decided.{lines_ok, yes_solvable, no_unsolvable, solvable_yes, unsolvable_no, refuted_no}
use Rattle.implied_line.specs.declared.LineAnswer.TheVariants.{Implied, NotImplied, Unsolvable}
use Rattle.opposite_line.specs.Opposite.{opposed, opposed_works, solves_opposed}
use Rattle.implied_line.specs.Answer.{judged_by, judged}

-- m is the model of the list with the opposite line behind it: of the solutions that do not meet the line, the one whose values are nearest zero
pub record BreakingModel (n : ℕ) (L : List ℤ) (l : Line) (m : List ℤ) : Type 0 where
  pub model_length : length m ≡ n
  pub model_is : IsModel n (lines_of (opposed L l)) (assignment_of m)
  pub solves : Solves (lines_of L) (assignment_of m)
  pub breaks : Meets (assignment_of m) l → ⊥

-- what is implied stays so where every solution is one of the list before
pub implies_more : (ls ms : List Line) (l : Line) → Entails ms ls → Implies ls l → Implies ms l
implies_more ls ms l entails i s h = i s (entails s h)

pub breaks_before : (ls ms : List Line) (l : Line) → Entails ms ls → Breaks ms l → Breaks ls l
breaks_before ls ms l entails b = record { assignment = b.assignment; solves = entails b.assignment b.solves; breaks = b.breaks }

-- ---- of a valid list and a valid line
module _ (n : ℕ) (L : List ℤ) (l : Line) (valid : validity_of n L ≡ Ok tt) (line_valid : line_validity_lem n (line_count L) l ≡ Ok tt) where
  list_works : Workable n L
  list_works = workable n L valid

  works : Workable n (opposed L l)
  works = opposed_works n (line_count L) L l valid line_valid

  opposed_exactly : (s : Assignment) → Solves (lines_of (opposed L l)) s ↔ (Solves (lines_of L) s × (Meets s l → ⊥))
  opposed_exactly = solves_opposed L l list_works.whole

  -- the list with the opposite line has no solution exactly if the line is implied
  no_implies : verdict_of n (lines_of (opposed L l)) ≡ false → Implies (lines_of L) l
  no_implies e s h = meets_stable s l (λ f. no_unsolvable n (opposed L l) works e (record { assignment = s; solves = (opposed_exactly s).1 (h, f) }))

  implies_no : Implies (lines_of L) l → verdict_of n (lines_of (opposed L l)) ≡ false
  implies_no i = unsolvable_no n (opposed L l) works (λ s. let p = (opposed_exactly s.assignment).0 s.solves in p.1 (i s.assignment p.0))

  -- and a solution exactly if a solution of the list breaks the line
  yes_breaks : verdict_of n (lines_of (opposed L l)) ≡ true → Breaks (lines_of L) l
  yes_breaks e =
      let s = yes_solvable n (opposed L l) works e in
      let p = (opposed_exactly s.assignment).0 s.solves in
      record { assignment = s.assignment; solves = p.0; breaks = p.1 }

  breaks_yes : Breaks (lines_of L) l → verdict_of n (lines_of (opposed L l)) ≡ true
  breaks_yes b = solvable_yes n (opposed L l) works (record { assignment = b.assignment; solves = (opposed_exactly b.assignment).1 (b.solves, b.breaks) })

  breaks_solvable : Breaks (lines_of L) l → Solvable (lines_of L)
  breaks_solvable b = record { assignment = b.assignment; solves = b.solves }

  -- ---- the three answers
  pub implied_exactly : (judged n L l ≡ Implied) ↔ (Solvable (lines_of L) × Implies (lines_of L) l)
  implied_exactly = (
    (λ e. let p = go (verdict_of n (lines_of L)) (verdict_of n (lines_of (opposed L l))) e in (yes_solvable n L list_works p.0, no_implies p.1)),
    (λ h. rw (solvable_yes n L list_works h.0, implies_no h.1)),
  )
    where
      go : (a b : Bool) → judged_by a b ≡ Implied → (a ≡ true) × (b ≡ false)
      go false b e = never (cc)
      go true false e = (refl, refl)
      go true true e = never (cc)

  pub not_implied_exactly : (judged n L l ≡ NotImplied) ↔ Breaks (lines_of L) l
  not_implied_exactly = ((λ e. yes_breaks (not_implied_yes e)), (λ b. rw (solvable_yes n L list_works (breaks_solvable b), breaks_yes b)))
    where
      go : (a b : Bool) → judged_by a b ≡ NotImplied → b ≡ true
      go false b e = never (cc)
      go true false e = never (cc)
      go true true e = refl

      not_implied_yes : judged n L l ≡ NotImplied → verdict_of n (lines_of (opposed L l)) ≡ true
      not_implied_yes e = go (verdict_of n (lines_of L)) (verdict_of n (lines_of (opposed L l))) e

  pub unsolvable_exactly : (judged n L l ≡ Unsolvable) ↔ (Solvable (lines_of L) → ⊥)
  unsolvable_exactly = ((λ e. no_unsolvable n L list_works (go (verdict_of n (lines_of L)) (verdict_of n (lines_of (opposed L l))) e)), (λ f. rw (unsolvable_no n L list_works f)))
    where
      go : (a b : Bool) → judged_by a b ≡ Unsolvable → a ≡ false
      go false b e = refl
      go true false e = never (cc)
      go true true e = never (cc)

  -- ---- what a no writes
  pub breaking_model : judged n L l ≡ NotImplied → BreakingModel n L l (model_of n (lines_of (opposed L l)))
  unfolding model_of
  breaking_model e =
      let m = model_is_model n (lines_of (opposed L l)) (lines_ok n (opposed L l) works) (breaks_yes (not_implied_exactly.0 e)) in
      let p = (opposed_exactly (assignment_of (model_of n (lines_of (opposed L l))))).0 m.solves in
      record { model_length = length_tabulate n _; model_is = m; solves = p.0; breaks = p.1 }

  -- nothing else has its meaning
  pub one_breaking_model : (m : List ℤ) → BreakingModel n L l m → m ≡ model_of n (lines_of (opposed L l))
  unfolding model_of
  one_breaking_model m b =
      let yes_verdict = breaks_yes (record { assignment = assignment_of m; solves = b.solves; breaks = b.breaks }) in
      let one = only_model n (lines_of (opposed L l)) (lines_ok n (opposed L l) works) yes_verdict (assignment_of m) b.model_is in
      ext_get_or (pos 0) m (model_of n (lines_of (opposed L l))) (b.model_length ∙ sym (length_tabulate n _)) (λ x h. one x (omega (arith, b.model_length)))

  -- ---- a yes can be shown: the checker's rule holds of some refutation of the list with the opposite line, and of one with few steps
  pub implied_shown : Implies (lines_of L) l → (R : List ℕ) × Due n (opposed L l) R
  implied_shown i = due_refutation n (opposed L l) (implies_no i)

  pub shown_implied : (R : List ℕ) → Refutes (opposed L l) R → Implies (lines_of L) l
  shown_implied R r = no_implies (refuted_no n (opposed L l) works R r)
