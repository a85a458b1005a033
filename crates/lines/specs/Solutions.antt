-- Solutions: the test of a line, and what it is to solve one list after another.
use Rattle.std.specs.Prelude.{◌≡◌, refl, ◌↔◌, Bool, true, false, List, [], ◌∷◌, ◌++◌, ℕ, zero, suc, ◌<◌, ℤ}
use Rattle.std.proofs.Common.{sym, ◌∙◌, le_of_suc-le-suc, not-suc-le-zero, arith}
use Rattle.std.proofs.lemmas.Bool.{false≢true}
use Rattle.std.specs.Int.Signed.{le_z}
use Rattle.integers.specs.Integer.{◌⩽◌}
use Rattle.integers.proofs.Linear.{ints}
use Rattle.integers.specs.Sequence.{tabulate}
use Rattle.lines.specs.declared.Line.{Line}
use Rattle.lines.specs.Line.{line_at, line_count, lines_of, Assignment, left_side_lem, Meets, meets, Solves}

-- the test says whether the line is met
pub meets_true : (s : Assignment) (l : Line) → (meets s l ≡ true) ↔ Meets s l
meets_true s l = (fore (left_side_lem s l) l.d, back (left_side_lem s l) l.d)
  where
    fore : (a d : ℤ) → le_z a d ≡ true → a ⩽ d
    fore a d = simp ints (omega arith)

    back : (a d : ℤ) → a ⩽ d → le_z a d ≡ true
    back a d = simp ints (omega arith)

-- so a line that can't be broken is met
pub meets_stable : (s : Assignment) (l : Line) → ((Meets s l → ⊥) → ⊥) → Meets s l
meets_stable s l f = go (meets s l) refl
  where
    go : (t : Bool) → meets s l ≡ t → Meets s l
    go true e = (meets_true s l).0 e
    go false e = absurd (f (λ m. false≢true (sym e ∙ (meets_true s l).1 m)))

pub solves_append : (ls ms : List Line) (s : Assignment) → Solves (ls ++ ms) s ↔ (Solves ls s × Solves ms s)
solves_append [] ms s = ((λ h. (tt, h)), (λ h. h.1))
solves_append (l ∷ ls) ms s =
    let r = solves_append ls ms s in
    ((λ h. ((h.0, (r.0 h.1).0), (r.0 h.1).1)), (λ h. (h.0.0, r.1 (h.0.1, h.1))))

-- lines by their numbers
pub solves_tabulate : (n : ℕ) (f : ℕ → Line) (s : Assignment) → Solves (tabulate n f) s → (k : ℕ) → k < n → Meets s (f k)
solves_tabulate zero f s h k l = absurd (not-suc-le-zero l)
solves_tabulate (suc n) f s h zero l = h.0
solves_tabulate (suc n) f s h (suc k) l = solves_tabulate n (λ i. f (suc i)) s h.1 k (le_of_suc-le-suc l)

pub tabulate_solves : (n : ℕ) (f : ℕ → Line) (s : Assignment) → ((k : ℕ) → k < n → Meets s (f k)) → Solves (tabulate n f) s
tabulate_solves zero f s h = tt
tabulate_solves (suc n) f s h = (h zero (omega arith), tabulate_solves n (λ k. f (suc k)) s (λ k l. h (suc k) (omega arith)))

-- a solution meets line number k
pub solves_at : (L : List ℤ) (s : Assignment) → Solves (lines_of L) s → (k : ℕ) → k < line_count L → Meets s (line_at L k)
solves_at L s h k l = solves_tabulate (line_count L) (line_at L) s h k l
