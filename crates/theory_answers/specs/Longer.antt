-- Demand 3 of the answers: what is learned of a list holds of each list whose every solution solves it, and so of each that begins with it.
use Rattle.std.specs.Prelude.{◌≡◌, ◌⊎◌, ◌↔◌, true, false, List, ◌++◌, ℕ, ◌+◌, ◌*◌, ◌%◌, ◌<◌, ℤ, pos, length, get_or}
use Rattle.std.proofs.Common.{sym, subst, ◌∙◌, inl, inr, arith, ext_get_or}
use Rattle.integers.specs.Integer.{◌⩽◌, ◌⋖◌}
use Rattle.integers.proofs.Linear.{ints}
use Rattle.lines.specs.declared.Line.{Line}
use Rattle.lines.specs.Limits.{line_size, absent_greatest}
use Rattle.lines.specs.Line.{lines_of, Assignment, assignment_of, Solves, Solvable, Entails}
use Rattle.lines.specs.Valid.{Workable}
use Rattle.lines.specs.LineNumbers.{lines_append}
use Rattle.lines.specs.Solutions.{solves_append}
use Rattle.theory_answers.specs.Semantics.{Form, value_of, IsGreatest, IsModel, Equal, Mirrored, AlwaysZero, SameVariable, SameSign, LeastWritten, GreatestWritten, Written}
use Rattle.theory_bounds.specs.Verdict.{verdict_of}
use Rattle.theory_answers.specs.Meaning.{only_model}
use Rattle.theory_answers.specs.Decided.{lines_ok, yes_solvable, no_unsolvable, solvable_yes, unsolvable_no}
use Rattle.theory_answers.specs.Unique.{no_both_greatest, no_both_least, written_yes}
use Rattle.theory_answers.specs.Groups.{shared_exactly, equal_exactly, mirrored_exactly}
use Rattle.theory_answers.specs.Absent.{least_above, greatest_below}

-- ---- a greatest value stays or falls: where it was absent it falls, since one that is there is below the absent number
pub greatest_falls : (ls ks : List Line) → Entails ks ls → (form : Form) (v v' : ℤ) → (IsGreatest ks form v' → v' ⋖ absent_greatest) → GreatestWritten ls form v → GreatestWritten ks form v' → v' ⩽ v
greatest_falls ls ks entails form v v' below = go
  where
    weaken : (v u : ℤ) → v ⋖ u → v ⩽ u
    weaken v u = simp ints (omega arith)

    go : GreatestWritten ls form v → GreatestWritten ks form v' → v' ⩽ v
    go (inl a) (inl b) = rw b.taken at (a.bounds b.taken_by (entails b.taken_by b.solves))
    go (inl a) (inr b) = absurd (no_both_greatest ls form v a (record { beyond = λ z. let t = b.0.beyond z in (t.0, entails t.0 t.1, t.2) }))
    go (inr a) (inl b) = rw a.1 (weaken v' _ (below b))
    go (inr a) (inr b) = rw (a.1, b.1) (simp ints (omega arith))

-- ---- two lists: every solution of K solves L
module _ (n : ℕ) (L K : List ℤ) (valid : Workable n L) (valid' : Workable n K) (entails : Entails (lines_of K) (lines_of L)) where
  abbrev ls : List Line
  ls = lines_of L

  abbrev ks : List Line
  ks = lines_of K

  solvable_too : Solvable ks → Solvable ls
  solvable_too s = record { assignment = s.assignment; solves = entails s.assignment s.solves }

  -- a no stays a no, and what is a yes was one before
  pub no_stays : verdict_of n ls ≡ false → verdict_of n ks ≡ false
  no_stays e = unsolvable_no n K valid' (λ s. no_unsolvable n L valid e (solvable_too s))

  pub yes_before : verdict_of n ks ≡ true → verdict_of n ls ≡ true
  yes_before e = solvable_yes n L valid (solvable_too (yes_solvable n K valid' e))

  -- ---- where both are a yes
  module _ (model bounds model' bounds' : List ℤ) (groups groups' : List ℕ) (w : Written n ls model bounds groups) (w' : Written n ks model' bounds' groups') where
    yes' : verdict_of n ks ≡ true
    yes' = written_yes n K valid' model' bounds' groups' w'

    weaken : (v u : ℤ) → v ⋖ u → v ⩽ u
    weaken v u = simp ints (omega arith)

    pub least_stays_or_rises : (x : ℕ) → x < n → get_or bounds (2 * x) (pos 0) ⩽ get_or bounds' (2 * x) (pos 0)
    least_stays_or_rises x h = go _ _ (w.least_is x h) (w'.least_is x h)
      where
        go : (v v' : ℤ) → LeastWritten ls x v → LeastWritten ks x v' → v ⩽ v'
        go v v' (inl a) (inl b) = rw b.taken at (a.bounds b.taken_by (entails b.taken_by b.solves))
        go v v' (inl a) (inr b) = absurd (no_both_least ls x v a (record { beyond = λ z. let t = b.0.beyond z in (t.0, entails t.0 t.1, t.2) }))
        go v v' (inr a) (inl b) = rw a.1 (weaken _ v' (least_above n K valid' yes' x h v' b))
        go v v' (inr a) (inr b) = rw (a.1, b.1) (simp ints (omega arith))

    pub greatest_stays_or_falls : (x : ℕ) → x < n → get_or bounds' (2 * x + 1) (pos 0) ⩽ get_or bounds (2 * x + 1) (pos 0)
    greatest_stays_or_falls x h = greatest_falls ls ks entails (value_of x) _ _ (λ i. greatest_below n K valid' yes' x h _ i) (w.greatest_is x h) (w'.greatest_is x h)

    -- who shares a group variable goes on sharing one, with the same relative sign
    module _ (x y : ℕ) (h : x < n) (k : y < n) (e : SameVariable groups x y) where
      pub groups_kept : SameVariable groups' x y
      groups_kept = (shared_exactly n ks model' bounds' groups' w' x y h k).1 (later ((shared_exactly n ls model bounds groups w x y h k).0 e))
        where
          later : Equal ls x y ⊎ Mirrored ls x y → Equal ks x y ⊎ Mirrored ks x y
          later (inl f) = inl (λ t s. f t (entails t s))
          later (inr f) = inr (λ t s. f t (entails t s))

      -- equal signs stay equal
      pub equal_kept : SameSign groups x y → SameSign groups' x y
      equal_kept d = ((equal_exactly n ks model' bounds' groups' w' x y h k).1 (λ t s. (equal_exactly n ls model bounds groups w x y h k).0 (e, d) t (entails t s))).1

      -- different ones stay different, unless both variables are always 0 now
      pub different_kept : (SameSign groups x y → ⊥) → (SameSign groups' x y → ⊥) ⊎ (AlwaysZero ks x × AlwaysZero ks y)
      different_kept d = go ((mirrored_exactly n ks model' bounds' groups' w' x y h k).1 (λ t s. (mirrored_exactly n ls model bounds groups w x y h k).0 (inl (e, d)) t (entails t s)))
        where
          go : (SameVariable groups' x y × (SameSign groups' x y → ⊥)) ⊎ (AlwaysZero ks x × AlwaysZero ks y)
              → (SameSign groups' x y → ⊥) ⊎ (AlwaysZero ks x × AlwaysZero ks y)
          go (inl f) = inl f.1
          go (inr z) = inr z

    -- the model is the same exactly if it solves K
    pub model_kept : (model' ≡ model) ↔ Solves ks (assignment_of model)
    model_kept = ((λ e. subst (λ (m : List ℤ). Solves ks (assignment_of m)) e w'.model_is.solves), back)
      where
        still : Solves ks (assignment_of model) → IsModel n ks (assignment_of model)
        still s = record { solves = s; nearest = λ k h t st a. w.model_is.nearest k h t (entails t st) a }

        back : Solves ks (assignment_of model) → model' ≡ model
        back s =
            let one = only_model n ks (lines_ok n K valid') yes' in
            ext_get_or (pos 0) model' model (w'.model_length ∙ sym w.model_length)
            (λ x h. let k : x < n = omega (arith, w'.model_length) in one (assignment_of model') w'.model_is x k ∙ sym (one (assignment_of model) (still s) x k))

-- ---- a list that begins with all lines of L
module _ (L M : List ℤ) (whole : length L % line_size ≡ 0) where
  pub solves_both : (s : Assignment) → Solves (lines_of (L ++ M)) s ↔ (Solves (lines_of L) s × Solves (lines_of M) s)
  solves_both s = subst (λ (ls : List Line). Solves ls s ↔ (Solves (lines_of L) s × Solves (lines_of M) s)) (sym (lines_append L M whole)) (solves_append (lines_of L) (lines_of M) s)

  pub longer_entails : Entails (lines_of (L ++ M)) (lines_of L)
  longer_entails s h = ((solves_both s).0 h).0
