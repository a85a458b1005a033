-- The meaning fixes the answers: whatever is the model, the bounds and the groups of a list is what is computed.
use Rattle.std.specs.Prelude.{◌≡◌, refl, true, List, ℕ, zero, suc, ◌+◌, ◌*◌, ◌/◌, ◌%◌, ◌<◌, ℤ, pos, ◌+ℤ◌, ◌-ℤ◌, get_or}
use Rattle.std.proofs.Common.{sym, ap, subst, ◌∙◌, inl, inr, arith, ext_get_or}
use Rattle.std.proofs.Math.Decide.{dec_lt}
use Rattle.integers.specs.Integer.{◌⩽◌}
use Rattle.integers.proofs.Linear.{ints}
use Rattle.lines.specs.declared.Line.{Line}
use Rattle.lines.specs.Line.{lines_of, assignment_of}
use Rattle.lines.specs.Valid.{Workable}
use Rattle.theory_answers.specs.Semantics.{Form, value_of, IsGreatest, NoGreatest, IsLeast, NoLeast, Together, IsGroup, group_variable, group_sign, LeastWritten, GreatestWritten, Written}
use Rattle.theory_bounds.specs.Verdict.{verdict_of}
use Rattle.theory_bounds.specs.Answers.{model_of, bounds_of, groups_of}
use Rattle.theory_answers.specs.Meaning.{only_model, computed_written}
use Rattle.theory_answers.specs.Decided.{lines_ok, solvable_yes}

both_ways : (v w : ℤ) → v ⩽ w → w ⩽ v → v ≡ w
both_ways v w = simp ints (omega arith)

not_past : (w z : ℤ) → w +ℤ pos 1 ⩽ z → z ⩽ w → ⊥
not_past w z = simp ints (omega arith)

not_before : (w z : ℤ) → z ⩽ w -ℤ pos 1 → w ⩽ z → ⊥
not_before w z = simp ints (omega arith)

-- ---- the greatest value of a form
module _ (ls : List Line) (form : Form) where
  pub no_both_greatest : (w : ℤ) → IsGreatest ls form w → NoGreatest ls form → ⊥
  no_both_greatest w a b = let t = b.beyond (w +ℤ pos 1) in not_past w _ t.2 (a.bounds t.0 t.1)

  pub one_greatest : (v w : ℤ) → GreatestWritten ls form v → GreatestWritten ls form w → v ≡ w
  one_greatest v w (inl a) (inl b) = both_ways v w (rw a.taken at (b.bounds a.taken_by a.solves)) (rw b.taken at (a.bounds b.taken_by b.solves))
  one_greatest v w (inl a) (inr b) = absurd (no_both_greatest v a b.0)
  one_greatest v w (inr a) (inl b) = absurd (no_both_greatest w b a.0)
  one_greatest v w (inr a) (inr b) = a.1 ∙ sym b.1

-- ---- one variable's least value and group
module _ (ls : List Line) (x : ℕ) where
  pub no_both_least : (w : ℤ) → IsLeast ls x w → NoLeast ls x → ⊥
  no_both_least w a b = let t = b.beyond (w -ℤ pos 1) in not_before w _ t.2 (a.bounds t.0 t.1)

  pub one_least : (v w : ℤ) → LeastWritten ls x v → LeastWritten ls x w → v ≡ w
  one_least v w (inl a) (inl b) = both_ways v w (rw b.taken at (a.bounds b.taken_by b.solves)) (rw a.taken at (b.bounds a.taken_by a.solves))
  one_least v w (inl a) (inr b) = absurd (no_both_least v a b.0)
  one_least v w (inr a) (inl b) = absurd (no_both_least w b a.0)
  one_least v w (inr a) (inr b) = a.1 ∙ sym b.1

  -- the variable is the lowest, and then the sign is plus wherever that holds
  pub one_group : (q r s u : ℕ) → IsGroup ls x q s → IsGroup ls x r u → (q ≡ r) × (s ≡ u)
  one_group q r s u a b = (variable, sign s u a.a_sign b.a_sign a.together b.together a.plus b.plus)
    where
      go : Dec (q < r) → Dec (r < q) → q ≡ r
      go (yes h) _ = absurd (b.lowest q h s a.together)
      go (no _) (yes h) = absurd (a.lowest r h u b.together)
      go (no h) (no k) = omega arith

      variable : q ≡ r
      variable = go (dec_lt q r) (dec_lt r q)

      sign : (s u : ℕ) → s < 2 → u < 2 → Together ls x q s → Together ls x r u → (Together ls x q 0 → s ≡ 0) → (Together ls x r 0 → u ≡ 0) → s ≡ u
      sign zero u h k f g m p = sym (p (λ t st. f t st ∙ ap t variable))
      sign (suc s) zero h k f g m p = m (λ t st. g t st ∙ ap t (sym variable))
      sign (suc s) (suc u) h k f g m p = omega arith

-- ---- all that is written
module _ (n : ℕ) (L : List ℤ) (valid : Workable n L) where
  abbrev ls : List Line
  ls = lines_of L

  module _ (model bounds : List ℤ) (groups : List ℕ) (w : Written n ls model bounds groups) where
    pub written_yes : verdict_of n ls ≡ true
    written_yes = solvable_yes n L valid (record { assignment = assignment_of model; solves = w.model_is.solves })

    computed : Written n ls (model_of n ls) (bounds_of n ls) (groups_of n ls)
    computed = computed_written n ls (lines_ok n L valid) written_yes

    pub written_model : model ≡ model_of n ls
    written_model =
        ext_get_or (pos 0) model (model_of n ls) (w.model_length ∙ sym computed.model_length)
        (λ x h. only_model n ls (lines_ok n L valid) written_yes (assignment_of model) w.model_is x (omega (arith, w.model_length)))

    bound_at_law : (i r : ℕ) → i < 2 * n → i % 2 ≡ r → get_or bounds i (pos 0) ≡ get_or (bounds_of n ls) i (pos 0)
    bound_at_law i zero h e =
        let s : 2 * (i / 2) ≡ i = omega arith in
        let k : i / 2 < n = omega arith in
        subst (λ (j : ℕ). get_or bounds j (pos 0) ≡ get_or (bounds_of n ls) j (pos 0)) s (one_least ls (i / 2) _ _ (w.least_is (i / 2) k) (computed.least_is (i / 2) k))
    bound_at_law i (suc r) h e =
        let s : 2 * (i / 2) + 1 ≡ i = omega arith in
        let k : i / 2 < n = omega arith in
        subst (λ (j : ℕ). get_or bounds j (pos 0) ≡ get_or (bounds_of n ls) j (pos 0)) s (one_greatest ls (value_of (i / 2)) _ _ (w.greatest_is (i / 2) k) (computed.greatest_is (i / 2) k))

    pub written_bounds : bounds ≡ bounds_of n ls
    written_bounds =
        ext_get_or (pos 0) bounds (bounds_of n ls) (w.bounds_length ∙ sym computed.bounds_length) (λ i h. bound_at_law i (i % 2) (omega (arith, w.bounds_length)) refl)

    group_at : (i : ℕ) → i < 2 * n → get_or groups i 0 ≡ get_or (groups_of n ls) i 0
    group_at i h = go (i % 2) refl
      where
        k : i / 2 < n
        k = omega arith

        one : (group_variable groups (i / 2) ≡ group_variable (groups_of n ls) (i / 2)) × (group_sign groups (i / 2) ≡ group_sign (groups_of n ls) (i / 2))
        one = one_group ls (i / 2) _ _ _ _ (w.group_is (i / 2) k) (computed.group_is (i / 2) k)

        go : (r : ℕ) → i % 2 ≡ r → get_or groups i 0 ≡ get_or (groups_of n ls) i 0
        go zero e = let s : 2 * (i / 2) ≡ i = omega arith in subst (λ (j : ℕ). get_or groups j 0 ≡ get_or (groups_of n ls) j 0) s one.0
        go (suc r) e = let s : 2 * (i / 2) + 1 ≡ i = omega arith in subst (λ (j : ℕ). get_or groups j 0 ≡ get_or (groups_of n ls) j 0) s one.1

    pub written_groups : groups ≡ groups_of n ls
    written_groups =
        ext_get_or 0 groups (groups_of n ls) (w.groups_length ∙ sym computed.groups_length) (λ i h. group_at i (omega (arith, w.groups_length)))
