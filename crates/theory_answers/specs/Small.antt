-- How large the answers are. Among n variables, with every d at least -M, the values of the model lie within n·M. With every d within M a greatest value of a
-- variable, with either sign, does so too, and that of a sum of two lies within twice that.
--
-- Of n values that are not all so small, none lies in some stretch of M (`free`). Those beyond it may then be moved by one, and the assignment still solves the
-- list: toward zero, against the model being nearest; or away from it, against the greatest value being one.
use Rattle.std.specs.Prelude.{◌≡◌, refl, ◌⊎◌, Bool, true, false, List, [], ◌∷◌, ℕ, zero, suc, ◌+◌, ◌*◌, ◌≤◌, ◌<◌, ℤ, pos, negsuc, neg_ℤ, nat_abs, ◌+ℤ◌, Ok}
use Rattle.std.proofs.Common.{ap, inl, inr, arith}
use Rattle.std.proofs.Math.Decide.{dec_lt}
use Rattle.std.specs.Int.Signed.{lt_z}
use Rattle.integers.specs.Integer.{◌⩽◌, ◌⋖◌, Within}
use Rattle.integers.proofs.Linear.{ints, given, neg_part, ≤ℤ_trans}
use Rattle.integers.proofs.Halving.{test_yes, test_no}
use Rattle.integers.specs.Sequence.{tabulate}
use Rattle.lines.specs.declared.Line.{Line}
use Rattle.lines.specs.Limits.{max_constant}
use Rattle.lines.specs.Line.{line_at, line_count, lines_of, Assignment, Solves}
use Rattle.lines.specs.Refusal.{validity_of}
use Rattle.lines.specs.Valid.{WorkableWithin, AllOk, line_ok, valid_list}
use Rattle.steps.specs.Point.{signed}
use Rattle.theory_answers.specs.Semantics.{Agrees, IsModel, sum_of, IsGreatest, IsLeast}
use Rattle.theory_answers.specs.Moved.{AllAbove, AllBelow, inward_near, inward_far, outward_far, outward_least, drawn_in, drawn_out, solves_inward, solves_outward}
use Rattle.theory_answers.specs.Gap.{first, free}

-- every d lies within M
abbrev pub AllWithin : ℕ → List Line → Type 0
AllWithin M [] = Unit {0}
AllWithin M (l ∷ ls) = Within M l.d × AllWithin M ls

pub within_above : (M : ℕ) (ls : List Line) → AllWithin M ls → AllAbove M ls
within_above M [] w = tt
within_above M (l ∷ ls) w = (w.0.low, within_above M ls w.1)

within_below : (M : ℕ) (ls : List Line) → AllWithin M ls → AllBelow M ls
within_below M [] w = tt
within_below M (l ∷ ls) w = (w.0.high, within_below M ls w.1)

-- from what holds of each line
each_within : (M c : ℕ) (f : ℕ → Line) → ((k : ℕ) → k < c → Within M (f k).d) → AllWithin M (tabulate c f)
each_within M zero f h = tt
each_within M (suc c) f h = (h 0 (omega arith), each_within M c (λ k. f (suc k)) (λ k l. h (suc k) (omega arith)))

pub works_above : (M n : ℕ) (L : List ℤ) → WorkableWithin M n L → AllAbove M (lines_of L)
works_above M n L o = within_above M (lines_of L) (each_within M (line_count L) (line_at L) (λ k h. (o.lines k h).constant))

pub valid_within : (n : ℕ) (L : List ℤ) → validity_of n L ≡ Ok tt → AllWithin max_constant (lines_of L)
valid_within n L v = each_within max_constant (line_count L) (line_at L) (λ k h. (line_ok n k (line_at L k) ((valid_list n L v).each k h)).constant)

pub valid_above : (n : ℕ) (L : List ℤ) → validity_of n L ≡ Ok tt → AllAbove max_constant (lines_of L)
valid_above n L v = within_above max_constant (lines_of L) (valid_within n L v)

-- ---- the model
module _ (n M : ℕ) (ls : List Line) (ok : AllOk n ls) (above : AllAbove M ls) (m : Assignment) (model : IsModel n ls m) where
  abbrev size : ℕ → ℕ
  size x = nat_abs (m x)

  -- the first value beyond a free stretch could be nearer zero
  none_far : (k : ℕ) → k < n → n * M < size k → ⊥
  none_far k l h =
      let g = free size n M 0 k l (omega arith) in
      let t = first size (g.L + M) n k l (omega (arith, g.upto)) in
      let solved = solves_inward n g.L M m g.apart ls ok above model.solves in
      let agrees : Agrees t.k (drawn_in n g.L M m g.apart) m = λ x b. inward_near (g.L + M) (m x) (t.before x b) in
      omega (arith, inward_far (g.L + M) (m t.k) t.far, model.nearest t.k t.low (drawn_in n g.L M m g.apart) solved agrees)

  pub model_small : (k : ℕ) → k < n → nat_abs (m k) ≤ n * M
  model_small k l = go (dec_lt (n * M) (size k))
    where
      go : Dec (n * M < size k) → size k ≤ n * M
      go (yes h) = absurd (none_far k l h)
      go (no h) = omega arith

-- ---- a solution in which a value is far can be changed to one in which it is farther
-- t solves the list, x with the sign q has a greater value in it than in s, and no value, with either sign, that is at least -B in s has a smaller one
record Farther (ls : List Line) (s : Assignment) (x q B : ℕ) : Type 0 where
  t : Assignment
  solves : Solves ls t
  greater : signed q (s x) ⋖ signed q (t x)
  no_less : (y u : ℕ) → neg_ℤ (pos B) ⩽ signed u (s y) → signed u (s y) ⩽ signed u (t y)

module _ (n M : ℕ) (ls : List Line) (ok : AllOk n ls) (within : AllWithin M ls) where
  farther : (s : Assignment) → Solves ls s → (x q B : ℕ) → x < n → pos (B + n * M) ⋖ signed q (s x) → Farther ls s x q B
  farther s solved x q B l h =
      let g = free (λ y. nat_abs (s y)) n M B x l (size q (s x) (B + n * M) h) in
      record {
        t = drawn_out n g.L M s g.apart;
        solves = solves_outward n g.L M s g.apart ls ok (within_below M ls within) solved;
        greater = outward_far (g.L + M) q (s x) (above (g.L + M) (B + n * M) (signed q (s x)) g.upto h);
        no_less = λ y u k. outward_least (g.L + M) u (s y) (below B (g.L + M) (signed u (s y)) (omega (arith, g.from)) k);
      }
    where
      size : (q : ℕ) (z : ℤ) (k : ℕ) → pos k ⋖ signed q z → k < nat_abs z
      size zero z k h = given h (simp ints (omega arith))
      size (suc q) z k h = given h (simp ints (omega arith))

      above : (a b : ℕ) (z : ℤ) → a ≤ b → pos b ⋖ z → pos a ⋖ z
      above a b z = simp ints (omega arith)

      below : (a b : ℕ) (z : ℤ) → a ≤ b → neg_ℤ (pos a) ⩽ z → neg_ℤ (pos b) ⩽ z
      below a b z = simp ints (omega arith)

  -- ---- so a greatest value is not far
  not_above : (a b : ℤ) → (b ⋖ a → ⊥) → a ⩽ b
  not_above a b = simp ints (omega arith)

  passed : (a b z : ℤ) → a ≡ z → a ⋖ b → b ⩽ z → ⊥
  passed a b z = simp ints (omega arith)

  -- of a variable with a sign
  value_high : (x q : ℕ) (z : ℤ) → x < n → IsGreatest ls (λ t. signed q (t x)) z → z ⩽ pos (n * M)
  value_high x q z l g = not_above z (pos (n * M)) (λ h.
      let f = farther g.taken_by g.solves x q 0 l (moved (signed q (g.taken_by x)) z (n * M) g.taken h) in
      passed (signed q (g.taken_by x)) (signed q (f.t x)) z g.taken f.greater (g.bounds f.t f.solves))
    where
      moved : (a z : ℤ) (k : ℕ) → a ≡ z → pos k ⋖ z → pos (0 + k) ⋖ a
      moved a z k = simp ints (omega arith)

  -- of the sum of two, each with a sign: one of them is above n·M, and the other at least -B, so that both can be changed
  sum_far : (s : Assignment) → Solves ls s → (x q y u : ℕ) → x < n → pos (n * M + n * M) ⋖ signed q (s x) +ℤ signed u (s y) → pos (n * M) ⋖ signed q (s x)
      → (t : Assignment) × Solves ls t × (signed q (s x) +ℤ signed u (s y) ⋖ signed q (t x) +ℤ signed u (t y))
  sum_far s solved x q y u l h k =
      let B = neg_part (signed u (s y)) in
      let f = farther s solved x q B l (room (n * M) (signed q (s x)) (signed u (s y)) h k) in
      (f.t, f.solves, both (signed q (s x)) (signed u (s y)) (signed q (f.t x)) (signed u (f.t y)) f.greater (f.no_less y u (least (signed u (s y)))))
    where
      room : (k : ℕ) (a b : ℤ) → pos (k + k) ⋖ a +ℤ b → pos k ⋖ a → pos (neg_part b + k) ⋖ a
      room k a (pos b) = simp ints (omega arith)
      room k a (negsuc b) = simp ints (omega arith)

      least : (b : ℤ) → neg_ℤ (pos (neg_part b)) ⩽ b
      least (pos b) = simp ints (omega arith)
      least (negsuc b) = simp ints (omega arith)

      both : (a b c d : ℤ) → a ⋖ c → b ⩽ d → a +ℤ b ⋖ c +ℤ d
      both a b c d = simp ints (omega arith)

  one_above : (k : ℕ) (a b : ℤ) → pos (k + k) ⋖ a +ℤ b → (pos k ⋖ a) ⊎ (pos k ⋖ b)
  one_above k a b h = go (lt_z (pos k) a) refl
    where
      other : (k : ℕ) (a b : ℤ) → pos (k + k) ⋖ a +ℤ b → a ⩽ pos k → pos k ⋖ b
      other k a b = simp ints (omega arith)

      go : (t : Bool) → lt_z (pos k) a ≡ t → (pos k ⋖ a) ⊎ (pos k ⋖ b)
      go true e = inl (test_yes (pos k) a e)
      go false e = inr (other k a b h (test_no (pos k) a e))

  sum_high : (x q y u : ℕ) (z : ℤ) → x < n → y < n → IsGreatest ls (sum_of q x u y) z → z ⩽ pos (n * M + n * M)
  sum_high x q y u z l k g = not_above z (pos (n * M + n * M)) (λ h. let far = above (sum_of q x u y s) z (n * M + n * M) g.taken h in go far (one_above (n * M) _ _ far))
    where
      s : Assignment
      s = g.taken_by

      above : (a z : ℤ) (k : ℕ) → a ≡ z → pos k ⋖ z → pos k ⋖ a
      above a z k = simp ints (omega arith)

      swap : (a b c : ℤ) → a ⋖ b +ℤ c → a ⋖ c +ℤ b
      swap a b c = simp ints (omega arith)

      swap_both : (a b c d : ℤ) → a +ℤ b ⋖ c +ℤ d → b +ℤ a ⋖ d +ℤ c
      swap_both a b c d = simp ints (omega arith)

      less : (t : Assignment) → Solves ls t → sum_of q x u y s ⋖ sum_of q x u y t → ⊥
      less t solved h = passed (sum_of q x u y s) (sum_of q x u y t) z g.taken h (g.bounds t solved)

      go : pos (n * M + n * M) ⋖ sum_of q x u y s → (pos (n * M) ⋖ signed q (s x)) ⊎ (pos (n * M) ⋖ signed u (s y)) → ⊥
      go far (inl h) = let r = sum_far s g.solves x q y u l far h in less r.0 r.1 r.2
      go far (inr h) = let r = sum_far s g.solves y u x q k (swap _ (signed q (s x)) (signed u (s y)) far) h in less r.0 r.1 (swap_both (signed u (s y)) (signed q (s x)) (signed u (r.0 y)) (signed q (r.0 x)) r.2)

  -- ---- nor is it far below zero: that of the model is not
  module _ (m : Assignment) (model : IsModel n ls m) where
    low : (x q : ℕ) → x < n → neg_ℤ (pos (n * M)) ⩽ signed q (m x)
    low x q l = go q (m x) (n * M) (model_small n M ls ok (within_above M ls within) m model x l)
      where
        go : (q : ℕ) (z : ℤ) (k : ℕ) → nat_abs z ≤ k → neg_ℤ (pos k) ⩽ signed q z
        go zero z k = simp ints (omega arith)
        go (suc q) z k = simp ints (omega arith)

    pub value_small : (x q : ℕ) (z : ℤ) → x < n → IsGreatest ls (λ t. signed q (t x)) z → Within (n * M) z
    value_small x q z l g = record { low = ≤ℤ_trans (low x q l) (g.bounds m model.solves); high = value_high x q z l g }

    pub sum_small : (x q y u : ℕ) (z : ℤ) → x < n → y < n → IsGreatest ls (sum_of q x u y) z → Within (2 * (n * M)) z
    sum_small x q y u z l k g =
        record {
          low = lowest (n * M) (signed q (m x)) (signed u (m y)) z (low x q l) (low y u k) (g.bounds m model.solves);
          high = twice (n * M) z (sum_high x q y u z l k g);
        }
      where
        lowest : (k : ℕ) (a b z : ℤ) → neg_ℤ (pos k) ⩽ a → neg_ℤ (pos k) ⩽ b → a +ℤ b ⩽ z → neg_ℤ (pos (2 * k)) ⩽ z
        lowest k a b z = simp ints (omega arith)

        twice : (k : ℕ) (z : ℤ) → z ⩽ pos (k + k) → z ⩽ pos (2 * k)
        twice k z = simp ints (omega arith)

    -- a least value of x is a greatest one of -x
    pub least_small : (x : ℕ) (z : ℤ) → x < n → IsLeast ls x z → Within (n * M) z
    least_small x z l g =
        let w = value_small x 1 (neg_ℤ z) l (record { bounds = λ t h. turn (t x) z (g.bounds t h); taken_by = g.taken_by; solves = g.solves; taken = ap neg_ℤ g.taken }) in
        record { low = given w.high (simp ints (omega arith)); high = given w.low (simp ints (omega arith)) }
      where
        turn : (a z : ℤ) → z ⩽ a → neg_ℤ a ⩽ neg_ℤ z
        turn a z = simp ints (omega arith)
