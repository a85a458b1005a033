-- Where the halves of a table do not contradict, those of a table that is the same near 0 don't: two distances, of a point to its opposite and back, whose
-- halves sum below 0 are a closed walk of a sum of at most 2, so that they are the first table's own.
use Rattle.std.specs.Prelude.{◌≡◌, refl, Bool, true, false, ℕ, ℤ, pos, ◌+ℤ◌}
use Rattle.std.proofs.Common.{arith}
use Rattle.std.specs.Int.Signed.{le_z}
use Rattle.integers.specs.Integer.{◌⩽◌, half}
use Rattle.integers.proofs.Linear.{ints}
use Rattle.steps.specs.Point.{opposite}
use Rattle.theory_walks.specs.Distance.{Distance, none, some, ◌⊞◌, half_d, Up, up, up_some, not_none}
use Rattle.theory_walks.specs.Negative.{not_below0}
use Rattle.theory_bounds.specs.Tight.{Table}
use Rattle.theory_bounds.specs.Verdict.{halves_ok_lem}
use Rattle.theory_kept.specs.Slack.{equal_slack, NearSame}

module _ (D D' : Table) (near : NearSame D D') where
  pub halves_stay : (p : ℕ) → halves_ok_lem D p ≡ true → halves_ok_lem D' p ≡ true
  halves_stay p ok = go (D' p (opposite p)) (D' (opposite p) p) refl refl
    where
      -- D's own halves, by what its distances are at most
      own : (d e : Distance) (a b : ℤ) → not_below0 (half_d d ⊞ half_d e) ≡ true → Up d a → Up e b → pos 0 ⩽ half a +ℤ half b
      own none e a b o u v = not_none u
      own (some d) none a b o u v = not_none v
      own (some d) (some e) a b o (up u) (up v) = sum d e a b o u v
        where
          sum : (d e a b : ℤ) → le_z (pos 0) (half d +ℤ half e) ≡ true → d ⩽ a → e ⩽ b → pos 0 ⩽ half a +ℤ half b
          sum d e a b = simp ints (omega arith)

      far : (a b : ℤ) → (a +ℤ b ⩽ equal_slack → pos 0 ⩽ half a +ℤ half b) → pos 0 ⩽ half a +ℤ half b
      far a b close = by_sum (le_z (a +ℤ b) equal_slack) refl
        where
          at_most : (a b : ℤ) → le_z (a +ℤ b) equal_slack ≡ true → a +ℤ b ⩽ equal_slack
          at_most a b = simp ints (omega arith)

          above : (a b : ℤ) → le_z (a +ℤ b) equal_slack ≡ false → pos 0 ⩽ half a +ℤ half b
          above a b = simp ints (omega arith)

          by_sum : (c : Bool) → le_z (a +ℤ b) equal_slack ≡ c → pos 0 ⩽ half a +ℤ half b
          by_sum true e = close (at_most a b e)
          by_sum false e = above a b e

      yes_le : (a b : ℤ) → pos 0 ⩽ half a +ℤ half b → le_z (pos 0) (half a +ℤ half b) ≡ true
      yes_le a b = simp ints (omega arith)

      swap : (a b : ℤ) → a +ℤ b ⩽ equal_slack → b +ℤ a ⩽ equal_slack
      swap a b = simp ints (omega arith)

      go : (d e : Distance) → D' p (opposite p) ≡ d → D' (opposite p) p ≡ e → not_below0 (half_d (D' p (opposite p)) ⊞ half_d (D' (opposite p) p)) ≡ true
      go none e i j = rw i refl
      go (some a) none i j = rw (i, j) refl
      go (some a) (some b) i j =
          let there : Up (D' p (opposite p)) a = up_some i in
          let back : Up (D' (opposite p) p) b = up_some j in
          rw (i, j)
          (yes_le a b
          (far a b (λ h. own (D p (opposite p)) (D (opposite p) p) a b ok (near p (opposite p) a b there back h) (near (opposite p) p b a back there (swap a b h)))))
