-- The table while it is made: n rows of n numbers at the front, where row j has the entries to j. Each is from 0 to far, and below far the reduced sum of
-- a walk; it is only ever lowered.
use Rattle.std.specs.Prelude.{◌≡◌, refl, List, ℕ, ◌+◌, ◌*◌, ◌≤◌, ◌<◌, ℤ, pos, ◌+ℤ◌, ◌-ℤ◌, length, set}
use Rattle.std.proofs.Common.{sym, subst, ◌∙◌, mul-le-mul_right, arith, length-set, get_or-set_same, get_or-set_other, SFits}
use Rattle.std.proofs.Math.Decide.{ℕ_discrete}
use Rattle.std.specs.Int.{w64}
use Rattle.integers.specs.Integer.{◌⩽◌}
use Rattle.integers.proofs.Linear.{ints, zs}
use Rattle.lines.specs.Limits.{max_variables}
use Rattle.lines.specs.Line.{number}
use Rattle.steps.specs.declared.Step.{Step}
use Rattle.theory_walks.specs.Distance.{le_refl, le_trans}
use Rattle.theory_walks.specs.Wide.{same_point, same_column}
use Rattle.engine_reduced_table.specs.Reduced.{far, Entry}

-- the place of the entry from i to j, and the entry
abbrev pub cell : ℕ → ℕ → ℕ → ℕ
cell n i j = j * n + i

abbrev pub entry_in : ℕ → List ℤ → ℕ → ℕ → ℤ
entry_in n t i j = number t (cell n i j)

pub row_end : (n j : ℕ) → j < n → j * n + n ≤ n * n
row_end n j h = omega (arith, mul-le-mul_right n h)

pub cell_lt : (n i j : ℕ) → i < n → j < n → cell n i j < n * n
cell_lt n i j hi hj = omega (arith, row_end n j hj)

-- all entries stand for walks over E, reduced by the numbers q
abbrev pub Entries : List Step → (ℕ → ℤ) → ℕ → List ℤ → Type 0
Entries E q n t = (i j : ℕ) → i < n → j < n → Entry E (q i) (q j) i j (entry_in n t i j)

pub record Ranged (n : ℕ) (t : List ℤ) : Type 0 where
  pub few : n ≤ max_variables
  pub room : n * n ≤ length t
  pub low : (i j : ℕ) → i < n → j < n → pos 0 ⩽ entry_in n t i j
  pub high : (i j : ℕ) → i < n → j < n → entry_in n t i j ⩽ pos far

-- ---- lowered, and still entries of what they were entries of
pub record Lowered (n : ℕ) (t t' : List ℤ) : Type 0 where
  pub same_length : length t' ≡ length t
  pub ranged : Ranged n t'
  pub no_more : (i j : ℕ) → i < n → j < n → entry_in n t' i j ⩽ entry_in n t i j
  pub sound : (E : List Step) (q : ℕ → ℤ) → Entries E q n t → Entries E q n t'

pub lowered_none : {n : ℕ} {t : List ℤ} → Ranged n t → Lowered n t t
lowered_none r = record { same_length = refl; ranged = r; no_more = λ i j hi hj. le_refl _; sound = λ E q f. f }

pub lowered_trans : {n : ℕ} {t t' t'' : List ℤ} → Lowered n t t' → Lowered n t' t'' → Lowered n t t''
lowered_trans a b = record {
  same_length = b.same_length ∙ a.same_length;
  ranged = b.ranged;
  no_more = λ i j hi hj. le_trans (b.no_more i j hi hj) (a.no_more i j hi hj);
  sound = λ E q f. b.sound E q (a.sound E q f);
}

-- an entry after one is stored
module _ (n : ℕ) (t : List ℤ) (i j : ℕ) (hi : i < n) (hj : j < n) (r : ℤ) where
  pub set_entry : n * n ≤ length t → entry_in n (set t (cell n i j) r) i j ≡ r
  set_entry room = get_or-set_same t (cell n i j) r (pos 0) (omega (arith, cell_lt n i j hi hj))

  -- entries from another variable are as before
  pub set_apart : (k l : ℕ) → k < n → (k ≡ i → ⊥) → entry_in n (set t (cell n i j) r) k l ≡ entry_in n t k l
  set_apart k l hk d = get_or-set_other t (cell n i j) (cell n k l) r (pos 0) (λ e. d (same_column n k i l j hk hi e))

  -- what holds of the stored number at its place, and of each entry that was there, holds of all
  pub set_all : (P : ℕ → ℕ → ℤ → Type 0) → n * n ≤ length t → P i j r → ((k l : ℕ) → k < n → l < n → P k l (entry_in n t k l)) → (k l : ℕ) → k < n → l < n → P k l (entry_in n (set t (cell n i j) r) k l)
  set_all P room here others k l hk hl = go (ℕ_discrete (cell n k l) (cell n i j))
    where
      go : Dec (cell n k l ≡ cell n i j) → P k l (entry_in n (set t (cell n i j) r) k l)
      go (yes e) =
          let a : k ≡ i = same_column n k i l j hk hi e in
          let b : l ≡ j = same_point n k i l j hk hi e in
          subst (λ (x : ℕ). P x l (entry_in n (set t (cell n i j) r) x l)) (sym a)
          (subst (λ (x : ℕ). P i x (entry_in n (set t (cell n i j) r) i x)) (sym b) (rw (set_entry room) here))
      go (no d) = rw (get_or-set_other t (cell n i j) (cell n k l) r (pos 0) d) (others k l hk hl)

-- an entry that is no larger is stored
pub set_no_more : (n : ℕ) (t : List ℤ) → n * n ≤ length t → (i j : ℕ) → i < n → j < n → (r : ℤ) → r ⩽ entry_in n t i j
    → (k l : ℕ) → k < n → l < n → entry_in n (set t (cell n i j) r) k l ⩽ entry_in n t k l
set_no_more n t room i j hi hj r less = set_all n t i j hi hj r (λ k l z. z ⩽ entry_in n t k l) room less (λ k l hk hl. le_refl _)

pub lowered_set : {n : ℕ} {t₀ t : List ℤ} → Lowered n t₀ t → (i j : ℕ) → i < n → j < n → (r : ℤ) → pos 0 ⩽ r → r ⩽ entry_in n t i j
    → ((E : List Step) (q : ℕ → ℤ) → Entries E q n t₀ → Entry E (q i) (q j) i j r) → Lowered n t₀ (set t (cell n i j) r)
lowered_set {n} {t₀} {t} a i j hi hj r low less sound = record {
  same_length = length-set t (cell n i j) r ∙ a.same_length;
  ranged = record {
    few = a.ranged.few;
    room = omega (arith, a.ranged.room, length-set t (cell n i j) r);
    low = set_all n t i j hi hj r (λ k l z. pos 0 ⩽ z) a.ranged.room low a.ranged.low;
    high = set_all n t i j hi hj r (λ k l z. z ⩽ pos far) a.ranged.room (le_trans less (a.ranged.high i j hi hj)) a.ranged.high;
  };
  no_more = λ k l hk hl. le_trans (set_no_more n t a.ranged.room i j hi hj r less k l hk hl) (a.no_more k l hk hl);
  sound = λ E q f. set_all n t i j hi hj r (λ k l z. Entry E (q k) (q l) k l z) a.ranged.room (sound E q f) (a.sound E q f);
}

-- ---- numbers of the table are small
pub sum_fits : (x y : ℤ) → pos 0 ⩽ x → x ⩽ pos far → pos 0 ⩽ y → y ⩽ pos far → SFits w64 (x +ℤ y)
sum_fits x y = simp ints (omega zs)

pub less_fits : (x y z : ℤ) → pos 0 ⩽ x → x ⩽ pos far → pos 0 ⩽ y → y ⩽ pos far → pos 0 ⩽ z → z ⩽ pos far → SFits w64 ((x +ℤ y) -ℤ z)
less_fits x y z = simp ints (omega zs)
