-- Cells in the work area, one for each pair of points, in which the lightest step of a list between the two is found: each step in turn is put there
-- if its number is less than the one that stands there.
use Rattle.std.specs.Prelude.{◌≡◌, refl, ◌⊎◌, List, [], ◌∷◌, ◌++◌, ℕ, ◌+◌, ◌*◌, ◌≤◌, ◌<◌, ℤ, pos, nat_abs, ◌-ℤ◌, length, set, None, Option, Some}
use Rattle.std.proofs.Common.{sym, ap, subst, ◌∙◌, inl, inr, ⊎_elim, append-nil, mul-le-mul_right, arith, get_or-set_same, get_or-set_other}
use Rattle.std.proofs.Math.Decide.{ℕ_discrete, dec_lt}
use Rattle.integers.specs.Integer.{◌⩽◌, ◌⋖◌}
use Rattle.integers.proofs.Linear.{ints, ≤ℤ_trans}
use Rattle.lines.specs.Limits.{max_variables, work_lines}
use Rattle.lines.specs.Line.{number, line_count}
use Rattle.lines.specs.Valid.{LinesOk}
use Rattle.steps.specs.declared.Step.{Step}
use Rattle.steps.specs.Step.{max_weight, step_numbered_lem, named}
use Rattle.theory_walks.specs.Distance.{le_refl}
use Rattle.theory_walks.specs.Graph.{in_left, in_right}
use Rattle.theory_walks.specs.Row.{In}
use Rattle.decide_rows.specs.Numbers.{StepOk as WrittenOk, steps_before, before_zero, before_more, numbered_ok}
use Rattle.engine_packed_steps.specs.Packed.{Packs, unpacked, shifted_in}
use Rattle.engine_packed_steps.specs.Steps.{StepOk}
use Rattle.engine_packed_steps.specs.Scratch.{Scratch, scratch_none, scratch_trans, scratch_set, scratch_wider}

-- stands in a cell for no step
abbrev pub no_step_lem : ℕ
no_step_lem = 9_000_000_000_000_000_000

abbrev pub step_of_number : ℤ → Step
step_of_number z = unpacked (nat_abs z)

-- the cell of a step's ends
abbrev pub cell_of : ℕ → Step → ℕ
cell_of m s = s.from * m + s.to

-- ---- what a comparison in the code says
-- ---- cells of points
pub cell_lt : (m i j : ℕ) → i < m → j < m → i * m + j < m * m
cell_lt m i j h l = omega (arith, mul-le-mul_right m h)

row_same : (m i j k l : ℕ) → j < m → l < m → i * m + j ≡ k * m + l → i ≡ k
row_same m i j k l hj hl e = go (dec_lt i k) (dec_lt k i)
  where
    go : Dec (i < k) → Dec (k < i) → i ≡ k
    go (yes h) d = absurd (omega (arith, mul-le-mul_right m h))
    go (no h) (yes g) = absurd (omega (arith, mul-le-mul_right m g))
    go (no h) (no g) = omega arith

-- steps with one cell have the same ends
pub cell_ends : (m i j k l : ℕ) → j < m → l < m → i * m + j ≡ k * m + l → (i ≡ k) × (j ≡ l)
cell_ends m i j k l hj hl e =
    let same : i ≡ k = row_same m i j k l hj hl e in
    (same, omega (arith, ap (λ (x : ℕ). x * m) same))

-- ---- steps by their numbers
-- the smaller number is not heavier
pub lighter : (x y : ℤ) → pos 0 ⩽ x → x ⩽ y → (step_of_number x).weight ⩽ (step_of_number y).weight
lighter x y l h = moved (shifted_in (nat_abs x)) (shifted_in (nat_abs y)) (divided (nat_abs x) (nat_abs y) (absolute x y l h))
  where
    absolute : (x y : ℤ) → pos 0 ⩽ x → x ⩽ y → nat_abs x ≤ nat_abs y
    absolute x y = simp ints (omega arith)

    divided : (a b : ℕ) → a ≤ b → shifted_in a ≤ shifted_in b
    divided a b h = omega arith

    moved : (a b : ℕ) → a ≤ b → pos a -ℤ pos max_weight ⩽ pos b -ℤ pos max_weight
    moved a b = simp ints (omega arith)

-- the number of a step is below that of none
pub below_none : {m : ℕ} {z : ℤ} → StepOk m z → z ⋖ pos no_step_lem
below_none {m} {z} o = back z (whole (nat_abs z) (high (shifted_in (nat_abs z)) o.light.high))
  where
    high : (a : ℕ) → pos a -ℤ pos max_weight ⩽ pos max_weight → a ≤ 2 * max_weight
    high a = simp ints (omega arith)

    whole : (a : ℕ) → shifted_in a ≤ 2 * max_weight → a < no_step_lem
    whole a h = omega arith

    back : (z : ℤ) → nat_abs z < no_step_lem → z ⋖ pos no_step_lem
    back z = simp ints (omega arith)

-- ---- no step in any cell
pub record Cleared (start cells : ℕ) (w₀ w : List ℤ) (k : ℕ) : Type 0 where
  pub at_most : k ≤ cells
  pub scratch : Scratch start (start + cells) w₀ w
  pub all : (c : ℕ) → c < k → number w (start + c) ≡ pos no_step_lem

pub cleared_start : (start cells : ℕ) (w : List ℤ) → Cleared start cells w w 0
cleared_start start cells w = record { at_most = omega arith; scratch = scratch_none start (start + cells) w; all = λ c h. absurd (omega arith) }

pub cleared_more : {start cells k : ℕ} {w₀ w : List ℤ} → Cleared start cells w₀ w k → start + cells ≤ length w → k < cells → Cleared start cells w₀ (set w (start + k) (pos no_step_lem)) (k + 1)
cleared_more {start} {cells} {k} {w₀} {w} f room h = record {
  at_most = omega arith;
  scratch = scratch_trans f.scratch (scratch_set start (start + cells) w (start + k) (pos no_step_lem) (omega arith) (omega arith));
  all = λ c l. each c l (ℕ_discrete c k);
}
  where
    each : (c : ℕ) → c < k + 1 → Dec (c ≡ k) → number (set w (start + k) (pos no_step_lem)) (start + c) ≡ pos no_step_lem
    each c l (yes e) = rw e (get_or-set_same w (start + k) (pos no_step_lem) (pos 0) (omega arith))
    each c l (no d) = get_or-set_other w (start + k) (start + c) (pos no_step_lem) (pos 0) (λ x. d (omega (arith, x))) ∙ f.all c (omega arith)

-- ---- a step is put
pub record PutReady (n start : ℕ) (L w : List ℤ) (k : ℕ) : Type 0 where
  pub few : n ≤ max_variables
  pub valid : LinesOk n L
  pub few_lines : line_count L ≤ work_lines
  pub below : k < 2 * line_count L
  pub room : start + 2 * n * (2 * n) ≤ length w

-- the number at a place is lowered to z, if that is less
pub record Lowered (place : ℕ) (z : ℤ) (w w' : List ℤ) : Type 0 where
  pub scratch : Scratch place (place + 1) w w'
  pub other : (i : ℕ) → (i ≡ place → ⊥) → number w' i ≡ number w i
  pub below_new : number w' place ⩽ z
  pub below_old : number w' place ⩽ number w place
  pub one : (number w' place ≡ number w place) ⊎ (number w' place ≡ z)

pub lowered_set : (place : ℕ) (z : ℤ) (w : List ℤ) → place < length w → z ⋖ number w place → Lowered place z w (set w place z)
lowered_set place z w room h =
    let e : number (set w place z) place ≡ z = get_or-set_same w place z (pos 0) room in
    record {
      scratch = scratch_set place (place + 1) w place z (omega arith) (omega arith);
      other = λ i d. get_or-set_other w place i z (pos 0) d;
      below_new = rw e (le_refl z);
      below_old = rw e (weaker z (number w place) h);
      one = inr e;
    }
  where
    weaker : (a b : ℤ) → a ⋖ b → a ⩽ b
    weaker a b = simp ints (omega arith)

pub lowered_none : (place : ℕ) (z : ℤ) (w : List ℤ) → number w place ⩽ z → Lowered place z w w
lowered_none place z w h = record { scratch = scratch_none place (place + 1) w; other = λ i d. refl; below_new = h; below_old = le_refl (number w place); one = inl refl }

-- a step that was found has a number, and this is put
pub record Placed (n start : ℕ) (s : Step) (w w' : List ℤ) : Type 0 where
  pub z : ℤ
  pub ok : StepOk (2 * n) z
  pub step : step_of_number z ≡ s
  pub lowered : Lowered (start + cell_of (2 * n) s) z w w'

abbrev pub Put : ℕ → ℕ → Option Step → List ℤ → List ℤ → Type 0
Put n start None w w' = w' ≡ w
Put n start (Some s) w w' = Placed n start s w w'

pub packed_ok : (n k : ℕ) (s : Step) (z : ℤ) → WrittenOk n s → Packs s.from s.to s.weight k z → StepOk (2 * n) z
packed_ok n k s z o p = record {
  low = p.low;
  from_lt = rw (ap (λ (t : Step). t.from) p.step) o.from_lt;
  to_lt = rw (ap (λ (t : Step). t.to) p.step) o.to_lt;
  light = rw (ap (λ (t : Step). t.weight) p.step) o.small;
}

pub put_found : (n k start : ℕ) (t : Option Step) (s : Step) → t ≡ Some s → (w w' : List ℤ) (z : ℤ) → WrittenOk n s → Packs s.from s.to s.weight k z → Lowered (start + cell_of (2 * n) s) z w w' → Put n start t w w'
put_found n k start t s e w w' z o p l = subst (λ (x : Option Step). Put n start x w w') (sym e) (record { z = z; ok = packed_ok n k s z o p; step = p.step; lowered = l })

pub put_nothing : (n start : ℕ) (t : Option Step) → t ≡ None → (w : List ℤ) → Put n start t w w
put_nothing n start t e w = subst (λ (x : Option Step). Put n start x w w) (sym e) refl

-- ---- the lightest steps in their cells
-- z is the number of a step of E, in its cell
pub record Stands (m : ℕ) (E : List Step) (c : ℕ) (z : ℤ) : Type 0 where
  pub ok : StepOk m z
  pub member : In (step_of_number z) E
  pub cell : cell_of m (step_of_number z) ≡ c

-- in the cell of s stands the number of a step that is no heavier
pub record Least (m start : ℕ) (w : List ℤ) (s : Step) : Type 0 where
  pub from_lt : s.from < m
  pub to_lt : s.to < m
  pub there : number w (start + cell_of m s) ⋖ pos no_step_lem
  pub light : (step_of_number (number w (start + cell_of m s))).weight ⩽ s.weight

abbrev pub CellIs : ℕ → List Step → ℕ → ℤ → Type 0
CellIs m E c z = (z ≡ pos no_step_lem) ⊎ Stands m E c z

-- the cells after the numbers below k
pub record StepsPut (n start : ℕ) (L w₀ w : List ℤ) (k : ℕ) : Type 0 where
  pub at_most : k ≤ 2 * line_count L
  pub scratch : Scratch start (start + 2 * n * (2 * n)) w₀ w
  pub stands : (c : ℕ) → c < 2 * n * (2 * n) → CellIs (2 * n) (steps_before L k) c (number w (start + c))
  pub least : (s : Step) → In s (steps_before L k) → Least (2 * n) start w s

cell_low : {m c : ℕ} {E : List Step} {z : ℤ} → CellIs m E c z → pos 0 ⩽ z
cell_low (inl e) = rw e (simp ints (omega arith))
cell_low (inr s) = s.ok.low

-- a number that is lowered stands for a step that is no heavier
least_below : (x y : ℤ) → pos 0 ⩽ x → x ⩽ y → y ⋖ pos no_step_lem → (x ⋖ pos no_step_lem) × ((step_of_number x).weight ⩽ (step_of_number y).weight)
least_below x y l h g = (under x y h g, lighter x y l h)
  where
    under : (x y : ℤ) → x ⩽ y → y ⋖ pos no_step_lem → x ⋖ pos no_step_lem
    under x y = simp ints (omega arith)

in_either : (s t : Step) (E : List Step) → In s (E ++ t ∷ []) → In s E ⊎ (s ≡ t)
in_either s t [] (inl e) = inr e
in_either s t [] (inr i) = absurd i
in_either s t (x ∷ E) (inl e) = inl (inl e)
in_either s t (x ∷ E) (inr i) = ⊎_elim (λ j. inl (inr j)) (λ e. inr e) (in_either s t E i)

-- ---- all steps are put
pub record PutsReady (n start : ℕ) (L w : List ℤ) : Type 0 where
  pub few : n ≤ max_variables
  pub valid : LinesOk n L
  pub few_lines : line_count L ≤ work_lines
  pub room : start + 2 * n * (2 * n) ≤ length w
  pub none : (c : ℕ) → c < 2 * n * (2 * n) → number w (start + c) ≡ pos no_step_lem

pub puts_start : {n start : ℕ} {L w : List ℤ} → PutsReady n start L w → StepsPut n start L w w 0
puts_start {n} {start} {L} {w} r = record {
  at_most = omega arith;
  scratch = scratch_none start (start + 2 * n * (2 * n)) w;
  stands = λ c h. inl (r.none c h);
  least = λ s i. absurd (subst (λ (E : List Step). In s E) (before_zero L) i);
}

-- The step with the number k is put. No number in a cell grows, so that what was no heavier than a step stays so; and
-- the new step's cell is at most its number.
module _ {n start k : ℕ} {L w₀ w : List ℤ} (p : StepsPut n start L w₀ w k) (h : k < 2 * line_count L) (valid : LinesOk n L) where
  abbrev E : List Step
  E = steps_before L k

  put_none : step_numbered_lem L k ≡ None → StepsPut n start L w₀ w (k + 1)
  put_none e = record {
    at_most = omega arith;
    scratch = p.scratch;
    stands = λ c l. rw same (p.stands c l);
    least = λ s i. p.least s (subst (λ (F : List Step). In s F) same i);
  }
    where
      same : steps_before L (k + 1) ≡ E
      same = before_more L k ∙ ap (λ (x : Option Step). E ++ named x) e ∙ append-nil E

  module _ (s : Step) (e : step_numbered_lem L k ≡ Some s) (w' : List ℤ) (q : Placed n start s w w') where
    abbrev m : ℕ
    m = 2 * n

    abbrev place : ℕ
    place = start + cell_of m s

    more : steps_before L (k + 1) ≡ E ++ s ∷ []
    more = before_more L k ∙ ap (λ (x : Option Step). E ++ named x) e

    ok : WrittenOk n s
    ok = numbered_ok n L valid k s e

    inside : cell_of m s < m * m
    inside = cell_lt m s.from s.to ok.from_lt ok.to_lt

    weaken : {c : ℕ} {z : ℤ} → CellIs m E c z → CellIs m (E ++ s ∷ []) c z
    weaken (inl x) = inl x
    weaken (inr t) = inr (record { ok = t.ok; member = in_left _ E (s ∷ []) t.member; cell = t.cell })

    new : CellIs m (E ++ s ∷ []) (cell_of m s) q.z
    new = inr (record { ok = q.ok; member = subst (λ (t : Step). In t (E ++ s ∷ [])) (sym q.step) (in_right s E (s ∷ []) (inl refl)); cell = ap (cell_of m) q.step })

    stands_at : (number w' place ≡ number w place) ⊎ (number w' place ≡ q.z) → CellIs m (E ++ s ∷ []) (cell_of m s) (number w' place)
    stands_at (inl x) = rw x (weaken (p.stands (cell_of m s) inside))
    stands_at (inr x) = rw x new

    stands_again : (c : ℕ) → c < m * m → Dec (c ≡ cell_of m s) → CellIs m (E ++ s ∷ []) c (number w' (start + c))
    stands_again c l (yes x) = rw x (stands_at q.lowered.one)
    stands_again c l (no d) = rw (q.lowered.other (start + c) (λ x. d (omega (arith, x)))) (weaken (p.stands c l))

    no_larger : (i : ℕ) → Dec (i ≡ place) → number w' i ⩽ number w i
    no_larger i (yes x) = rw x q.lowered.below_old
    no_larger i (no d) = rw (q.lowered.other i d) (le_refl (number w i))

    low_again : (c : ℕ) → c < m * m → pos 0 ⩽ number w' (start + c)
    low_again c l = cell_low (stands_again c l (ℕ_discrete c (cell_of m s)))

    least_old : (t : Step) → Least m start w t → Least m start w' t
    least_old t a =
        let c = cell_of m t in
        let l = low_again c (cell_lt m t.from t.to a.from_lt a.to_lt) in
        let b = least_below _ _ l (no_larger (start + c) (ℕ_discrete (start + c) place)) a.there in
        record { from_lt = a.from_lt; to_lt = a.to_lt; there = b.0; light = ≤ℤ_trans b.1 a.light }

    least_new : Least m start w' s
    least_new =
        let b = least_below _ _ (low_again (cell_of m s) inside) q.lowered.below_new (below_none q.ok) in
        record { from_lt = ok.from_lt; to_lt = ok.to_lt; there = b.0; light = ≤ℤ_trans b.1 (rw (ap (λ (t : Step). t.weight) q.step) (le_refl s.weight)) }

    put_one : StepsPut n start L w₀ w' (k + 1)
    put_one = record {
      at_most = omega arith;
      scratch = scratch_trans p.scratch (scratch_wider (omega arith) (omega (arith, inside)) q.lowered.scratch);
      stands = λ c l. rw more (stands_again c l (ℕ_discrete c (cell_of m s)));
      least = λ t i. ⊎_elim (λ j. least_old t (p.least t j)) (λ x. subst (Least m start w') (sym x) least_new) (in_either t s E (subst (λ (F : List Step). In t F) more i));
    }

  pub puts_more : (w' : List ℤ) → Put n start (step_numbered_lem L k) w w' → StepsPut n start L w₀ w' (k + 1)
  puts_more w' q = go (step_numbered_lem L k) refl q
    where
      go : (t : Option Step) → step_numbered_lem L k ≡ t → Put n start t w w' → StepsPut n start L w₀ w' (k + 1)
      go None e f = rw f (put_none e)
      go (Some s) e f = put_one s e w' f
