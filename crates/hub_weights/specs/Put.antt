-- The weights of steps put into the rows, where they are lower than what stands there.
use Rattle.std.specs.Prelude.{◌≡◌, refl, ◌⊎◌, Bool, true, false, List, [], ◌∷◌, ◌++◌, ℕ, zero, suc, ◌+◌, ◌*◌, ◌≤◌, ◌<◌, ℤ, pos, length, None, Option, Some}
use Rattle.std.proofs.Common.{sym, ap, subst, ◌∙◌, inl, inr, ⊎_elim, mul-le-mul_right, arith}
use Rattle.std.proofs.Math.Decide.{ℕ_discrete}
use Rattle.integers.specs.Integer.{◌⩽◌, Within}
use Rattle.integers.proofs.Linear.{ints}
use Rattle.integers.specs.Laws.{never}
use Rattle.lines.specs.declared.Line.{Line}
use Rattle.lines.specs.Limits.{max_variables}
use Rattle.lines.specs.Line.{number, line_count, lines_of}
use Rattle.lines.specs.Valid.{all_ok}
use Rattle.steps.specs.declared.Step.{Step}
use Rattle.steps.specs.Point.{opposite}
use Rattle.steps.specs.Step.{max_weight, step_numbered_lem, steps_of, named}
use Rattle.theory_walks.specs.Distance.{some, le_refl, le_trans}
use Rattle.theory_walks.specs.Row.{In, some_is}
use Rattle.theory_walks.specs.Size.{WithinWeights}
use Rattle.theory_walks.specs.Graph.{in_left, in_right, weights_small}
use Rattle.theory_walks.specs.Wide.{same_point, same_column}
use Rattle.theory_inserting.specs.Members.{Among, in_either}
use Rattle.theory_hub.specs.Hub.{hub_points, target, own_row, weight_rows, Weighs}
use Rattle.decide_rows.specs.Numbers.{steps_before, before_zero, before_more, before_all}
use Rattle.decide_rows.specs.Read.{no_walk_lem, distance_of, of_none, of_some}
use Rattle.engine_packed_steps.specs.Scratch.{Scratch, scratch_none, scratch_trans, scratch_wider}
use Rattle.engine_closed_walk.specs.Filled.{Filled}
use Rattle.hub_weights.specs.Weights.{weights_end, weights_in, WeightsReady, WeightsLaid}
use Rattle.hub_weights.specs.Lowered.{Lowered, lowered_other, lowered_no_more}

-- ---- steps that a list with one hub may have
pub record Placed (from to : ℕ) : Type 0 where
  pub proper : from ≡ to → ⊥
  pub row : (from < hub_points) ⊎ ((k : ℕ) × (k < weight_rows) × (to ≡ target k from))

-- the rows of the steps to the hub
pub hub_target : (q p : ℕ) → q < hub_points → q ≡ target q p
hub_target zero p h = refl
hub_target (suc zero) p h = refl
hub_target (suc (suc q)) p h = absurd (omega arith)

module _ {from to : ℕ} (d : from ≡ to → ⊥) where
  pub placed_from : from < hub_points → Placed from to
  placed_from h = record { proper = d; row = inl h }

  pub placed_to : to < hub_points → Placed from to
  placed_to h = record { proper = d; row = inr (to, omega (arith, h), hub_target to from h) }

  pub placed_own : to ≡ opposite from → Placed from to
  placed_own e = record { proper = d; row = inr (own_row, omega arith, e) }

-- ---- numbers of the rows are lowered, to weights of steps of F
abbrev pub Taken : List Step → ℕ → ℕ → ℤ → Type 0
Taken F k p z = (t : Step) × In t F × (t.from ≡ p) × (t.to ≡ target k p) × (t.weight ≡ z)

pub record Lowers (size : ℕ) (F : List Step) (w w' : List ℤ) : Type 0 where
  pub scratch : Scratch 0 (weight_rows * size) w w'
  pub no_more : (i : ℕ) → number w' i ⩽ number w i
  pub taken : (k p : ℕ) → k < weight_rows → p < size → (number w' (k * size + p) ≡ number w (k * size + p)) ⊎ Taken F k p (number w' (k * size + p))

pub lowers_none : (size : ℕ) (F : List Step) (w : List ℤ) → Lowers size F w w
lowers_none size F w = record { scratch = scratch_none 0 (weight_rows * size) w; no_more = λ i. le_refl _; taken = λ k p hk hp. inl refl }

pub lowers_trans : {size : ℕ} {F : List Step} {w w' w'' : List ℤ} → Lowers size F w w' → Lowers size F w' w'' → Lowers size F w w''
lowers_trans {size} {F} {w} {w'} {w''} a b = record {
  scratch = scratch_trans a.scratch b.scratch;
  no_more = λ i. le_trans (b.no_more i) (a.no_more i);
  taken = λ k p hk hp. either k p (b.taken k p hk hp) (a.taken k p hk hp);
}
  where
    either : (k p : ℕ)
        → (number w'' (k * size + p) ≡ number w' (k * size + p)) ⊎ Taken F k p (number w'' (k * size + p))
        → (number w' (k * size + p) ≡ number w (k * size + p)) ⊎ Taken F k p (number w' (k * size + p))
        → (number w'' (k * size + p) ≡ number w (k * size + p)) ⊎ Taken F k p (number w'' (k * size + p))
    either k p (inr t) _ = inr t
    either k p (inl e) (inl f) = inl (e ∙ f)
    either k p (inl e) (inr t) = inr (subst (Taken F k p) (sym e) t)

lowers_more : {size : ℕ} {F G : List Step} {w w' : List ℤ} → Among F G → Lowers size F w w' → Lowers size G w w'
lowers_more {size} {F} {G} {w} {w'} m a = record { scratch = a.scratch; no_more = a.no_more; taken = λ k p hk hp. either k p (a.taken k p hk hp) }
  where
    either : (k p : ℕ)
        → (number w' (k * size + p) ≡ number w (k * size + p)) ⊎ Taken F k p (number w' (k * size + p))
        → (number w' (k * size + p) ≡ number w (k * size + p)) ⊎ Taken G k p (number w' (k * size + p))
    either k p (inl e) = inl e
    either k p (inr (t, i, from, to, weight)) = inr (t, m t i, from, to, weight)

pub row_end : (size k : ℕ) → k < weight_rows → k * size + size ≤ weight_rows * size
row_end size k h = omega (arith, mul-le-mul_right size h)

-- one number, in a row that the step t has
pub lowers_at : {size : ℕ} {t : Step} {w w' : List ℤ} (k : ℕ) → k < weight_rows → t.from < size → t.to ≡ target k t.from → Lowered (k * size + t.from) t.weight w w' → Lowers size (t ∷ []) w w'
lowers_at {size} {t} {w} {w'} k hk hf e l = record {
  scratch = scratch_wider (omega arith) (omega (arith, row_end size k hk, hf)) l.scratch;
  no_more = lowered_no_more l;
  taken = λ j p hj hp. go j p hp (ℕ_discrete (j * size + p) (k * size + t.from));
}
  where
    go : (j p : ℕ) → p < size → Dec (j * size + p ≡ k * size + t.from) → (number w' (j * size + p) ≡ number w (j * size + p)) ⊎ Taken (t ∷ []) j p (number w' (j * size + p))
    go j p hp (no d) = inl (lowered_other l (j * size + p) d)
    go j p hp (yes q) =
        let a : j ≡ k = same_point size p t.from j k hp hf q in
        let b : p ≡ t.from = same_column size p t.from j k hp hf q in
        rw (a, b) (⊎_elim (λ x. inl x) (λ x. inr (t, inl refl, refl, e, sym x)) l.one)

-- ---- all steps of F are put
-- a step's weight is not below what stands in its rows
abbrev pub Under : ℕ → List ℤ → Step → Type 0
Under size w t = (k : ℕ) → k < weight_rows → t.to ≡ target k t.from → number w (k * size + t.from) ⩽ t.weight

pub record StepsPut (size : ℕ) (F : List Step) (w w' : List ℤ) : Type 0 where
  pub lowers : Lowers size F w w'
  pub placed : (t : Step) → In t F → Placed t.from t.to
  pub under : (t : Step) → In t F → Under size w' t

pub put_none : (size : ℕ) (w : List ℤ) → StepsPut size [] w w
put_none size w = record { lowers = lowers_none size [] w; placed = λ t i. absurd i; under = λ t i. absurd i }

pub put_append : {size : ℕ} {F G : List Step} {w w' w'' : List ℤ} → StepsPut size F w w' → StepsPut size G w' w'' → StepsPut size (F ++ G) w w''
put_append {size} {F} {G} {w} {w'} {w''} a b = record {
  lowers = lowers_trans (lowers_more (λ t i. in_left t F G i) a.lowers) (lowers_more (λ t i. in_right t F G i) b.lowers);
  placed = λ t i. ⊎_elim (a.placed t) (b.placed t) (in_either F G t i);
  under = λ t i. ⊎_elim (λ j k hk e. le_trans (b.lowers.no_more _) (a.under t j k hk e)) (b.under t) (in_either F G t i);
}

-- ---- one step
pub record StepReady (size : ℕ) (t : Step) (w : List ℤ) : Type 0 where
  pub few : size ≤ 2 * max_variables
  pub from_lt : t.from < size
  pub to_lt : t.to < size
  pub light : Within max_weight t.weight
  pub placed : Placed t.from t.to
  pub room : weight_rows * size ≤ length w

-- first the row of the steps to the hub, then that of the steps to the opposite
pub step_put : {size : ℕ} {t : Step} {w w₁ w₂ : List ℤ} → Placed t.from t.to
    → Lowers size (t ∷ []) w w₁ → (t.to < hub_points → number w₁ (t.to * size + t.from) ⩽ t.weight)
    → Lowers size (t ∷ []) w₁ w₂ → (t.to ≡ opposite t.from → number w₂ (own_row * size + t.from) ⩽ t.weight)
    → StepsPut size (t ∷ []) w w₂
step_put {size} {t} {w} {w₁} {w₂} p a hub b own = record {
  lowers = lowers_trans a b;
  placed = λ s i. only (λ x. Placed x.from x.to) p s i;
  under = λ s i. only (Under size w₂) all s i;
}
  where
    only : (P : Step → Type 0) → P t → (s : Step) → In s (t ∷ []) → P s
    only P h s (inl e) = subst P (sym e) h
    only P h s (inr i) = absurd i

    to_hub : (k : ℕ) → k < hub_points → t.to ≡ k → number w₂ (k * size + t.from) ⩽ t.weight
    to_hub k h e = le_trans (b.no_more _) (rw e at (hub (omega (arith, e, h))))

    all : Under size w₂ t
    all zero h e = to_hub 0 (omega arith) e
    all (suc zero) h e = to_hub 1 (omega arith) e
    all (suc (suc zero)) h e = own e
    all (suc (suc (suc k))) h e = absurd (omega arith)

-- ---- the loop, and whether it has come to an end
pub record Puts (n : ℕ) (F : List Step) (w w' : List ℤ) (r : Bool) : Type 0 where
  pub scratch : Scratch 0 (weights_end n) w w'
  pub put : r ≡ true → StepsPut (2 * n) F w w'

pub puts_not : (n : ℕ) (F : List Step) {w w' : List ℤ} → Scratch 0 (weights_end n) w w' → Puts n F w w' false
puts_not n F s = record { scratch = s; put = λ e. never (cc) }

pub puts_all : {n : ℕ} {F : List Step} {w w' : List ℤ} → StepsPut (2 * n) F w w' → Puts n F w w' true
puts_all p = record { scratch = p.lowers.scratch; put = λ _. p }

-- by what a number was found to name
pub puts_found : {n : ℕ} {s : Option Step} {t : Step} {w w' : List ℤ} → s ≡ Some t → StepsPut (2 * n) (t ∷ []) w w' → Puts n (named s) w w' true
puts_found {n} {s} {t} {w} {w'} e p = subst (λ (x : Option Step). Puts n (named x) w w' true) (sym e) (puts_all p)

pub puts_nothing : {n : ℕ} {s : Option Step} {w : List ℤ} → s ≡ None → Puts n (named s) w w true
puts_nothing {n} {s} {w} e = subst (λ (x : Option Step). Puts n (named x) w w true) (sym e) (puts_all (put_none (2 * n) w))

-- after the steps with the first k numbers
pub record Going (n : ℕ) (L w w' : List ℤ) (k : ℕ) : Type 0 where
  pub count : k ≤ 2 * line_count L
  pub put : StepsPut (2 * n) (steps_before L k) w w'

pub going_start : (n : ℕ) (L w : List ℤ) → Going n L w w 0
going_start n L w = record { count = omega arith; put = subst (λ (F : List Step). StepsPut (2 * n) F w w) (sym (before_zero L)) (put_none (2 * n) w) }

pub going_more : {n : ℕ} {L w w' w'' : List ℤ} {k : ℕ} → Going n L w w' k → k < 2 * line_count L → StepsPut (2 * n) (named (step_numbered_lem L k)) w' w'' → Going n L w w'' (k + 1)
going_more {n} {L} {w} {w'} {w''} {k} g h p = record { count = omega (arith, h); put = subst (λ (F : List Step). StepsPut (2 * n) F w w'') (sym (before_more L k)) (put_append g.put p) }

pub going_end : {n : ℕ} {L w w' : List ℤ} {k : ℕ} → Going n L w w' k → 2 * line_count L ≤ k → Puts n (steps_of (lines_of L)) w w' true
going_end {n} {L} {w} {w'} {k} g h =
    let e : k ≡ 2 * line_count L = omega (arith, g.count, h) in
    puts_all (subst (λ (F : List Step). StepsPut (2 * n) F w w') (ap (steps_before L) e ∙ before_all L) g.put)

-- ---- all of it, from rows with no weight on
not_far : (x z : ℤ) → z ⩽ pos max_weight → x ⩽ z → x ≡ no_walk_lem → ⊥
not_far x z = simp ints (omega arith)

is_some : (x z : ℤ) → Within max_weight z → x ⩽ z → distance_of x ≡ some x
is_some x z s h = of_some x (not_far x z s.high h)

module _ (n : ℕ) {ls : List Line} {w w' : List ℤ} (small : WithinWeights max_weight (steps_of ls)) (empty : (i : ℕ) → i < weights_end n → number w i ≡ no_walk_lem) (p : StepsPut (2 * n) (steps_of ls) w w') where
  weighs_put : Weighs n ls (weights_in n w')
  weighs_put = record {
    proper = λ t i. (p.placed t i).proper;
    placed = λ t i. (p.placed t i).row;
    least = λ t i k hk e. rw (is_some _ _ (small t i) (p.under t i k hk e)) (record { le = p.under t i k hk e });
    taken = λ k q hk hq z e. go k q hk hq z e (p.lowers.taken k q hk hq);
  }
    where
      go : (k q : ℕ) → k < weight_rows → q < 2 * n → (z : ℤ) → weights_in n w' k q ≡ some z
          → (number w' (k * (2 * n) + q) ≡ number w (k * (2 * n) + q)) ⊎ Taken (steps_of ls) k q (number w' (k * (2 * n) + q))
          → Taken (steps_of ls) k q z
      go k q hk hq z e (inl f) =
          let g = of_none (number w' (k * (2 * n) + q)) (f ∙ empty (k * (2 * n) + q) (omega (arith, row_end (2 * n) k hk, hq))) in
          never (cc (sym g ∙ e))
      go k q hk hq z e (inr (t, i, a, b, c)) =
          let g = is_some (number w' (k * (2 * n) + q)) t.weight (small t i) (rw c (le_refl _)) in
          (t, i, a, b, c ∙ some_is (sym g ∙ e))

pub weights_laid : {n : ℕ} {L w w₁ w₂ : List ℤ} {r : Bool} → WeightsReady n L w → Filled 0 (weights_end n) no_walk_lem (weights_end n) w w₁ → Puts n (steps_of (lines_of L)) w₁ w₂ r → WeightsLaid n L w w₂ r
weights_laid {n} {L} a f p = record {
  scratch = scratch_trans f.scratch p.scratch;
  weighs = λ e. weighs_put n (weights_small n (lines_of L) (all_ok n L a.valid.lines)) (λ i h. f.are i (omega arith) h) (p.put e);
}
