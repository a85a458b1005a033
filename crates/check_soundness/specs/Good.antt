-- The other way round: numbers that name the steps of a walk keep the progress good.
use Rattle.std.specs.Prelude.{◌≡◌, Bool, not, ◌&&◌, ◌||◌, List, [], ◌∷◌, ℕ, zero, suc, ◌+◌, ◌-◌, ◌<◌, ◌≤◌, ℤ, length, Some}
use Rattle.std.proofs.Math.Path.{refl, ap}
use Rattle.std.proofs.Common.{sym, ◌∙◌, arith}
use Rattle.std.proofs.Math.Bool.{true, false}
use borrow.Author.Tests.{eq-eqb, eqb-true, eqb-false}
use Rattle.std.proofs.Math.Dec.{eqb}
use Rattle.integers.specs.Laws.{never, both_true}
use Rattle.steps.specs.declared.Step.{Step}
use Rattle.steps.specs.Point.{opposite}
use Rattle.steps.specs.Step.{step_numbered_lem}
use Rattle.steps.specs.Walk.{Path, Names}
use Rattle.check_refutation.specs.declared.Progress.{Progress}
use Rattle.check_refutation.specs.Small.{advance_read}
use Rattle.check_refutation.specs.Progress.{head_size, joins, turns, along, walk_on, advance, run}
use Rattle.check_soundness.specs.Run.{body_same, advance_walk, end_after, left, along_u, along_here, along_first_u, Headed}

or_left : (a b : Bool) → a ≡ true → (a || b) ≡ true
or_left a b e = ap (λ (t : Bool). t || b) e

or_right : (a b : Bool) → b ≡ true → (a || b) ≡ true
or_right true b e = refl
or_right false b e = e

pub joins_here : (s : Progress) (from : ℕ) → s.here ≡ from → joins s from ≡ true
unfolding joins
joins_here s from e = or_right (eqb s.read head_size) _ (eq-eqb from s.here (sym e))

pub joins_first : (s : Progress) (from : ℕ) → s.read ≡ head_size → joins s from ≡ true
unfolding joins
joins_first s from e = or_left _ (eqb from s.here) (eq-eqb s.read head_size e)

module _ (s : Progress) (u to : ℕ) where
  -- the turn is right where it has to be
  turns_ok : (s.kind ≡ 2 → s.read + 1 ≡ head_size + s.p → to ≡ opposite u) → turns s u to ≡ true
  unfolding turns
  turns_ok h = go (eqb s.kind 2) (eqb (s.read + 1) (head_size + s.p)) refl refl
    where
      go : (a b : Bool) → eqb s.kind 2 ≡ a → eqb (s.read + 1) (head_size + s.p) ≡ b → (not (a && b) || eqb to (opposite u)) ≡ true
      go true true x y = eq-eqb to (opposite u) (h (eqb-true _ _ x) (eqb-true _ _ y))
      go true false x y = refl
      go false b x y = refl

  -- and where it is wrong
  pub turns_wrong : turns s u to ≡ false → (s.kind ≡ 2) × (s.read + 1 ≡ head_size + s.p) × (to ≡ opposite u → ⊥)
  unfolding turns
  turns_wrong = go (eqb s.kind 2) (eqb (s.read + 1) (head_size + s.p)) refl refl
    where
      go : (a b : Bool) → eqb s.kind 2 ≡ a → eqb (s.read + 1) (head_size + s.p) ≡ b → (not (a && b) || eqb to (opposite u)) ≡ false
          → (s.kind ≡ 2) × (s.read + 1 ≡ head_size + s.p) × (to ≡ opposite u → ⊥)
      go true true x y e = (eqb-true _ _ x, eqb-true _ _ y, eqb-false _ _ e)
      go true false x y e = never (cc)
      go false b x y e = never (cc)

module _ (L : List ℤ) (s : Progress) (r : ℕ) (t : Step) (h : head_size ≤ s.read) (k : s.kind ≡ 3 → ⊥) (named : step_numbered_lem L r ≡ Some t) where
  is_along : advance L s r ≡ along s t
  is_along = advance_walk L s r h k ∙ ap (walk_on s) named

  pub good_along : s.good ≡ true → joins s t.from ≡ true → turns s (along s t).u t.to ≡ true → (advance L s r).good ≡ true
  unfolding along
  good_along g j w = ap (λ (y : Progress). y.good) is_along ∙ both_true _ _ g (both_true _ _ j w)

-- ---- a walk that goes on
pub stays_good : (L : List ℤ) (n : ℕ) (s : Progress) (ks : List ℕ) (ts : List Step) (v : ℕ) → left s ≡ n → head_size < s.read → (s.kind ≡ 3 → ⊥) → s.good ≡ true
    → Names L ks ts → Path s.here ts v → (s.kind ≡ 2 → 0 < n → n ≤ length ts → end_after n s.here ts ≡ opposite s.u) → (run L s ks).good ≡ true
unfolding run
stays_good L n s [] [] v e h k g names path turn = g
stays_good L n s [] (t ∷ ts) v e h k g names path turn = absurd names
stays_good L n s (r ∷ ks) [] v e h k g names path turn = absurd names
stays_good L n s (r ∷ ks) (t ∷ ts) v e h k g names path turn =
    let y = advance L s r in
    let l : head_size ≤ s.read = omega arith in
    let i = is_along L s r t l k names.0 in
    let same = body_same L s r l in
    let count = advance_read L s r in
    let here : y.here ≡ t.to = ap (λ (x : Progress). x.here) i ∙ along_here s t in
    let u : y.u ≡ s.u = ap (λ (x : Progress). x.u) i ∙ along_u s t h in
    let good : y.good ≡ true = good_along L s r t l k names.0 g (joins_here s t.from path.0) (turns_ok s (along s t).u t.to (λ a b. turn_here n e turn a b ∙ ap opposite (sym (along_u s t h)))) in
    stays_good L (n - 1) y ks ts v (omega (arith, same.p)) (omega arith) (λ z. k (sym same.kind ∙ z)) good names.1 (rw here path.1) (λ a b c. rw (here, u) (turn_next n turn (sym same.kind ∙ a) b c))
  where
    turn_here : (n : ℕ) → left s ≡ n → (s.kind ≡ 2 → 0 < n → n ≤ length (t ∷ ts) → end_after n s.here (t ∷ ts) ≡ opposite s.u) → s.kind ≡ 2 → s.read + 1 ≡ head_size + s.p → t.to ≡ opposite s.u
    turn_here zero e f a b = absurd (omega arith)
    turn_here (suc zero) e f a b = f a (omega arith) (omega arith)
    turn_here (suc (suc n)) e f a b = absurd (omega arith)

    turn_next : (n : ℕ) → (s.kind ≡ 2 → 0 < n → n ≤ length (t ∷ ts) → end_after n s.here (t ∷ ts) ≡ opposite s.u) → s.kind ≡ 2 → 0 < n - 1 → n - 1 ≤ length ts → end_after (n - 1) t.to ts ≡ opposite s.u
    turn_next zero f a b c = absurd (omega arith)
    turn_next (suc n) f a b c = let e : suc n - 1 ≡ n = omega arith in rw e (f a (omega arith) (omega arith))

-- ---- and from the first step on
pub body_good : (L : List ℤ) (s : Progress) (ks : List ℕ) (ts : List Step) (u v : ℕ) → Headed s → (s.kind ≡ 3 → ⊥) → s.good ≡ true → 0 < length ks
    → Names L ks ts → Path u ts v → (s.kind ≡ 2 → s.p ≤ length ts → end_after s.p u ts ≡ opposite u) → (run L s ks).good ≡ true
unfolding run
body_good L s [] ts u v h k g l names path turn = absurd (omega arith)
body_good L s (r ∷ ks) [] u v h k g l names path turn = absurd names
body_good L s (r ∷ ks) (t ∷ ts) u v h k g l names path turn =
    let y = advance L s r in
    let b : head_size ≤ s.read = omega (arith, h.read) in
    let i = is_along L s r t b k names.0 in
    let same = body_same L s r b in
    let count = advance_read L s r in
    let here : y.here ≡ t.to = ap (λ (x : Progress). x.here) i ∙ along_here s t in
    let at : (along s t).u ≡ t.from = along_first_u s t h.read in
    let good : y.good ≡ true = good_along L s r t b k names.0 g (joins_first s t.from h.read) (turns_ok s (along s t).u t.to (λ a c. turn_here s.p refl turn a c ∙ ap opposite (path.0 ∙ sym at))) in
    stays_good L (s.p - 1) y ks ts v (omega (arith, h.read, same.p)) (omega (arith, h.read)) (λ z. k (sym same.kind ∙ z)) good names.1 (rw here path.1)
    (λ a b c. rw (here, ap (λ (x : Progress). x.u) i, at, ← path.0) (turn_next s.p turn (sym same.kind ∙ a) b c))
  where
    turn_here : (p : ℕ) → s.p ≡ p → (s.kind ≡ 2 → p ≤ length (t ∷ ts) → end_after p u (t ∷ ts) ≡ opposite u) → s.kind ≡ 2 → s.read + 1 ≡ head_size + s.p → t.to ≡ opposite u
    turn_here zero e f a b = absurd (omega (arith, h.read))
    turn_here (suc zero) e f a b = f a (omega arith)
    turn_here (suc (suc p)) e f a b = absurd (omega (arith, h.read))

    turn_next : (p : ℕ) → (s.kind ≡ 2 → p ≤ length (t ∷ ts) → end_after p u (t ∷ ts) ≡ opposite u) → s.kind ≡ 2 → 0 < p - 1 → p - 1 ≤ length ts → end_after (p - 1) t.to ts ≡ opposite u
    turn_next zero f a b c = absurd (omega arith)
    turn_next (suc p) f a b c = let e : suc p - 1 ≡ p = omega arith in rw e (f a (omega arith))
