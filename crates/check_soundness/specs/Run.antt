-- How the checker's progress runs: what stays, and what a run that stays good says of the steps that it read.
use Rattle.std.specs.Prelude.{◌≡◌, Bool, true, false, ◌&&◌, ◌||◌, List, [], ◌∷◌, ℕ, zero, suc, ◌+◌, ◌-◌, ◌<◌, ◌≤◌, T, ltb, ℤ, pos, ◌+ℤ◌, length, take, drop, None, Option, Some}
use Rattle.std.proofs.Math.Path.{refl, sym}
use Rattle.std.proofs.Common.{ap, subst, ◌∙◌}
use native.Mathlib.Omega.{arith}
use borrow.Author.Tests.{lt-ltb, le-ltb, eq-eqb, ne_eqb, eqb-true}
use Rattle.std.proofs.Math.Dec.{eqb}
use Rattle.std.proofs.Math.Seq.{take-nil, drop-nil}
use Rattle.integers.proofs.Linear.{ints}
use Rattle.integers.specs.Laws.{and_true}
use Rattle.steps.specs.declared.Step.{Step}
use Rattle.steps.specs.Point.{opposite}
use Rattle.steps.specs.Step.{step_numbered_lem}
use Rattle.steps.specs.Walk.{Path, total, Names}
use Rattle.check_refutation.specs.declared.Progress.{Progress}
use Rattle.check_refutation.specs.Small.{either, advance_read}
use Rattle.check_refutation.specs.Progress.{head_size, head_on, joins, turns, along, walk_on, advance, run}

pub no_true : false ≡ true → ⊥
no_true e = subst T (sym e) tt

-- ---- whatever is read, what was not good stays so
From : Progress → Progress → Type 0
From s x = x.good ≡ true → s.good ≡ true

pub advance_good : (L : List ℤ) (s : Progress) (r : ℕ) → (advance L s r).good ≡ true → s.good ≡ true
unfolding advance From head_on along
advance_good L s r = either (From s) (ltb s.read head_size) head (either (From s) (eqb s.kind 3) (λ e. (and_true s.good _ e).0) (walk (step_numbered_lem L r)))
  where
    head : From s (head_on s r)
    head = either (From s) (eqb s.read 0) (λ e. e) (either (From s) (eqb s.read 1) (λ e. e) (λ e. (and_true s.good _ e).0))

    walk : (t : Option Step) → From s (walk_on s t)
    walk (Some t) = λ e. (and_true s.good _ e).0
    walk None = λ e. (and_true s.good _ e).0

pub run_good : (L : List ℤ) (s : Progress) (R : List ℕ) → (run L s R).good ≡ true → s.good ≡ true
unfolding run
run_good L s [] e = e
run_good L s (r ∷ R) e = advance_good L s r (run_good L (advance L s r) R e)

-- ---- after the head
pub record Same (s x : Progress) : Type 0 where
  pub kind : x.kind ≡ s.kind
  pub p : x.p ≡ s.p
  pub q : x.q ≡ s.q

pub body_same : (L : List ℤ) (s : Progress) (r : ℕ) → head_size ≤ s.read → Same s (advance L s r)
unfolding advance along
body_same L s r h =
    rw (le-ltb s.read head_size h) (either (Same s) (eqb s.kind 3) (record { kind = refl; p = refl; q = refl }) (walk (step_numbered_lem L r)))
  where
    walk : (t : Option Step) → Same s (walk_on s t)
    walk (Some t) = record { kind = refl; p = refl; q = refl }
    walk None = record { kind = refl; p = refl; q = refl }

pub run_same : (L : List ℤ) (s : Progress) (R : List ℕ) → head_size ≤ s.read → Same s (run L s R)
unfolding run
run_same L s [] h = record { kind = refl; p = refl; q = refl }
run_same L s (r ∷ R) h =
    let a = body_same L s r h in
    let b = run_same L (advance L s r) R (omega (arith, advance_read L s r)) in
    record { kind = b.kind ∙ a.kind; p = b.p ∙ a.p; q = b.q ∙ a.q }

-- a number of a walk
pub advance_walk : (L : List ℤ) (s : Progress) (r : ℕ) → head_size ≤ s.read → (s.kind ≡ 3 → ⊥) → advance L s r ≡ walk_on s (step_numbered_lem L r)
unfolding advance
advance_walk L s r h k = rw (le-ltb s.read head_size h, ne_eqb s.kind 3 k)

pub record Stepped (L : List ℤ) (s : Progress) (r : ℕ) : Type 0 where
  pub step : Step
  pub named : step_numbered_lem L r ≡ Some step
  pub is : advance L s r ≡ along s step
  pub joined : joins s step.from ≡ true
  pub turned : turns s (along s step).u step.to ≡ true

-- where a number of a walk is good, it names a step that joins and turns
pub good_step : (L : List ℤ) (s : Progress) (r : ℕ) → head_size ≤ s.read → (s.kind ≡ 3 → ⊥) → (advance L s r).good ≡ true → Stepped L s r
unfolding along
good_step L s r h k g = go (step_numbered_lem L r) refl
  where
    go : (t : Option Step) → step_numbered_lem L r ≡ t → Stepped L s r
    go (Some t) e =
        let i = advance_walk L s r h k ∙ ap (walk_on s) e in
        let a = and_true s.good (joins s t.from && turns s (along s t).u t.to) (ap (λ (x : Progress). x.good) (sym i) ∙ g) in
        let b = and_true (joins s t.from) (turns s (along s t).u t.to) a.1 in
        record { step = t; named = e; is = i; joined = b.0; turned = b.1 }
    go None e = absurd (no_true (and_true s.good false (ap (λ (x : Progress). x.good) (sym (advance_walk L s r h k ∙ ap (walk_on s) e)) ∙ g)).1)

-- ---- the walk that a good run follows
-- the point after the first n steps
abbrev pub end_after : ℕ → ℕ → List Step → ℕ
end_after zero u ts = u
end_after (suc n) u [] = u
end_after (suc n) u (t ∷ ts) = end_after n t.to ts

-- the first steps of the first walk are n; their weights go to its sum, the others' to the second
pub record Onward (L : List ℤ) (n : ℕ) (s : Progress) (ks : List ℕ) (f : Progress) : Type 0 where
  pub steps : List Step
  pub named : Names L ks steps
  pub path : Path s.here steps f.here
  pub u : f.u ≡ s.u
  pub first : f.first ≡ s.first +ℤ total (take n steps)
  pub second : f.second ≡ s.second +ℤ total (drop n steps)
  pub turn : s.kind ≡ 2 → 0 < n → n ≤ length steps → end_after n s.here steps ≡ opposite s.u

-- of the first walk are left
abbrev pub left : Progress → ℕ
left s = (head_size + s.p) - s.read

module _ (s : Progress) (t : Step) where
  -- a step that is not the first starts where the walk is
  pub joined_here : head_size < s.read → joins s t.from ≡ true → s.here ≡ t.from
  unfolding joins
  joined_here h e = sym (eqb-true t.from s.here (ap (λ (b : Bool). b || eqb t.from s.here) (sym (ne_eqb s.read head_size (λ q. clash _ q h))) ∙ e))
    where
      clash : (n : ℕ) → n ≡ head_size → head_size < n → ⊥
      clash n q l = omega arith

  pub along_u : head_size < s.read → (along s t).u ≡ s.u
  unfolding along
  along_u h = rw (ne_eqb s.read head_size (λ q. clash _ q h))
    where
      clash : (n : ℕ) → n ≡ head_size → head_size < n → ⊥
      clash n q l = omega arith

  pub along_here : (along s t).here ≡ t.to
  unfolding along
  along_here = refl

  -- the last step of the first walk turns at the opposite of u
  pub turned_at : (u : ℕ) → s.kind ≡ 2 → s.read + 1 ≡ head_size + s.p → turns s u t.to ≡ true → t.to ≡ opposite u
  unfolding turns
  turned_at u k r e = eqb-true t.to (opposite u) (rw (eq-eqb _ _ k, eq-eqb _ _ r) at e)

  along_first : (n : ℕ) → left s ≡ suc n → ((along s t).first ≡ s.first +ℤ t.weight) × ((along s t).second ≡ s.second +ℤ pos 0)
  unfolding along
  along_first n e = let h : s.read < head_size + s.p = omega arith in rw (lt-ltb s.read (head_size + s.p) h) (refl, refl)

  along_second : left s ≡ 0 → ((along s t).first ≡ s.first +ℤ pos 0) × ((along s t).second ≡ s.second +ℤ t.weight)
  unfolding along
  along_second e = let h : head_size + s.p ≤ s.read = omega arith in rw (le-ltb s.read (head_size + s.p) h) (refl, refl)

plus_zero : (x : ℤ) → x +ℤ pos 0 ≡ x
plus_zero x = simp ints (omega arith)

plus_none : (x z : ℤ) → (x +ℤ pos 0) +ℤ z ≡ x +ℤ z
plus_none x z = simp ints (omega arith)

regroup : (x y z : ℤ) → (x +ℤ y) +ℤ z ≡ x +ℤ (y +ℤ z)
regroup x y z = simp ints (omega arith)

-- one step before a walk
module _ (L : List ℤ) (s : Progress) (r : ℕ) (ks : List ℕ) (f : Progress) (far : head_size < s.read) (st : Stepped L s r) where
  abbrev t : Step
  t = st.step

  abbrev x : Progress
  x = advance L s r

  here_is : x.here ≡ t.to
  here_is = ap (λ (y : Progress). y.here) st.is ∙ along_here s t

  u_is : x.u ≡ s.u
  u_is = ap (λ (y : Progress). y.u) st.is ∙ along_u s t far

  field : {A : Type 0} (g : Progress → A) (a : A) → g (along s t) ≡ a → g x ≡ a
  field g a e = ap g st.is ∙ e

  path_before : (ts : List Step) → Path x.here ts f.here → Path s.here (t ∷ ts) f.here
  path_before ts p = (joined_here s t far st.joined, rw here_is at p)

  before_second : left s ≡ 0 → Onward L 0 x ks f → Onward L 0 s (r ∷ ks) f
  before_second e o =
      let w = along_second s t e in
      record {
        steps = t ∷ o.steps;
        named = (st.named, o.named);
        path = path_before o.steps o.path;
        u = o.u ∙ u_is;
        first = o.first ∙ ap (λ (z : ℤ). z +ℤ pos 0) (field (λ (y : Progress). y.first) _ w.0) ∙ plus_none s.first (pos 0);
        second = o.second ∙ ap (λ (z : ℤ). z +ℤ total o.steps) (field (λ (y : Progress). y.second) _ w.1) ∙ regroup s.second t.weight (total o.steps);
        turn = λ _ a _. absurd (omega arith);
      }

  before_first : (m : ℕ) → left s ≡ suc m → x.kind ≡ s.kind → Onward L m x ks f → Onward L (suc m) s (r ∷ ks) f
  before_first m e same o =
      let w = along_first s t m e in
      record {
        steps = t ∷ o.steps;
        named = (st.named, o.named);
        path = path_before o.steps o.path;
        u = o.u ∙ u_is;
        first = o.first ∙ ap (λ (z : ℤ). z +ℤ total (take m o.steps)) (field (λ (y : Progress). y.first) _ w.0) ∙ regroup s.first t.weight (total (take m o.steps));
        second = o.second ∙ ap (λ (z : ℤ). z +ℤ total (drop m o.steps)) (field (λ (y : Progress). y.second) _ w.1) ∙ plus_none s.second (total (drop m o.steps));
        turn = turning m e o;
      }
    where
      turning : (m : ℕ) → left s ≡ suc m → (o : Onward L m x ks f) → s.kind ≡ 2 → 0 < suc m → suc m ≤ length (t ∷ o.steps) → end_after m t.to o.steps ≡ opposite s.u
      turning zero e o k a b = turned_at s t s.u k (omega arith) (rw (along_u s t far) at st.turned)
      turning (suc m) e o k a b = rw (here_is, u_is) at (o.turn (same ∙ k) (omega arith) (omega arith))

pub onward : (L : List ℤ) (n : ℕ) (s : Progress) (ks : List ℕ) → left s ≡ n → head_size < s.read → (s.kind ≡ 3 → ⊥) → (run L s ks).good ≡ true → Onward L n s ks (run L s ks)
unfolding run
onward L n s [] e h k g =
    record {
      steps = [];
      named = tt;
      path = refl;
      u = refl;
      first = sym (ap (λ (z : List Step). s.first +ℤ total z) (take-nil n) ∙ plus_zero s.first);
      second = sym (ap (λ (z : List Step). s.second +ℤ total z) (drop-nil n) ∙ plus_zero s.second);
      turn = λ _ a b. absurd (omega arith);
    }
onward L n s (r ∷ ks) e h k g =
    let y = advance L s r in
    let same = body_same L s r (omega arith) in
    let count = advance_read L s r in
    go n e (λ m q. onward L m y ks q (omega arith) (λ z. k (sym same.kind ∙ z)) g)
  where
    go : (n : ℕ) → left s ≡ n → ((m : ℕ) → left (advance L s r) ≡ m → Onward L m (advance L s r) ks (run L (advance L s r) ks)) → Onward L n s (r ∷ ks) (run L (advance L s r) ks)
    go zero e rest =
        let st = good_step L s r (omega arith) k (run_good L (advance L s r) ks g) in
        before_second L s r ks _ h st e (rest 0 (omega (arith, (body_same L s r (omega arith)).p, advance_read L s r)))
    go (suc m) e rest =
        let st = good_step L s r (omega arith) k (run_good L (advance L s r) ks g) in
        let same = body_same L s r (omega arith) in
        before_first L s r ks _ h st m e same.kind (rest m (omega (arith, same.p, advance_read L s r)))

-- ---- the whole walk, from the first step on
pub record Body (L : List ℤ) (s : Progress) (ks : List ℕ) (f : Progress) : Type 0 where
  pub steps : List Step
  pub named : Names L ks steps
  pub path : Path f.u steps f.here
  pub first : f.first ≡ total (take s.p steps)
  pub second : f.second ≡ total (drop s.p steps)
  pub turn : s.kind ≡ 2 → s.p ≤ length steps → end_after s.p f.u steps ≡ opposite f.u

-- the head has been read, and nothing else
pub record Headed (s : Progress) : Type 0 where
  pub read : s.read ≡ head_size
  pub some : 0 < s.p
  pub first : s.first ≡ pos 0
  pub second : s.second ≡ pos 0

none_plus : (x z : ℤ) → (pos 0 +ℤ x) +ℤ z ≡ x +ℤ z
none_plus x z = simp ints (omega arith)

zeros_plus : (z : ℤ) → (pos 0 +ℤ pos 0) +ℤ z ≡ z
zeros_plus z = simp ints (omega arith)

pub along_first_u : (s : Progress) (t : Step) → s.read ≡ head_size → (along s t).u ≡ t.from
unfolding along
along_first_u s t e = rw (eq-eqb s.read head_size e)

-- the first step before a walk
module _ (L : List ℤ) (s : Progress) (r : ℕ) (ks : List ℕ) (f : Progress) (h : Headed s) (st : Stepped L s r) where
  first_u : (advance L s r).u ≡ st.step.from
  first_u = ap (λ (y : Progress). y.u) st.is ∙ along_first_u s st.step h.read

  first_here : (advance L s r).here ≡ st.step.to
  first_here = ap (λ (y : Progress). y.here) st.is ∙ along_here s st.step

  first_before : (p : ℕ) → s.p ≡ suc p → (advance L s r).kind ≡ s.kind → Onward L p (advance L s r) ks f → Body L s (r ∷ ks) f
  first_before p e same o =
      let t = st.step in
      let w = along_first s t p (omega (arith, h.read)) in
      let x_first = ap (λ (y : Progress). y.first) st.is ∙ w.0 ∙ ap (λ (z : ℤ). z +ℤ t.weight) h.first in
      let x_second = ap (λ (y : Progress). y.second) st.is ∙ w.1 ∙ ap (λ (z : ℤ). z +ℤ pos 0) h.second in
      record {
        steps = t ∷ o.steps;
        named = (st.named, o.named);
        path = (o.u ∙ first_u, rw first_here at o.path);
        first = o.first ∙ ap (λ (z : ℤ). z +ℤ total (take p o.steps)) x_first ∙ none_plus t.weight (total (take p o.steps)) ∙ ap (λ (n : ℕ). total (take n (t ∷ o.steps))) (sym e);
        second = o.second ∙ ap (λ (z : ℤ). z +ℤ total (drop p o.steps)) x_second ∙ zeros_plus (total (drop p o.steps)) ∙ ap (λ (n : ℕ). total (drop n (t ∷ o.steps))) (sym e);
        turn = λ k n. ap (λ (m : ℕ). end_after m f.u (t ∷ o.steps)) e ∙ turning p e o k (rw e at n) ∙ ap opposite (sym o.u);
      }
    where
      turning : (p : ℕ) → s.p ≡ suc p → (o : Onward L p (advance L s r) ks f) → s.kind ≡ 2 → suc p ≤ length (st.step ∷ o.steps) → end_after p st.step.to o.steps ≡ opposite (advance L s r).u
      turning zero e o k b = turned_at s st.step (advance L s r).u k (omega (arith, h.read)) (rw (← ap (λ (y : Progress). y.u) st.is) at st.turned)
      turning (suc p) e o k b = rw first_here at (o.turn (same ∙ k) (omega arith) (omega arith))

pub body : (L : List ℤ) (s : Progress) (ks : List ℕ) → Headed s → (s.kind ≡ 3 → ⊥) → 0 < length ks → (run L s ks).good ≡ true → Body L s ks (run L s ks)
unfolding run
body L s [] h k l g = absurd (omega arith)
body L s (r ∷ ks) h k l g = go s.p refl h.some
  where
    go : (p : ℕ) → s.p ≡ p → 0 < p → Body L s (r ∷ ks) (run L (advance L s r) ks)
    go zero e l = absurd (omega arith)
    go (suc p) e l =
        let st = good_step L s r (omega (arith, h.read)) k (run_good L (advance L s r) ks g) in
        let same = body_same L s r (omega (arith, h.read)) in
        let count = advance_read L s r in
        first_before L s r ks _ h st p e same.kind
        (onward L p (advance L s r) ks (omega (arith, h.read, same.p, count)) (omega (arith, h.read, count)) (λ z. k (sym same.kind ∙ z)) g)
