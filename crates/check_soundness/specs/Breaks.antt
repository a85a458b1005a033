-- The checker's no names the place where the refutation breaks, and it says no exactly there; whatever is of none of the three kinds breaks, at one place.
--
-- The checker keeps a state, and a fault speaks of the numbers alone. What ties them is `Kept`: as long as the state is good, the points that it holds
-- are those of the first step and of the last one read. So a number that keeps the state good is not wrong, and one that does not is; the rest is that
-- the checker makes its tests in the order of the faults' indices.
use Rattle.std.specs.Prelude.{◌≡◌, refl, ◌⊎◌, ◌↔◌, Bool, true, false, not, cond, eqb, ltb, ℤ, length, get_or, take, drop, None, Ok, Option, Some}
use Rattle.std.proofs.Common.{sym, ◌∙◌, inl, inr, lt-ltb, ltb-true, eqb-true, take-suc, take_all}
use Rattle.std.proofs.Math.Path.{ap, subst}
use mathlib.Core.List.{List, ◌∷◌}
use Prim.Native.Nat.{ℕ, zero, suc, ◌+◌, ◌-◌, ◌<◌, ◌≤◌}
use Rattle.std.proofs.Math.Decide.{dec_lt, ℕ_discrete}
use native.Mathlib.Omega.{arith}
use Rattle.std.proofs.lemmas.Bool.{eqb-false, not-true, not-false}
use Rattle.std.proofs.Math.Seq.{length-take-le}
use Rattle.integers.specs.Laws.{never, and_true, both_true}
use Rattle.lines.specs.Limits.{max_refutation}
use Rattle.lines.specs.Refusal.{validity_of}
use Rattle.steps.specs.declared.Step.{Step}
use Rattle.steps.specs.Point.{opposite}
use Rattle.steps.specs.Step.{step_numbered_lem}
use Rattle.steps.specs.Walk.{total}
use Rattle.check_answers.specs.declared.CheckAnswer.TheVariants.{No}
use Rattle.check_refutation.specs.declared.Progress.{Progress}
use Rattle.check_refutation.specs.Progress.{head_size, counts_ok_lem, joins, turns, along, advance, run, closes, accepts, kind_ok_lem}
use Rattle.check_refutation.specs.Small.{run_read, run_snoc}
use Rattle.check_refutation.specs.Answer.{refutation_answer}
use Rattle.check_soundness.specs.Head.{kind_of, IsKind, Suits, one_walk, two_walks, one_line, suits_kind, suits_some, suits_line, Shape, cut, whole, shape}
use Rattle.check_soundness.specs.Refutes.{FalseStep, Refutes}
use Rattle.check_soundness.specs.BreaksAt.{CountsRight, LengthRight, last_index, step_at, StepWrong, no_step, not_joined, not_opposite, not_closed, low_sum, low_halves, Low, SumsLow, Fault, no_head, bad_kind, bad_counts, bad_length, wrong_step, high_sums, wrong_line, BreaksAt}
use Rattle.check_soundness.specs.Run.{no_true, advance_good, Same, run_same, Stepped, good_step, joined_here, turned_at, along_u, along_here, along_first_u, body}
use Rattle.check_soundness.specs.Good.{joins_here, joins_first, turns_wrong, good_along}
use Rattle.check_soundness.specs.Meaning.{headed, is_headed, cut_no, End, end_of, counts_suit, closes_1, closes_2, closes_3, good_line, names_unique, accepted_end, accepts_exactly}
use Rattle.check_soundness.specs.Place.{FirstWrong, first_wrong, place_in, cut_place, place_is}
use Rattle.check_soundness.specs.Answered.{answered_no}

-- what holds of both choices, each by the test's answer, holds of the choice
either_of : (P : ℕ → Type 0) (b : Bool) {x y : ℕ} → (b ≡ true → P x) → (b ≡ false → P y) → P (cond b x y)
either_of P true h g = h refl
either_of P false h g = g refl

-- the test of a kind and the fact
kind_ok : (k : ℕ) → (kind_ok_lem k ≡ true) ↔ IsKind k
kind_ok k = (
  (λ e. let t = and_true (ltb 0 k) (ltb k 4) e in let a = ltb-true 0 k t.0 in let b = ltb-true k 4 t.1 in (omega arith, omega arith)),
  (λ h. both_true _ _ (lt-ltb 0 k h.0) (lt-ltb k 4 (omega arith))),
)

-- no fault stands before an index, by what is right before it
none_before : (L : List ℤ) (R : List ℕ) → head_size ≤ length R → (i : ℕ) → i ≤ last_index R → (0 < i → IsKind (kind_of R)) → (1 < i → CountsRight R) → (2 < i → LengthRight R)
    → (head_size < i → kind_of R ≡ 3 → ⊥) → ((j : ℕ) → head_size ≤ j → j < i → StepWrong L R j → ⊥) → (j : ℕ) → j < i → Fault L R j → ⊥
none_before L R h i l kind counts size walks steps j b (no_head a) = omega arith
none_before L R h i l kind counts size walks steps j b (bad_kind a) = a (kind b)
none_before L R h i l kind counts size walks steps j b (bad_counts a) = a (counts b)
none_before L R h i l kind counts size walks steps j b (bad_length a) = a (size b)
none_before L R h i l kind counts size walks steps j b (wrong_step n a c w) = steps j a b w
none_before L R h i l kind counts size walks steps j b (high_sums n a) = omega arith
none_before L R h i l kind counts size walks steps j b (wrong_line e a) = walks b e

-- ---- numbers with a whole head
module _ (L : List ℤ) (k p q : ℕ) (S : List ℕ) where
  abbrev W : List ℕ
  W = k ∷ p ∷ q ∷ S

  -- the state after the head and so many step numbers
  abbrev after : ℕ → Progress
  after m = run L (headed k p q) (take m S)

  number : (m : ℕ) → get_or W (head_size + m) 0 ≡ get_or S m 0
  number m = let z : head_size + m ≡ suc (suc (suc m)) = omega arith in ap (λ (i : ℕ). get_or W i 0) z

  next : (m : ℕ) → m < length S → after (suc m) ≡ advance L (after m) (get_or S m 0)
  next m h = ap (run L (headed k p q)) (take-suc S m 0 h) ∙ run_snoc L (headed k p q) (take m S) (get_or S m 0)

  reads : (m : ℕ) → m ≤ length S → (after m).read ≡ head_size + m
  unfolding headed
  reads m h = omega (arith, run_read L (headed k p q) (take m S), length-take-le m S h)

  same : (m : ℕ) → Same (headed k p q) (after m)
  unfolding headed
  same m = run_same L (headed k p q) (take m S) (omega arith)

  good_earlier : (m : ℕ) → m < length S → (after (suc m)).good ≡ true → (after m).good ≡ true
  good_earlier m h g = advance_good L (after m) (get_or S m 0) (ap (λ (x : Progress). x.good) (sym (next m h)) ∙ g)

  -- the state's points: the start of the first step, and the end of the one at an index
  record Kept (m : ℕ) : Type 0 where
    first : Step
    first_named : step_at L W head_size ≡ Some first
    start : (after (suc m)).u ≡ first.from
    last : Step
    last_named : step_at L W (head_size + m) ≡ Some last
    here : (after (suc m)).here ≡ last.to

  -- ---- kinds 1 and 2
  module _ (n : k ≡ 3 → ⊥) where
    not_3 : (m : ℕ) → (after m).kind ≡ 3 → ⊥
    unfolding headed
    not_3 m e = n (sym (same m).kind ∙ e)

    stepped : (m : ℕ) → m < length S → (after (suc m)).good ≡ true → Stepped L (after m) (get_or S m 0)
    stepped m h g = good_step L (after m) (get_or S m 0) (omega (arith, reads m (omega arith))) (not_3 m) (ap (λ (x : Progress). x.good) (sym (next m h)) ∙ g)

    is_along : (m : ℕ) → m < length S → (st : Stepped L (after m) (get_or S m 0)) → after (suc m) ≡ along (after m) st.step
    is_along m h st = next m h ∙ st.is

    names : (m : ℕ) (st : Stepped L (after m) (get_or S m 0)) → step_at L W (head_size + m) ≡ Some st.step
    names m st = ap (step_numbered_lem L) (number m) ∙ st.named

    kept : (m : ℕ) → m < length S → (after (suc m)).good ≡ true → Kept m
    kept zero h g =
        let st = stepped 0 h g in
        let e = is_along 0 h st in
        record {
          first = st.step;
          first_named = names 0 st;
          start = ap (λ (x : Progress). x.u) e ∙ along_first_u (after 0) st.step (reads 0 (omega arith));
          last = st.step;
          last_named = names 0 st;
          here = ap (λ (x : Progress). x.here) e ∙ along_here (after 0) st.step;
        }
    kept (suc m) h g =
        let st = stepped (suc m) h g in
        let e = is_along (suc m) h st in
        let o = kept m (omega arith) (good_earlier (suc m) h g) in
        record {
          first = o.first;
          first_named = o.first_named;
          start = ap (λ (x : Progress). x.u) e ∙ along_u (after (suc m)) st.step (omega (arith, reads (suc m) (omega arith))) ∙ o.start;
          last = st.step;
          last_named = names (suc m) st;
          here = ap (λ (x : Progress). x.here) e ∙ along_here (after (suc m)) st.step;
        }

    -- the step before one, with its index written in either way
    step_before : (m : ℕ) → step_at L W ((head_size + suc m) - 1) ≡ step_at L W (head_size + m)
    step_before m = let z : (head_size + suc m) - 1 ≡ head_size + m = omega arith in ap (step_at L W) z

    -- a number that keeps the state good is not wrong
    right : (m : ℕ) → m < length S → (after (suc m)).good ≡ true → (suc m ≡ length S → (after (suc m)).here ≡ (after (suc m)).u) → StepWrong L W (head_size + m) → ⊥
    unfolding headed
    right m h g c (no_step e) = let o = kept m h g in never (cc)
    right zero h g c (not_joined l s t e f d) = omega arith
    right (suc m) h g c (not_joined l s t e f d) =
        let o = kept m (omega arith) (good_earlier (suc m) h g) in
        let st = stepped (suc m) h g in
        let j = joined_here (after (suc m)) st.step (omega (arith, reads (suc m) (omega arith))) st.joined in
        d (cc (names (suc m) st, step_before m))
    right m h g c (not_opposite a b s t e f d) =
        let o = kept m h g in
        let st = stepped m h g in
        let u = ap (λ (x : Progress). x.u) (is_along m h st) in
        let j = turned_at (after m) st.step (along (after m) st.step).u ((same m).kind ∙ a) (omega (arith, reads m (omega arith), (same m).p)) st.turned in
        d (cc (names m st))
    right m h g c (not_closed b s t e f d) = let o = kept m h g in let j = c (omega arith) in d (cc)

    none_wrong : (m : ℕ) → m ≤ length S → (after m).good ≡ true → (m ≡ length S → (after m).here ≡ (after m).u) → (j : ℕ) → head_size ≤ j → j < head_size + m → StepWrong L W j → ⊥
    none_wrong zero h g c j a b w = omega arith
    none_wrong (suc m) h g c j a b w = go (ℕ_discrete j (head_size + m)) (λ l. none_wrong m (omega arith) (good_earlier m h g) (λ e. absurd (omega arith)) j a l w)
      where
        go : Dec (j ≡ head_size + m) → (j < head_size + m → ⊥) → ⊥
        go (yes e) earlier = right m h g c (subst (StepWrong L W) e w)
        go (no e) earlier = earlier (omega arith)

    -- one that does not is wrong: it names no step, or one that does not join, or that turns at the wrong point
    bad_joint : (m : ℕ) → m < length S → (after m).good ≡ true → (t : Step) → step_at L W (head_size + m) ≡ Some t → joins (after m) t.from ≡ false → StepWrong L W (head_size + m)
    bad_joint zero h g t e x = absurd (no_true (sym x ∙ joins_first (after 0) t.from (reads 0 (omega arith))))
    bad_joint (suc m) h g t e x =
        let o = kept m (omega arith) g in
        not_joined (omega arith) o.last t (step_before m ∙ o.last_named) e (λ j. no_true (sym x ∙ joins_here (after (suc m)) t.from (o.here ∙ j)))

    begun : (m : ℕ) → m < length S → (after m).good ≡ true → (t : Step) → step_at L W (head_size + m) ≡ Some t → (s : Step) × (step_at L W head_size ≡ Some s) × ((along (after m) t).u ≡ s.from)
    begun zero h g t e = (t, e, along_first_u (after 0) t (reads 0 (omega arith)))
    begun (suc m) h g t e =
        let o = kept m (omega arith) g in
        (o.first, o.first_named, along_u (after (suc m)) t (omega (arith, reads (suc m) (omega arith))) ∙ o.start)

    bad_turn : (m : ℕ) → m < length S → (after m).good ≡ true → (t : Step) → step_at L W (head_size + m) ≡ Some t → turns (after m) (along (after m) t).u t.to ≡ false → StepWrong L W (head_size + m)
    unfolding headed
    bad_turn m h g t e x =
        let b = begun m h g t e in
        let w = turns_wrong (after m) (along (after m) t).u t.to x in
        not_opposite (sym (same m).kind ∙ w.0) (omega (arith, w.1, reads m (omega arith), (same m).p)) b.0 t b.1 e (λ j. w.2 (j ∙ ap opposite (sym b.2)))

    wrong : (m : ℕ) → m < length S → (after m).good ≡ true → (after (suc m)).good ≡ false → StepWrong L W (head_size + m)
    wrong m h g w = go (step_numbered_lem L (get_or S m 0)) refl
      where
        go : (s : Option Step) → step_numbered_lem L (get_or S m 0) ≡ s → StepWrong L W (head_size + m)
        go None e = no_step (ap (step_numbered_lem L) (number m) ∙ e)
        go (Some t) e = by (joins (after m) t.from) (turns (after m) (along (after m) t).u t.to) refl refl
          where
            named : step_at L W (head_size + m) ≡ Some t
            named = ap (step_numbered_lem L) (number m) ∙ e

            by : (a b : Bool) → joins (after m) t.from ≡ a → turns (after m) (along (after m) t).u t.to ≡ b → StepWrong L W (head_size + m)
            by false b x y = bad_joint m h g t named x
            by true false x y = bad_turn m h g t named y
            by true true x y =
                let still = good_along L (after m) (get_or S m 0) t (omega (arith, reads m (omega arith))) (not_3 m) e g x y in
                absurd (no_true (sym w ∙ ap (λ (z : Progress). z.good) (next m h) ∙ still))

    -- and so is the last one of a walk that ends wrong
    unclosed : (m : ℕ) → suc m ≡ length S → (after (suc m)).good ≡ true → ((after (suc m)).here ≡ (after (suc m)).u → ⊥) → StepWrong L W (head_size + m)
    unclosed m h g c = let o = kept m (omega arith) g in not_closed (omega arith) o.first o.last o.first_named o.last_named (λ e. c (o.here ∙ e ∙ sym o.start))

  -- ---- where the head is right: the state at the end
  abbrev f : Progress
  f = run L (headed k p q) S

  module _ (suits : Suits k p q) (size : length S ≡ p + q) where
    f_is : (m : ℕ) → m ≡ length S → after m ≡ f
    f_is m e = ap (run L (headed k p q)) (take_all m S (omega arith))

    f_kind : f.kind ≡ k
    unfolding headed
    f_kind = (run_same L (headed k p q) S (omega arith)).kind

    -- kind 3 has one number
    line_good : k ≡ 3 → (f.good ≡ true) ↔ FalseStep L (get_or W head_size 0)
    line_good a = good_line L k p q S a ((counts_suit k p q).1 suits) (size ∙ suits_line suits a)

    -- kinds 1 and 2: no number of a walk that ends good and closed is wrong, and the rest is that the sums are low
    module _ (n : k ≡ 3 → ⊥) (g : f.good ≡ true) where
      all_right : f.here ≡ f.u → (j : ℕ) → head_size ≤ j → j < length W → StepWrong L W j → ⊥
      all_right e j a b =
          let s = f_is (length S) refl in
          none_wrong n (length S) (omega arith) (ap (λ (x : Progress). x.good) s ∙ g) (λ _. ap (λ (x : Progress). x.here) s ∙ e ∙ ap (λ (x : Progress). x.u) (sym s)) j a (omega arith)

      sums_low : SumsLow L W ↔ Low k f.first f.second
      unfolding headed
      sums_low =
          let b = body L (headed k p q) S (is_headed k p q (suits_some suits)) n (omega (arith, suits_some suits)) g in (
            (λ w. rw (b.first, b.second) (subst (λ (ts : List Step). Low k (total (take p ts)) (total (drop p ts))) (names_unique L S w.0 b.steps w.1 b.named) w.2)),
            (λ l. (b.steps, b.named, rw (b.first, b.second) at l)),
          )

      closes_low : (closes f ≡ true) ↔ ((f.here ≡ f.u) × SumsLow L W)
      closes_low = (to suits, (λ w. from w.0 (sums_low.0 w.1)))
        where
          to : Suits k p q → closes f ≡ true → (f.here ≡ f.u) × SumsLow L W
          to (one_walk a b c) e = let t = (closes_1 f (f_kind ∙ a)).0 e in (t.0, sums_low.1 (low_sum a t.1))
          to (two_walks a b c) e = let t = (closes_2 f (f_kind ∙ a)).0 e in (t.0, sums_low.1 (low_halves a t.1))
          to (one_line a b c) e = absurd (n a)

          from : f.here ≡ f.u → Low k f.first f.second → closes f ≡ true
          from h (low_sum a b) = (closes_1 f (f_kind ∙ a)).1 (h, b)
          from h (low_halves a b) = (closes_2 f (f_kind ∙ a)).1 (h, b)

    none_earlier : (i : ℕ) → i < length W → (head_size < i → k ≡ 3 → ⊥) → ((j : ℕ) → head_size ≤ j → j < i → StepWrong L W j → ⊥) → (j : ℕ) → j < i → Fault L W j → ⊥
    none_earlier i h = none_before L W (omega arith) i (omega arith) (λ _. suits_kind suits) (λ _. suits) (λ _. omega arith)

    breaks_at_step : (k ≡ 3 → ⊥) → (m : ℕ) → m < length S → (after m).good ≡ true → StepWrong L W (head_size + m) → BreaksAt L W (head_size + m)
    breaks_at_step n m h g w =
        record {
          fault = wrong_step {i = head_size + m} n (omega arith) (omega arith) w;
          first = none_earlier (head_size + m) (omega arith) (λ _. n) (none_wrong n m (omega arith) g (λ e. absurd (omega arith)));
        }

    -- not accepted though the state is good, or for that it is not
    module _ (no_yes : accepts L W ≡ true → ⊥) where
      good_breaks : f.good ≡ true → BreaksAt L W (last_index W)
      good_breaks g = go (ℕ_discrete k 3) (ℕ_discrete f.here f.u)
        where
          go : Dec (k ≡ 3) → Dec (f.here ≡ f.u) → BreaksAt L W (last_index W)
          go (yes a) d = absurd (no_yes (accepted_end L k p q S size g (closes_3 f (f_kind ∙ a))))
          go (no n) (yes e) =
              record {
                fault = high_sums n (λ w. no_yes (accepted_end L k p q S size g ((closes_low n g).1 (e, w))));
                first = none_earlier (last_index W) (omega arith) (λ _. n) (λ j a b. all_right n g e j a (omega arith));
              }
          go (no n) (no d) =
              let m = length S - 1 in
              let some = suits_some suits in
              let s = f_is (suc m) (omega arith) in
              let still = ap (λ (x : Progress). x.good) s ∙ g in
              let z : head_size + m ≡ last_index W = omega arith in
              subst (BreaksAt L W) z
              (breaks_at_step n m (omega arith) (good_earlier m (omega arith) still)
              (unclosed n m (omega arith) still (λ e. d (ap (λ (x : Progress). x.here) (sym s) ∙ e ∙ ap (λ (x : Progress). x.u) s))))

      wrong_breaks : f.good ≡ false → BreaksAt L W f.wrong
      unfolding headed
      wrong_breaks g = go (ℕ_discrete k 3) (first_wrong L (headed k p q) S (omega arith) ((counts_suit k p q).1 suits) g)
        where
          go : Dec (k ≡ 3) → (m : ℕ) × FirstWrong L (headed k p q) S m × (f.wrong ≡ head_size + m) → BreaksAt L W f.wrong
          go (yes a) w =
              let z : head_size ≡ f.wrong = omega (arith, w.2, w.1.within, suits_line suits a) in
              subst (BreaksAt L W) z
              (record {
                fault = wrong_line a (λ b. no_true (sym g ∙ (line_good a).1 b));
                first = none_earlier head_size (omega (arith, w.1.within)) (λ l _. omega arith) (λ j b c _. omega arith);
              })
          go (no n) w = subst (BreaksAt L W) (sym w.2) (breaks_at_step n w.0 w.1.within w.1.good (wrong n w.0 w.1.within w.1.good w.1.wrong))

  -- ---- not accepted: it breaks where the rule says, test by test
  abbrev walk_place : ℕ
  walk_place = cond f.good (last_index W) f.wrong

  abbrev length_place : ℕ
  length_place = cond (not (eqb (length W) (head_size + p + q))) 2 walk_place

  whole_breaks : (accepts L W ≡ true → ⊥) → BreaksAt L W (place_in L W)
  whole_breaks no_yes = subst (BreaksAt L W) (sym (place_is L k p q S)) (either_of (BreaksAt L W) (not (kind_ok_lem k)) by_kind (λ e. past_kind ((kind_ok k).0 (not-false _ e))))
    where
      by_kind : not (kind_ok_lem k) ≡ true → BreaksAt L W 0
      by_kind e = record { fault = bad_kind (λ h. no_true (sym (not-true _ e) ∙ (kind_ok k).1 h)); first = λ j l _. omega arith }

      past_counts : Suits k p q → BreaksAt L W length_place
      past_counts su =
          either_of (BreaksAt L W) (not (eqb (length W) (head_size + p + q)))
          (λ e. record {
            fault = bad_length (λ z. eqb-false (length W) (head_size + p + q) (not-true _ e) (omega arith));
            first = none_before L W (omega arith) 2 (omega arith) (λ _. suits_kind su) (λ _. su) (λ l. absurd (omega arith)) (λ l _. omega arith) (λ j a b _. omega arith);
          })
          (λ e.
          let z = eqb-true (length W) (head_size + p + q) (not-false _ e) in
          either_of (BreaksAt L W) f.good (good_breaks su (omega arith) no_yes) (wrong_breaks su (omega arith) no_yes))

      past_kind : IsKind k → BreaksAt L W (cond (not (counts_ok_lem k p q)) 1 length_place)
      past_kind a =
          either_of (BreaksAt L W) (not (counts_ok_lem k p q))
          (λ e. record {
            fault = bad_counts (λ su. no_true (sym (not-true _ e) ∙ (counts_suit k p q).1 su));
            first = none_before L W (omega arith) 1 (omega arith) (λ _. a) (λ l. absurd (omega arith)) (λ l. absurd (omega arith)) (λ l _. omega arith) (λ j b c _. omega arith);
          })
          (λ e. past_counts ((counts_suit k p q).0 (not-false _ e)))

  -- ---- accepted: it has no fault
  no_fault : End L k p q S → Suits k p q → {i : ℕ} → Fault L W i → ⊥
  no_fault e su (no_head h) = omega arith
  no_fault e su (bad_kind a) = a (suits_kind su)
  no_fault e su (bad_counts a) = a su
  no_fault e su (bad_length a) = a (omega (arith, e.size))
  no_fault e su (wrong_step {i = i} n a b w) = all_right su e.size n e.good ((closes_low su e.size n e.good).0 e.closed).0 i a b w
  no_fault e su (high_sums n a) = a ((closes_low su e.size n e.good).0 e.closed).1
  no_fault e su (wrong_line l a) = a ((line_good su e.size l).0 e.good)

-- ---- what is not accepted breaks where the rule says, and nothing else breaks
module _ (L : List ℤ) where
  breaks_there : (R : List ℕ) → accepts L R ≡ false → BreaksAt L R (place_in L R)
  breaks_there R e = go (shape R) (λ y. no_true (sym e ∙ y))
    where
      go : {R : List ℕ} → Shape R → (accepts L R ≡ true → ⊥) → BreaksAt L R (place_in L R)
      go {R} (cut h) n = subst (BreaksAt L R) (sym (cut_place L R h)) (record { fault = no_head h; first = λ j l _. omega arith })
      go (whole k p q S) n = whole_breaks L k p q S n

  broken_no : (R : List ℕ) (i : ℕ) → BreaksAt L R i → accepts L R ≡ false
  broken_no R i b = go (accepts L R) refl
    where
      by : {R : List ℕ} → Shape R → Fault L R i → accepts L R ≡ true → ⊥
      by {R} (cut h) w e = cut_no L R h e
      by (whole k p q S) w e = let z = end_of L k p q S e in no_fault L k p q S z ((counts_suit k p q).0 z.counts) w

      go : (t : Bool) → accepts L R ≡ t → t ≡ false
      go true e = absurd (by (shape R) b.fault e)
      go false e = refl

  pub breaks_once : (R : List ℕ) (i j : ℕ) → BreaksAt L R i → BreaksAt L R j → i ≡ j
  breaks_once R i j a b = go (dec_lt i j) (dec_lt j i)
    where
      go : Dec (i < j) → Dec (j < i) → i ≡ j
      go (yes l) d = absurd (b.first i l a.fault)
      go (no x) (yes l) = absurd (a.first j l b.fault)
      go (no x) (no y) = omega arith

  -- everything is of one of the three kinds or breaks, and nothing is both
  pub breaks_or_refutes : (R : List ℕ) → Refutes L R ⊎ ((i : ℕ) × BreaksAt L R i)
  breaks_or_refutes R = go (accepts L R) refl
    where
      go : (t : Bool) → accepts L R ≡ t → Refutes L R ⊎ ((i : ℕ) × BreaksAt L R i)
      go true e = inl ((accepts_exactly L R).0 e)
      go false e = inr (place_in L R, breaks_there R e)

  pub breaks_unless_refutes : (R : List ℕ) → (Refutes L R → ⊥) ↔ ((i : ℕ) × BreaksAt L R i)
  breaks_unless_refutes R = (go (breaks_or_refutes R), (λ b r. no_true (sym (broken_no R b.0 b.1) ∙ (accepts_exactly L R).1 r)))
    where
      go : Refutes L R ⊎ ((i : ℕ) × BreaksAt L R i) → (Refutes L R → ⊥) → (i : ℕ) × BreaksAt L R i
      go (inl r) n = absurd (n r)
      go (inr b) n = b

-- the checker's no
pub no_exactly_where : (n : ℕ) (L : List ℤ) (R : List ℕ) (i : ℕ) → (refutation_answer n L R ≡ Ok (No i)) ↔ ((validity_of n L ≡ Ok tt) × (length R ≤ max_refutation) × BreaksAt L R i)
no_exactly_where n L R i = (
  (λ e. let a = (answered_no n L R i).0 e in (a.0, a.1, subst (BreaksAt L R) a.3 (breaks_there L R a.2))),
  (λ h. let e = broken_no L R i h.2 in (answered_no n L R i).1 (h.0, h.1, e, breaks_once L R (place_in L R) i (breaks_there L R e) h.2)),
)
