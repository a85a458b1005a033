-- The place that the checker's rule computes: the tests that it makes in turn, and the step number that a run marks as wrong.
use Rattle.steps.specs.declared.Step.{Step}
use Rattle.std.specs.Prelude.{◌≡◌, refl, Bool, true, false, not, cond, ◌&&◌, List, [], ◌∷◌, ℕ, suc, ◌+◌, ◌<◌, ◌≤◌, eqb, ℤ, length, take, None, Option, Some}
use Rattle.std.proofs.Common.{sym, ap, ◌∙◌, arith, lt-ltb, le-ltb}
use Rattle.integers.specs.Laws.{never}
use Rattle.steps.specs.Step.{step_numbered_lem}
use Rattle.check_refutation.specs.declared.Progress.{Progress}
use Rattle.check_refutation.specs.Progress.{head_size, start, counts_ok_lem, is_false_step_lem, wrong_after, along, walk_on, advance, run, kind_ok_lem, broken_at_lem}
use Rattle.check_refutation.specs.Small.{either, advance_read, run_read}
use Rattle.check_soundness.specs.BreaksAt.{last_index}
use Rattle.check_soundness.specs.Run.{run_same}
use Rattle.check_soundness.specs.Meaning.{headed, run_headed}

-- ---- the first wrong step number
-- one number more: what was wrong stays, and what is wrong now is the number just read
record Judged (s x : Progress) : Type 0 where
  stays : s.good ≡ false → (x.good ≡ false) × (x.wrong ≡ s.wrong)
  marked : s.good ≡ true → x.good ≡ false → x.wrong ≡ s.read

judged_by_law : (s x : Progress) (b : Bool) → x.good ≡ (s.good && b) → x.wrong ≡ wrong_after s b → Judged s x
unfolding wrong_after
judged_by_law s x b e f =
    record {
      stays = λ g. (e ∙ ap (λ (t : Bool). t && b) g, f ∙ ap (λ (t : Bool). cond (t && not b) s.read s.wrong) g);
      marked = λ g h.
          let z : b ≡ false = sym (ap (λ (t : Bool). t && b) g) ∙ sym e ∙ h in
          f ∙ ap (λ (t : Bool). cond (t && not b) s.read s.wrong) g ∙ ap (λ (t : Bool). cond (not t) s.read s.wrong) z;
    }

judged : (L : List ℤ) (s : Progress) (r : ℕ) → head_size ≤ s.read → Judged s (advance L s r)
unfolding advance along
judged L s r h =
    rw (le-ltb s.read head_size h) (either (Judged s) (eqb s.kind 3) (judged_by_law s _ (is_false_step_lem L r) refl refl) (walk (step_numbered_lem L r)))
  where
    walk : (m : Option Step) → Judged s (walk_on s m)
    walk (Some t) = judged_by_law s _ _ refl refl
    walk None = judged_by_law s _ false refl refl

-- what was wrong stays so
wrong_stays : (L : List ℤ) (s : Progress) (R : List ℕ) → head_size ≤ s.read → s.good ≡ false → ((run L s R).good ≡ false) × ((run L s R).wrong ≡ s.wrong)
unfolding run
wrong_stays L s [] h g = (g, refl)
wrong_stays L s (r ∷ R) h g =
    let j = (judged L s r h).stays g in
    let k = wrong_stays L (advance L s r) R (omega (arith, advance_read L s r)) j.0 in
    (k.0, k.1 ∙ j.1)

-- a run from a good state that ends wrong was good up to one number, and wrong with it: the one that it marks
pub record FirstWrong (L : List ℤ) (s : Progress) (R : List ℕ) (i : ℕ) : Type 0 where
  pub within : i < length R
  pub good : (run L s (take i R)).good ≡ true
  pub wrong : (run L s (take (suc i) R)).good ≡ false

pub first_wrong : (L : List ℤ) (s : Progress) (R : List ℕ) → head_size ≤ s.read → s.good ≡ true → (run L s R).good ≡ false → (i : ℕ) × FirstWrong L s R i × ((run L s R).wrong ≡ s.read + i)
unfolding run
first_wrong L s [] h g e = never (cc)
first_wrong L s (r ∷ R) h g e = go (advance L s r).good refl (λ z. first_wrong L (advance L s r) R (omega (arith, advance_read L s r)) z e)
  where
    go : (b : Bool) → (advance L s r).good ≡ b → ((advance L s r).good ≡ true → (i : ℕ) × FirstWrong L (advance L s r) R i × ((run L (advance L s r) R).wrong ≡ (advance L s r).read + i))
        → (i : ℕ) × FirstWrong L s (r ∷ R) i × ((run L (advance L s r) R).wrong ≡ s.read + i)
    go true z k =
        let c = k z in
        (suc c.0, record { within = omega (arith, c.1.within); good = c.1.good; wrong = c.1.wrong }, c.2 ∙ omega (arith, advance_read L s r))
    go false z k =
        let j = (judged L s r h).marked g z in
        let l = wrong_stays L (advance L s r) R (omega (arith, advance_read L s r)) z in
        (0, record { within = omega arith; good = g; wrong = z }, l.1 ∙ j ∙ omega arith)

-- ---- the place
abbrev pub place_in : List ℤ → List ℕ → ℕ
place_in L R = broken_at_lem (run L start R)

-- of fewer than three numbers
pub cut_place : (L : List ℤ) (R : List ℕ) → length R < head_size → place_in L R ≡ 0
unfolding broken_at_lem
cut_place L R h = let l : (run L start R).read < head_size = omega (arith, run_read L start R) in rw (lt-ltb _ _ l)

-- with a whole head, the tests in turn
pub place_is : (L : List ℤ) (k p q : ℕ) (S : List ℕ) → place_in L (k ∷ p ∷ q ∷ S)
    ≡ cond (not (kind_ok_lem k)) 0
    (cond (not (counts_ok_lem k p q)) 1
    (cond (not (eqb (length (k ∷ p ∷ q ∷ S)) (head_size + p + q))) 2
    (cond (run L (headed k p q) S).good (last_index (k ∷ p ∷ q ∷ S)) (run L (headed k p q) S).wrong)))
unfolding broken_at_lem headed
place_is L k p q S =
    let same = run_same L (headed k p q) S (omega arith) in
    let read : (run L (headed k p q) S).read ≡ length (k ∷ p ∷ q ∷ S) = omega (arith, run_read L (headed k p q) S) in
    ap broken_at_lem (run_headed L k p q S) ∙ rw (same.kind, same.p, same.q, read, le-ltb (length (k ∷ p ∷ q ∷ S)) head_size (omega arith))
