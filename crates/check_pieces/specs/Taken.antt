-- A refutation that arrives in pieces: what one number makes of what is kept, and what the end answers, for any state, list and number.
use Rattle.lines.specs.declared.Refusal.{Refusal}
use Rattle.std.specs.Prelude.{◌≡◌, refl, Bool, true, false, not, cond, ◌&&◌, List, [], ◌∷◌, ℕ, ◌+◌, ◌*◌, ◌/◌, ◌^◌, ltb, ℤ, Err, Ok, Result, Some, is_ok}
use Rattle.std.proofs.Common.{ap, arith, lt-ltb, le-ltb, ltb-true, ltb-false}
use Rattle.std.proofs.lemmas.Bool.{not-true}
use Rattle.integers.specs.Integer.{is_within_lem, Within}
use Rattle.integers.specs.Laws.{never, and_true}
use Rattle.integers.proofs.Halving.{is_within, within_is}
use Rattle.lines.specs.declared.Refusal.TheVariants.{LongRefutation}
use Rattle.lines.specs.Limits.{max_variables, max_constant, max_refutation}
use Rattle.lines.specs.Line.{line_at, line_count}
use Rattle.lines.specs.Refusal.{◌or_else◌, refuse_if, line_validity_lem, validity_of}
use Rattle.lines.specs.Valid.{ListOk, line_ok, line_works, valid_list, line_valid_more}
use Rattle.steps.specs.declared.Step.{Step}
use Rattle.steps.specs.Step.{heaviest, max_weight, step_numbered_lem, NamedOk}
use Rattle.steps.specs.Laws.{numbered_within}
use Rattle.check_answers.specs.declared.CheckAnswer.{CheckAnswer}
use Rattle.check_answers.specs.declared.CheckAnswer.TheVariants.{No}
use Rattle.check_answers.specs.Answer.{unless_refused}
use Rattle.check_refutation.specs.declared.Progress.{Progress}
use Rattle.check_refutation.specs.Progress.{only_if_lem, advance}
use Rattle.check_refutation.specs.Small.{Small, small_wider}
use Rattle.check_refutation.specs.Answer.{verdict}

-- ---- what can be taken on
-- the line that a number names, where there is one, keeps the line rules
unfoldable pub names_valid_lem : List ℤ → ℕ → Bool
names_valid_lem L k = cond (ltb (k / 2) (line_count L)) (is_ok (line_validity_lem max_variables 0 (line_at L (k / 2)))) true

-- the weight of a step of a valid line lies within plus and minus this
abbrev pub valid_weight : ℕ
valid_weight = heaviest max_constant

-- no more was read than may be, and the numbers kept are as small as that many steps can make them
unfoldable pub is_small_lem : Progress → Bool
is_small_lem s =
    not (ltb max_refutation s.read)
    && (is_within_lem (s.read * valid_weight) s.first && (is_within_lem (s.read * valid_weight) s.second && (ltb s.p (2 ^ 32) && (ltb s.q (2 ^ 32) && not (ltb s.read s.wrong)))))

-- ---- one number, and all numbers of a piece
-- more numbers than a refutation may have: that is all that is known from here on
abbrev pub too_long : Progress → Progress
too_long s =
    record { read = max_refutation + 1; kind = s.kind; p = s.p; q = s.q; u = s.u; here = s.here; first = s.first; second = s.second; good = s.good; wrong = s.wrong }

-- the checker's own step; what no refutation could have left, and a line that is refused, make it wrong for good
unfoldable pub take_on_lem : List ℤ → Progress → ℕ → Progress
take_on_lem L s r = cond (ltb s.read max_refutation) (cond (is_small_lem s && names_valid_lem L r) (advance L s r) (only_if_lem s false)) (too_long s)

unfoldable pub take_all : List ℤ → Progress → List ℕ → Progress
take_all L s [] = s
take_all L s (r ∷ R) = take_all L (take_on_lem L s r) R

-- ---- the end
-- the list's refusals; then 11; then yes, or no with the place; what no refutation could have left breaks at once
unfoldable pub end_answer : ℕ → List ℤ → Progress → Result CheckAnswer Refusal
end_answer n L s = unless_refused (validity_of n L or_else refuse_if (ltb max_refutation s.read) LongRefutation) (Ok (cond (is_small_lem s) (verdict s) (No 0)))

-- ---- what the tests grant
pub names_ok : (L : List ℤ) (k : ℕ) → names_valid_lem L k ≡ true → NamedOk max_variables L k
unfolding names_valid_lem
names_ok L k e h =
    line_works max_constant max_variables (line_at L (k / 2)) (omega arith) (line_ok max_variables 0 (line_at L (k / 2)) (go (line_validity_lem max_variables 0 (line_at L (k / 2))) (rw (lt-ltb (k / 2) (line_count L) h) at e)))
  where
    go : (v : Result Unit Refusal) → is_ok v ≡ true → v ≡ Ok tt
    go (Ok _) z = refl
    go (Err r) z = never (cc)

pub valid_names : (n : ℕ) (L : List ℤ) → validity_of n L ≡ Ok tt → (k : ℕ) → names_valid_lem L k ≡ true
unfolding names_valid_lem
valid_names n L v k = go (ltb (k / 2) (line_count L)) refl
  where
    o : ListOk n L
    o = valid_list n L v

    go : (b : Bool) → ltb (k / 2) (line_count L) ≡ b → cond b (is_ok (line_validity_lem max_variables 0 (line_at L (k / 2)))) true ≡ true
    go true e = ap is_ok (line_valid_more n max_variables (k / 2) 0 (line_at L (k / 2)) o.variables (o.each (k / 2) (ltb-true _ _ e)))
    go false e = refl

pub named_light : (n : ℕ) (L : List ℤ) → validity_of n L ≡ Ok tt → (k : ℕ) (t : Step) → step_numbered_lem L k ≡ Some t → Within valid_weight t.weight
named_light n L v k t = numbered_within max_constant L k t (λ h. (line_ok n (k / 2) (line_at L (k / 2)) ((valid_list n L v).each (k / 2) h)).constant)

test_told : (s : Progress) → is_small_lem s ≡ true → Small valid_weight s
unfolding is_small_lem
test_told s e =
    let a = and_true _ _ e in
    let b = and_true _ _ a.1 in
    let c = and_true _ _ b.1 in
    let d = and_true _ _ c.1 in
    let e = and_true _ _ d.1 in
    record {
      read = ltb-false _ _ (not-true _ a.0);
      first = is_within _ _ b.0;
      second = is_within _ _ c.0;
      p = ltb-true _ _ d.0;
      q = ltb-true _ _ e.0;
      wrong = ltb-false _ _ (not-true _ e.1);
    }

pub small_test : (s : Progress) → is_small_lem s ≡ true → Small max_weight s
small_test s e = small_wider valid_weight max_weight s (omega arith) (test_told s e)

pub test_small : (s : Progress) → Small valid_weight s → is_small_lem s ≡ true
unfolding is_small_lem
test_small s h = rw (le-ltb max_refutation s.read h.read, within_is _ _ h.first, within_is _ _ h.second, lt-ltb s.p (2 ^ 32) h.p, lt-ltb s.q (2 ^ 32) h.q, le-ltb s.read s.wrong h.wrong)
