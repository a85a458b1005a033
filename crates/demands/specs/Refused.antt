-- Every answer is refused as the table of refusals says.
--
-- `Gives rows v` reads a computed validity along the rows: v is the refusal of the first row that applies, or valid if none does. A test that tells
-- whether a condition holds makes one row, and one validity or else another makes the rows of both.
use Rattle.std.specs.Prelude.{◌≡◌, refl, ◌↔◌, ◌⊎◌, Bool, true, false, not, cond, ◌&&◌, List, [], ◌∷◌, ◌++◌, ℕ, zero, suc, ◌+◌, ◌*◌, ◌/◌, ◌%◌, ◌<◌, ◌≤◌, eqb, ltb, ℤ, pos, negsuc, neg_ℤ, length, drop, Err, Ok, Result}
use Rattle.std.proofs.Common.{ap, subst, ◌∙◌, inl, inr, ⊎_elim, arith, ltb-true, ltb-false, lt-ltb, le-ltb, eqb-true, eq-eqb}
use mathlib.Core.Logic.Iff
use Rattle.std.proofs.lemmas.Bool.{false≢true, not-true}
use Rattle.std.proofs.Math.Decide.{ℕ_discrete}
use Rattle.std.specs.Int.Signed.{le_z, lt_z}
use Rattle.integers.specs.Integer.{◌⩽◌, ◌⋖◌, eq_z, is_within_lem, Within}
use Rattle.integers.proofs.Linear.{ints, zs, given}
use Rattle.integers.specs.Laws.{never, eq_z_true, eq_eq_z}
use Rattle.integers.proofs.Halving.{is_within}
use Rattle.integers.specs.Table.{all_below, below_at}
use Rattle.integers.specs.Lowest.{first_failing_lem, first_failing}
use Rattle.lines.specs.declared.Line.{Line}
use Rattle.lines.specs.declared.Refusal.{Refusal}
use Rattle.lines.specs.declared.Refusal.TheVariants.{TooManyVariables, BrokenLength, WrongModelLength, BadValue, LongRefutation, NotDifference}
use Rattle.lines.specs.Limits.{line_size, max_variables, max_lines, max_constant, max_identifier, max_value, max_refutation}
use Rattle.lines.specs.Line.{number, line_at, line_count, lines_of}
use Rattle.lines.specs.Refusal.{place_of, ◌or_else◌, refuse_if, coefficients_ok_lem, variable_ok_lem, variables_ok_lem, lone_ok_lem, constant_ok_lem, identifier_ok_lem, Rule, rules_within, first_broken, line_validity_lem, lines_validity_lem, validity_of}
use Rattle.lines.specs.Laws.{validity_from, validity_past}
use Rattle.check_answers.specs.declared.CheckAnswer.{CheckAnswer}
use Rattle.check_answers.specs.declared.CheckAnswer.TheVariants as check
use Rattle.check_answers.specs.Answer.{unless_refused, refused_when}
use Rattle.decide_buffers.specs.declared.Lengths.{Lengths}
use Rattle.decide_buffers.specs.Room.{Lent, lengths_of, Room, work_room_lem, differences_work_room_lem, lent_rooms_by, lent_rooms, first_short, rooms_validity, decide_validity_lem}
use Rattle.theory_bounds.specs.Verdict.{distances, verdict_of}
use Rattle.little_endian.specs.Bytes.{le32, int32, int64, int32s, nat32s, int64s, length_first_of}
use Rattle.check_model.specs.Model.{values_validity_lem, model_validity_lem}
use Rattle.check_model.specs.Laws.{values_from, values_past}
use Rattle.check_model.specs.Meaning.{refused_exactly}
use Rattle.check_model.specs.Places as model-places
use Rattle.check_refutation.specs.Progress.{start, run, accepted}
use Rattle.check_refutation.specs.Small.{either}
use Rattle.check_refutation.specs.Answer.{refutation_validity, verdict, refutation_answer}
use Rattle.check_refutation.specs.Places as refutation-places
use Rattle.decide.specs.declared.Answer.TheVariants as decide
use Rattle.decide.specs.Decided.{cleared, decide_answer, answer_for, validity_for}
use Rattle.decide.specs.Parts.{judged_refuses}
use Rattle.theory_differences.specs.Plain.{is_difference_lem, Difference, forward, backward, difference, is_difference, all_differences}
use Rattle.differences_lines.specs.Others.{first_other_lem}
use Rattle.differences_lines.specs.Refused.{others_validity, differences_validity_lem}
use Rattle.differences.specs.Decided.{differences_answer, differences_answer_for, plain_validity_for}
use Rattle.implied_pair.specs.Pair as pair
use Rattle.implied_pair.specs.Pair.{pair_in_lem, pair_validity_lem, called, judged, pair_call}
use Rattle.c_codes.specs.Codes.{refusal_unit, refusal_code_lem}
use Rattle.c_codes.specs.CheckCode.{check_code_lem, answers_apart}
use Rattle.c_codes.specs.ListBytes.{number_bytes, bytes_validity}
use Rattle.c_checking.specs.Calls.{value_bytes, model_of_values_lem, refutation_of_numbers_lem, model_of_bytes, refutation_of_bytes}
use Rattle.c_checking.specs.Laws.{model_bytes_below, refutation_bytes_below}
use Rattle.c_deciding.specs.Calls.{decide_code_lem}
use Rattle.c_deciding.specs.Laws.{decision_below, decisions_apart}
use Rattle.c_differences.specs.Laws.{plain_decision_below}
use Rattle.c_implied.specs.Calls.{outcome_code_lem}
use Rattle.c_implied.specs.Laws.{pair_below, outcomes_apart, refused_outcome}
use Rattle.demands.specs.Refusals.{Asked, deciding, deciding_differences, asking_pair, checking_model, checking_refutation, checking_model_bytes, checking_refutation_bytes, IsCoefficient, WrongVariable, LoneSecond, IsDifference, WrongIdentifier, Outside, Row, ◌when◌, rows_from, table_within, line_table, lines_table, list_table, differences_table, bytes_table, values_table, rooms_table, refusal_table, NoneApplies, FirstApplies, IsRefused, returned}

-- ---- a validity, read along the rows
pub data Gives : List Row → Result Unit Refusal → Type 1 where
  none : Gives [] (Ok tt)
  this : {r : Refusal} {C : Type 0} {rows : List Row} → C → Gives (r when C ∷ rows) (Err r)
  later : {row : Row} {rows : List Row} {v : Result Unit Refusal} → (row.condition → ⊥) → Gives rows v → Gives (row ∷ rows) v

-- the test is passed exactly if the condition holds
abbrev pub Tells : Bool → Type 0 → Type 0
Tells t C = (t ≡ true) ↔ C

pub gives_row : {r : Refusal} {t : Bool} {C : Type 0} {rows : List Row} {v : Result Unit Refusal} → Tells t C → Gives rows v → Gives (r when C ∷ rows) (refuse_if t r or_else v)
gives_row {t = true} h g = this (h.0 refl)
gives_row {t = false} h g = later (λ c. false≢true (h.1 c)) g

pub gives_last : {r : Refusal} {t : Bool} {C : Type 0} → Tells t C → Gives (r when C ∷ []) (refuse_if t r)
gives_last {t = true} h = this (h.0 refl)
gives_last {t = false} h = later (λ c. false≢true (h.1 c)) none

-- what comes after counts only where none before it applies
gives_past : {rows rest : List Row} {u v : Result Unit Refusal} → Gives rows u → (NoneApplies rows → Gives rest v) → Gives (rows ++ rest) (u or_else v)
gives_past none h = h tt
gives_past (this c) h = this c
gives_past (later n g) h = later n (gives_past g (λ k. h (n, k)))

pub gives_or : {rows rest : List Row} {u v : Result Unit Refusal} → Gives rows u → Gives rest v → Gives (rows ++ rest) (u or_else v)
gives_or g h = gives_past g (λ _. h)

-- rows that do not apply may be left out
gives_rest : (rows rest : List Row) {v : Result Unit Refusal} → Gives (rows ++ rest) v → NoneApplies rows → Gives rest v
gives_rest [] rest g n = g
gives_rest (row ∷ rows) rest (this c) n = absurd (n.0 c)
gives_rest (row ∷ rows) rest (later f g) n = gives_rest rows rest g n.1

-- it is refused exactly by the first that applies
first_row : {rows : List Row} {v : Result Unit Refusal} → Gives rows v → (r : Refusal) → v ≡ Err r → FirstApplies rows r
first_row none r e = absurd (never {A = ⊥} (cc))
first_row (this {r = q} {C} {rows} c) r e =
    record { before = []; condition = C; after = rows; stands = ap (λ (s : Refusal). s when C ∷ rows) (same e); applies = c; none_before = tt }
  where
    same : ◌≡◌ {A = Result Unit Refusal} (Err q) (Err r) → q ≡ r
    same e = cc
first_row (later {row} n g) r e =
    let f = first_row g r e in
    record {
      before = row ∷ f.before;
      condition = f.condition;
      after = f.after;
      stands = ap (λ (rows : List Row). row ∷ rows) f.stands;
      applies = f.applies;
      none_before = (n, f.none_before);
    }

row_first : (before : List Row) (r : Refusal) (C : Type 0) (after : List Row) {v : Result Unit Refusal}
    → Gives (before ++ r when C ∷ after) v → C → NoneApplies before → v ≡ Err r
row_first [] r C after (this c) h n = refl
row_first [] r C after (later f g) h n = absurd (f h)
row_first (row ∷ rows) r C after (this c) h n = absurd (n.0 c)
row_first (row ∷ rows) r C after (later f g) h n = row_first rows r C after g h n.1

pub gives_refused : {rows : List Row} {v : Result Unit Refusal} → Gives rows v → (r : Refusal) → (v ≡ Err r) ↔ FirstApplies rows r
gives_refused {rows} {v} g r = (
  first_row g r,
  (λ f. row_first f.before r f.condition f.after (subst (λ (t : List Row). Gives t v) f.stands g) f.applies f.none_before),
)

-- it is valid exactly if none applies
gives_valid : {rows : List Row} {v : Result Unit Refusal} → Gives rows v → (v ≡ Ok tt) ↔ NoneApplies rows
gives_valid g = (fore g, back g)
  where
    fore : {rows : List Row} {v : Result Unit Refusal} → Gives rows v → v ≡ Ok tt → NoneApplies rows
    fore none e = tt
    fore (this c) e = never (cc)
    fore (later n g) e = (n, fore g e)

    back : {rows : List Row} {v : Result Unit Refusal} → Gives rows v → NoneApplies rows → v ≡ Ok tt
    back none n = refl
    back (this c) n = absurd (n.0 c)
    back (later f g) n = back g n.1

-- what is given is the refusal of a row
abbrev pub EachRow : (Refusal → Type 0) → List Row → Type 0
EachRow P [] = Unit {0}
EachRow P (row ∷ rows) = P row.refusal × EachRow P rows

each_append : (P : Refusal → Type 0) (rows rest : List Row) → EachRow P rows → EachRow P rest → EachRow P (rows ++ rest)
each_append P [] rest a b = b
each_append P (row ∷ rows) rest a b = (a.0, each_append P rows rest a.1 b)

pub each_from : (P : Refusal → Type 0) (k count : ℕ) (rows : ℕ → List Row) → ((i : ℕ) → EachRow P (rows i)) → EachRow P (rows_from k count rows)
each_from P k zero rows h = tt
each_from P k (suc count) rows h = each_append P (rows k) (rows_from (k + 1) count rows) (h k) (each_from P (k + 1) count rows h)

pub given_row : (P : Refusal → Type 0) {rows : List Row} {v : Result Unit Refusal} → Gives rows v → EachRow P rows → (r : Refusal) → v ≡ Err r → P r
given_row P none a r e = never (cc)
given_row P (this {r = q} c) a r e = subst P (same e) a.0
  where
    same : ◌≡◌ {A = Result Unit Refusal} (Err q) (Err r) → q ≡ r
    same e = cc
given_row P (later n g) a r e = given_row P g a.1 r e

-- ---- what the tests tell
not_test : {t : Bool} {C : Type 0} → Tells t C → Tells (not t) (C → ⊥)
not_test {t = true} h = ((λ e c. false≢true e), (λ n. absurd (n (h.0 refl))))
not_test {t = false} h = ((λ e c. false≢true (h.1 c)), (λ n. refl))

-- one of two is wrong
either_test : (s t : Bool) {A B : Type 0} → Tells (not s) A → Tells (not t) B → Tells (not (s && t)) (A ⊎ B)
either_test true t a b = ((λ e. inr (b.0 e)), (λ w. ⊎_elim (λ x. absurd (false≢true (a.1 x))) b.1 w))
either_test false t a b = ((λ e. inl (a.0 refl)), (λ w. refl))

pub true_test : (t : Bool) → Tells t (t ≡ true)
true_test t = Iff.rfl

pub less_test : (a b : ℕ) → Tells (ltb a b) (a < b)
less_test a b = (ltb-true a b, lt-ltb a b)

at_most_test : (a b : ℕ) → Tells (not (ltb a b)) (b ≤ a)
at_most_test a b = ((λ e. ltb-false a b (not-true (ltb a b) e)), (λ h. rw (le-ltb a b h)))

unequal_test : (a b : ℕ) → Tells (not (eqb a b)) (a ≡ b → ⊥)
unequal_test a b = not_test (eqb-true a b, eq-eqb a b)

zero_test : (z : ℤ) → Tells (eq_z z (pos 0)) (z ≡ pos 0)
zero_test z = (eq_z_true z (pos 0), eq_eq_z z (pos 0))

above_test : (a b : ℤ) → Tells (not (le_z a b)) (b ⋖ a)
above_test a b = ((λ e. given (not-true (le_z a b) e) (simp ints (omega zs))), (λ h. let e : le_z a b ≡ false = given h (simp ints (omega zs)) in rw e))

at_least_test : (a b : ℤ) → Tells (not (lt_z a b)) (b ⩽ a)
at_least_test a b = ((λ e. given (not-true (lt_z a b) e) (simp ints (omega zs))), (λ h. let e : lt_z a b ≡ false = given h (simp ints (omega zs)) in rw e))

outside_test : (m : ℕ) (z : ℤ) → Tells (not (is_within_lem m z)) (Outside m z)
outside_test m z = either_test (le_z (neg_ℤ (pos m)) z) (le_z z (pos m)) (above_test (neg_ℤ (pos m)) z) (above_test z (pos m))

coefficient_test : (c : ℤ) → Tells (is_within_lem 1 c) (IsCoefficient c)
coefficient_test c = ((λ e. go c (is_within 1 c e)), (λ h. ⊎_elim (λ e. rw e) (λ h. ⊎_elim (λ e. rw e) (λ e. rw e) h) h))
  where
    go : (c : ℤ) → Within 1 c → IsCoefficient c
    go (pos zero) h = inr (inl refl)
    go (pos (suc zero)) h = inr (inr refl)
    go (pos (suc (suc k))) h = absurd (omega zs)
    go (negsuc zero) h = inl refl
    go (negsuc (suc k)) h = absurd (omega zs)

variable_test : (n : ℕ) (a x : ℤ) → Tells (not (variable_ok_lem n a x)) (WrongVariable n a x)
unfolding variable_ok_lem
variable_test n a x = go (eq_z a (pos 0)) (zero_test a)
  where
    go : (t : Bool) → Tells t (a ≡ pos 0) → Tells (not (cond t (eq_z x (pos 0)) (le_z (pos 0) x && lt_z x (pos n)))) (WrongVariable n a x)
    go true z =
        let u = not_test (zero_test x) in
        ((λ e. inr (z.0 refl, u.0 e)), (λ w. ⊎_elim (λ h. absurd (h.0 (z.0 refl))) (λ h. u.1 h.1) w))
    go false z =
        let u = either_test (le_z (pos 0) x) (lt_z x (pos n)) (above_test (pos 0) x) (at_least_test x (pos n)) in
        ((λ e. inl ((λ h. false≢true (z.1 h)), u.0 e)), (λ w. ⊎_elim (λ h. u.1 h.1) (λ h. absurd (false≢true (z.1 h.0))) w))

-- ---- the rules of a line: the test of each
coefficients_test : (l : Line) → Tells (not (coefficients_ok_lem l)) ((IsCoefficient l.a → ⊥) ⊎ (IsCoefficient l.b → ⊥))
unfolding coefficients_ok_lem
coefficients_test l = either_test (is_within_lem 1 l.a) (is_within_lem 1 l.b) (not_test (coefficient_test l.a)) (not_test (coefficient_test l.b))

variables_test : (n : ℕ) (l : Line) → Tells (not (variables_ok_lem n l)) (WrongVariable n l.a l.x ⊎ WrongVariable n l.b l.y)
unfolding variables_ok_lem
variables_test n l = either_test (variable_ok_lem n l.a l.x) (variable_ok_lem n l.b l.y) (variable_test n l.a l.x) (variable_test n l.b l.y)

lone_test : (l : Line) → Tells (not (lone_ok_lem l)) (LoneSecond l)
unfolding lone_ok_lem
lone_test l = go (eq_z l.a (pos 0)) (zero_test l.a)
  where
    go : (t : Bool) → Tells t (l.a ≡ pos 0) → Tells (not (cond t (eq_z l.b (pos 0)) true)) (LoneSecond l)
    go true z = let u = not_test (zero_test l.b) in ((λ e. (z.0 refl, u.0 e)), (λ w. u.1 w.1))
    go false z = ((λ e. absurd (false≢true e)), (λ w. absurd (false≢true (z.1 w.0))))

constant_test : (most : ℕ) (l : Line) → Tells (not (constant_ok_lem (pos most) l)) (Outside most l.d)
unfolding constant_ok_lem
constant_test most l = outside_test most l.d

identifier_test : (l : Line) → Tells (not (identifier_ok_lem l)) (WrongIdentifier l.identifier)
unfolding identifier_ok_lem
identifier_test l = either_test (le_z (pos 0) l.identifier) (le_z l.identifier (pos max_identifier)) (above_test (pos 0) l.identifier) (above_test l.identifier (pos max_identifier))

pub difference_test : (l : Line) → Tells (is_difference_lem l) (IsDifference l)
difference_test l = ((λ e. told (difference l e)), (λ h. is_difference l (⊎_elim (λ p. forward p.0 p.1) (λ p. backward p.0 p.1) h)))
  where
    told : Difference l → IsDifference l
    told (forward a b) = inl (a, b)
    told (backward a b) = inr (a, b)

-- each rule in turn has its row: the rule's refusal of line number k, and a condition that its test tells
Rows : ℕ → ℕ → Line → List Rule → List Row → Type 0
Rows n k l [] [] = Unit {0}
Rows n k l [] (row ∷ rows) = ⊥
Rows n k l (r ∷ rs) [] = ⊥
Rows n k l (r ∷ rs) (row ∷ rows) = (r.refusal k ≡ row.refusal) × Tells (not (r.ok n l)) row.condition × Rows n k l rs rows

rows_give : (n k : ℕ) (l : Line) (rs : List Rule) (rows : List Row) → Rows n k l rs rows → Gives rows (first_broken rs n k l)
unfolding Rows
rows_give n k l [] [] h = none
rows_give n k l [] (row ∷ rows) h = absurd h
rows_give n k l (r ∷ rs) [] h = absurd h
rows_give n k l (r ∷ rs) (row ∷ rows) h = rw h.0 (gives_row h.1 (rows_give n k l rs rows h.2))

-- ---- a row for each number, where the lowest whose test fails is refused
module _ (refusal : ℕ → Refusal) (ok : ℕ → Bool) (C : ℕ → Type 0) (tells : (k : ℕ) → Tells (not (ok k)) (C k)) where
  abbrev rows : ℕ → List Row
  rows k = refusal k when C k ∷ []

  passes : (k : ℕ) → ok k ≡ true → C k → ⊥
  passes k e c = false≢true (rw e at ((tells k).1 c))

  all_pass : (k count : ℕ) → ((q : ℕ) → k ≤ q → q < k + count → ok q ≡ true) → Gives (rows_from k count (λ i. refusal i when C i ∷ [])) (Ok tt)
  all_pass k zero h = none
  all_pass k (suc count) h = later (passes k (h k (omega arith) (omega arith))) (all_pass (k + 1) count (λ q l m. h q (omega arith) (omega arith)))

  one_fails : (k count r : ℕ) → k ≤ r → r < k + count → ok r ≡ false → ((q : ℕ) → k ≤ q → q < r → ok q ≡ true) → Gives (rows_from k count (λ i. refusal i when C i ∷ [])) (Err (refusal r))
  one_fails k zero r h l e before = absurd (omega arith)
  one_fails k (suc count) r h l e before = go (ℕ_discrete k r) (λ m. one_fails (k + 1) count r m (omega arith) e (λ i o j. before i (omega arith) j))
    where
      go : Dec (k ≡ r) → (k + 1 ≤ r → Gives (rows_from (k + 1) count rows) (Err (refusal r))) → Gives (rows k ++ rows_from (k + 1) count rows) (Err (refusal r))
      go (yes q) rest = subst (λ (j : ℕ). Gives (rows k ++ rows_from (k + 1) count rows) (Err (refusal j))) q (this ((tells k).0 (rw (ap ok q ∙ e))))
      go (no q) rest = later (passes k (before k (omega arith) (omega arith))) (rest (omega arith))

  lowest_gives : (count : ℕ) → Gives (rows_from 0 count (λ i. refusal i when C i ∷ [])) (refuse_if (not (all_below count ok)) (refusal (first_failing_lem count ok)))
  lowest_gives count = go (all_below count ok) refl
    where
      go : (t : Bool) → all_below count ok ≡ t → Gives (rows_from 0 count rows) (refuse_if (not t) (refusal (first_failing_lem count ok)))
      go true e = all_pass 0 count (λ q l m. below_at count ok e q (omega arith))
      go false e = let f = first_failing count ok e in one_fails 0 count (first_failing_lem count ok) (omega arith) (omega (arith, f.below)) f.fails (λ q l m. f.before q m)

-- ---- the rows of a line, of a list, and of what is asked
pub within_gives : (most n k : ℕ) (l : Line) → Gives (table_within most n k l) (first_broken (rules_within (pos most)) n k l)
unfolding Rows
within_gives most n k l =
    rows_give n k l (rules_within (pos most)) (table_within most n k l) (search (coefficients_test l, variables_test n l, lone_test l, constant_test most l, identifier_test l))

pub line_gives : (n k : ℕ) (l : Line) → Gives (line_table n k l) (line_validity_lem n k l)
line_gives = within_gives max_constant

pub list_gives : (n : ℕ) (L : List ℤ) → Gives (list_table n L) (validity_of n L)
unfolding validity_of
list_gives n L = gives_row (less_test max_variables n) (gives_row (unequal_test _ 0) (gives_row (less_test max_lines (line_count L)) (go (line_count L) 0 (omega arith))))
  where
    go : (count k : ℕ) → k + count ≡ line_count L → Gives (rows_from k count (λ i. line_table n i (line_at L i))) (lines_validity_lem n k (drop k (lines_of L)))
    go zero k e = rw (validity_past L n k (omega arith)) none
    go (suc count) k e = rw (validity_from L n k (omega arith)) (gives_or (line_gives n k (line_at L k)) (go count (k + 1) (omega arith)))

differences_give : (L : List ℤ) → Gives (differences_table L) (others_validity L)
unfolding others_validity all_differences first_other_lem
differences_give L = lowest_gives NotDifference (λ k. is_difference_lem (line_at L k)) (λ k. IsDifference (line_at L k) → ⊥) (λ k. not_test (difference_test (line_at L k))) (line_count L)

values_give : (m : List ℤ) → Gives (values_table m) (values_validity_lem 0 m)
values_give m = go (length m) 0 (omega arith)
  where
    go : (count k : ℕ) → k + count ≡ length m → Gives (rows_from k count (λ i. BadValue i when Outside max_value (number m i) ∷ [])) (values_validity_lem k (drop k m))
    go zero k e = rw (values_past m k (omega arith)) none
    go (suc count) k e = rw (values_from m k (omega arith)) (gives_row (outside_test max_value (number m k)) (go count (k + 1) (omega arith)))

pub rooms_give : (rs : List Room) (n : ℕ) (s : Lengths) → Gives (rooms_table rs n s) (first_short rs n s)
rooms_give [] n s = none
rooms_give (r ∷ rs) n s = gives_row (less_test (r.size s) (r.room n)) (rooms_give rs n s)

-- ---- bytes: their numbers are refused by nothing that the bytes are not
module _ (n : ℕ) (b : List ℕ) where
  whole_numbers : length b % (number_bytes * line_size) ≡ 0 → length (int32s b) % line_size ≡ 0
  whole_numbers e = let k : length (int32s b) ≡ length b / number_bytes = length_first_of number_bytes int32 b _ in omega arith

  bytes_give : Gives (bytes_table n b) (bytes_validity n b)
  unfolding bytes_validity
  bytes_give =
      gives_past (gives_last (less_test max_variables n))
      (λ few. gives_past (gives_last (unequal_test _ 0))
      (λ whole. gives_rest (TooManyVariables when (max_variables < n) ∷ BrokenLength when (length (int32s b) % line_size ≡ 0 → ⊥) ∷ []) (lines_table n (int32s b)) (list_gives n (int32s b))
      (few.0, ((λ h. whole.0 (λ e. h (whole_numbers e))), tt))))

  none_of_numbers : NoneApplies (bytes_table n b) → NoneApplies (list_table n (int32s b))
  none_of_numbers k = (k.0, ((λ h. k.1.0 (λ e. h (whole_numbers e))), k.1.1))

-- the first refusal that applies, as it is computed
abbrev pub computed : Asked → Result Unit Refusal
computed (deciding n L lent) = validity_for n L lent
computed (deciding_differences n L lent) = plain_validity_for n L lent
computed (asking_pair n L x y w) = pair_validity_lem n L x y (length w)
computed (checking_model n L m) = model_validity_lem n L m
computed (checking_refutation n L R) = refutation_validity n L R
computed (checking_model_bytes n b m) =
    bytes_validity n b or_else refuse_if (not (eqb (length m) (value_bytes * n))) WrongModelLength or_else model_validity_lem n (int32s b) (int64s m)
computed (checking_refutation_bytes n b R) =
    bytes_validity n b
    or_else refuse_if (ltb (number_bytes * max_refutation) (length R)) LongRefutation
    or_else cond (eqb (length R % number_bytes) 0) (refutation_validity n (int32s b) (nat32s R)) (Ok tt)

table_gives : (a : Asked) → Gives (refusal_table a) (computed a)
unfolding decide_validity_lem rooms_validity differences_validity_lem pair_validity_lem model_validity_lem refutation_validity
table_gives (deciding n L lent) = gives_or (list_gives n L) (rooms_give lent_rooms n (lengths_of lent))
table_gives (deciding_differences n L lent) = gives_or (list_gives n L) (gives_or (differences_give L) (rooms_give (lent_rooms_by differences_work_room_lem) n (lengths_of lent)))
table_gives (asking_pair n L x y w) =
    gives_or (list_gives n L) (gives_row (at_most_test x n) (gives_row (at_most_test y n) (gives_last (less_test (length w) (work_room_lem n)))))
table_gives (checking_model n L m) = gives_or (list_gives n L) (gives_row (unequal_test (length m) n) (values_give m))
table_gives (checking_refutation n L R) = gives_or (list_gives n L) (gives_last (less_test max_refutation (length R)))
table_gives (checking_model_bytes n b m) =
    gives_past (bytes_give n b)
    (λ k. gives_past (gives_last (unequal_test (length m) (value_bytes * n)))
    (λ j. gives_rest (WrongModelLength when (length (int64s m) ≡ n → ⊥) ∷ []) (values_table (int64s m))
    (gives_rest (list_table n (int32s b)) _ (gives_or (list_gives n (int32s b)) (gives_row (unequal_test (length (int64s m)) n) (values_give (int64s m)))) (none_of_numbers n b k))
    ((λ h. j.0 (λ e. h (whole_values e))), tt)))
  where
    whole_values : length m ≡ value_bytes * n → length (int64s m) ≡ n
    whole_values e = let k : length (int64s m) ≡ length m / value_bytes = length_first_of value_bytes int64 m _ in omega arith
table_gives (checking_refutation_bytes n b R) =
    gives_past (bytes_give n b) (λ k. gives_past (gives_last (less_test (number_bytes * max_refutation) (length R))) (λ j. go (eqb (length R % number_bytes) 0) k j.0))
  where
    short : (number_bytes * max_refutation < length R → ⊥) → max_refutation < length (nat32s R) → ⊥
    short f h = let k : length (nat32s R) ≡ length R / number_bytes = length_first_of number_bytes le32 R _ in f (omega arith)

    go : (t : Bool) → NoneApplies (bytes_table n b) → (number_bytes * max_refutation < length R → ⊥) → Gives [] (cond t (refutation_validity n (int32s b) (nat32s R)) (Ok tt))
    go true k f =
        gives_rest (LongRefutation when (max_refutation < length (nat32s R)) ∷ []) []
        (gives_rest (list_table n (int32s b)) _ (gives_or (list_gives n (int32s b)) (gives_last (less_test max_refutation (length (nat32s R))))) (none_of_numbers n b k))
        (short f, tt)
    go false k f = none

-- ---- the answers
-- an answer is refused exactly as its validity is
pub decision_refused : (n : ℕ) (L : List ℤ) (lent : Lent) (r : Refusal) → (answer_for n L lent ≡ Err r) ↔ (validity_for n L lent ≡ Err r)
unfolding decide_answer
decision_refused n L lent r = judged_refuses n L (validity_for n L lent) r

pub differences_refused : (n : ℕ) (L : List ℤ) (lent : Lent) (r : Refusal) → (differences_answer_for n L lent ≡ Err r) ↔ (plain_validity_for n L lent ≡ Err r)
unfolding differences_answer
differences_refused n L lent r = judged_refuses n L (plain_validity_for n L lent) r

pair_refused : (n : ℕ) (L : List ℤ) (x y : ℕ) (w : List ℤ) (r : Refusal)
    → ((pair_call n L x y w).answer ≡ Err r) ↔ (pair_validity_lem n L x y (length w) ≡ Err r)
unfolding pair_call
pair_refused n L x y w r = (fore (pair_validity_lem n L x y (length w)) (verdict_of n (lines_of L)), (λ e. rw e))
  where
    fore : (v : Result Unit Refusal) (t : Bool) → (pair.unless_refused v (called (Ok (judged t (pair_in_lem (distances n (lines_of L)) x y))) (cleared n w)) w).answer ≡ Err r → v ≡ Err r
    fore (Ok _) true e = never (cc)
    fore (Ok _) false e = never (cc)
    fore (Err q) t e = cc

refutation_refused : (n : ℕ) (L : List ℤ) (R : List ℕ) (r : Refusal) → (refutation_answer n L R ≡ Err r) ↔ (refutation_validity n L R ≡ Err r)
unfolding refutation_answer verdict
refutation_refused n L R = refused_when (refutation_validity n L R) (Ok (verdict (run L start R))) tt

check_unless : (u v : Result Unit Refusal) (a : Result CheckAnswer Refusal) (r : Refusal) → (a ≡ Err r) ↔ (v ≡ Err r) → (unless_refused u a ≡ Err r) ↔ ((u or_else v) ≡ Err r)
check_unless (Ok _) v a r h = h
check_unless (Err q) v a r h = ((λ e. cc), (λ e. cc))

answer_refused : (a : Asked) (r : Refusal) → IsRefused a r ↔ (computed a ≡ Err r)
unfolding model_of_bytes model_of_values_lem refutation_of_bytes refutation_of_numbers_lem
answer_refused (deciding n L lent) r = decision_refused n L lent r
answer_refused (deciding_differences n L lent) r = differences_refused n L lent r
answer_refused (asking_pair n L x y w) r = pair_refused n L x y w r
answer_refused (checking_model n L m) r = refused_exactly n L m r
answer_refused (checking_refutation n L R) r = refutation_refused n L R r
answer_refused (checking_model_bytes n b m) r =
    check_unless (bytes_validity n b) _ _ r (check_unless (refuse_if (not (eqb (length m) (value_bytes * n))) WrongModelLength) _ _ r (refused_exactly n (int32s b) (int64s m) r))
answer_refused (checking_refutation_bytes n b R) r =
    check_unless (bytes_validity n b) _ _ r
    (check_unless (refuse_if (ltb (number_bytes * max_refutation) (length R)) LongRefutation) _ _ r (go (eqb (length R % number_bytes) 0)))
  where
    go : (t : Bool) → (cond t (refutation_answer n (int32s b) (nat32s R)) (Ok (check.No 0)) ≡ Err r) ↔ (cond t (refutation_validity n (int32s b) (nat32s R)) (Ok tt) ≡ Err r)
    go true = refutation_refused n (int32s b) (nat32s R) r
    go false = ((λ e. never (cc)), (λ e. never (cc)))

-- a refusal is given exactly if it is the first of the table that applies
pub table_refuses : (a : Asked) (r : Refusal) → IsRefused a r ↔ FirstApplies (refusal_table a) r
table_refuses a r = Iff.trans (answer_refused a r) (gives_refused (table_gives a) r)

-- none is given exactly if none applies
pub table_valid : (a : Asked) → (computed a ≡ Ok tt) ↔ NoneApplies (refusal_table a)
table_valid a = gives_valid (table_gives a)

pub table_passes : (a : Asked) → ((r : Refusal) → IsRefused a r → ⊥) ↔ NoneApplies (refusal_table a)
table_passes a = Iff.trans (fore, (λ e r h. never (cc ((answer_refused a r).0 h)))) (table_valid a)
  where
    go : (v : Result Unit Refusal) → ((r : Refusal) → v ≡ Err r → ⊥) → v ≡ Ok tt
    go (Ok _) f = refl
    go (Err r) f = absurd (f r refl)

    fore : ((r : Refusal) → IsRefused a r → ⊥) → computed a ≡ Ok tt
    fore f = go (computed a) (λ r e. f r ((answer_refused a r).1 e))

-- a list is valid exactly if no refusal of the list itself applies
pub list_valid : (n : ℕ) (L : List ℤ) → (validity_of n L ≡ Ok tt) ↔ NoneApplies (list_table n L)
list_valid n L = gives_valid (list_gives n L)

-- the number returned is a refusal's exactly if that refusal is given
pub code_refused : (a : Asked) (r : Refusal) → place_of r < refusal_unit → (returned a ≡ refusal_code_lem r) ↔ IsRefused a r
code_refused (deciding n L lent) r h = (decisions_apart _ (Err r) (decision_below n L lent) h, ap decide_code_lem)
code_refused (deciding_differences n L lent) r h = (decisions_apart _ (Err r) (plain_decision_below n L lent) h, ap decide_code_lem)
code_refused (asking_pair n L x y w) r h = ((λ q. refused_outcome _ r (outcomes_apart _ (Err r) (pair_below n L x y w) h q)), ap outcome_code_lem)
code_refused (checking_model n L m) r h = (answers_apart _ (Err r) (model-places.answer_below refusal_unit (omega arith) (omega arith) n L m) h, ap check_code_lem)
code_refused (checking_refutation n L R) r h = (answers_apart _ (Err r) (refutation-places.answer_below refusal_unit (omega arith) (omega arith) n L R) h, ap check_code_lem)
code_refused (checking_model_bytes n b m) r h = (answers_apart _ (Err r) (model_bytes_below n b m) h, ap check_code_lem)
code_refused (checking_refutation_bytes n b R) r h = (answers_apart _ (Err r) (refutation_bytes_below n b R) h, ap check_code_lem)
