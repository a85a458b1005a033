-- Everything that deciding says is shown: for each number that a yes writes beside the model, and for each that a pair is answered, there is a line that is shown, and
-- of the line one tighter some solution breaks, so that nothing shows it.
--
-- A greatest value b of x is the line x ≤ b, a least a the line -x ≤ -a, a group two lines with d = 0, a greatest sum its own line. Each is a greatest value of a
-- line's left side, so that one law serves for all: the line with it for d is met by all, and a solution that takes it breaks the line with one less.
use Rattle.std.specs.Prelude.{◌≡◌, refl, ◌⊎◌, true, List, ℕ, zero, suc, ◌+◌, ◌*◌, ◌-◌, ◌<◌, ℤ, pos, neg_ℤ, ◌+ℤ◌, ◌-ℤ◌, ◌*ℤ◌, get_or, Ok}
use Rattle.std.proofs.Common.{ap, ap₂, ◌∙◌, inl, inr, arith}
use Rattle.std.proofs.Math.Decide.{dec_lt}
use Rattle.std.specs.Int.Signed.{le_z, lt_z}
use Rattle.integers.specs.Integer.{◌⩽◌, ◌⋖◌, Within}
use Rattle.integers.proofs.Linear.{ints}
use Rattle.integers.specs.Laws.{both_true}
use Rattle.integers.proofs.Halving.{within_is}
use Rattle.lines.specs.declared.Line.{Line}
use Rattle.lines.specs.Limits.{max_constant, shown_constant_lem, absent_least, absent_greatest}
use Rattle.lines.specs.Line.{line_count, lines_of, Assignment, left_side_lem, Solves, Breaks}
use Rattle.lines.specs.Refusal.{coefficients_ok_lem, variable_ok_lem, variables_ok_lem, lone_ok_lem, constant_ok_lem, identifier_ok_lem, shown_validity_lem, validity_of}
use Rattle.lines.specs.Valid.{AllOk, workable}
use Rattle.steps.specs.Point.{signed}
use Rattle.check_answers.specs.declared.CheckAnswer.TheVariants.{Yes}
use Rattle.theory_walks.specs.Size.{within_more}
use Rattle.theory_answers.specs.Semantics.{Form, value_of, sum_of, IsModel, IsGreatest, NoGreatest, LeastWritten, GreatestWritten, IsGroup, group_variable, group_sign}
use Rattle.theory_answers.specs.Meaning.{model_is_model}
use Rattle.theory_answers.specs.Small.{valid_within, value_small, sum_small}
use Rattle.theory_answers.specs.Decided.{Some, lines_ok}
use Rattle.decide.specs.declared.Answer.TheVariants as decide
use Rattle.decide.specs.Parts.{bounds_in, groups_in}
use Rattle.c_implied.specs.Calls.{outcome_of, given_pair}
use Rattle.implied_pair.specs.Meaning.{number_for}
use Rattle.check_shown.specs.Answer.{shown_answer}
use Rattle.check_shown.specs.Asked.{ShownAsked}
use Rattle.check_shown.specs.Meaning.{accepted_met}
use Rattle.show_line.specs.Meaning.{shown_exactly_if_implied}
use Rattle.demands.specs.Calls.{Engine, CallOf, call_valid, call_written}
use Rattle.demands.specs.PairCalls.{PairAsked, asked_ok, implied_verdict}
use Rattle.demands.specs.Implied.{right_pair}

-- ---- the lines

-- x with a sign (0 is plus, 1 is minus) is at most d, and so is the sum of x and y, each with a sign. The identifier is 0.
abbrev pub value_line : (s x : ℕ) → ℤ → Line
value_line s x d = record { a = signed s (pos 1); x = pos x; b = pos 0; y = pos 0; d = d; identifier = pos 0 }

abbrev pub sum_line : (s x u y : ℕ) → ℤ → Line
sum_line s x u y d = record { a = signed s (pos 1); x = pos x; b = signed u (pos 1); y = pos y; d = d; identifier = pos 0 }

-- the line with d one less
abbrev pub tighter : Line → Line
tighter l = record { a = l.a; x = l.x; b = l.b; y = l.y; d = l.d -ℤ pos 1; identifier = l.identifier }

-- A line that is shown, where some solution breaks the line one tighter, so that nothing shows that one.
pub record Tightest (n : ℕ) (L : List ℤ) (l : Line) : Type 0 where
  pub asked : ShownAsked n L l
  pub shown : Some (λ R. shown_answer n L l R ≡ Ok Yes)
  pub broken : Breaks (lines_of L) (tighter l)
  pub not_shown : (R : List ℕ) → shown_answer n L (tighter l) R ≡ Ok Yes → ⊥

-- What a number z says that is written for the greatest d of a line: that line is the tightest; or z is the number for none, and some solution breaks the line
-- whatever d is.
abbrev pub Says : ℕ → List ℤ → ℤ → (ℤ → Line) → ℤ → ℤ → Type 0
Says n L absent line z d = Tightest n L (line d) ⊎ ((z ≡ absent) × ((e : ℤ) → Breaks (lines_of L) (line e)))

-- ---- they are valid
one_right : (n : ℕ) (s x : ℕ) → x < n → variable_ok_lem n (signed s (pos 1)) (pos x) ≡ true
unfolding variable_ok_lem
one_right n zero x h = both_true (le_z (pos 0) (pos x)) (lt_z (pos x) (pos n)) (simp ints (omega arith)) (simp ints (omega arith))
one_right n (suc s) x h = both_true (le_z (pos 0) (pos x)) (lt_z (pos x) (pos n)) (simp ints (omega arith)) (simp ints (omega arith))

none_right : (n : ℕ) → variable_ok_lem n (pos 0) (pos 0) ≡ true
unfolding variable_ok_lem
none_right n = refl

value_valid : (n k s x : ℕ) (d : ℤ) → x < n → Within (shown_constant_lem n) d → shown_validity_lem n k (value_line s x d) ≡ Ok tt
unfolding coefficients_ok_lem variables_ok_lem lone_ok_lem constant_ok_lem identifier_ok_lem
value_valid n k zero x d h w = rw (one_right n 0 x h, none_right n, within_is (shown_constant_lem n) d w)
value_valid n k (suc s) x d h w = rw (one_right n 1 x h, none_right n, within_is (shown_constant_lem n) d w)

sum_valid : (n k s x u y : ℕ) (d : ℤ) → x < n → y < n → Within (shown_constant_lem n) d → shown_validity_lem n k (sum_line s x u y d) ≡ Ok tt
unfolding coefficients_ok_lem variables_ok_lem lone_ok_lem constant_ok_lem identifier_ok_lem
sum_valid n k zero x zero y d h i w = rw (one_right n 0 x h, one_right n 0 y i, within_is (shown_constant_lem n) d w)
sum_valid n k zero x (suc u) y d h i w = rw (one_right n 0 x h, one_right n 1 y i, within_is (shown_constant_lem n) d w)
sum_valid n k (suc s) x zero y d h i w = rw (one_right n 1 x h, one_right n 0 y i, within_is (shown_constant_lem n) d w)
sum_valid n k (suc s) x (suc u) y d h i w = rw (one_right n 1 x h, one_right n 1 y i, within_is (shown_constant_lem n) d w)

-- ---- their left sides
times_one : (s : ℕ) (z : ℤ) → signed s (pos 1) *ℤ z ≡ signed s z
times_one zero z = simp ints (omega arith)
times_one (suc s) z = simp ints (omega arith)

value_side : (s x : ℕ) (d : ℤ) (t : Assignment) → left_side_lem t (value_line s x d) ≡ signed s (t x)
unfolding left_side_lem
value_side s x d t = ap (λ (z : ℤ). z +ℤ pos 0 *ℤ t 0) (times_one s (t x)) ∙ alone (signed s (t x)) (t 0)
  where
    alone : (p q : ℤ) → p +ℤ pos 0 *ℤ q ≡ p
    alone p q = simp ints (omega arith)

sum_side : (s x u y : ℕ) (d : ℤ) (t : Assignment) → left_side_lem t (sum_line s x u y d) ≡ sum_of s x u y t
unfolding left_side_lem
sum_side s x u y d t = ap₂ (λ (p q : ℤ). p +ℤ q) (times_one s (t x)) (times_one u (t y))

-- ---- a greatest value of a left side
module _ (n : ℕ) (L : List ℤ) (line : ℤ → Line) (form : Form) (side : (d : ℤ) (t : Assignment) → left_side_lem t (line d) ≡ form t) (d-is : (d : ℤ) → (line d).d ≡ d) where
  breaks_below : (z d : ℤ) (t : Assignment) → Solves (lines_of L) t → z ⩽ form t → d ⋖ z → Breaks (lines_of L) (line d)
  breaks_below z d t h g l = record { assignment = t; solves = h; breaks = λ m. clash (form t) z d g l (rw (side d t, d-is d) at m) }
    where
      clash : (f z d : ℤ) → z ⩽ f → d ⋖ z → f ⩽ d → ⊥
      clash f z d = simp ints (omega arith)

  tightest : (z : ℤ) → validity_of n L ≡ Ok tt → shown_validity_lem n (line_count L) (line z) ≡ Ok tt → tighter (line z) ≡ line (z -ℤ pos 1) → IsGreatest (lines_of L) form z → Tightest n L (line z)
  tightest z v w lower g =
      let a : ShownAsked n L (line z) = record { list = v; line = w } in
      let broken : Breaks (lines_of L) (tighter (line z)) = rw lower (breaks_below z (z -ℤ pos 1) g.taken_by g.solves (same (form g.taken_by) z g.taken) (less z)) in
      record {
        asked = a;
        shown = (shown_exactly_if_implied n L (line z) a).1 (λ t h. rw (side z t, d-is z) (g.bounds t h));
        broken = broken;
        not_shown = λ R e. broken.breaks (accepted_met n L (tighter (line z)) R e broken.assignment broken.solves);
      }
    where
      same : (f z : ℤ) → f ≡ z → z ⩽ f
      same f z = simp ints (omega arith)

      less : (z : ℤ) → z -ℤ pos 1 ⋖ z
      less z = simp ints (omega arith)

  never_enough : NoGreatest (lines_of L) form → (d : ℤ) → Breaks (lines_of L) (line d)
  never_enough g d = let t = g.beyond (d +ℤ pos 1) in breaks_below (d +ℤ pos 1) d t.0 t.1 t.2 (more d)
    where
      more : (d : ℤ) → d ⋖ d +ℤ pos 1
      more d = simp ints (omega arith)

-- ---- of a list that has a solution
module _ (n : ℕ) (L : List ℤ) (v : validity_of n L ≡ Ok tt) (m : Assignment) (model : IsModel n (lines_of L) m) where
  abbrev ls : List Line
  ls = lines_of L

  ok : AllOk n ls
  ok = lines_ok n L (workable n L v)

  -- a value with a sign
  value_tightest : (s x : ℕ) (z : ℤ) → x < n → IsGreatest ls (λ t. signed s (t x)) z → Tightest n L (value_line s x z)
  value_tightest s x z h g =
      let w = value_small n max_constant ls ok (valid_within n L v) m model x s z h g in
      tightest n L (value_line s x) (λ t. signed s (t x)) (value_side s x) (λ d. refl) z v (value_valid n (line_count L) s x z h (within_more (omega arith) w)) refl g

  -- a sum
  sum_tightest : (s x u y : ℕ) (z : ℤ) → x < n → y < n → IsGreatest ls (sum_of s x u y) z → Tightest n L (sum_line s x u y z)
  sum_tightest s x u y z h i g =
      let w = sum_small n max_constant ls ok (valid_within n L v) m model x s y u z h i g in
      tightest n L (sum_line s x u y) (sum_of s x u y) (sum_side s x u y) (λ d. refl) z v (sum_valid n (line_count L) s x u y z h i (within_more (omega arith) w)) refl g

  says_sum : (s x u y : ℕ) (z : ℤ) → x < n → y < n → GreatestWritten ls (sum_of s x u y) z → Says n L absent_greatest (sum_line s x u y) z z
  says_sum s x u y z h i (inl g) = inl (sum_tightest s x u y z h i g)
  says_sum s x u y z h i (inr g) = inr (g.1, never_enough n L (sum_line s x u y) (sum_of s x u y) (sum_side s x u y) (λ d. refl) g.0)

  says_greatest : (x : ℕ) (z : ℤ) → x < n → GreatestWritten ls (value_of x) z → Says n L absent_greatest (value_line 0 x) z z
  says_greatest x z h (inl g) = inl (value_tightest 0 x z h g)
  says_greatest x z h (inr g) = inr (g.1, never_enough n L (value_line 0 x) (value_of x) (value_side 0 x) (λ d. refl) g.0)

  -- a least value is a greatest one of -x
  says_least : (x : ℕ) (z : ℤ) → x < n → LeastWritten ls x z → Says n L absent_least (value_line 1 x) z (neg_ℤ z)
  says_least x z h (inl g) =
      inl (value_tightest 1 x (neg_ℤ z) h (record { bounds = λ t i. turn (t x) z (g.bounds t i); taken_by = g.taken_by; solves = g.solves; taken = ap neg_ℤ g.taken }))
    where
      turn : (p q : ℤ) → q ⩽ p → neg_ℤ p ⩽ neg_ℤ q
      turn p q = simp ints (omega arith)
  says_least x z h (inr g) =
      inr (g.1, never_enough n L (value_line 1 x) (λ t. neg_ℤ (t x)) (value_side 1 x) (λ d. refl) (record { beyond = λ d. let t = g.0.beyond (neg_ℤ d) in (t.0, t.1, turn (t.0 x) d t.2) }))
    where
      turn : (p d : ℤ) → p ⩽ neg_ℤ d → d ⩽ neg_ℤ p
      turn p d = simp ints (omega arith)

  -- a sum that is 0 in every solution has the greatest value 0
  always_none : (form : Form) → ((t : Assignment) → Solves ls t → form t ≡ pos 0) → IsGreatest ls form (pos 0)
  always_none form e = record { bounds = λ t h. at_most (form t) (e t h); taken_by = m; solves = model.solves; taken = e m model.solves }
    where
      at_most : (f : ℤ) → f ≡ pos 0 → f ⩽ pos 0
      at_most f = simp ints (omega arith)

  -- a group: x is r with this sign
  says_group : (x r sign : ℕ) → x < n → IsGroup ls x r sign → Tightest n L (sum_line 0 x (1 - sign) r (pos 0)) × Tightest n L (sum_line 1 x sign r (pos 0))
  says_group x r sign h g = (
    sum_tightest 0 x (1 - sign) r (pos 0) h low (always_none (sum_of 0 x (1 - sign) r) (λ t s. gone sign (t x) (t r) g.a_sign (g.together t s))),
    sum_tightest 1 x sign r (pos 0) h low (always_none (sum_of 1 x sign r) (λ t s. back (t x) (signed sign (t r)) (g.together t s))),
  )
    where
      -- no variable is lower that x is together with, and with itself it is
      low : r < n
      low = go (dec_lt x r)
        where
          go : Dec (x < r) → r < n
          go (yes p) = absurd (g.lowest x p 0 (λ t s. refl))
          go (no p) = omega arith

      back : (p q : ℤ) → p ≡ q → neg_ℤ p +ℤ q ≡ pos 0
      back p q = simp ints (omega arith)

      gone : (sign : ℕ) (p q : ℤ) → sign < 2 → p ≡ signed sign q → p +ℤ signed (1 - sign) q ≡ pos 0
      gone zero p q k = plus p q
        where
          plus : (p q : ℤ) → p ≡ q → p +ℤ neg_ℤ q ≡ pos 0
          plus p q = simp ints (omega arith)
      gone (suc zero) p q k = minus p q
        where
          minus : (p q : ℤ) → p ≡ neg_ℤ q → p +ℤ q ≡ pos 0
          minus p q = simp ints (omega arith)
      gone (suc (suc s)) p q k = absurd (omega arith)

-- ---- everything that deciding says is shown

pub record EverythingShown {e : Engine} (n : ℕ) (L : List ℤ) (c : CallOf e n L) : Type 0 where
  -- The least value a of x is the line -x ≤ -a, the greatest b the line x ≤ b.
  pub least : (x : ℕ) → x < n → Says n L absent_least (value_line 1 x) (get_or (bounds_in n c.after) (2 * x) (pos 0)) (neg_ℤ (get_or (bounds_in n c.after) (2 * x) (pos 0)))
  pub greatest : (x : ℕ) → x < n → Says n L absent_greatest (value_line 0 x) (get_or (bounds_in n c.after) (2 * x + 1) (pos 0)) (get_or (bounds_in n c.after) (2 * x + 1) (pos 0))
  -- The group variable r of x, with plus, is the lines x - r ≤ 0 and -x + r ≤ 0, with minus x + r ≤ 0 and -x - r ≤ 0.
  pub group : (x : ℕ) → x < n
      → Tightest n L (sum_line 0 x (1 - group_sign (groups_in n c.after) x) (group_variable (groups_in n c.after) x) (pos 0))
      × Tightest n L (sum_line 1 x (group_sign (groups_in n c.after) x) (group_variable (groups_in n c.after) x) (pos 0))

pub everything_is_shown : {e : Engine} (n : ℕ) (L : List ℤ) (c : CallOf e n L) → c.answer ≡ Ok decide.Yes → EverythingShown n L c
everything_is_shown n L c e =
    let v = call_valid c in
    let w = call_written c e in
    record {
      least = λ x h. says_least n L v _ w.model_is x _ h (w.least_is x h);
      greatest = λ x h. says_greatest n L v _ w.model_is x _ h (w.greatest_is x h);
      group = λ x h. says_group n L v _ w.model_is x _ _ h (w.group_is x h);
    }

-- So is each of the four numbers of a pair, by the line of its sum.
pub pair_is_shown : (n : ℕ) (L : List ℤ) (x y : ℕ) (c : PairAsked n L x y) → outcome_of c.answer ≡ Ok true
    → (s u : ℕ) → s < 2 → u < 2 → Says n L absent_greatest (sum_line s x u y) (number_for (given_pair c.answer) s u) (number_for (given_pair c.answer) s u)
pair_is_shown n L x y c i s u hs hu =
    let o = asked_ok c in
    let model = model_is_model n (lines_of L) (lines_ok n L (workable n L o.list)) (implied_verdict c i) in
    says_sum n L o.list _ model s x u y _ o.x_below o.y_below (((right_pair n L x y c).greatest i).greatest s u hs hu)
